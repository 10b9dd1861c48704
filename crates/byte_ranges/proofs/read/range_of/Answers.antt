use Rattle.std.proofs.Common.{◌∙◌}
use Rattle.byte_ranges.proofs.Grammar.{no_hyphen, cut_in}
use Rattle.byte_ranges.proofs.read.range_of.Goals as goal

pub returns-in_default-cut_at : goal.returns-in_default-cut_at
returns-in_default-cut_at c =
    let front = rw c.in-Some.is at c.behind.ensures in
    let none = rw c.in_default-cut_at.is at c.cut_at.ensures in
    no_hyphen c.args.text.now c.in-Some.rest.now front none

pub returns : goal.returns
returns c =
    let front = rw c.in-Some.is at c.behind.ensures in
    let cut = rw c.in-Some-cut_at.is at c.cut_at.ensures in
    c.range_at.ensures ∙ cut_in c.args.text.now c.in-Some.rest.now c.in-Some-cut_at.first.now c.in-Some-cut_at.last.now front cut
