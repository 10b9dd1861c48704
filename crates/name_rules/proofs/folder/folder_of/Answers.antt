use Rattle.std.proofs.Common.{◌∙◌, sym}
use Rattle.name_rules.proofs.Folders.{at_rest, ends_here, ends_later}
use Rattle.name_rules.proofs.folder.folder_of.Goals as goal

pub returns-then-is_prefix : goal.returns-then-is_prefix
returns-then-is_prefix c =
    let here = at_rest c.args.delimiter.now c.args.name.now c.places.at _ c.if-is_prefix.ensures in
    sym (c.places.invariant ∙ ends_here c.args.delimiter.now c.args.name.now c.places.at c.places-test.true (sym here))

pub places-preserved : goal.places-preserved
places-preserved c =
    let here = at_rest c.args.delimiter.now c.args.name.now c.places.at _ c.if-is_prefix.ensures in
    c.places.invariant ∙ ends_later c.args.delimiter.now c.args.name.now c.places.at c.places-test.true (sym here)
