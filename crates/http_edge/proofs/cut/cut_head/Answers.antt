use Rattle.std.proofs.Common.{◌+◌, arith, sym, ◌∙◌}
use Rattle.std.proofs.lemmas.Bool.{false≢true}
use Rattle.http_edge.proofs.Ends.{none_more, none_up_to}
use Rattle.http_edge.proofs.Fronts.{none_seen}
use Rattle.http_edge.proofs.cut.cut_head.Goals as goal

pub lines-init : goal.lines-init
lines-init c =
    let bytes = c.args.bytes.now in
    let first = c.line_from-at.ensures in
    let seen = none_seen bytes c.args.seen c.requires.none c.requires.within in
    record { limit = c.min-limit.ensures; within = first.within.1; none = none_up_to bytes c.args.seen c.line_from-at.result seen.1 first.before }

pub lines-preserved : goal.lines-preserved
lines-preserved c =
    let bytes = c.args.bytes.now in
    let at = c.lines.at in
    let inv = c.lines.invariant in
    let next = c.line_from-at-in-lines.ensures in
    record {
      limit = inv.limit;
      within = next.within.1;
      none = none_up_to bytes (at + 1) c.line_from-at-in-lines.result (none_more bytes at inv.none (λ end. false≢true (sym c.if-ends_head.false ∙ c.ends_head.ensures.1 end))) next.before;
    }

pub returns-then-ends_head : goal.returns-then-ends_head
returns-then-ends_head c =
    let inv = c.lines.invariant in
    (c.ends_head.ensures.0 c.if-ends_head.true, omega (arith, inv.limit, c.lines-test.true), λ before below. inv.none before (omega (arith, below)))

pub returns-then-bytes-lt-MOST_HEAD : goal.returns-then-bytes-lt-MOST_HEAD
returns-then-bytes-lt-MOST_HEAD c =
    let inv = c.lines.invariant in
    (omega (arith, c.if-bytes-lt-MOST_HEAD.true), λ end most. inv.none end (omega (arith, most, inv.limit, c.lines-test.false, c.if-bytes-lt-MOST_HEAD.true)))

pub returns-else-bytes-lt-MOST_HEAD : goal.returns-else-bytes-lt-MOST_HEAD
returns-else-bytes-lt-MOST_HEAD c =
    let inv = c.lines.invariant in
    (omega (arith, c.if-bytes-lt-MOST_HEAD.false), λ end most. inv.none end (omega (arith, most, inv.limit, c.lines-test.false, c.if-bytes-lt-MOST_HEAD.false)))
