use Rattle.std.proofs.Common.{◌++◌, ◌∙◌, [], sym, subst}
use Rattle.conn_table.specs.declared.incoming.Stage.{Stage}
use Rattle.conn_table.specs.Incoming.{IsAt, IsHeld}
use Rattle.conn_table.proofs.Steps.{gives_held, gives_closed, by_acts, flags_stay}
use Rattle.conn_table.proofs.incoming.Incoming.piece.Goals as goal

pub returns-in_ok-hold-in-Complete : goal.returns-in_ok-hold-in-Complete
returns-in_ok-hold-in-Complete c = λ before got told reading.
    let old = c.args.self.now in
    let more = c.args.bytes.now in
    let k = c.hold.new.self in
    let P : Stage → Type 0 = λ s. IsAt before got told s old.head old.bytes.items in
    let Q : Stage → Type 0 = λ s. IsHeld told s old.bytes.items in
    let at = subst P c.in-Complete.is reading.at in
    let held = c.in_ok-hold-in-Complete.ensures.held told (subst Q (sym c.in-Complete.is) at.1) in
    by_acts before (got ++ more) told [] c.new-in-Complete.result.items [] k c.new-in-Complete.ensures.items
    (gives_held before got more told _ old.head old.bytes.items k (flags_stay before told old k reading.flags c.hold.ensures.flags) at.0 at.1 (c.hold.ensures.flags.head_is ∙ at.2) held)

pub returns-in-Closed : goal.returns-in-Closed
returns-in-Closed c = λ before got told reading.
    by_acts before (got ++ c.args.bytes.now) told [] c.new-in-Closed.result.items [] c.args.self.now c.new-in-Closed.ensures.items (gives_closed before got c.args.bytes.now told c.args.self.now reading c.in-Closed.is)
