use Rattle.std.proofs.Common.{◌∷◌, sym, ◌∙◌}
use Rattle.bucket_pass.proofs.Order.{past}
use Rattle.bucket_pass.proofs.walk.Walk.turn.Goals as goal

pub returns-clause-stands : goal.returns-clause-stands
returns-clause-stands c first all rest s =
    let v = c.args.version.now in
    c.in_ok-end_name.ensures.stands first all (v ∷ rest) (past _ s.block v rest s.named s.order (sym c.is_past.ensures ∙ c.if-not-is_past.false)) s
