use Rattle.std.proofs.Common.{◌≡◌, true, subst, sym, ap}
use Rattle.b2_types.specs.declared.record.ChangeOf.TheVariants as change
use Rattle.b2_model.specs.Stored.{applies_change}
use Rattle.b2_model.specs.Version.{with_version}
use Rattle.core_state.specs.View.{state_of}
use Rattle.core_state.proofs.Whole.{made}
use Rattle.core_state.proofs.state.Core.put_hide.Goals as goal

pub invariant_of-result : goal.invariant_of-result
invariant_of-result c =
    let p = c.self.inside.parts in
    let ch = change.Hide c.args.id c.args.name in
    (made p c.in_ok-parts.parts c.args.t ch c.in_ok-version.version c.self.invariant
    (subst (λ M. applies_change M ch ≡ true) (sym c.self.view_is) c.requires.applies) tt c.in_ok-parts.ensures
    (ap (λ w. with_version w (state_of p)) c.in_ok-version.ensures)).whole
