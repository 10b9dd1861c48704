use Rattle.std.proofs.Common.{◌≡◌, true, subst, sym, refl}
use Rattle.b2_types.specs.declared.record.ChangeOf.TheVariants as change
use Rattle.b2_model.specs.Stored.{applies_change}
use Rattle.core_state.proofs.Whole.{gone}
use Rattle.core_state.proofs.state.Core.cancel.Goals as goal

pub invariant_of-result : goal.invariant_of-result
invariant_of-result c =
    (gone c.self.inside.parts c.taken-version.new.parts c.args.t (change.Cancel c.args.id) c.args.id c.self.invariant
    (subst (λ M. applies_change M (change.Cancel c.args.id) ≡ true) (sym c.self.view_is) c.requires.applies) tt c.taken-version.ensures.left refl).whole
