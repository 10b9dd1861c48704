use Rattle.std.proofs.Common.{◌≡◌, ◌==◌, not, true, List, filter, subst, sym, ap, refl}
use Rattle.b2_types.specs.declared.key.Key.{Key}
use Rattle.b2_types.specs.declared.record.ChangeOf.TheVariants as change
use Rattle.b2_model.specs.Stored.{applies_change}
use Rattle.core_state.specs.View.{state_of}
use Rattle.core_state.proofs.Whole.{whole_after}
use Rattle.core_state.proofs.state.Core.drop_key.Goals as goal

pub invariant_of-self : goal.invariant_of-self
invariant_of-self c =
    let p = c.self.inside.parts in
    let keys : c.remove.new.self ≡ filter (λ k. not (k.num == c.args.num)) p.keys = subst (λ n. c.remove.new.self ≡ filter (λ k. not (k.num == n)) p.keys) c.get.ensures c.remove.ensures.left in
    whole_after p (record p { now = c.args.t; kept = c.args.t; keys = c.remove.new.self }) (record { at = c.args.t; change = change.KeyDrop c.args.num }) c.self.invariant
    (subst (λ M. applies_change M (change.KeyDrop c.args.num) ≡ true) (sym c.self.view_is) c.requires.applies) tt
    (ap (λ (ks : List Key). state_of (record p { now = c.args.t; kept = c.args.t; keys = ks })) keys) refl refl refl
