use Rattle.std.proofs.Common.{rules, ◌≡◌, ◌+◌, max, true, ℕ, List, subst, sym, ap, refl, ◌∙◌}
use Rattle.b2_types.specs.declared.key.Key.{Key}
use Rattle.b2_types.specs.declared.record.ChangeOf.TheVariants as change
use Rattle.b2_model.specs.Lists.{put_by}
use Rattle.b2_model.specs.Stored.{applies_change}
use Rattle.core_state.specs.View.{state_of}
use Rattle.core_state.proofs.Whole.{whole_after}
use Rattle.core_state.proofs.state.Core.make_key.Goals as goal

pub invariant_of-result : goal.invariant_of-result
invariant_of-result c =
    let p = c.self.inside.parts in
    let next : c.unwrap-parts.result ≡ max p.next_key (c.args.key.num + 1) = search rules in
    let keys : c.put.new.self ≡ put_by (λ k. k.num) c.args.key p.keys = c.in_ok-put.ensures.ok in
    whole_after p (record p { now = c.args.t; kept = c.args.t; next_key = c.unwrap-parts.result; keys = c.put.new.self }) (record { at = c.args.t; change = change.KeyMake c.args.key }) c.self.invariant
    (subst (λ M. applies_change M (change.KeyMake c.args.key) ≡ true) (sym c.self.view_is) c.requires.applies) tt
    (ap (λ (ks : List Key). state_of (record p { now = c.args.t; kept = c.args.t; next_key = c.unwrap-parts.result; keys = ks })) keys
    ∙ ap (λ (n : ℕ). state_of (record p { now = c.args.t; kept = c.args.t; next_key = n; keys = put_by (λ k. k.num) c.args.key p.keys })) next) refl refl refl
