use Rattle.std.proofs.Common.{◌≡◌, true, subst, sym, ap, ◌∙◌, refl}
use Rattle.b2_base.specs.declared.extent.Extent.{Extent}
use Rattle.b2_types.specs.declared.version.VersionOf.{VersionOf}
use Rattle.b2_types.specs.declared.record.ChangeOf.TheVariants as change
use Rattle.b2_model.specs.Changes.{after_record}
use Rattle.b2_model.specs.Stored.{applies_change}
use Rattle.core_state.proofs.Whole.{changed, free_again}
use Rattle.core_state.proofs.SameNumber.{same_number}
use Rattle.core_state.proofs.state.Core.put_hold.Goals as goal

pub with_changed-requires : goal.with_changed-requires
with_changed-requires c =
    let p = c.self.inside.parts in
    let t = c.taken-version in
    let u : VersionOf Extent = record t.result { hold = c.args.hold } in
    record { free = free_again p t.new.parts c.args.id t.result u c.self.invariant t.ensures.version t.ensures.left (same_number p c.args.id t.result c.self.invariant t.ensures.version) }

pub invariant_of-result : goal.invariant_of-result
invariant_of-result c =
    let p = c.self.inside.parts in
    let t = c.taken-version in
    let u : VersionOf Extent = record t.result { hold = c.args.hold } in
    (changed p t.new.parts c.in_ok-parts.parts c.args.t (change.Hold c.args.id c.args.hold) c.args.id (λ v. record v { hold = c.args.hold }) t.result u c.self.invariant
    (subst (λ M. applies_change M (change.Hold c.args.id c.args.hold) ≡ true) (sym c.self.view_is) c.requires.applies) tt t.ensures.version t.ensures.left
    (same_number p c.args.id t.result c.self.invariant t.ensures.version) refl c.in_ok-parts.ensures refl).whole

pub returns : goal.returns
returns c =
    let p = c.self.inside.parts in
    let t = c.taken-version in
    let u : VersionOf Extent = record t.result { hold = c.args.hold } in
    (changed p t.new.parts c.in_ok-parts.parts c.args.t (change.Hold c.args.id c.args.hold) c.args.id (λ v. record v { hold = c.args.hold }) t.result u c.self.invariant
    (subst (λ M. applies_change M (change.Hold c.args.id c.args.hold) ≡ true) (sym c.self.view_is) c.requires.applies) tt t.ensures.version t.ensures.left
    (same_number p c.args.id t.result c.self.invariant t.ensures.version) refl c.in_ok-parts.ensures refl).state
    ∙ ap (λ M. after_record M (record { at = c.args.t; change = change.Hold c.args.id c.args.hold })) c.self.view_is
