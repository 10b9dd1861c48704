use Rattle.std.proofs.Common.{rules, ◌≡◌, true, [], subst, sym, ap, ◌∙◌}
use Rattle.b2_base.specs.declared.extent.Extent.{Extent}
use Rattle.b2_types.specs.declared.kinds.Action.TheVariants as action
use Rattle.b2_types.specs.declared.kinds.Mark.TheVariants as mark
use Rattle.b2_types.specs.declared.version.VersionOf.{VersionOf}
use Rattle.b2_types.specs.declared.record.ChangeOf.TheVariants as change
use Rattle.b2_model.specs.Changes.{after_record}
use Rattle.b2_model.specs.Stored.{applies_change}
use Rattle.b2_model.specs.Version.{no_digest, version_from, with_version}
use Rattle.core_state.specs.View.{state_of}
use Rattle.core_state.proofs.Whole.{made, free_of}
use Rattle.core_state.proofs.state.Core.put_large.Goals as goal

pub with_version-requires : goal.with_version-requires
with_version-requires c =
    let v = c.version_of-version in
    record { free = free_of c.self.inside.parts c.args.self c.args.new.bucket c.args.new.num v.result c.self.view_is c.requires.applies (ap (λ (w : VersionOf Extent). w.num) v.ensures) }

pub invariant_of-result : goal.invariant_of-result
invariant_of-result c =
    let p = c.self.inside.parts in
    let ch = change.SnapLarge c.args.new in
    let v = c.version_of-version in
    let is : v.result ≡ version_from c.args.t action.Upload [] mark.Large no_digest c.args.new = search (rules, v.ensures, c.of-pieces.ensures) in
    (made p c.in_ok-parts.parts c.args.t ch v.result c.self.invariant
    (subst (λ M. applies_change M ch ≡ true) (sym c.self.view_is) c.requires.applies) tt c.in_ok-parts.ensures
    (ap (λ w. with_version w (state_of p)) is)).whole

pub returns : goal.returns
returns c =
    let p = c.self.inside.parts in
    let ch = change.SnapLarge c.args.new in
    let v = c.version_of-version in
    let is : v.result ≡ version_from c.args.t action.Upload [] mark.Large no_digest c.args.new = search (rules, v.ensures, c.of-pieces.ensures) in
    (made p c.in_ok-parts.parts c.args.t ch v.result c.self.invariant
    (subst (λ M. applies_change M ch ≡ true) (sym c.self.view_is) c.requires.applies) tt c.in_ok-parts.ensures
    (ap (λ w. with_version w (state_of p)) is)).state
    ∙ ap (λ M. after_record M (record { at = c.args.t; change = ch })) c.self.view_is
