use Rattle.std.proofs.Common.{sym, ap, ◌∙◌, refl}
use Rattle.b2_base.specs.declared.extent.Extent.{Extent}
use Rattle.b2_types.specs.declared.version.VersionOf.{VersionOf}
use Rattle.b2_types.specs.declared.record.ChangeOf.TheVariants as change
use Rattle.std.specs.Prelude.{option_and_then}
use Rattle.b2_model.specs.Rows.{version_at}
use Rattle.b2_model.specs.Version.{with_part}
use Rattle.core_state.specs.GivenUp.{part_content}
use Rattle.core_state.proofs.ChangedVersion.{changed_by, still_free}
use Rattle.core_state.proofs.state.Core.put_part.Goals as goal

pub with_changed-requires : goal.with_changed-requires
with_changed-requires c =
    let p = c.self.inside.parts in
    let t = c.taken-version in
    let f : VersionOf Extent → VersionOf Extent = with_part c.args.part in
    record { free = still_free p t.new.parts c.args.id f t.result c.in_ok-version.version c.self.invariant (λ w. refl) t.ensures.version t.ensures.left c.in_ok-version.ensures }

pub invariant_of-result : goal.invariant_of-result
invariant_of-result c =
    let p = c.self.inside.parts in
    let t = c.taken-version in
    let f : VersionOf Extent → VersionOf Extent = with_part c.args.part in
    (changed_by p t.new.parts c.in_ok-parts.parts c.args.self c.args.part.stamp (change.PartPut c.args.id c.args.part.number c.args.part.content c.args.part.mark c.args.part.digest) c.args.id f t.result c.in_ok-version.version c.self.invariant c.self.view_is (λ w. refl)
    c.requires.applies tt t.ensures.version t.ensures.left c.in_ok-version.ensures c.in_ok-parts.ensures refl).whole

pub returns-clause-state : goal.returns-clause-state
returns-clause-state c =
    let p = c.self.inside.parts in
    let t = c.taken-version in
    let f : VersionOf Extent → VersionOf Extent = with_part c.args.part in
    (changed_by p t.new.parts c.in_ok-parts.parts c.args.self c.args.part.stamp (change.PartPut c.args.id c.args.part.number c.args.part.content c.args.part.mark c.args.part.digest) c.args.id f t.result c.in_ok-version.version c.self.invariant c.self.view_is (λ w. refl)
    c.requires.applies tt t.ensures.version t.ensures.left c.in_ok-version.ensures c.in_ok-parts.ensures refl).state

pub returns-clause-freed : goal.returns-clause-freed
returns-clause-freed c =
    c.content_of-freed.ensures ∙ ap (option_and_then (part_content c.args.part.number)) (sym c.taken-version.ensures.version ∙ ap (λ M. version_at M c.args.id.bucket c.args.id.num) c.self.view_is)
