use Rattle.std.proofs.Common.{◌++◌, refl}
use Rattle.b2_base.specs.declared.extent.Extent.{Extent}
use Rattle.b2_types.specs.declared.version.VersionOf.{VersionOf}
use Rattle.b2_types.specs.declared.record.ChangeOf.TheVariants as change
use Rattle.core_state.proofs.ChangedVersion.{changed_by, still_free}
use Rattle.core_state.proofs.state.Core.put_extents.Goals as goal

pub with_changed-requires : goal.with_changed-requires
with_changed-requires c =
    let p = c.self.inside.parts in
    let t = c.taken-version in
    let f : VersionOf Extent → VersionOf Extent = λ v. record v { content = v.content ++ c.args.pieces.now } in
    record { free = still_free p t.new.parts c.args.id f t.result c.in_ok-version.version c.self.invariant (λ w. refl) t.ensures.version t.ensures.left c.in_ok-version.ensures }

pub invariant_of-result : goal.invariant_of-result
invariant_of-result c =
    let p = c.self.inside.parts in
    let t = c.taken-version in
    let f : VersionOf Extent → VersionOf Extent = λ v. record v { content = v.content ++ c.args.pieces.now } in
    (changed_by p t.new.parts c.in_ok-parts.parts c.args.self c.args.t (change.SnapExtents c.args.id c.args.pieces.now) c.args.id f t.result c.in_ok-version.version c.self.invariant c.self.view_is (λ w. refl)
    c.requires.applies tt t.ensures.version t.ensures.left c.in_ok-version.ensures c.in_ok-parts.ensures refl).whole

pub returns : goal.returns
returns c =
    let p = c.self.inside.parts in
    let t = c.taken-version in
    let f : VersionOf Extent → VersionOf Extent = λ v. record v { content = v.content ++ c.args.pieces.now } in
    (changed_by p t.new.parts c.in_ok-parts.parts c.args.self c.args.t (change.SnapExtents c.args.id c.args.pieces.now) c.args.id f t.result c.in_ok-version.version c.self.invariant c.self.view_is (λ w. refl)
    c.requires.applies tt t.ensures.version t.ensures.left c.in_ok-version.ensures c.in_ok-parts.ensures refl).state
