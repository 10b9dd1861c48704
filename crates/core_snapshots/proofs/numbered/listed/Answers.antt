use Rattle.std.proofs.Common.{◌∷◌, [], map, ap, ◌∙◌}
use Rattle.std.proofs.lemmas.List.{map-append}
use Rattle.core_snapshots.proofs.ByNumber.{all_came, begun, one_more}
use Rattle.core_snapshots.proofs.numbered.listed.Goals as goal

pub loop-version-init : goal.loop-version-init
loop-version-init c = begun c.args.core.now _ _ _ c.all_rows-version-items.ensures.rows (ap (map (λ v. v.now)) c.in_ok-versions.ensures.items) c.into_iter-version-iterator.ensures.into_iter_gives

pub loop-version-preserved : goal.loop-version-preserved
loop-version-preserved c =
    one_more c.args.core.now _ _ _ _ c.in-Some.field-0-0.now c.in-Some.version.now c.in-Some.ensures.steps
    (ap (map (λ v. v.now)) c.in_ok-push.ensures.items ∙ map-append (λ v. v.now) c.loop-version.versions.items (c.in-Some.version ∷ [])) c.loop-version.invariant

pub returns : goal.returns
returns c = all_came c.args.core.now _ _ c.in-None.ensures.steps.0 c.loop-version.invariant
