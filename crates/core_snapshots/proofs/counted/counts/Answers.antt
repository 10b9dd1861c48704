use Rattle.std.proofs.Common.{◌+◌, ◌≤◌, rules, ap, arith}
use Rattle.std.specs.Option.{option_copied}
use Rattle.core_snapshots.proofs.Seen.{all_counted, few_counted, next_counted, none_counted}
use Rattle.core_snapshots.proofs.counted.counts.Goals as goal

pub loop-version-init : goal.loop-version-init
loop-version-init c = none_counted c.args.core.now c.is_sound.ensures.sound _ _ c.all_rows-version-items.ensures.rows c.into_iter-version-iterator.ensures.into_iter_gives

pub loop-version-preserved : goal.loop-version-preserved
loop-version-preserved c =
    let i = c.loop-version in
    next_counted c.args.core.now i.names _ (option_copied i.last) _ i.version-iterator _ c.in-Some.field-0-0.now c.in-Some.version.now c.in-Some.ensures.steps (ap (λ n. i.names + n) c.shown_by-names.ensures) c.newest_after-last.ensures i.invariant

pub overflow_add-names : goal.overflow_add-names
overflow_add-names c =
    let i = c.loop-version in
    let few = few_counted c.args.core.now c.is_sound.ensures.sound i.names (option_copied i.last) i.version-iterator _ c.in-Some.field-0-0.now c.in-Some.version.now c.in-Some.ensures.steps i.invariant in
    let low : i.names + c.shown_by-names.result ≤ c.count-versions.result = omega (arith, few, c.shown_by-names.ensures, c.count-versions.ensures) in
    search rules

pub returns-clause-names : goal.returns-clause-names
returns-clause-names c = all_counted c.args.core.now _ _ _ c.in-None.ensures.steps.0 c.loop-version.invariant
