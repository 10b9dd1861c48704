use Rattle.std.proofs.Common.{rules}
use Rattle.std.proofs.lemmas.List.Sorted.{IsNonDecreasingBy-from_sort_by_key}
use Rattle.core_snapshots.proofs.Sorted.{sorted_is}
use Rattle.core_snapshots.proofs.numbered.by_number.Goals as goal

pub returns : goal.returns
returns c =
    sorted_is (λ v. v.now) c.in_ok-versions.versions.items c.sort_unstable_by_key.new.self.items c.args.core.now.versions c.in_ok-versions.ensures c.sort_unstable_by_key.ensures.permutation
    (IsNonDecreasingBy-from_sort_by_key (λ v. v.now.num) _ c.sort_unstable_by_key.ensures.sorted (λ a r q k. search rules)) c.is_sound.ensures.sound.versions.order
