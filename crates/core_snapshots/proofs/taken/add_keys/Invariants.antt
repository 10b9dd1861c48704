use Rattle.std.proofs.Common.{◌≡◌, ◌++◌, ◌==◌, filter, map, not}
use Rattle.b2_types.specs.declared.record.ChangeOf.TheVariants as change
use Rattle.b2_model.specs.Stored.{record_at}
use Rattle.core_snapshots.proofs.taken.add_keys.Given as goal

abbrev pub invariant-loop-key : goal.invariant-loop-key
invariant-loop-key l =
    l.records.items ++ map (λ k. record_at l.core.kept (change.KeyMake k)) (filter (λ k. not (k.num == 0)) l.key-iterator)
    ≡ l.initial.records.items ++ map (λ k. record_at l.core.kept (change.KeyMake k)) (filter (λ k. not (k.num == 0)) l.core.keys)
