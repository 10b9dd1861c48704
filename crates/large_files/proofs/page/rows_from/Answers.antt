use Rattle.std.proofs.Common.{rules, ◌-◌, length, nat_lt, drop, take_all, length-drop, sym, ◌∙◌, arith}
use Rattle.std.proofs.lemmas.List.Sorted.{IsPartitionPoint-from_clause}
use Rattle.large_files.proofs.Walks.{parted, rows_at}
use Rattle.large_files.proofs.page.rows_from.Goals as goal

pub returns : goal.returns
returns c =
    let parts = c.args.parts.now in
    let from = c.partition_point-from.result in
    let point = IsPartitionPoint-from_clause (λ p. nat_lt p.number c.args.start) _ _ c.partition_point-from.ensures.partitioned (parted parts c.args.start c.requires) (λ a r q k. search rules) in
    take_all (length parts - from) (drop from parts) (omega (arith, length-drop from parts)) ∙ sym (rows_at parts c.args.start from point)
