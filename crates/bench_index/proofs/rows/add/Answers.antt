use Rattle.std.proofs.Common.{subst, sym, ◌∙◌, ◌+◌}
use Rattle.bench_index.specs.Fresh.{AreBelow}
use Rattle.bench_index.proofs.Placed.{all_below, free}
use Rattle.bench_index.proofs.rows.add.Goals as goal

pub insert-requires : goal.insert-requires
insert-requires c = record { free = free c.in_ok-s.s c.args.index.now (subst (λ n. AreBelow n c.args.index.now) (sym (c.in_ok-s.ensures ∙ c.in_ok-num.ensures.value)) c.requires) }

pub returns : goal.returns
returns c = subst (AreBelow (c.args.turn + 1)) (sym c.in-Ok.ensures.ok) (all_below (c.in_ok-s.s, c.args.turn) c.args.turn c.args.index.now (c.in_ok-s.ensures ∙ c.in_ok-num.ensures.value) c.requires)
