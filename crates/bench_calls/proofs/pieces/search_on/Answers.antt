use Rattle.std.proofs.Common.{◌<◌, List, ℕ, take, take-take, sym, subst}
use Rattle.http_edge.specs.declared.cut.Cut.TheVariants.{NotYet}
use Rattle.http_edge.specs.Cut.{IsCut}
use Rattle.bench_calls.proofs.pieces.search_on.Goals as goal

-- src/pieces.rt:17:11
pub cut_head-requires-clause-none : goal.cut_head-requires-clause-none
cut_head-requires-clause-none c = λ some.
    let P : List ℕ → Type 0 = λ front. IsCut front NotYet in
    subst P (sym (take-take c.args.seen c.args.came c.args.bytes.now c.requires.order)) (c.requires.none some)
