use Rattle.std.proofs.Common.{◌<◌, inr, ⊎_elim}
use Rattle.std.proofs.lemmas.Bool.{cases_lt}
use Rattle.extent_space.proofs.Cuts.{is_less, less_from, found_one, after_first}
use Rattle.extent_space.proofs.space.hole_at.Goals as goal

pub returns-else-from-at : goal.returns-else-from-at
returns-else-from-at c to from is = let r = c.range.ensures.in_range tt in ⊎_elim (λ (below : c.args.at < to).
    let first = rw c.in_ok-to.ensures.steps at r.1 in
    let least = rw c.in_ok-to.ensures.steps at (r.2 to (is_less _ _ below, tt) (found_one _ _ is)) in
    after_first _ c.requires c.args.at c.in_ok-to.to.now c.in_ok-to.from.now to from first.1 is (less_from _ _ first.0.0) c.if-from-at.false least) (λ above. inr above) (cases_lt c.args.at to)
