use Rattle.std.proofs.Common.{◌<◌, inr, ⊎_elim, refl, arith}
use Rattle.std.proofs.lemmas.Bool.{cases_lt}
use Rattle.extent_space.proofs.Cuts.{is_less, found_one, after_first}
use Rattle.extent_space.proofs.space.free_from.Goals as goal

pub returns-in-Some-2 : goal.returns-in-Some-2
returns-in-Some-2 c =
    let holes = c.requires.1 in
    let r = c.range.ensures.in_range tt in
    let first = rw c.in-Some.ensures.steps at r.1 in
    let hole = holes.each c.in-Some.field-0-0.now c.in-Some.from.now first.1 in
    record {
      before = λ b low high to from is. ⊎_elim (λ (below : c.args.at < to).
          let least = rw c.in-Some.ensures.steps at (r.2 to (is_less _ _ below, tt) (found_one _ _ is)) in
          after_first _ holes.apart b c.in-Some.field-0-0.now c.in-Some.from.now to from first.1 is (omega (arith, hole.some)) high least)
          (λ above. inr (omega arith)) (cases_lt c.args.at to);
      here = inr (c.in-Some.field-0-0.now, c.in-Some.from.now, first.1, omega arith, hole.some, omega (arith, c.if-from-at.false), inr refl);
    }
