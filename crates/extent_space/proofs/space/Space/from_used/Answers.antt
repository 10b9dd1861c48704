use Rattle.std.proofs.Common.{◌+◌, get_or, take, subst, sym, arith}
use Rattle.std.proofs.lemmas.List.{take_all}
use Rattle.b2_base.specs.declared.extent.Extent.{Extent}
use Rattle.extent_space.specs.Room.{IsFilled, IsFree, IsRoomOf}
use Rattle.extent_space.proofs.Runs.{all_taken}
use Rattle.extent_space.proofs.Used.{free_yet, used_more, used_no_more}
use Rattle.extent_space.proofs.space.Space.from_used.Goals as goal
use Rattle.extent_space.proofs.space.Space.from_used.Goals.{then-e-gt0+in_ok-occupy, else-e-gt0}

pub occupy-requires-clause-free : goal.occupy-requires-clause-free
occupy-requires-clause-free c = let d : Extent = record { at = 0; len = 0 } in
    subst (λ n. IsFree c.loop-e.space (get_or c.args.used.now c.loop-e.e-index d).at ((get_or c.args.used.now c.loop-e.e-index d).at + n)) (sym c.rounded.ensures) (free_yet c.args.limit c.args.used.now c.loop-e.e-index d c.loop-e-test.true c.loop-e.space c.loop-e.invariant c.requires.apart)

pub loop-e-preserved : goal.loop-e-preserved
loop-e-preserved c = let d : Extent = record { at = 0; len = 0 } in let i = c.loop-e.e-index in let used = c.args.used.now in
    elim c.if-e-gt0.branch [
      | then-e-gt0+in_ok-occupy w ↦ subst (IsRoomOf c.args.limit (take (i + 1) used)) (sym w.space-is) (used_more c.args.limit used i d c.loop-e-test.true c.loop-e.space c.loop-e.invariant w.occupy.new.self (subst (λ n. IsFilled c.loop-e.space (get_or used i d).at ((get_or used i d).at + n) w.occupy.new.self) w.rounded.ensures w.in_ok-occupy.ensures.ok))
      | else-e-gt0 w ↦ subst (IsRoomOf c.args.limit (take (i + 1) used)) (sym w.space-is) (used_no_more c.args.limit used i d c.loop-e-test.true c.loop-e.space c.loop-e.invariant (omega (arith, w.if-e-gt0.false)))
    ]

pub returns-clause-taken : goal.returns-clause-taken
returns-clause-taken c = all_taken c.args.limit c.args.used.now c.loop-e.space c.requires.places (subst (λ xs. IsRoomOf c.args.limit xs c.loop-e.space) (take_all c.loop-e.e-index c.args.used.now c.loop-e-test.false) c.loop-e.invariant)
