-- Steps over pieces of which places are used again, so that what a piece stands for changes from step to
-- step. A piece stands for the same as long as it stands in the state.
use Rattle.std.specs.Prelude.{◌≡◌, ⊤, List, [], ◌∷◌, ◌++◌, All, map, fold}
use Rattle.b2_types.specs.declared.answer.AnswerOf.{AnswerOf}
use Rattle.b2_model.specs.State.{Pieces}
use Rattle.b2_model.specs.Policy.{items}
use Rattle.b2_model.specs.Contents.{answer_by, step_by}
use Rattle.b2_model.specs.Run.{Step, Progress, answer_to, step}
use Rattle.contents_agree.specs.ContentsOf.{contents_of}
use Rattle.contents_steps.specs.Copies.{KeepsSizes, CopiesAlong}

-- a step, what copies are at it, and what each piece stands for once the new ones have come
pub record Turn (C D : Type 0) : Type 0 where
  pub step : Step C
  pub pieces : Pieces C
  pub meaning : C → D

-- at each turn the pieces of the state stand for what they stood for, each for one of its length, and the
-- copy of the step for the copy of what is copied
abbrev pub AreTurns : {C D : Type 0} → Pieces D → (C → D) → Progress C → List (Turn C D) → Type 0
AreTurns Q f R [] = ⊤
AreTurns Q f R (u ∷ us) =
    All (λ c. f c ≡ u.meaning c) (contents_of R.state)
    × KeepsSizes u.meaning u.pieces Q
    × CopiesAlong u.meaning u.pieces Q R u.step
    × AreTurns Q u.meaning (step u.pieces R u.step) us

abbrev pub after_turns : {C D : Type 0} → Progress C → List (Turn C D) → Progress C
after_turns R us = fold (λ R u. step u.pieces R u.step) R us

-- the steps of the other machine
abbrev pub steps_of : {C D : Type 0} → List (Turn C D) → List (Step D)
steps_of us = map (λ u. step_by u.meaning u.step) us

-- what the pieces stand for in the end
abbrev pub last_meaning : {C D : Type 0} → (C → D) → List (Turn C D) → C → D
last_meaning f us = fold (λ g u. u.meaning) f us

-- the answers of the steps, each with what its pieces stand for at it
abbrev pub answers_of : {C D : Type 0} → Progress C → List (Turn C D) → List (AnswerOf D)
answers_of R [] = []
answers_of R (u ∷ us) = map (answer_by u.meaning) (items (answer_to u.pieces R u.step)) ++ answers_of (step u.pieces R u.step) us
