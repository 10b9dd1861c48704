-- What a log stands for that was cut between two records.
use Rattle.std.specs.Prelude.{◌≡◌, ◌⊎◌, ℕ, List, ◌++◌, fold}
use Rattle.b2_model.specs.State.{State, Pieces}
use Rattle.b2_model.specs.Stored.{stored_part}
use Rattle.b2_model.specs.Run.{Step, passes, Progress, step}

-- the stored part after the first of these steps, or after them and the day's pass before the next
pub record IsReached {C : Type 0} (K : Pieces C) (P : Progress C) (steps : List (Step C)) (S : State C) : Type 0 where
  pub earlier : List (Step C)
  pub later : List (Step C)
  pub both : steps ≡ earlier ++ later
  pub state : (S ≡ stored_part (fold (step K) P earlier).state)
      ⊎ ((reading : ℕ) × (S ≡ stored_part (step K (fold (step K) P earlier) (passes reading)).state))
