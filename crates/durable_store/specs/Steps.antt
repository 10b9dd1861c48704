-- Steps of the machine over extents, as a store makes them.
use Rattle.std.specs.Prelude.{◌≡◌, ℕ, List, Option, option_map}
use Rattle.b2_base.specs.declared.extent.Extent.{Extent}
use Rattle.b2_types.specs.declared.answer.AnswerOf.{AnswerOf}
use Rattle.b2_model.specs.Contents.{answer_by, state_by}
use Rattle.b2_model.specs.State.{State}
use Rattle.b2_model.specs.Run.{Progress, Step, answer_to, moment, of_bytes, step, with_daily_pass}

-- the state at which a step at this reading is carried out
abbrev pub start_at : {C : Type 0} → State C → ℕ → State C
start_at M reading = with_daily_pass M (moment M reading)

-- The machine over bytes makes this of the step, where extents stand for these bytes.
pub record HasMade (P : Progress (List ℕ)) (s : Step (List ℕ)) (meaning : Extent → List ℕ) (N : State Extent) (told : Option (AnswerOf Extent)) : Type 0 where
  pub state : (step of_bytes P s).state ≡ state_by meaning N
  pub answers : answer_to of_bytes P s ≡ option_map (answer_by meaning) told
