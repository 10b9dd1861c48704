-- The daily pass among the steps.
use Rattle.std.specs.Prelude.{◌≡◌, ℕ, ◌/◌, Bool, true, false, nat_lt}
use Rattle.std.specs.Option.{is_some}
use Rattle.b2_model.specs.Kinds.{day}
use Rattle.b2_model.specs.UploadSteps.{flight_of}
use Rattle.b2_model.specs.Run.{Step, asks, begins, ends, loses, passes, restarts, Progress, moment}

-- the first step of a day, at this reading of the clock
abbrev pub is_due : {C : Type 0} → Progress C → ℕ → Bool
is_due P reading = nat_lt P.state.pass_day (moment P.state reading / day)

-- a step at this reading that is carried out on the state: a call, the begin of an upload where none is
-- under way on the connection, and the end or the loss of one
abbrev pub IsOnState : {C : Type 0} → Progress C → ℕ → Step C → Type 0
IsOnState P reading (asks at token c) = at ≡ reading
IsOnState P reading (begins at conn token u) = (at ≡ reading) × (is_some (flight_of P.state conn) ≡ false)
IsOnState P reading (ends at conn body) = (at ≡ reading) × (is_some (flight_of P.state conn) ≡ true)
IsOnState P reading (loses at conn) = (at ≡ reading) × (is_some (flight_of P.state conn) ≡ true)
IsOnState P reading (passes at) = ⊥
IsOnState P reading (restarts at) = ⊥
