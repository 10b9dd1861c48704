-- The records that a step writes: the pass before the first step of a day, and the change of an accepted
-- call or upload.
use Rattle.std.specs.Prelude.{◌≡◌, ⊤, ℕ, ◌+◌, List, [], ◌∷◌, ◌++◌, true, Option, Some, None, if◌then◌else◌}
use Rattle.std.specs.Option.{is_some}
use Rattle.b2_types.specs.declared.key.Flight.{Flight}
use Rattle.b2_types.specs.declared.record.RecordOf.{RecordOf}
use Rattle.b2_types.specs.declared.record.ChangeOf.{ChangeOf}
use Rattle.b2_types.specs.declared.record.ChangeOf.TheVariants as change
use Rattle.b2_model.specs.Body.{Body}
use Rattle.b2_model.specs.Checks.{first_fault}
use Rattle.b2_model.specs.State.{State, Pieces}
use Rattle.b2_model.specs.Policy.{caller_of}
use Rattle.b2_model.specs.Ask.{plan_of, refusals_of}
use Rattle.b2_model.specs.Changes.{after_record}
use Rattle.b2_model.specs.UploadSteps.{end_plan, without_flight, flight_of}
use Rattle.b2_model.specs.Stored.{stored_part, Replayed, record_at}
use Rattle.b2_model.specs.Run.{Step, asks, begins, ends, loses, passes, restarts, Progress, moment, at_kept, start_of, step}
use Rattle.machine_laws.specs.Rules.{end_refusals}
use Rattle.machine_laws.specs.Days.{is_due}
use Rattle.given_once.specs.Tokens.{unless_refused}

-- the record of a change, where there is one
abbrev pub record_of : {C : Type 0} → ℕ → Option (ChangeOf C) → List (RecordOf C)
record_of t None = []
record_of t (Some ch) = record_at t ch ∷ []

-- that of the pass before the first step of a day
abbrev pub pass_records : {C : Type 0} → Progress C → ℕ → List (RecordOf C)
pass_records P reading = if is_due P reading then record_at (moment P.state reading) change.Pass ∷ [] else []

-- the change of the end of an upload
abbrev pub end_change : {C : Type 0} → (C → ℕ) → State C → ℕ → Flight → Body C → Option (ChangeOf C)
end_change size M t f body =
    let N = without_flight M t f.conn in
    unless_refused (first_fault (end_refusals size M t f body)) (end_plan size N t (caller_of N (Some f.token)).key body f.upload).change

abbrev pub end_records : {C : Type 0} → Pieces C → Progress C → ℕ → Body C → Option Flight → List (RecordOf C)
end_records K P reading body None = []
end_records K P reading body (Some f) =
    pass_records P reading ++ record_of (moment P.state reading) (end_change K.size (start_of P reading) (moment P.state reading) f body)

-- the change of a call
abbrev pub ask_change : {C : Type 0} → Pieces C → Progress C → Step C → Option (ChangeOf C)
ask_change K P (asks reading token c) =
    let M = start_of P reading in
    let t = moment P.state reading in
    unless_refused (first_fault (refusals_of K M t P.words token c)) (plan_of K M t P.words token c).change
ask_change K P other = None

abbrev pub records_of : {C : Type 0} → Pieces C → Progress C → Step C → List (RecordOf C)
records_of K P (asks reading token c) = pass_records P reading ++ record_of (moment P.state reading) (ask_change K P (asks reading token c))
records_of K P (begins reading conn token u) = if is_some (flight_of P.state conn) then [] else pass_records P reading
records_of K P (ends reading conn body) = end_records K P reading body (flight_of P.state conn)
records_of K P (loses reading conn) = if is_some (flight_of P.state conn) then pass_records P reading else []
records_of K P (passes reading) = record_at (moment P.state reading) change.Pass ∷ []
records_of K P (restarts reading) = record_at (moment (at_kept P.state) reading) (change.Boot (P.state.boot + 1)) ∷ []

-- the records of a run, one step after the other
abbrev pub records_of_run : {C : Type 0} → Pieces C → Progress C → List (Step C) → List (RecordOf C)
records_of_run K P [] = []
records_of_run K P (s ∷ steps) = records_of K P s ++ records_of_run K (step K P s) steps

-- what a log stands for that is read up to this state
abbrev pub log_state : {C : Type 0} → State C → Replayed C
log_state M = record { state = stored_part M; settled = true }

-- ---- what each record tells

-- the moment of a step
abbrev pub moment_of : {C : Type 0} → Progress C → Step C → ℕ
moment_of P (asks reading token c) = moment P.state reading
moment_of P (begins reading conn token u) = moment P.state reading
moment_of P (ends reading conn body) = moment P.state reading
moment_of P (loses reading conn) = moment P.state reading
moment_of P (passes reading) = moment P.state reading
moment_of P (restarts reading) = moment (at_kept P.state) reading

-- what is made has the next number, and an opening the next boot number
abbrev pub IsNext : {C : Type 0} → State C → ChangeOf C → Type 0
IsNext M (change.Boot n) = n ≡ M.boot + 1
IsNext M (change.BucketMake b) = b.num ≡ M.next_bucket
IsNext M (change.Upload v content m digest) = v.num ≡ M.next_version
IsNext M (change.Hide id name) = id.num ≡ M.next_version
IsNext M (change.Start v) = v.num ≡ M.next_version
IsNext M (change.KeyMake k) = k.num ≡ M.next_key
IsNext M (change.Settings s) = ⊥
IsNext M (change.SnapState n) = ⊥
IsNext M (change.SnapLarge v) = ⊥
IsNext M (change.SnapExtents id pieces) = ⊥
IsNext M other = ⊤

-- each on the state after those before it
abbrev pub AreNext : {C : Type 0} → State C → List (RecordOf C) → Type 0
AreNext M [] = ⊤
AreNext M (r ∷ rs) = IsNext M r.change × AreNext (after_record M r) rs
