-- A log that is cut between two records of a run.
use Rattle.std.proofs.Common.{◌≡◌, ◌⊎◌, inl, inr, ℕ, ◌+◌, Bool, true, false, List, [], ◌∷◌, ◌++◌, All, Option, Some, None, drop, get_or, length, if◌then◌else◌, refl, sym, ap, ◌∙◌, arith}
use Rattle.std.specs.Option.{is_some}
use Rattle.std.proofs.lemmas.List.Elements.{All-head, All-tail}
use Rattle.b2_types.specs.declared.key.Flight.{Flight}
use Rattle.b2_types.specs.declared.record.RecordOf.{RecordOf}
use Rattle.b2_types.specs.declared.record.ChangeOf.{ChangeOf}
use Rattle.b2_types.specs.declared.record.ChangeOf.TheVariants as change
use Rattle.b2_model.specs.Body.{Body}
use Rattle.b2_model.specs.State.{State, Pieces}
use Rattle.b2_model.specs.UploadSteps.{flight_of}
use Rattle.b2_model.specs.Stored.{stored_part, replay_on, record_at}
use Rattle.b2_model.specs.Run.{Step, asks, begins, ends, loses, passes, restarts, Progress, moment, start_of, at_kept, step}
use Rattle.machine_laws.specs.Days.{is_due}
use Rattle.sound_states.specs.Sound.{IsSound}
use Rattle.sound_steps.specs.FitSteps.{IsFitStep}
use Rattle.sound_steps.proofs.Outcomes.{step_sound}
use Rattle.step_records.specs.StepRecords.{record_of, pass_records, end_change, end_records, ask_change, records_of, records_of_run, log_state}
use Rattle.step_records.specs.Fronts.{IsReached}
use Rattle.step_records.proofs.Changed.{log_of}
use Rattle.step_records.proofs.Steps.{step_goes_on, then_goes_on}

-- ---- where a front ends

module _ {X : Type 0} where
  -- in the second list, or in the first
  abbrev Cut : List X → List X → List X → List X → Type 0
  Cut xs ys front rest = ((more : List X) × (front ≡ xs ++ more) × (ys ≡ more ++ rest)) ⊎ ((left : List X) × (xs ≡ front ++ left))

  head_same : (x f : X) (xs ys : List X) → x ∷ xs ≡ f ∷ ys → x ≡ f
  head_same x f xs ys is = ap (λ l. get_or l 0 x) is

  cut_more : (x f : X) (xs ys front rest : List X) → x ≡ f → Cut xs ys front rest → Cut (x ∷ xs) ys (f ∷ front) rest
  cut_more x f xs ys front rest same (inl at) = inl (at.0, ap (λ y. y ∷ front) (sym same) ∙ ap (λ l. x ∷ l) at.1, at.2)
  cut_more x f xs ys front rest same (inr at) = inr (at.0, ap (λ y. y ∷ xs) same ∙ ap (λ l. f ∷ l) at.1)

  cut : (xs ys front rest : List X) → xs ++ ys ≡ front ++ rest → Cut xs ys front rest
  cut [] ys front rest is = inl (front, refl, is)
  cut (x ∷ xs) ys [] rest is = inr (x ∷ xs, refl)
  cut (x ∷ xs) ys (f ∷ front) rest is = cut_more x f xs ys front rest (head_same x f (xs ++ ys) (front ++ rest) is) (cut xs ys front rest (ap (drop 1) is))

  none : (front left : List X) → [] ≡ front ++ left → front ≡ []
  none [] left is = refl
  none (f ∷ front) left is = absurd (omega (arith, ap length is))

  -- a front of one item is none of it or all
  one : (x : X) (front left : List X) → x ∷ [] ≡ front ++ left → (front ≡ []) ⊎ (front ≡ x ∷ [])
  one x [] left is = inl refl
  one x (f ∷ front) left is = inr (ap (λ y. y ∷ front) (sym (head_same x f [] (front ++ left) is)) ∙ ap (λ l. x ∷ l) (none front left (ap (drop 1) is)))

  one_if : (b : Bool) (x : X) (front left : List X) → (if b then x ∷ [] else []) ≡ front ++ left → (front ≡ []) ⊎ (front ≡ (if b then x ∷ [] else []))
  one_if true x front left is = one x front left is
  one_if false x front left is = inl (none front left is)

  either_one : (b : Bool) (xs ys front left : List X) → (xs ≡ front ++ left → (front ≡ []) ⊎ (front ≡ xs)) → (ys ≡ front ++ left → (front ≡ []) ⊎ (front ≡ ys))
      → (if b then xs else ys) ≡ front ++ left → (front ≡ []) ⊎ (front ≡ (if b then xs else ys))
  either_one true xs ys front left first second is = first is
  either_one false xs ys front left first second is = second is

module _ {C : Type 0} where
  recorded : (t : ℕ) (o : Option (ChangeOf C)) (front left : List (RecordOf C)) → record_of t o ≡ front ++ left → (front ≡ []) ⊎ (front ≡ record_of t o)
  recorded t None front left is = inl (none front left is)
  recorded t (Some ch) front left is = one (record_at t ch) front left is

  -- nothing of the two, the first, or both
  abbrev Parts : RecordOf C → List (RecordOf C) → List (RecordOf C) → Type 0
  Parts pass whole front = (front ≡ []) ⊎ ((front ≡ pass ∷ []) ⊎ (front ≡ whole))

  or_whole : (pass : RecordOf C) (whole front : List (RecordOf C)) → (front ≡ []) ⊎ (front ≡ whole) → Parts pass whole front
  or_whole pass whole front (inl is) = inl is
  or_whole pass whole front (inr is) = inr (inr is)

  after_pass : (pass f : RecordOf C) (xs front : List (RecordOf C)) → pass ≡ f → (front ≡ []) ⊎ (front ≡ xs) → Parts pass (pass ∷ xs) (f ∷ front)
  after_pass pass f xs front same (inl is) = inr (inl (ap (λ y. y ∷ front) (sym same) ∙ ap (λ l. pass ∷ l) is))
  after_pass pass f xs front same (inr is) = inr (inr (ap (λ y. y ∷ front) (sym same) ∙ ap (λ l. pass ∷ l) is))

  with_pass_parts : (b : Bool) (pass : RecordOf C) (t : ℕ) (o : Option (ChangeOf C)) (front left : List (RecordOf C)) → (if b then pass ∷ [] else []) ++ record_of t o ≡ front ++ left
      → Parts pass ((if b then pass ∷ [] else []) ++ record_of t o) front
  with_pass_parts true pass t o [] left is = inl refl
  with_pass_parts true pass t o (f ∷ front) left is =
      after_pass pass f (record_of t o) front (head_same pass f (record_of t o) (front ++ left) is) (recorded t o front left (ap (drop 1) is))
  with_pass_parts false pass t o front left is = or_whole pass (record_of t o) front (recorded t o front left is)

  module _ (K : Pieces C) where
    -- ---- one step

    -- what a front of a step's records replays as
    abbrev Reaches : Progress C → Step C → List (RecordOf C) → Type 0
    Reaches P s front =
        (S : State C) × (replay_on (log_state P.state) front ≡ Some (log_of S))
        × ((S ≡ stored_part P.state) ⊎ (((reading : ℕ) × (S ≡ stored_part (step K P (passes reading)).state)) ⊎ (S ≡ stored_part (step K P s).state)))

    reaches : (P : Progress C) (s : Step C) (reading : ℕ) (front : List (RecordOf C)) → IsSound P.state → IsFitStep s → Parts (record_at (moment P.state reading) change.Pass) (records_of K P s) front → Reaches P s front
    reaches P s reading front sound fit (inl is) = (stored_part P.state, ap (replay_on (log_state P.state)) is, inl refl)
    reaches P s reading front sound fit (inr (inl is)) =
        (stored_part (step K P (passes reading)).state, ap (replay_on (log_state P.state)) is ∙ step_goes_on K P (passes reading) sound tt, inr (inl (reading, refl)))
    reaches P s reading front sound fit (inr (inr is)) = (stored_part (step K P s).state, ap (replay_on (log_state P.state)) is ∙ step_goes_on K P s sound fit, inr (inr refl))

    abbrev pass_at : Progress C → ℕ → RecordOf C
    pass_at P reading = record_at (moment P.state reading) change.Pass

    ended_parts : (P : Progress C) (reading : ℕ) (body : Body C) (o : Option Flight) (front left : List (RecordOf C)) → end_records K P reading body o ≡ front ++ left
        → Parts (pass_at P reading) (end_records K P reading body o) front
    ended_parts P reading body None front left is = inl (none front left is)
    ended_parts P reading body (Some f) front left is =
        let t = moment P.state reading in
        with_pass_parts (is_due P reading) (pass_at P reading) t (end_change K.size (start_of P reading) t f body) front left is

    step_fronts : (P : Progress C) (s : Step C) (front left : List (RecordOf C)) → IsSound P.state → IsFitStep s → records_of K P s ≡ front ++ left → Reaches P s front
    step_fronts P (asks reading token c) front left sound fit is =
        reaches P (asks reading token c) reading front sound fit
        (with_pass_parts (is_due P reading) (pass_at P reading) (moment P.state reading) (ask_change K P (asks reading token c)) front left is)
    step_fronts P (begins reading conn token u) front left sound fit is =
        reaches P (begins reading conn token u) reading front sound fit
        (or_whole (pass_at P reading) (records_of K P (begins reading conn token u)) front
        (either_one (is_some (flight_of P.state conn)) [] (pass_records P reading) front left (λ is. inl (none front left is)) (one_if (is_due P reading) (pass_at P reading) front left) is))
    step_fronts P (ends reading conn body) front left sound fit is =
        reaches P (ends reading conn body) reading front sound fit (ended_parts P reading body (flight_of P.state conn) front left is)
    step_fronts P (loses reading conn) front left sound fit is =
        reaches P (loses reading conn) reading front sound fit
        (or_whole (pass_at P reading) (records_of K P (loses reading conn)) front
        (either_one (is_some (flight_of P.state conn)) (pass_records P reading) [] front left (one_if (is_due P reading) (pass_at P reading) front left) (λ is. inl (none front left is)) is))
    step_fronts P (passes reading) front left sound fit is =
        reaches P (passes reading) reading front sound fit (or_whole (pass_at P reading) (records_of K P (passes reading)) front (one (pass_at P reading) front left is))
    step_fronts P (restarts reading) front left sound fit is =
        reaches P (restarts reading) reading front sound fit
        (or_whole (pass_at P reading) (records_of K P (restarts reading)) front (one (record_at (moment (at_kept P.state) reading) (change.Boot (P.state.boot + 1))) front left is))

    -- ---- a run

    abbrev Replays : Progress C → List (Step C) → List (RecordOf C) → Type 0
    Replays P steps front = (S : State C) × (replay_on (log_state P.state) front ≡ Some (log_of S)) × IsReached K P steps S

    here : (P : Progress C) (s : Step C) (steps : List (Step C)) (front : List (RecordOf C)) → Reaches P s front → Replays P (s ∷ steps) front
    here P s steps front (S, replayed, inl is) = (S, replayed, record { earlier = []; later = s ∷ steps; both = refl; state = inl is })
    here P s steps front (S, replayed, inr (inl is)) = (S, replayed, record { earlier = []; later = s ∷ steps; both = refl; state = inr is })
    here P s steps front (S, replayed, inr (inr is)) = (S, replayed, record { earlier = s ∷ []; later = steps; both = refl; state = inl is })

    later : (P : Progress C) (s : Step C) (steps : List (Step C)) (front more : List (RecordOf C)) → IsSound P.state → IsFitStep s → front ≡ records_of K P s ++ more → Replays (step K P s) steps more → Replays P (s ∷ steps) front
    later P s steps front more sound fit is (S, replayed, reached) = (
      S,
      ap (replay_on (log_state P.state)) is ∙ then_goes_on K P s more sound fit ∙ replayed,
      record { earlier = s ∷ reached.earlier; later = reached.later; both = ap (λ l. s ∷ l) reached.both; state = reached.state },
    )

    by_cut : (P : Progress C) (s : Step C) (steps : List (Step C)) (front rest : List (RecordOf C)) → IsSound P.state → IsFitStep s
        → ((more : List (RecordOf C)) → records_of_run K (step K P s) steps ≡ more ++ rest → Replays (step K P s) steps more)
        → Cut (records_of K P s) (records_of_run K (step K P s) steps) front rest → Replays P (s ∷ steps) front
    by_cut P s steps front rest sound fit goes (inl at) = later P s steps front at.0 sound fit at.1 (goes at.0 at.2)
    by_cut P s steps front rest sound fit goes (inr at) = here P s steps front (step_fronts P s front at.0 sound fit at.1)

    pub run_fronts : (P : Progress C) (steps : List (Step C)) (front rest : List (RecordOf C)) → IsSound P.state → All IsFitStep steps → records_of_run K P steps ≡ front ++ rest → Replays P steps front
    run_fronts P [] front rest sound fit is = (stored_part P.state, ap (replay_on (log_state P.state)) (none front rest is), record { earlier = []; later = []; both = refl; state = inl refl })
    run_fronts P (s ∷ steps) front rest sound fit is =
        let first = All-head IsFitStep s steps fit in
        by_cut P s steps front rest sound first (λ more same. run_fronts (step K P s) steps more rest (step_sound K P s sound first) (All-tail IsFitStep s steps fit) same)
        (cut (records_of K P s) (records_of_run K (step K P s) steps) front rest is)
