-- What a run answers.
use Rattle.std.proofs.Common.{◌≡◌, ℕ, Bool, true, false, List, [], ◌∷◌, ◌++◌, Option, Some, None, if◌then◌else◌, refl, sym, ap, ◌∙◌, append-nil}
use Rattle.std.specs.Option.{is_some}
use Rattle.std.proofs.lemmas.List.Sums.{fold-append}
use Rattle.b2_types.specs.declared.key.Flight.{Flight}
use Rattle.b2_types.specs.declared.answer.AnswerOf.{AnswerOf}
use Rattle.b2_model.specs.State.{State, Pieces}
use Rattle.b2_model.specs.Body.{Body}
use Rattle.b2_model.specs.Policy.{items}
use Rattle.b2_model.specs.UploadSteps.{flight_of, without_flight}
use Rattle.b2_model.specs.Run.{Step, asks, begins, ends, loses, passes, restarts, Progress, moment, start_of, begin_step, with_state, with_end, with_answer, answer_to, state_after, step, run}

module _ {C : Type 0} (K : Pieces C) where
  either : (b : Bool) (P Q : Progress C) (xs : List (AnswerOf C)) → P.answers ≡ xs → Q.answers ≡ xs → (if b then P else Q).answers ≡ xs
  either true P Q xs first second = first
  either false P Q xs first second = second

  ended : (P : Progress C) (reading : ℕ) (body : Body C) (o : Option Flight) → (with_end K P reading body o).answers ≡ P.answers
  ended P reading body None = refl
  ended P reading body (Some f) = refl

  -- what is left after a step has the answers from before it
  after : (P : Progress C) (s : Step C) → (state_after K P s).answers ≡ P.answers
  after P (asks reading token c) = refl
  after P (begins reading conn token u) = either (is_some (flight_of P.state conn)) P (with_state P (begin_step P reading conn token u).state) P.answers refl refl
  after P (ends reading conn body) = ended P reading body (flight_of P.state conn)
  after P (loses reading conn) = either (is_some (flight_of P.state conn)) (with_state P (without_flight (start_of P reading) (moment P.state reading) conn)) P P.answers refl refl
  after P (passes reading) = refl
  after P (restarts reading) = refl

  added : (o : Option (AnswerOf C)) (P : Progress C) → (with_answer o P).answers ≡ P.answers ++ items o
  added None P = sym (append-nil P.answers)
  added (Some a) P = refl

  pub step_appends : (P : Progress C) (s : Step C) → (step K P s).answers ≡ P.answers ++ items (answer_to K P s)
  step_appends P s = added (answer_to K P s) (state_after K P s) ∙ ap (λ xs. xs ++ items (answer_to K P s)) (after P s)

  pub run_appends : (M : State C) (words : List ℕ) (steps : List (Step C)) (s : Step C)
      → (run K M words (steps ++ s ∷ [])).answers ≡ (run K M words steps).answers ++ items (answer_to K (run K M words steps) s)
  run_appends M words steps s =
      ap (λ P. P.answers) (fold-append (step K) (record { state = M; words = words; answers = [] }) steps (s ∷ []))
      ∙ step_appends (run K M words steps) s
