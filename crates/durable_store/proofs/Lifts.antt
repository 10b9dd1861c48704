-- A step of the machine over extents is one of the machine over bytes, where each extent stands for bytes of its
-- length.
use Rattle.std.proofs.Common.{◌≡◌, ℕ, List, [], Option, Some, None, option_map, length, if◌then◌else◌, refl, sym, ap, ◌∙◌}
use Rattle.std.specs.Option.{is_some}
use Rattle.b2_base.specs.declared.extent.Extent.{Extent}
use Rattle.b2_types.specs.declared.answer.AnswerOf.{AnswerOf}
use Rattle.b2_types.specs.declared.fault.Fault.{Fault}
use Rattle.b2_types.specs.declared.key.Flight.{Flight}
use Rattle.b2_types.specs.declared.upload.UploadCall.{UploadCall}
use Rattle.b2_model.specs.Body.{Body}
use Rattle.b2_model.specs.Contents.{answer_by, body_by, state_by}
use Rattle.b2_model.specs.State.{State}
use Rattle.b2_model.specs.UploadSteps.{Begun, begin, end, flight_of, without_flight}
use Rattle.b2_model.specs.Run.{Progress, Step, answer_to, begin_step, begins, end_step, ends, loses, moment, of_bytes, refusal_of, start_of, state_after, step, with_end, with_state}
use Rattle.machine_laws.proofs.Moments.{answer_state}
use Rattle.contents_steps.specs.Copies.{StandsFor}
use Rattle.contents_steps.proofs.Stands.{answer_stands, step_stands}
use Rattle.new_versions.specs.Decided.{extent_len}
use Rattle.core_decisions.specs.Decided.{answering, at_extents}
use Rattle.core_decisions.proofs.Asked.{no_copy}
use Rattle.durable_store.specs.Steps.{HasMade, start_at}

refusal_by : (f : Extent → List ℕ) (fault : Option Fault) → option_map (answer_by f) (refusal_of fault) ≡ refusal_of fault
refusal_by f None = refl
refusal_by f (Some fault) = refl

abbrev at_state : State Extent → List ℕ → Progress Extent
at_state M words = record { state = M; words = words; answers = [] }

module _ (f : Extent → List ℕ) (sizes : (e : Extent) → length (f e) ≡ e.len) (M : State Extent) (P : Progress (List ℕ)) (is : P.state ≡ state_by f M) where
  abbrev here : Progress Extent
  here = at_state M P.words

  stands : StandsFor f here P
  stands = record { state = is; words = refl }

  -- an upload begins where none is under way
  pub begun : (reading conn : ℕ) (token : Option (List ℕ)) (u : UploadCall) (N : State Extent) (fault : Option Fault) → flight_of M conn ≡ None
      → record { state = N; fault = fault } ≡ begin (start_at M reading) (moment M reading) conn token u
      → ((step of_bytes P (begins reading conn token u)).state ≡ state_by f N) × (answer_to of_bytes P (begins reading conn token u) ≡ refusal_of fault)
  begun reading conn token u N fault none begun_is =
      let K = at_extents no_copy in
      let s : Step Extent = begins reading conn token u in
      let made = step_stands f K of_bytes sizes here P s tt stands in
      let b : Begun Extent = begin_step here reading conn token u in (
        made.state
            ∙ ap (state_by f) (answer_state (answer_to K here s) (state_after K here s) ∙ ap (λ o. (if is_some o then here else with_state here b.state).state) none ∙ ap (λ (x : Begun Extent). x.state) (sym begun_is)),
        answer_stands f K of_bytes sizes here P s tt stands
            ∙ ap (λ o. option_map (answer_by f) (if is_some o then None else refusal_of b.fault)) none
            ∙ ap (λ (x : Begun Extent). option_map (answer_by f) (refusal_of x.fault)) (sym begun_is)
            ∙ refusal_by f fault,
      )

  -- an upload ends that is under way
  pub ended : (reading conn : ℕ) (fl : Flight) (body : Body Extent) (N : State Extent) (told : AnswerOf Extent) → flight_of M conn ≡ Some fl
      → end extent_len (start_at M reading) (moment M reading) fl body P.words ≡ answering N told P.words
      → HasMade P (ends reading conn (body_by f body)) f N (Some told)
  ended reading conn fl body N told there end_is =
      let K = at_extents no_copy in
      let s : Step Extent = ends reading conn body in
      let made = step_stands f K of_bytes sizes here P s tt stands in
      record {
        state = made.state ∙ ap (state_by f) (answer_state (answer_to K here s) (state_after K here s) ∙ ap (λ o. (with_end K here reading body o).state) there ∙ ap (λ o. o.state) end_is);
        answers = answer_stands f K of_bytes sizes here P s tt stands
            ∙ ap (λ o. option_map (answer_by f) (option_map (λ g. (end_step K here reading g body).answer) o)) there
            ∙ ap (λ o. Some (answer_by f o.answer)) end_is;
      }

  -- an upload is lost that is under way
  pub lost : (reading conn : ℕ) (fl : Flight) → flight_of M conn ≡ Some fl
      → (step of_bytes P (loses reading conn)).state ≡ state_by f (without_flight (start_at M reading) (moment M reading) conn)
  lost reading conn fl there =
      let K = at_extents no_copy in
      let s : Step Extent = loses reading conn in
      let made = step_stands f K of_bytes sizes here P s tt stands in
      made.state ∙ ap (λ o. state_by f (if is_some o then with_state here (without_flight (start_of here reading) (moment M reading) conn) else here).state) there
