-- The upload of each connection after a step.
use Rattle.std.proofs.Common.{◌≡◌, ℕ, Bool, true, false, List, Option, Some, None, option_map, if◌then◌else◌, refl, sym, ap, ◌∙◌}
use Rattle.std.specs.Option.{is_some, is_none}
use Rattle.std.proofs.lemmas.Bool.{false≢true}
use Rattle.b2_types.specs.declared.call.Call.{Call}
use Rattle.b2_types.specs.declared.fault.Fault.{Fault}
use Rattle.b2_types.specs.declared.key.Flight.{Flight}
use Rattle.b2_types.specs.declared.upload.UploadCall.{UploadCall}
use Rattle.b2_types.specs.declared.answer.AnswerOf.{AnswerOf}
use Rattle.b2_model.specs.Ask.{ask}
use Rattle.b2_model.specs.Body.{Body}
use Rattle.b2_model.specs.Checks.{first_fault}
use Rattle.b2_model.specs.State.{State, Pieces}
use Rattle.b2_model.specs.UploadSteps.{begin, begin_as, begin_refusals, end, flight_of, new_flight, without_flight}
use Rattle.b2_model.specs.Run.{Step, asks, begins, ends, loses, passes, restarts, Progress, moment, with_daily_pass, start_of, begin_step, end_step, answer_to, refusal_of, state_after, with_state, with_end, step}
use Rattle.machine_laws.proofs.Moments.{answer_state}
use Rattle.machine_laws.proofs.PassKeeps.{passed_flights}
use Rattle.flight_laws.proofs.Finds.{upload_on, none_again, others_again, put_at, put_beside, found_conn}
use Rattle.flight_laws.proofs.Flights.{ask_flights, day_flights, end_flights, under_way, flights_of}

-- none, where there isn't one
no_item : {X : Type 0} (o : Option X) → is_some o ≡ false → o ≡ None
no_item None none = refl
no_item (Some x) none = absurd (false≢true (sym none))

module _ {C : Type 0} where
  -- ---- calls and passes

  pub asked_keeps : (K : Pieces C) (M : State C) (t : ℕ) (words : List ℕ) (token : Option (List ℕ)) (c : Call) (d : ℕ) → flight_of (ask K M t words token c).state d ≡ flight_of M d
  asked_keeps K M t words token c d = ap (λ fs. upload_on fs d) (ask_flights K M t words token c)

  pub day_keeps : (M : State C) (t d : ℕ) → flight_of (with_daily_pass M t) d ≡ flight_of M d
  day_keeps M t d = ap (λ fs. upload_on fs d) (day_flights M t)

  pub start_keeps : (P : Progress C) (reading d : ℕ) → flight_of (start_of P reading) d ≡ flight_of P.state d
  start_keeps P reading d = day_keeps P.state (moment P.state reading) d

  pub asks_keep : (K : Pieces C) (P : Progress C) (reading : ℕ) (token : Option (List ℕ)) (c : Call) (d : ℕ) → flight_of (step K P (asks reading token c)).state d ≡ flight_of P.state d
  asks_keep K P reading token c d = asked_keeps K (start_of P reading) (moment P.state reading) P.words token c d ∙ start_keeps P reading d

  pub passes_keep : (K : Pieces C) (P : Progress C) (reading d : ℕ) → flight_of (step K P (passes reading)).state d ≡ flight_of P.state d
  passes_keep K P reading d = ap (λ fs. upload_on fs d) (passed_flights (moment P.state reading) P.state)

  -- ---- a begin

  set_by : (M : State C) (t c : ℕ) (token : Option (List ℕ)) (u : UploadCall) (o : Option Fault) → (begin_as M t c token u o).fault ≡ None → flight_of M c ≡ None → flight_of (begin_as M t c token u o).state c ≡ Some (new_flight c token u)
  set_by M t c token u None taken free = put_at (new_flight c token u) c M.flights refl free
  set_by M t c token u (Some fault) taken free = absurd (cc taken)

  refused_by : (M : State C) (t c : ℕ) (token : Option (List ℕ)) (u : UploadCall) (o : Option Fault) (fault : Fault) → (begin_as M t c token u o).fault ≡ Some fault → (d : ℕ) → flight_of (begin_as M t c token u o).state d ≡ flight_of M d
  refused_by M t c token u None fault refused d = absurd (cc refused)
  refused_by M t c token u (Some first) fault refused d = refl

  kept_by : (M : State C) (t c : ℕ) (token : Option (List ℕ)) (u : UploadCall) (o : Option Fault) (d : ℕ) → (c ≡ d → ⊥) → flight_of (begin_as M t c token u o).state d ≡ flight_of M d
  kept_by M t c token u None d apart = put_beside (new_flight c token u) d M.flights apart
  kept_by M t c token u (Some fault) d apart = refl

  pub begin_sets : (M : State C) (t c : ℕ) (token : Option (List ℕ)) (u : UploadCall) → (begin M t c token u).fault ≡ None → flight_of M c ≡ None → flight_of (begin M t c token u).state c ≡ Some (new_flight c token u)
  begin_sets M t c token u = set_by M t c token u (first_fault (begin_refusals M t token u))

  pub begin_refuses : (M : State C) (t c : ℕ) (token : Option (List ℕ)) (u : UploadCall) (fault : Fault) → (begin M t c token u).fault ≡ Some fault → (d : ℕ) → flight_of (begin M t c token u).state d ≡ flight_of M d
  begin_refuses M t c token u = refused_by M t c token u (first_fault (begin_refusals M t token u))

  pub begin_keeps : (M : State C) (t c : ℕ) (token : Option (List ℕ)) (u : UploadCall) (d : ℕ) → (c ≡ d → ⊥) → flight_of (begin M t c token u).state d ≡ flight_of M d
  begin_keeps M t c token u = kept_by M t c token u (first_fault (begin_refusals M t token u))

  module _ (K : Pieces C) (P : Progress C) (reading c : ℕ) (token : Option (List ℕ)) (u : UploadCall) where
    abbrev M : State C
    M = start_of P reading

    abbrev t : ℕ
    t = moment P.state reading

    abbrev s : Step C
    s = begins reading c token u

    -- as a step: where one is under way it is none
    abbrev begun : Bool → State C
    begun busy = (if busy then P else with_state P (begin_step P reading c token u).state).state

    begun_is : (step K P s).state ≡ begun (under_way (flights_of P) c)
    begun_is = answer_state (answer_to K P s) (state_after K P s)

    pub begun_keeps : (d : ℕ) → (c ≡ d → ⊥) → flight_of (step K P s).state d ≡ flight_of P.state d
    begun_keeps d apart = ap (λ N. flight_of N d) begun_is ∙ by (under_way (flights_of P) c)
      where
        by : (busy : Bool) → flight_of (begun busy) d ≡ flight_of P.state d
        by true = refl
        by false = begin_keeps M t c token u d apart ∙ start_keeps P reading d

    -- on a connection without an upload there is one then, or an answer
    pub begun_or_answered : under_way (flights_of P) c ≡ false → under_way (flights_of (step K P s)) c ≡ is_none (answer_to K P s)
    begun_or_answered free = ap (λ (N : State C). is_some (flight_of N c)) (begun_is ∙ ap begun free) ∙ by (first_fault (begin_refusals M t token u)) ∙ ap (λ (busy : Bool). is_none (told busy)) (sym free)
      where
        told : Bool → Option (AnswerOf C)
        told busy = if busy then None else refusal_of (begin_step P reading c token u).fault

        by : (o : Option Fault) → is_some (flight_of (begin_as M t c token u o).state c) ≡ is_none (refusal_of {C = C} (begin_as M t c token u o).fault)
        by None = ap is_some (put_at (new_flight c token u) c M.flights refl (no_item (flight_of M c) (ap is_some (start_keeps P reading c) ∙ free)))
        by (Some fault) = ap is_some (start_keeps P reading c) ∙ free

  -- ---- an end, and a loss

  pub without_here : (M : State C) (t c : ℕ) → flight_of (without_flight M t c) c ≡ None
  without_here M t c = none_again c M.flights

  pub without_keeps : (M : State C) (t c d : ℕ) → (c ≡ d → ⊥) → flight_of (without_flight M t c) d ≡ flight_of M d
  without_keeps M t c d apart = others_again c d apart M.flights

  pub end_here : (size : C → ℕ) (M : State C) (t c : ℕ) (f : Flight) (body : Body C) (words : List ℕ) → f.conn ≡ c → flight_of (end size M t f body words).state c ≡ None
  end_here size M t c f body words same = ap (λ fs. upload_on fs c) (end_flights size M t c f body words same) ∙ none_again c M.flights

  pub end_keeps : (size : C → ℕ) (M : State C) (t c : ℕ) (f : Flight) (body : Body C) (words : List ℕ) → f.conn ≡ c → (d : ℕ) → (c ≡ d → ⊥) → flight_of (end size M t f body words).state d ≡ flight_of M d
  end_keeps size M t c f body words same d apart = ap (λ fs. upload_on fs d) (end_flights size M t c f body words same) ∙ others_again c d apart M.flights

  module _ (K : Pieces C) (P : Progress C) (reading c : ℕ) where
    pub end_step_here : (f : Flight) (body : Body C) → f.conn ≡ c → flight_of (end_step K P reading f body).state c ≡ None
    end_step_here f body same = end_here K.size (start_of P reading) (moment P.state reading) c f body P.words same

    pub end_step_keeps : (f : Flight) (body : Body C) → f.conn ≡ c → (d : ℕ) → (c ≡ d → ⊥) → flight_of (end_step K P reading f body).state d ≡ flight_of P.state d
    end_step_keeps f body same d apart = end_keeps K.size (start_of P reading) (moment P.state reading) c f body P.words same d apart ∙ start_keeps P reading d

    -- as a step: where none is under way it is none
    module _ (body : Body C) where
      ended_is : (step K P (ends reading c body)).state ≡ (with_end K P reading body (flight_of P.state c)).state
      ended_is = answer_state (answer_to K P (ends reading c body)) (state_after K P (ends reading c body))

      pub ended_here : flight_of (step K P (ends reading c body)).state c ≡ None
      ended_here = ap (λ N. flight_of N c) ended_is ∙ by (flight_of P.state c) refl
        where
          by : (o : Option Flight) → flight_of P.state c ≡ o → flight_of (with_end K P reading body o).state c ≡ None
          by None none = none
          by (Some f) there = end_step_here f body (found_conn c P.state.flights f there)

      pub ended_keeps : (d : ℕ) → (c ≡ d → ⊥) → flight_of (step K P (ends reading c body)).state d ≡ flight_of P.state d
      ended_keeps d apart = ap (λ N. flight_of N d) ended_is ∙ by (flight_of P.state c) refl
        where
          by : (o : Option Flight) → flight_of P.state c ≡ o → flight_of (with_end K P reading body o).state d ≡ flight_of P.state d
          by None none = refl
          by (Some f) there = end_step_keeps f body (found_conn c P.state.flights f there) d apart

      -- where one is under way, it is answered
      pub ended_answered : under_way (flights_of P) c ≡ true → is_some (answer_to K P (ends reading c body)) ≡ true
      ended_answered busy = by (flight_of P.state c) busy
        where
          by : (o : Option Flight) → is_some o ≡ true → is_some (option_map (λ (f : Flight). (end_step K P reading f body).answer) o) ≡ true
          by None some = absurd (false≢true some)
          by (Some f) some = refl

    abbrev left : State C
    left = without_flight (start_of P reading) (moment P.state reading) c

    abbrev lost : Option Flight → State C
    lost o = (if is_some o then with_state P left else P).state

    pub lost_here : flight_of (step K P (loses reading c)).state c ≡ None
    lost_here = by (flight_of P.state c) refl
      where
        by : (o : Option Flight) → flight_of P.state c ≡ o → flight_of (lost o) c ≡ None
        by None none = none
        by (Some f) there = without_here (start_of P reading) (moment P.state reading) c

    pub lost_keeps : (d : ℕ) → (c ≡ d → ⊥) → flight_of (step K P (loses reading c)).state d ≡ flight_of P.state d
    lost_keeps d apart = by (flight_of P.state c)
      where
        by : (o : Option Flight) → flight_of (lost o) d ≡ flight_of P.state d
        by None = refl
        by (Some f) = without_keeps (start_of P reading) (moment P.state reading) c d apart ∙ start_keeps P reading d

  -- ---- a restart

  pub restarted_none : (K : Pieces C) (P : Progress C) (reading d : ℕ) → flight_of (step K P (restarts reading)).state d ≡ None
  restarted_none K P reading d = refl
