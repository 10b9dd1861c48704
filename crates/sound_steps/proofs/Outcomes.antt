-- Each step keeps a state sound.
use Rattle.std.proofs.Common.{◌≡◌, ℕ, ◌+◌, ◌≤◌, ◌==◌, ◌/◌, nat_lt, Bool, true, false, not, List, [], ◌∷◌, All, Option, Some, None, find, fold, if◌then◌else◌, refl, sym, ap, subst, ◌∙◌, arith}
use Rattle.std.specs.Option.{is_some, is_none}
use Rattle.std.proofs.lemmas.Bool.{false≢true}
use Rattle.std.proofs.lemmas.Bool.Decides.{nat_tests}
use Rattle.std.proofs.lemmas.List.Elements.{All-head, All-tail}
use Rattle.b2_types.specs.declared.fault.Fault.{Fault}
use Rattle.b2_types.specs.declared.key.Flight.{Flight}
use Rattle.b2_types.specs.declared.call.Call.{Call}
use Rattle.b2_types.specs.declared.upload.UploadCall.{UploadCall}
use Rattle.b2_types.specs.declared.record.ChangeOf.{ChangeOf}
use Rattle.b2_types.specs.declared.record.ChangeOf.TheVariants as change
use Rattle.b2_model.specs.Kinds.{day}
use Rattle.b2_model.specs.Body.{Body}
use Rattle.b2_model.specs.Checks.{first_fault}
use Rattle.b2_model.specs.State.{State, Pieces}
use Rattle.b2_model.specs.Plan.{Plan}
use Rattle.b2_model.specs.Policy.{caller_of}
use Rattle.b2_model.specs.Stored.{applies_change}
use Rattle.b2_model.specs.Ask.{ask, at_moment, plan_of, shown_by, refusals_of, is_open, first_rules, outcome_or_refusal, with_change}
use Rattle.b2_model.specs.UploadSteps.{begin, begin_as, begin_refusals, end, end_plan, upload_rules, without_flight, flight_of}
use Rattle.b2_model.specs.Run.{Step, asks, begins, ends, loses, passes, restarts, Progress, moment, with_pass, with_restart, at_kept, start_of, with_state, with_end, begin_step, answer_to, state_after, step, run}
use Rattle.machine_laws.specs.Rules.{end_refusals}
use Rattle.machine_laws.proofs.Moments.{answer_state}
use Rattle.machine_laws.proofs.Passed.{none_in}
use Rattle.machine_laws.proofs.PassKeeps.{passed_flights}
use Rattle.sound_states.specs.Sound.{IsSound}
use Rattle.sound_steps.specs.FitSteps.{IsFitCall, IsFitStep, Applies}
use Rattle.sound_states.proofs.Tests.{not_found}
use Rattle.sound_states.proofs.Records.{record_sound}
use Rattle.sound_steps.proofs.Plans.{all_pass, plan_fits, end_fits}
use Rattle.sound_steps.proofs.NewTokens.{Gives, asks_given, plan_new, end_new, granted}
use Rattle.sound_steps.proofs.Begun.{Begins, begins_well, with_begun, fewer_flights}

module _ {C : Type 0} where
  -- ---- moments, tokens and uploads under way

  pub moved : (M : State C) (t : ℕ) → M.kept ≤ t → IsSound M → IsSound (at_moment M t)
  moved M t later sound = record { buckets = sound.buckets; versions = sound.versions; keys = sound.keys; tokens = sound.tokens; flights = sound.flights; moments = later }

  moved_applies : (M : State C) (t : ℕ) (ch : ChangeOf C) → applies_change (at_moment M t) ch ≡ applies_change M ch
  moved_applies M t change.Pass = refl
  moved_applies M t other = refl

  recorded : (M : State C) (t : ℕ) (o : Option (ChangeOf C)) → M.kept ≤ t → IsSound M → Applies M o → IsSound (with_change (at_moment M t) t o)
  recorded M t None later sound applies = moved M t later sound
  recorded M t (Some ch) later sound applies = record_sound (at_moment M t) t ch (moved M t later sound) (moved_applies M t ch ∙ applies.0) applies.1

  outcome_sound : (M : State C) (t : ℕ) (words : List ℕ) (p : Plan C) (o : Option Fault) → M.kept ≤ t → IsSound M → (o ≡ None → Applies M p.change) → (o ≡ None → Gives M p.grant p.change) → IsSound (outcome_or_refusal M t words p o).state
  outcome_sound M t words p (Some fault) later sound applies gives = moved M t later sound
  outcome_sound M t words p None later sound applies gives = granted M t p.grant p.change (recorded M t p.change later sound (applies refl)) (gives refl)

  -- the record of a call that is not refused
  pub ask_applies : (K : Pieces C) (M : State C) (t : ℕ) (words : List ℕ) (token : Option (List ℕ)) (c : Call) → IsSound M → IsFitCall c
      → first_fault (refusals_of K M t words token c) ≡ None → Applies M (plan_of K M t words token c).change
  ask_applies K M t words token c sound fit none =
      let p = plan_of K M t words token c in
      plan_fits K M t words (shown_by M token c) c sound fit (all_pass p.own (none_in (if is_open M c then p.exists else first_rules M t (caller_of M token) c p.exists) p.own none).1)

  -- the token of a call that is not refused
  pub ask_new : (K : Pieces C) (M : State C) (t : ℕ) (words : List ℕ) (token : Option (List ℕ)) (c : Call) → IsSound M → first_fault (refusals_of K M t words token c) ≡ None
      → Gives M (plan_of K M t words token c).grant (plan_of K M t words token c).change
  ask_new K M t words token c sound none =
      let p = plan_of K M t words token c in
      plan_new K M t words (shown_by M token c) c sound (asks_given M token c sound) (all_pass p.own (none_in (if is_open M c then p.exists else first_rules M t (caller_of M token) c p.exists) p.own none).1)

  pub ask_sound : (K : Pieces C) (M : State C) (t : ℕ) (words : List ℕ) (token : Option (List ℕ)) (c : Call) → M.kept ≤ t → IsSound M → IsFitCall c → IsSound (ask K M t words token c).state
  ask_sound K M t words token c later sound fit =
      outcome_sound M t words (plan_of K M t words token c) (first_fault (refusals_of K M t words token c)) later sound (ask_applies K M t words token c sound fit) (ask_new K M t words token c sound)

  -- ---- uploads

  pub landed : (M : State C) (t conn : ℕ) → M.kept ≤ t → IsSound M → IsSound (without_flight M t conn)
  landed M t conn later sound = record {
    buckets = sound.buckets;
    versions = sound.versions;
    keys = sound.keys;
    tokens = sound.tokens;
    flights = fewer_flights M (λ f. not (f.conn == conn)) sound.flights;
    moments = later;
  }

  pub end_applies : (size : C → ℕ) (M : State C) (t : ℕ) (f : Flight) (body : Body C) → IsSound (without_flight M t f.conn) → first_fault (end_refusals size M t f body) ≡ None
      → Applies (without_flight M t f.conn) (end_plan size (without_flight M t f.conn) t (caller_of (without_flight M t f.conn) (Some f.token)).key body f.upload).change
  end_applies size M t f body sound none =
      let N = without_flight M t f.conn in
      let who = caller_of N (Some f.token) in
      let p = end_plan size N t who.key body f.upload in
      end_fits size N t who.key body f.upload sound (all_pass p.own (none_in (upload_rules N t who f.upload p.exists) p.own none).1)

  pub end_sound : (size : C → ℕ) (M : State C) (t : ℕ) (f : Flight) (body : Body C) (words : List ℕ) → M.kept ≤ t → IsSound M → IsSound (end size M t f body words).state
  end_sound size M t f body words later sound =
      let N = without_flight M t f.conn in
      let who = caller_of N (Some f.token) in
      outcome_sound N t words (end_plan size N t who.key body f.upload) (first_fault (end_refusals size M t f body)) later (landed M t f.conn later sound)
      (end_applies size M t f body (landed M t f.conn later sound)) (λ none. end_new size N t who.key body f.upload)

  begun_sound : (M : State C) (t conn : ℕ) (token : Option (List ℕ)) (u : UploadCall) (o : Option Fault) → M.kept ≤ t → IsSound M → is_some (flight_of M conn) ≡ false → (o ≡ None → Begins M token u)
      → IsSound (begin_as M t conn token u o).state
  begun_sound M t conn token u (Some fault) later sound free well = moved M t later sound
  begun_sound M t conn token u None later sound free well = record {
    buckets = sound.buckets;
    versions = sound.versions;
    keys = sound.keys;
    tokens = sound.tokens;
    flights = with_begun M conn token u sound.flights (not_found (λ f. f.conn == conn) M.flights (no_some (flight_of M conn) free)) (well refl);
    moments = later;
  }
    where
      no_some : (o : Option Flight) → is_some o ≡ false → is_none o ≡ true
      no_some None free = refl
      no_some (Some f) free = absurd (false≢true (sym free))

  pub begin_sound : (M : State C) (t conn : ℕ) (token : Option (List ℕ)) (u : UploadCall) → M.kept ≤ t → IsSound M → is_some (flight_of M conn) ≡ false → IsSound (begin M t conn token u).state
  begin_sound M t conn token u later sound free = begun_sound M t conn token u (first_fault (begin_refusals M t token u)) later sound free (begins_well M t token u)

  -- ---- steps

  pub with_pass_sound : (M : State C) (t : ℕ) → IsSound M → IsSound (with_pass M t)
  with_pass_sound M t sound = record_sound M t change.Pass sound refl tt

  either : (P : State C → Type 0) (b : Bool) (M N : State C) → P M → P N → P (if b then M else N)
  either P true M N first second = first
  either P false M N first second = second

  pub start_sound : (P : Progress C) (reading : ℕ) → IsSound P.state → IsSound (start_of P reading)
  start_sound P reading sound =
      let t = moment P.state reading in
      either IsSound (nat_lt P.state.pass_day (t / day)) (with_pass P.state t) P.state (with_pass_sound P.state t sound) sound

  pub start_kept : (P : Progress C) (reading : ℕ) → IsSound P.state → (start_of P reading).kept ≤ moment P.state reading
  start_kept P reading sound =
      let t = moment P.state reading in
      let kept = sound.moments in
      either (λ M. M.kept ≤ t) (nat_lt P.state.pass_day (t / day)) (with_pass P.state t) P.state (omega arith) (omega (arith, kept))

  start_flights : (P : Progress C) (reading : ℕ) → (start_of P reading).flights ≡ P.state.flights
  start_flights P reading =
      let t = moment P.state reading in
      either (λ M. M.flights ≡ P.state.flights) (nat_lt P.state.pass_day (t / day)) (with_pass P.state t) P.state (passed_flights t P.state) refl

  begins_sound : (b : Bool) (P Q : Progress C) → IsSound P.state → (b ≡ false → IsSound Q.state) → IsSound (if b then P else Q).state
  begins_sound true P Q first second = first
  begins_sound false P Q first second = second refl

  loses_sound : (b : Bool) (P Q : Progress C) → IsSound P.state → IsSound Q.state → IsSound (if b then Q else P).state
  loses_sound true P Q first second = second
  loses_sound false P Q first second = first

  ends_sound : (K : Pieces C) (P : Progress C) (reading : ℕ) (body : Body C) (o : Option Flight) → IsSound P.state → IsSound (with_end K P reading body o).state
  ends_sound K P reading body None sound = sound
  ends_sound K P reading body (Some f) sound = end_sound K.size (start_of P reading) (moment P.state reading) f body P.words (start_kept P reading sound) (start_sound P reading sound)

  opened : (M : State C) (t : ℕ) → IsSound M → IsSound (with_restart (at_kept M) t)
  opened M t sound =
      let next : nat_lt M.boot (M.boot + 1) ≡ true = grind (arith, nat_tests) in
      record_sound (at_kept M) t (change.Boot (M.boot + 1)) (record { buckets = sound.buckets; versions = sound.versions; keys = sound.keys; tokens = sound.tokens; flights = sound.flights; moments = omega arith }) next tt

  after_sound : (K : Pieces C) (P : Progress C) (s : Step C) → IsSound P.state → IsFitStep s → IsSound (state_after K P s).state
  after_sound K P (asks reading token c) sound fit =
      ask_sound K (start_of P reading) (moment P.state reading) P.words token c (start_kept P reading sound) (start_sound P reading sound) fit
  after_sound K P (begins reading conn token u) sound fit =
      begins_sound (is_some (flight_of P.state conn)) P (with_state P (begin_step P reading conn token u).state) sound (λ free.
      begin_sound (start_of P reading) (moment P.state reading) conn token u (start_kept P reading sound) (start_sound P reading sound)
      (ap (λ flights. is_some (find (λ f. f.conn == conn) flights)) (start_flights P reading) ∙ free))
  after_sound K P (ends reading conn body) sound fit = ends_sound K P reading body (flight_of P.state conn) sound
  after_sound K P (loses reading conn) sound fit =
      loses_sound (is_some (flight_of P.state conn)) P (with_state P (without_flight (start_of P reading) (moment P.state reading) conn)) sound
      (landed (start_of P reading) (moment P.state reading) conn (start_kept P reading sound) (start_sound P reading sound))
  after_sound K P (passes reading) sound fit = with_pass_sound P.state (moment P.state reading) sound
  after_sound K P (restarts reading) sound fit = opened P.state (moment (at_kept P.state) reading) sound

  pub step_sound : (K : Pieces C) (P : Progress C) (s : Step C) → IsSound P.state → IsFitStep s → IsSound (step K P s).state
  step_sound K P s sound fit = subst IsSound (sym (answer_state (answer_to K P s) (state_after K P s))) (after_sound K P s sound fit)

  run_from : (K : Pieces C) (P : Progress C) (steps : List (Step C)) → IsSound P.state → All IsFitStep steps → IsSound (fold (step K) P steps).state
  run_from K P [] sound fit = sound
  run_from K P (s ∷ steps) sound fit = run_from K (step K P s) steps (step_sound K P s sound (All-head IsFitStep s steps fit)) (All-tail IsFitStep s steps fit)

  pub run_sound : (K : Pieces C) (M : State C) (words : List ℕ) (steps : List (Step C)) → IsSound M → All IsFitStep steps → IsSound (run K M words steps).state
  run_sound K M words steps sound fit = run_from K (record { state = M; words = words; answers = [] }) steps sound fit
