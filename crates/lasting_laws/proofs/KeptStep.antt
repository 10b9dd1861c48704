-- Each step keeps what is locked, and so does each run.
use Rattle.std.proofs.Common.{◌≡◌, ◌⊎◌, inl, inr, ℕ, ◌<◌, ◌≤◌, ◌/◌, nat_lt, Bool, true, false, ◌++◌, List, [], ◌∷◌, Option, Some, None, fold, if◌then◌else◌, refl, sym, ap, subst, ◌∙◌, arith}
use Rattle.std.specs.Option.{is_some}
use Rattle.b2_types.specs.declared.fault.Fault.{Fault}
use Rattle.b2_types.specs.declared.key.Grant.{Grant}
use Rattle.b2_types.specs.declared.key.Flight.{Flight}
use Rattle.b2_types.specs.declared.call.Call.{Call}
use Rattle.b2_types.specs.declared.upload.UploadCall.{UploadCall}
use Rattle.b2_types.specs.declared.record.ChangeOf.{ChangeOf}
use Rattle.b2_types.specs.declared.record.ChangeOf.TheVariants as change
use Rattle.b2_types.specs.declared.version.VersionOf.{VersionOf}
use Rattle.b2_model.specs.Kinds.{day}
use Rattle.b2_model.specs.Body.{Body}
use Rattle.b2_model.specs.Checks.{first_fault}
use Rattle.b2_model.specs.State.{State, Pieces}
use Rattle.b2_model.specs.Plan.{Plan, id_of}
use Rattle.b2_model.specs.Policy.{caller_of}
use Rattle.b2_model.specs.Ask.{ask, at_moment, plan_of, shown_by, refusals_of, is_open, first_rules, outcome_or_refusal, with_change, with_grant}
use Rattle.b2_model.specs.UploadSteps.{begin, begin_as, begin_refusals, end, end_plan, upload_rules, without_flight, flight_of}
use Rattle.b2_model.specs.Run.{Step, asks, begins, ends, loses, passes, restarts, Progress, moment, with_pass, start_of, with_state, with_end, begin_step, answer_to, state_after, step, run}
use Rattle.machine_laws.proofs.Moments.{answer_state}
use Rattle.machine_laws.proofs.Passed.{none_in}
use Rattle.sound_states.specs.Sound.{IsSound}
use Rattle.sound_steps.proofs.Plans.{all_pass}
use Rattle.lasting_laws.specs.Locked.{on_hold, kept_until, Lock, IsInTime, Stands, IsSparing, AreSparing}
use Rattle.lasting_laws.proofs.Kept.{Keeps, keeps_from, keeps_stands}
use Rattle.lasting_laws.proofs.KeptPass.{pass_keeps}
use Rattle.lasting_laws.proofs.KeptChange.{Allows, record_keeps}
use Rattle.lasting_laws.proofs.KeptPlan.{plan_fits, end_fits}

-- in time at a later moment
sooner : (lock : Lock) (m n : ℕ) → m ≤ n → IsInTime lock n → IsInTime lock m
sooner on_hold m n before timely = tt
sooner (kept_until end) m n before timely = omega (arith, before, timely)

-- ---- the moment of the last record

module _ {C : Type 0} where
  granted_kept : (M : State C) (o : Option Grant) → (with_grant o M).kept ≡ M.kept
  granted_kept M None = refl
  granted_kept M (Some g) = refl

  granted_now : (M : State C) (o : Option Grant) → (with_grant o M).now ≡ M.now
  granted_now M None = refl
  granted_now M (Some g) = refl

  -- it does not fall, and does not come after the moment of the state
  abbrev pub Later : ℕ → State C → Type 0
  Later kept N = (kept ≤ N.kept) × (N.kept ≤ N.now)

  recorded_later : (M : State C) (t : ℕ) (o : Option (ChangeOf C)) → M.kept ≤ t → Later M.kept (with_change (at_moment M t) t o)
  recorded_later M t None before = (omega arith, before)
  recorded_later M t (Some ch) before = (before, omega arith)

  granted_later : (kept : ℕ) (M : State C) (o : Option Grant) → Later kept M → Later kept (with_grant o M)
  granted_later kept M None later = later
  granted_later kept M (Some g) later = later

  outcome_later : (M : State C) (t : ℕ) (words : List ℕ) (p : Plan C) (o : Option Fault) → M.kept ≤ t → Later M.kept (outcome_or_refusal M t words p o).state
  outcome_later M t words p (Some fault) before = (omega arith, before)
  outcome_later M t words p None before = granted_later M.kept (with_change (at_moment M t) t p.change) p.grant (recorded_later M t p.change before)

  begun_later : (M : State C) (t conn : ℕ) (token : Option (List ℕ)) (u : UploadCall) (o : Option Fault) → M.kept ≤ t → Later M.kept (begin_as M t conn token u o).state
  begun_later M t conn token u (Some fault) before = (omega arith, before)
  begun_later M t conn token u None before = (omega arith, before)

  start_between : (b : Bool) (M : State C) (t : ℕ) → M.kept ≤ t → (M.kept ≤ (if b then with_pass M t else M).kept) × ((if b then with_pass M t else M).kept ≤ t)
  start_between true M t before = (before, omega arith)
  start_between false M t before = (omega arith, before)

  started : (P : Progress C) (reading : ℕ) → P.state.kept ≤ P.state.now → (P.state.kept ≤ (start_of P reading).kept) × ((start_of P reading).kept ≤ moment P.state reading)
  started P reading before = let t = moment P.state reading in start_between (nat_lt P.state.pass_day (t / day)) P.state t (omega (arith, before))

  after_start : (kept : ℕ) (M N : State C) → kept ≤ M.kept → Later M.kept N → Later kept N
  after_start kept M N first later = let second = later.0 in (omega (arith, first, second), later.1)

  either_later : (kept : ℕ) (b : Bool) (P Q : Progress C) → Later kept P.state → Later kept Q.state → Later kept (if b then P else Q).state
  either_later kept true P Q first second = first
  either_later kept false P Q first second = second

  module _ (K : Pieces C) where
    with_end_later : (P : Progress C) (reading : ℕ) (body : Body C) (o : Option Flight) → P.state.kept ≤ P.state.now → Later P.state.kept (with_end K P reading body o).state
    with_end_later P reading body None before = (omega arith, before)
    with_end_later P reading body (Some f) before =
        let M = start_of P reading in
        let t = moment P.state reading in
        let N = without_flight M t f.conn in
        let who = caller_of N (Some f.token) in
        let p = end_plan K.size N t who.key body f.upload in
        let first = started P reading before in
        after_start P.state.kept M (end K.size M t f body P.words).state first.0 (outcome_later N t P.words p (first_fault (upload_rules N t who f.upload p.exists ++ p.own)) first.1)

    after_later : (P : Progress C) (s : Step C) → P.state.kept ≤ P.state.now → Later P.state.kept (state_after K P s).state
    after_later P (asks reading token c) before =
        let M = start_of P reading in
        let t = moment P.state reading in
        let first = started P reading before in
        after_start P.state.kept M (ask K M t P.words token c).state first.0 (outcome_later M t P.words (plan_of K M t P.words token c) (first_fault (refusals_of K M t P.words token c)) first.1)
    after_later P (begins reading conn token u) before =
        let M = start_of P reading in
        let t = moment P.state reading in
        let first = started P reading before in
        either_later P.state.kept (is_some (flight_of P.state conn)) P (with_state P (begin_step P reading conn token u).state) (omega arith, before)
        (after_start P.state.kept M (begin M t conn token u).state first.0 (begun_later M t conn token u (first_fault (begin_refusals M t token u)) first.1))
    after_later P (ends reading conn body) before = with_end_later P reading body (flight_of P.state conn) before
    after_later P (loses reading conn) before =
        let M = start_of P reading in
        let t = moment P.state reading in
        let first = started P reading before in
        either_later P.state.kept (is_some (flight_of P.state conn)) (with_state P (without_flight M t conn)) P first (omega arith, before)
    after_later P (passes reading) before = (omega (arith, before), omega arith)
    after_later P (restarts reading) before = (omega arith, omega arith)

    step_later : (P : Progress C) (s : Step C) → P.state.kept ≤ P.state.now → Later P.state.kept (step K P s).state
    step_later P s before = subst (Later P.state.kept) (sym (answer_state (answer_to K P s) (state_after K P s))) (after_later P s before)

    run_later : (P : Progress C) (steps : List (Step C)) → P.state.kept ≤ P.state.now → P.state.kept ≤ (fold (step K) P steps).state.kept
    run_later P [] before = omega arith
    run_later P (s ∷ steps) before =
        let first = step_later P s before in
        let rest = run_later (step K P s) steps first.1 in
        let once = first.0 in
        omega (arith, once, rest)

-- ---- what is locked

module _ {C : Type 0} (lock : Lock) (v : VersionOf C) where
  moved_allows : (M : State C) (t : ℕ) (ch : ChangeOf C) → Allows lock v M (Some ch) → Allows lock v (at_moment M t) (Some ch)
  moved_allows M t (change.Settings s) allows = allows
  moved_allows M t other allows = allows

  moved_keeps : (M : State C) (t : ℕ) → Keeps lock v M → Keeps lock v (at_moment M t)
  moved_keeps M t keeps = record { each = keeps.each; there = keeps.there; given = keeps.given }

  granted_keeps : (M : State C) (o : Option Grant) → Keeps lock v M → Keeps lock v (with_grant o M)
  granted_keeps M None keeps = keeps
  granted_keeps M (Some g) keeps = record { each = keeps.each; there = keeps.there; given = keeps.given }

  recorded_keeps : (M : State C) (t : ℕ) (o : Option (ChangeOf C)) → Keeps lock v M → (IsInTime lock t → Allows lock v M o) → IsInTime lock (with_change (at_moment M t) t o).kept → Keeps lock v (with_change (at_moment M t) t o)
  recorded_keeps M t None keeps allows timely = moved_keeps M t keeps
  recorded_keeps M t (Some ch) keeps allows timely = record_keeps lock v (at_moment M t) t ch (moved_allows M t ch (allows timely)) (moved_keeps M t keeps)

  outcome_keeps : (M : State C) (t : ℕ) (words : List ℕ) (p : Plan C) (o : Option Fault) → Keeps lock v M → (o ≡ None → IsInTime lock t → Allows lock v M p.change) → IsInTime lock (outcome_or_refusal M t words p o).state.kept
      → Keeps lock v (outcome_or_refusal M t words p o).state
  outcome_keeps M t words p (Some fault) keeps allows timely = moved_keeps M t keeps
  outcome_keeps M t words p None keeps allows timely =
      let N = with_change (at_moment M t) t p.change in
      granted_keeps N p.grant (recorded_keeps M t p.change keeps (allows refl) (subst (IsInTime lock) (granted_kept N p.grant) timely))

  -- the lock is on at the moment of a record, or at that of the last one
  recorded_timely : (M : State C) (t : ℕ) (o : Option (ChangeOf C)) → IsInTime lock (with_change (at_moment M t) t o).kept → IsInTime lock t ⊎ IsInTime lock M.kept
  recorded_timely M t None timely = inr timely
  recorded_timely M t (Some ch) timely = inl timely

  outcome_timely : (M : State C) (t : ℕ) (words : List ℕ) (p : Plan C) (o : Option Fault) → IsInTime lock (outcome_or_refusal M t words p o).state.kept → IsInTime lock t ⊎ IsInTime lock M.kept
  outcome_timely M t words p (Some fault) timely = inr timely
  outcome_timely M t words p None timely =
      let N = with_change (at_moment M t) t p.change in
      recorded_timely M t p.change (subst (IsInTime lock) (granted_kept N p.grant) timely)

  if_passed : (b : Bool) (M : State C) (t : ℕ) → Keeps lock v M → IsInTime lock t ⊎ IsInTime lock (if b then with_pass M t else M).kept → Keeps lock v (if b then with_pass M t else M)
  if_passed true M t keeps (inl timely) = pass_keeps lock v M t timely keeps
  if_passed true M t keeps (inr timely) = pass_keeps lock v M t timely keeps
  if_passed false M t keeps timely = keeps

  start_keeps : (P : Progress C) (reading : ℕ) → Keeps lock v P.state → IsInTime lock (moment P.state reading) ⊎ IsInTime lock (start_of P reading).kept → Keeps lock v (start_of P reading)
  start_keeps P reading keeps timely = let t = moment P.state reading in if_passed (nat_lt P.state.pass_day (t / day)) P.state t keeps timely

  begun_keeps : (M : State C) (t conn : ℕ) (token : Option (List ℕ)) (u : UploadCall) (o : Option Fault) → Keeps lock v M → Keeps lock v (begin_as M t conn token u o).state
  begun_keeps M t conn token u (Some fault) keeps = moved_keeps M t keeps
  begun_keeps M t conn token u None keeps = record { each = keeps.each; there = keeps.there; given = keeps.given }

  begun_timely : (M : State C) (t conn : ℕ) (token : Option (List ℕ)) (u : UploadCall) (o : Option Fault) → IsInTime lock (begin_as M t conn token u o).state.kept → IsInTime lock M.kept
  begun_timely M t conn token u (Some fault) timely = timely
  begun_timely M t conn token u None timely = timely

  landed_keeps : (M : State C) (t conn : ℕ) → Keeps lock v M → Keeps lock v (without_flight M t conn)
  landed_keeps M t conn keeps = record { each = keeps.each; there = keeps.there; given = keeps.given }

  either_keeps : (b : Bool) (P Q : Progress C) → IsInTime lock (if b then P else Q).state.kept → (IsInTime lock P.state.kept → Keeps lock v P.state) → (IsInTime lock Q.state.kept → Keeps lock v Q.state) → Keeps lock v (if b then P else Q).state
  either_keeps true P Q timely first second = first timely
  either_keeps false P Q timely first second = second timely

  module _ (K : Pieces C) where
    with_end_keeps : (P : Progress C) (reading : ℕ) (body : Body C) (o : Option Flight) → Keeps lock v P.state → IsInTime lock (with_end K P reading body o).state.kept → Keeps lock v (with_end K P reading body o).state
    with_end_keeps P reading body None keeps timely = keeps
    with_end_keeps P reading body (Some f) keeps timely =
        let M = start_of P reading in
        let t = moment P.state reading in
        let N = without_flight M t f.conn in
        let who = caller_of N (Some f.token) in
        let p = end_plan K.size N t who.key body f.upload in
        let o = first_fault (upload_rules N t who f.upload p.exists ++ p.own) in
        let landed = landed_keeps M t f.conn (start_keeps P reading keeps (outcome_timely N t P.words p o timely)) in
        outcome_keeps N t P.words p o landed (λ none before. end_fits lock v K.size N t who.key body f.upload landed (all_pass p.own (none_in (upload_rules N t who f.upload p.exists) p.own none).1)) timely

    after_keeps : (P : Progress C) (s : Step C) → Keeps lock v P.state → IsSparing K lock (id_of v) P s → IsInTime lock (state_after K P s).state.kept → Keeps lock v (state_after K P s).state
    after_keeps P (asks reading token c) keeps sparing timely =
        let M = start_of P reading in
        let t = moment P.state reading in
        let p = plan_of K M t P.words token c in
        let o = first_fault (refusals_of K M t P.words token c) in
        let start = start_keeps P reading keeps (outcome_timely M t P.words p o timely) in
        outcome_keeps M t P.words p o start (λ none before. plan_fits lock v K M t P.words (shown_by M token c) c start before (sparing none)
        (all_pass p.own (none_in (if is_open M c then p.exists else first_rules M t (caller_of M token) c p.exists) p.own none).1)) timely
    after_keeps P (begins reading conn token u) keeps sparing timely =
        let M = start_of P reading in
        let t = moment P.state reading in
        let o = first_fault (begin_refusals M t token u) in
        either_keeps (is_some (flight_of P.state conn)) P (with_state P (begin_step P reading conn token u).state) timely (λ same. keeps)
        (λ later. begun_keeps M t conn token u o (start_keeps P reading keeps (inr (begun_timely M t conn token u o later))))
    after_keeps P (ends reading conn body) keeps sparing timely = with_end_keeps P reading body (flight_of P.state conn) keeps timely
    after_keeps P (loses reading conn) keeps sparing timely =
        let M = start_of P reading in
        let t = moment P.state reading in
        either_keeps (is_some (flight_of P.state conn)) (with_state P (without_flight M t conn)) P timely
        (λ later. landed_keeps M t conn (start_keeps P reading keeps (inr later))) (λ same. keeps)
    after_keeps P (passes reading) keeps sparing timely = pass_keeps lock v P.state (moment P.state reading) timely keeps
    after_keeps P (restarts reading) keeps sparing timely = record { each = keeps.each; there = keeps.there; given = keeps.given }

    step_keeps : (P : Progress C) (s : Step C) → Keeps lock v P.state → IsSparing K lock (id_of v) P s → IsInTime lock (step K P s).state.kept → Keeps lock v (step K P s).state
    step_keeps P s keeps sparing timely =
        let same = answer_state (answer_to K P s) (state_after K P s) in
        subst (Keeps lock v) (sym same) (after_keeps P s keeps sparing (subst (λ (M : State C). IsInTime lock M.kept) same timely))

    run_keeps : (P : Progress C) (steps : List (Step C)) → P.state.kept ≤ P.state.now → Keeps lock v P.state → AreSparing K lock (id_of v) P steps → IsInTime lock (fold (step K) P steps).state.kept → Keeps lock v (fold (step K) P steps).state
    run_keeps P [] before keeps sparing timely = keeps
    run_keeps P (s ∷ steps) before keeps sparing timely =
        let Q = step K P s in
        let later = step_later K P s before in
        run_keeps Q steps later.1 (step_keeps P s keeps sparing.0 (sooner lock Q.state.kept (fold (step K) Q steps).state.kept (run_later K Q steps later.1) timely)) sparing.1 timely

pub locked_after : {C : Type 0} (K : Pieces C) (P : Progress C) (s : Step C) (lock : Lock) (v : VersionOf C) → IsSound P.state → Stands lock v P.state → IsSparing K lock (id_of v) P s → IsInTime lock (step K P s).state.kept
    → Stands lock v (step K P s).state
locked_after K P s lock v sound stands sparing timely = keeps_stands lock v (step K P s).state (step_keeps lock v K P s (keeps_from lock v P.state sound stands) sparing timely)

pub locked_run : {C : Type 0} (K : Pieces C) (P : Progress C) (steps : List (Step C)) (lock : Lock) (v : VersionOf C) → IsSound P.state → Stands lock v P.state → AreSparing K lock (id_of v) P steps → IsInTime lock (fold (step K) P steps).state.kept
    → Stands lock v (fold (step K) P steps).state
locked_run K P steps lock v sound stands sparing timely =
    keeps_stands lock v (fold (step K) P steps).state (run_keeps lock v K P steps sound.moments (keeps_from lock v P.state sound stands) sparing timely)
