-- Uploads, steps and runs under a change of contents.
use Rattle.std.proofs.Common.{◌≡◌, ℕ, ◌/◌, nat_lt, List, [], ◌∷◌, ◌++◌, Option, Some, None, map, option_map, fold, if◌then◌else◌, refl, ap, ◌∙◌}
use Rattle.std.specs.Option.{is_some}
use Rattle.std.proofs.lemmas.List.{map-append}
use Rattle.b2_types.specs.declared.fault.Fault.{Fault}
use Rattle.b2_types.specs.declared.key.Key.{Key}
use Rattle.b2_types.specs.declared.key.Flight.{Flight}
use Rattle.b2_types.specs.declared.kinds.Action.TheVariants as action
use Rattle.b2_types.specs.declared.call.Call.{Call}
use Rattle.b2_types.specs.declared.upload.DigestRule.{DigestRule}
use Rattle.b2_types.specs.declared.upload.DigestRule.TheVariants as rule
use Rattle.b2_types.specs.declared.upload.UploadCall.{UploadCall}
use Rattle.b2_types.specs.declared.upload.UploadCall.TheVariants as upload
use Rattle.b2_types.specs.declared.answer.AnswerOf.{AnswerOf}
use Rattle.b2_types.specs.declared.version.VersionOf.{VersionOf}
use Rattle.b2_model.specs.Kinds.{day}
use Rattle.b2_model.specs.Checks.{Check, first_fault}
use Rattle.b2_model.specs.State.{State, Pieces}
use Rattle.b2_model.specs.Rows.{version_at}
use Rattle.b2_model.specs.Version.{version_from}
use Rattle.b2_model.specs.Policy.{Caller, caller_of, judged_upload}
use Rattle.b2_model.specs.Ask.{outcome_or_refusal, ask}
use Rattle.b2_model.specs.UploadSteps.{fits, target_of, upload_rules, upload_exists, large_of, begin_rules, begin_refusals, begin_as, begin, Body, agrees, mark_of, new_upload, end_plan, flight_of, without_flight, end_of, end}
use Rattle.b2_model.specs.Run.{Step, asks, begins, ends, loses, passes, restarts, Progress, moment, with_pass, with_daily_pass, with_outcome, with_state, with_end, with_answer, start_of, ask_step, begin_step, end_step, refusal_of, answer_to, state_after, step, run}
use Rattle.b2_model.specs.Contents.{version_by, state_by, plan_by, outcome_by, answer_by, body_by, begun_by, step_by, progress_by, GoAlong}
use Rattle.content_laws.proofs.Mapped.{if_under}
use Rattle.content_laws.proofs.Carried.{version_at-by, shown_file-by, shown_part-by}
use Rattle.content_laws.proofs.CarriedPass.{pass-by}
use Rattle.content_laws.proofs.CarriedAsk.{policy-by, on_bucket-by, on_file-by, none-by, judged-by, ask_by}

module _ {C D : Type 0} (f : C → D) where
  rules-by : (M : State C) (t : ℕ) (who : Caller) (u : UploadCall) (exists : List Check) → upload_rules (state_by f M) t who u exists ≡ upload_rules M t who u exists
  rules-by M t who (upload.File u) exists = policy-by f M t (judged_upload (upload.File u)) (fits (target_of (upload.File u))) who exists
  rules-by M t who (upload.Part u) exists = policy-by f M t (judged_upload (upload.Part u)) (fits (target_of (upload.Part u))) who exists
  rules-by M t who (upload.Bad b) exists = refl

  exists-by : (M : State C) (u : UploadCall) → upload_exists (state_by f M) u ≡ upload_exists M u
  exists-by M (upload.File u) = refl
  exists-by M (upload.Part u) = rw (version_at-by f M u.bucket u.file, none-by f (version_at M u.bucket u.file)) refl
  exists-by M (upload.Bad b) = refl

  large-by : (o : Option (VersionOf C)) → large_of (option_map (version_by f) o) ≡ large_of o
  large-by None = refl
  large-by (Some v) = refl

  begin_rules-by : (M : State C) (t : ℕ) (token : Option (List ℕ)) (u : UploadCall) → begin_rules (state_by f M) t token u ≡ begin_rules M t token u
  begin_rules-by M t token (upload.File u) = refl
  begin_rules-by M t token (upload.Part u) = rw (version_at-by f M u.bucket u.file, large-by (version_at M u.bucket u.file)) refl
  begin_rules-by M t token (upload.Bad b) = refl

  refusals-by : (M : State C) (t : ℕ) (token : Option (List ℕ)) (u : UploadCall) → begin_refusals (state_by f M) t token u ≡ begin_refusals M t token u
  refusals-by M t token u =
      ap (λ exists. upload_rules (state_by f M) t (caller_of M token) u exists ++ begin_rules (state_by f M) t token u) (exists-by M u)
      ∙ ap (λ rules. rules ++ begin_rules (state_by f M) t token u) (rules-by M t (caller_of M token) u (upload_exists M u))
      ∙ ap (λ rules. upload_rules M t (caller_of M token) u (upload_exists M u) ++ rules) (begin_rules-by M t token u)

  begun-by : (M : State C) (t conn : ℕ) (token : Option (List ℕ)) (u : UploadCall) (fault : Option Fault) → begin_as (state_by f M) t conn token u fault ≡ begun_by f (begin_as M t conn token u fault)
  begun-by M t conn token u (Some fault) = refl
  begun-by M t conn token u None = refl

  pub begin-by : (M : State C) (t conn : ℕ) (token : Option (List ℕ)) (u : UploadCall) → begin (state_by f M) t conn token u ≡ begun_by f (begin M t conn token u)
  begin-by M t conn token u =
      ap (λ checks. begin_as (state_by f M) t conn token u (first_fault checks)) (refusals-by M t token u) ∙ begun-by M t conn token u (first_fault (begin_refusals M t token u))

  agrees-by : (r : DigestRule) (body : Body C) → agrees r (body_by f body) ≡ agrees r body
  agrees-by (rule.Given digest) body = refl
  agrees-by rule.AtEnd body = refl
  agrees-by rule.NotVerified body = refl

  abbrev record_at : {E : Type 0} → ℕ → State E → State E
  record_at t N = record N { now = t; kept = t }

  module _ (P : Pieces C) (Q : Pieces D) (along : GoAlong f P Q) where
    end_plan-by : (M : State C) (t : ℕ) (key : Option Key) (body : Body C) (u : UploadCall) → end_plan Q.size (state_by f M) t key (body_by f body) u ≡ plan_by f (end_plan P.size M t key body u)
    end_plan-by M t key body (upload.File u) = on_bucket-by f M u.bucket _ _ (λ b.
        rw (agrees-by u.digest body, shown_file-by f Q.size P.size along.size M.settings key (version_from t action.Upload (body.content ∷ []) (mark_of u.digest) body.digest (new_upload M t b u))) refl)
    end_plan-by M t key body (upload.Part u) = on_file-by f M u.bucket u.file _ _ (λ v.
        rw (agrees-by u.digest body, shown_part-by f Q.size P.size along.size u.bucket u.file (record { number = u.number; content = body.content; mark = mark_of u.digest; digest = body.digest; stamp = t })) refl)
    end_plan-by M t key body (upload.Bad b) = refl

    ended-by : (M : State C) (t : ℕ) (body : Body C) (token : List ℕ) (u : UploadCall) (words : List ℕ)
        → end_of Q.size (state_by f M) t (body_by f body) token u words ≡ outcome_by f (end_of P.size M t body token u words)
    ended-by M t body token u words =
        let who = caller_of M (Some token) in
        let p = end_plan P.size M t who.key body u in
        ap (λ q. outcome_or_refusal (state_by f M) t words q (first_fault (upload_rules (state_by f M) t who u q.exists ++ q.own))) (end_plan-by M t who.key body u)
        ∙ ap (λ checks. outcome_or_refusal (state_by f M) t words (plan_by f p) (first_fault (checks ++ p.own))) (rules-by M t who u p.exists)
        ∙ judged-by f M t words p (first_fault (upload_rules M t who u p.exists ++ p.own))

    pub end-by : (M : State C) (t : ℕ) (fl : Flight) (body : Body C) (words : List ℕ) → end Q.size (state_by f M) t fl (body_by f body) words ≡ outcome_by f (end P.size M t fl body words)
    end-by M t fl body words = ended-by (without_flight M t fl.conn) t body fl.token fl.upload words

    -- ---- steps

    passed-by : (M : State C) (t : ℕ) → with_pass (state_by f M) t ≡ state_by f (with_pass M t)
    passed-by M t = ap (record_at t) (pass-by f t M)

    in_day-by : (M : State C) (t : ℕ) → with_daily_pass (state_by f M) t ≡ state_by f (with_daily_pass M t)
    in_day-by M t = ap (λ N. if nat_lt M.pass_day (t / day) then N else state_by f M) (passed-by M t) ∙ if_under (state_by f) (nat_lt M.pass_day (t / day)) (with_pass M t) M

    start-by : (R : Progress C) (reading : ℕ) → start_of (progress_by f R) reading ≡ state_by f (start_of R reading)
    start-by R reading = in_day-by R.state (moment R.state reading)

    ask_step-by : (R : Progress C) (reading : ℕ) (token : Option (List ℕ)) (c : Call)
        → ask_step Q (progress_by f R) reading token c ≡ outcome_by f (ask_step P R reading token c)
    ask_step-by R reading token c =
        ap (λ N. ask Q N (moment R.state reading) R.words token c) (start-by R reading) ∙ ask_by f P Q along (start_of R reading) (moment R.state reading) R.words token c

    begin_step-by : (R : Progress C) (reading conn : ℕ) (token : Option (List ℕ)) (u : UploadCall)
        → begin_step (progress_by f R) reading conn token u ≡ begun_by f (begin_step R reading conn token u)
    begin_step-by R reading conn token u =
        ap (λ N. begin N (moment R.state reading) conn token u) (start-by R reading) ∙ begin-by (start_of R reading) (moment R.state reading) conn token u

    end_step-by : (R : Progress C) (reading : ℕ) (fl : Flight) (body : Body C) → end_step Q (progress_by f R) reading fl (body_by f body) ≡ outcome_by f (end_step P R reading fl body)
    end_step-by R reading fl body =
        ap (λ N. end Q.size N (moment R.state reading) fl (body_by f body) R.words) (start-by R reading) ∙ end-by (start_of R reading) (moment R.state reading) fl body R.words

    -- what is answered

    refusal-by : (o : Option Fault) → refusal_of {C = D} o ≡ option_map (answer_by f) (refusal_of o)
    refusal-by None = refl
    refusal-by (Some fault) = refl

    end_answer-by : (R : Progress C) (reading : ℕ) (body : Body C) (o : Option Flight)
        → option_map (λ fl. (end_step Q (progress_by f R) reading fl (body_by f body)).answer) o ≡ option_map (answer_by f) (option_map (λ fl. (end_step P R reading fl body).answer) o)
    end_answer-by R reading body None = refl
    end_answer-by R reading body (Some fl) = ap (λ o. Some o.answer) (end_step-by R reading fl body)

    answer-by : (R : Progress C) (s : Step C) → answer_to Q (progress_by f R) (step_by f s) ≡ option_map (answer_by f) (answer_to P R s)
    answer-by R (asks reading token c) = ap (λ o. Some o.answer) (ask_step-by R reading token c)
    answer-by R (begins reading conn token u) =
        ap (λ b. if is_some (flight_of R.state conn) then None else refusal_of b.fault) (begin_step-by R reading conn token u)
        ∙ ap (λ o. if is_some (flight_of R.state conn) then None else o) (refusal-by (begin_step R reading conn token u).fault)
        ∙ if_under (option_map (answer_by f)) (is_some (flight_of R.state conn)) None (refusal_of (begin_step R reading conn token u).fault)
    answer-by R (ends reading conn body) = end_answer-by R reading body (flight_of R.state conn)
    answer-by R (loses reading conn) = refl
    answer-by R (passes reading) = refl
    answer-by R (restarts reading) = refl

    -- what is left after it

    ended_in-by : (R : Progress C) (reading : ℕ) (body : Body C) (o : Option Flight) → with_end Q (progress_by f R) reading (body_by f body) o ≡ progress_by f (with_end P R reading body o)
    ended_in-by R reading body None = refl
    ended_in-by R reading body (Some fl) = ap (with_outcome (progress_by f R)) (end_step-by R reading fl body)

    after-by : (R : Progress C) (s : Step C) → state_after Q (progress_by f R) (step_by f s) ≡ progress_by f (state_after P R s)
    after-by R (asks reading token c) = ap (with_outcome (progress_by f R)) (ask_step-by R reading token c)
    after-by R (begins reading conn token u) =
        ap (λ b. if is_some (flight_of R.state conn) then progress_by f R else with_state (progress_by f R) b.state) (begin_step-by R reading conn token u)
        ∙ if_under (progress_by f) (is_some (flight_of R.state conn)) R (with_state R (begin_step R reading conn token u).state)
    after-by R (ends reading conn body) = ended_in-by R reading body (flight_of R.state conn)
    after-by R (loses reading conn) =
        ap (λ N. if is_some (flight_of R.state conn) then with_state (progress_by f R) (without_flight N (moment R.state reading) conn) else progress_by f R) (start-by R reading)
        ∙ if_under (progress_by f) (is_some (flight_of R.state conn)) (with_state R (without_flight (start_of R reading) (moment R.state reading) conn)) R
    after-by R (passes reading) = ap (with_state (progress_by f R)) (passed-by R.state (moment R.state reading))
    after-by R (restarts reading) = refl

    answered-by : (R : Progress C) (o : Option (AnswerOf C)) → with_answer (option_map (answer_by f) o) (progress_by f R) ≡ progress_by f (with_answer o R)
    answered-by R None = refl
    answered-by R (Some a) = rw (map-append (answer_by f) R.answers (a ∷ [])) refl

    -- a step makes of the changed state what it makes of the state, changed
    pub step-by : (R : Progress C) (s : Step C) → step Q (progress_by f R) (step_by f s) ≡ progress_by f (step P R s)
    step-by R s =
        ap (λ a. with_answer a (state_after Q (progress_by f R) (step_by f s))) (answer-by R s)
        ∙ ap (with_answer (option_map (answer_by f) (answer_to P R s))) (after-by R s)
        ∙ answered-by (state_after P R s) (answer_to P R s)

    run-from : (R : Progress C) (steps : List (Step C)) → fold (step Q) (progress_by f R) (map (step_by f) steps) ≡ progress_by f (fold (step P) R steps)
    run-from R [] = refl
    run-from R (s ∷ steps) = ap (λ S. fold (step Q) S (map (step_by f) steps)) (step-by R s) ∙ run-from (step P R s) steps

pub run_by : {C D : Type 0} (f : C → D) (P : Pieces C) (Q : Pieces D) → GoAlong f P Q → (M : State C) (words : List ℕ) (steps : List (Step C))
    → run Q (state_by f M) words (map (step_by f) steps) ≡ progress_by f (run P M words steps)
run_by f P Q along M words steps = run-from f P Q along (record { state = M; words = words; answers = [] }) steps
