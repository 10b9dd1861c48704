-- What a step does depends on no copy but the one that it makes.
use Rattle.std.proofs.Common.{◌≡◌, ℕ, List, Option, Some, None, option_map, unwrap_or, refl, ap, ◌∙◌}
use Rattle.b2_types.specs.declared.bucket.Bucket.{Bucket}
use Rattle.b2_types.specs.declared.key.Key.{Key}
use Rattle.b2_types.specs.declared.key.Flight.{Flight}
use Rattle.b2_types.specs.declared.call.Call.{Call}
use Rattle.b2_types.specs.declared.call.Call.TheVariants as call
use Rattle.b2_types.specs.declared.call.CopyFile.{CopyFile}
use Rattle.b2_types.specs.declared.call.CopyPart.{CopyPart}
use Rattle.b2_types.specs.declared.version.VersionOf.{VersionOf}
use Rattle.b2_model.specs.Body.{Body}
use Rattle.b2_model.specs.Checks.{first_fault}
use Rattle.b2_model.specs.State.{State, Pieces, bucket_at}
use Rattle.b2_model.specs.Rows.{version_at}
use Rattle.b2_model.specs.Policy.{caller_of}
use Rattle.b2_model.specs.AskCopies.{copy_body, file_copy_on, part_copy_on}
use Rattle.b2_model.specs.Ask.{plan, shown_by, refusals, ask, outcome_or_refusal}
use Rattle.b2_model.specs.UploadSteps.{flight_of}
use Rattle.b2_model.specs.Run.{Step, asks, begins, ends, loses, passes, restarts, Progress, moment, start_of, with_answer, with_outcome, with_end, answer_to, state_after, step}
use Rattle.contents_steps.specs.Copies.{copy_made}

module _ {C : Type 0} where
  -- pieces of which each copy is this
  abbrev pub with_copy : Body C → Pieces C → Pieces C
  with_copy b K = record { size = K.size; copy = λ pieces at len. b }

  -- what a call copies, else this
  abbrev pub copied : Body C → Pieces C → State C → Call → Body C
  copied other K M c = unwrap_or (copy_made K M c) other

  module _ (K : Pieces C) (other : Body C) where
    file_same : (M : State C) (key : Option Key) (t : ℕ) (c : CopyFile) (b : Option Bucket) (v : Option (VersionOf C))
        → file_copy_on (with_copy (unwrap_or (option_map (λ v. copy_body K v c.range) v) other) K) M key t c b v ≡ file_copy_on K M key t c b v
    file_same M key t c None v = refl
    file_same M key t c (Some b) None = refl
    file_same M key t c (Some b) (Some v) = refl

    part_same : (t : ℕ) (c : CopyPart) (v large : Option (VersionOf C)) → part_copy_on (with_copy (unwrap_or (option_map (λ v. copy_body K v c.range) v) other) K) t c v large ≡ part_copy_on K t c v large
    part_same t c None large = refl
    part_same t c (Some v) None = refl
    part_same t c (Some v) (Some large) = refl

    plan_same : (M : State C) (t : ℕ) (words : List ℕ) (key : Option Key) (c : Call) → plan (with_copy (copied other K M c) K) M t words key c ≡ plan K M t words key c
    plan_same M t words key (call.CopyFile c) = file_same M key t c (bucket_at M (unwrap_or c.bucket c.source.bucket)) (version_at M c.source.bucket c.source.num)
    plan_same M t words key (call.CopyPart c) = part_same t c (version_at M c.source.bucket c.source.num) (version_at M c.bucket c.file)
    plan_same M t words key asked = refl

    ask_same : (M : State C) (t : ℕ) (words : List ℕ) (token : Option (List ℕ)) (c : Call) → ask (with_copy (copied other K M c) K) M t words token c ≡ ask K M t words token c
    ask_same M t words token c = ap (λ p. outcome_or_refusal M t words p (first_fault (refusals M t (caller_of M token) c p))) (plan_same M t words (shown_by M token c) c)

    -- what a step copies, else this
    abbrev pub copied_by : Progress C → Step C → Body C
    copied_by R (asks reading token c) = copied other K (start_of R reading) c
    copied_by R step = other

    ended_same : (b : Body C) (R : Progress C) (reading : ℕ) (body : Body C) (o : Option Flight) → with_end (with_copy b K) R reading body o ≡ with_end K R reading body o
    ended_same b R reading body None = refl
    ended_same b R reading body (Some f) = refl

    pub answer_same : (R : Progress C) (s : Step C) → answer_to (with_copy (copied_by R s) K) R s ≡ answer_to K R s
    answer_same R (asks reading token c) = ap (λ o. Some o.answer) (ask_same (start_of R reading) (moment R.state reading) R.words token c)
    answer_same R (begins reading conn token u) = refl
    answer_same R (ends reading conn body) = refl
    answer_same R (loses reading conn) = refl
    answer_same R (passes reading) = refl
    answer_same R (restarts reading) = refl

    after_same : (R : Progress C) (s : Step C) → state_after (with_copy (copied_by R s) K) R s ≡ state_after K R s
    after_same R (asks reading token c) = ap (with_outcome R) (ask_same (start_of R reading) (moment R.state reading) R.words token c)
    after_same R (begins reading conn token u) = refl
    after_same R (ends reading conn body) = ended_same other R reading body (flight_of R.state conn)
    after_same R (loses reading conn) = refl
    after_same R (passes reading) = refl
    after_same R (restarts reading) = refl

    pub step_same : (R : Progress C) (s : Step C) → step (with_copy (copied_by R s) K) R s ≡ step K R s
    step_same R s = ap (λ o. with_answer o (state_after (with_copy (copied_by R s) K) R s)) (answer_same R s) ∙ ap (with_answer (answer_to K R s)) (after_same R s)
