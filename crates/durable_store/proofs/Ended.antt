-- What the end of an upload makes of the state over extents.
use Rattle.std.proofs.Common.{◌≡◌, ℕ, ◌≤◌, ◌/◌, nat_lt, Bool, true, false, if◌then◌else◌, Option, Some, None, Result, Ok, Err, IfOk, refl, ap, sym, ◌∙◌, subst, arith}
use Rattle.std.specs.Option.{IsSome}
use Rattle.std.proofs.lemmas.Bool.{false≢true}
use Rattle.b2_base.specs.declared.extent.Extent.{Extent}
use Rattle.b2_types.specs.declared.answer.AnswerOf.{AnswerOf}
use Rattle.b2_types.specs.declared.key.Flight.{Flight}
use Rattle.b2_types.specs.declared.record.RecordOf.{RecordOf}
use Rattle.b2_model.specs.Body.{Body}
use Rattle.b2_model.specs.Changes.{after_record}
use Rattle.b2_model.specs.Kinds.{day}
use Rattle.b2_model.specs.Run.{with_daily_pass, with_pass}
use Rattle.b2_model.specs.State.{State}
use Rattle.b2_model.specs.UploadSteps.{flight_of, without_flight}
use Rattle.flight_laws.proofs.Finds.{found_conn}
use Rattle.flight_laws.proofs.Laws.{day_keeps}
use Rattle.core_decisions.specs.declared.decision.Decision.{Decision}
use Rattle.core_decisions.specs.declared.decision.Decision.TheVariants as decision
use Rattle.core_decisions.specs.Decided.{answering}
use Rattle.core_uploads.specs.Uploads.{IsEnd, IsEndWritable}
use Rattle.durable_store.specs.Ends.{IsDecided, IsPlain}
use Rattle.durable_store.specs.declared.store.Store.{Store}
use Rattle.durable_store.proofs.PlainEnds.{told_plain}

from_both : {X E : Type 0} (r : Result X E) (P Q R : X → Type 0) → ((x : X) → P x → Q x → R x) → IfOk r P → IfOk r Q → IfOk r R
from_both (Ok x) P Q R by first second = by x first second
from_both (Err e) P Q R by first second = tt

-- a store and an answer that are told apart
pub decided_by : {E : Type 0} (M : State Extent) (t : ℕ) (f : Flight) (body : Body Extent) (r : Result (Store × AnswerOf Extent) E) (N : State Extent) (told : AnswerOf Extent) → IsDecided M t f body N told
    → IfOk r (λ x. x.0.core ≡ N) → IfOk r (λ x. x.1 ≡ told) → IfOk r (λ x. IsDecided M t f body x.0.core x.1)
decided_by M t f body r N told is state answer = from_both r (λ x. x.0.core ≡ N) (λ x. x.1 ≡ told) (λ x. IsDecided M t f body x.0.core x.1)
    (λ x core_is told_is. subst (λ X. IsDecided M t f body X x.1) (sym core_is) (subst (IsDecided M t f body N) (sym told_is) is)) state answer

module _ (M N : State Extent) (t : ℕ) (f : Flight) (body : Body Extent) (left : N ≡ without_flight M t f.conn) where
  pub replied : (told : AnswerOf Extent) → IsEnd M t f body (decision.Reply told) → IsDecided M t f body N told
  unfolding IsEnd
  replied told ended = λ words. ended.1 words ∙ ap (λ X. answering X told words) (sym left)

  pub recorded : (r : RecordOf Extent) (told : AnswerOf Extent) → IsEnd M t f body (decision.Write r told) → IsDecided M t f body (after_record N r) told
  unfolding IsEnd
  recorded r told ended = λ words. ended.1 words ∙ ap (λ X. answering (after_record X r) told words) (sym left)

  pub writable : (d : Decision) → IsEnd M t f body d → IsEndWritable N body d
  unfolding IsEnd
  writable d ended = subst (λ X. IsEndWritable X body d) (sym left) ended.0

found : (o : Option Flight) → IsSome o → (f : Flight) × (o ≡ Some f)
found None some = absurd (false≢true some)
found (Some f) some = (f, refl)

-- ---- after the pass of a day

pub kept_on_day : (M K : State Extent) (t : ℕ) → K ≡ with_daily_pass M t → M.kept ≤ t → K.kept ≤ t
kept_on_day M K t is le = subst (λ X. X.kept ≤ t) (sym is) (by (nat_lt M.pass_day (t / day)))
  where
    by : (b : Bool) → (if b then with_pass M t else M).kept ≤ t
    by true = omega arith
    by false = le

pub still_there : (M K : State Extent) (t c : ℕ) → K ≡ with_daily_pass M t → IsSome (flight_of M c) → IsSome (flight_of K c)
still_there M K t c is some = subst IsSome (sym (ap (λ X. flight_of X c) is ∙ day_keeps M t c)) some

module _ (M K N : State Extent) (t c : ℕ) (body : Body Extent) (d : Decision) (day_is : K ≡ with_daily_pass M t) (left : N ≡ without_flight K t c) (ended : (f : Flight) → flight_of K c ≡ Some f → IsEnd K t f body d) where
  on_day : (f : Flight) → flight_of M c ≡ Some f → flight_of K c ≡ Some f
  on_day f there = ap (λ X. flight_of X c) day_is ∙ day_keeps M t c ∙ there

  left_by : (f : Flight) → flight_of M c ≡ Some f → N ≡ without_flight K t f.conn
  left_by f there = left ∙ ap (λ (n : ℕ). without_flight K t n) (sym (found_conn c K.flights f (on_day f there)))

  pub writable_then : IsSome (flight_of M c) → IsEndWritable N body d
  writable_then some =
      let f = found (flight_of M c) some in
      writable K N t f.0 body (left_by f.0 f.1) d (ended f.0 (on_day f.0 f.1))

  module _ (R : State Extent) (told : AnswerOf Extent) (by : (M : State Extent) (t : ℕ) (f : Flight) (b : Body Extent) → N ≡ without_flight M t f.conn → IsEnd M t f b d → IsDecided M t f b R told) where
    pub decided_then : (f : Flight) → flight_of M c ≡ Some f → IsDecided (with_daily_pass M t) t f body R told
    decided_then f there = subst (λ X. IsDecided X t f body R told) day_is (by K t f body (left_by f there) (ended f (on_day f there)))

    pub plain_then : IsSome (flight_of M c) → IsPlain told
    plain_then some =
        let f = found (flight_of M c) some in
        told_plain (with_daily_pass M t) t f.0 body R told (decided_then f.0 f.1)
