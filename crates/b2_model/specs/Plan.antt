-- What a call comes to where it is not refused, and the rules that stand before that.
use Rattle.std.specs.Prelude.{ℕ, Bool, true, not, ◌&&◌, ◌||◌, ◌==◌, ◌-◌, ◌^◌, nat_lt, List, [], ◌∷◌, Option, Some, None, slice_index}
use Rattle.std.specs.Option.{is_some}
use Rattle.rule_table.specs.declared.fault.FaultKind.{FaultKind}
use Rattle.rule_table.specs.declared.fault.FaultKind.TheVariants.{NoBucket, NoFile, LockOff, BadUntil, Cap}
use Rattle.b2_types.specs.declared.kinds.Retention.{Retention}
use Rattle.b2_types.specs.declared.bucket.Bucket.{Bucket}
use Rattle.b2_types.specs.declared.key.Key.{Key}
use Rattle.b2_types.specs.declared.key.Grant.{Grant}
use Rattle.b2_types.specs.declared.version.VersionOf.{VersionOf}
use Rattle.b2_types.specs.declared.record.VersionId.{VersionId}
use Rattle.b2_types.specs.declared.record.ChangeOf.{ChangeOf}
use Rattle.b2_types.specs.declared.answer.AnswerOf.{AnswerOf}
use Rattle.b2_types.specs.declared.answer.AnswerOf.TheVariants as answer
use Rattle.b2_types.specs.declared.shown.Shown.{Shown}
use Rattle.b2_types.specs.Fault.{plain}
use Rattle.b2_model.specs.Checks.{Check, check, some_and}
use Rattle.b2_model.specs.State.{State, bucket_at}
use Rattle.b2_model.specs.Rows.{version_at}
use Rattle.b2_model.specs.LiveGrant.{token_of}

pub record Plan (C : Type 0) : Type 0 where
  -- that what the call names stands
  pub exists : List Check
  -- the refusals of the state, of locks and of numbers, in their order
  pub own : List Check
  -- how many random words are drawn
  pub words : ℕ
  pub grant : Option Grant
  pub change : Option (ChangeOf C)
  pub answer : AnswerOf C

-- a plan that answers and does nothing
abbrev pub answers : {C : Type 0} → List Check → AnswerOf C → Plan C
answers own answer = record { exists = []; own = own; words = 0; grant = None; change = None; answer = answer }

-- a plan that shows something and does nothing
abbrev pub shows : {C : Type 0} → List Check → Shown → Plan C
shows own shown = answers own (answer.Json shown)

-- a plan that writes a record
abbrev pub writes : {C : Type 0} → List Check → ChangeOf C → Shown → Plan C
writes own change shown =
    record { exists = []; own = own; words = 0; grant = None; change = Some change; answer = answer.Json shown }

-- a plan that gives a token, for which two words are drawn
abbrev pub grants : {C : Type 0} → List Check → Grant → Shown → Plan C
grants own grant shown =
    record { exists = []; own = own; words = 2; grant = Some grant; change = None; answer = answer.Json shown }

-- what the call names isn't there
abbrev pub absent_plan : {C : Type 0} → FaultKind → Plan C
absent_plan kind = record (answers [] (answer.Refused (plain kind))) { exists = check kind true ∷ [] }

abbrev pub or_absent : {C X : Type 0} → FaultKind → (X → Plan C) → Option X → Plan C
or_absent kind plan None = absent_plan kind
or_absent kind plan (Some x) = plan x

-- a plan on the bucket of this number
abbrev pub on_bucket : {C : Type 0} → State C → ℕ → (Bucket → Plan C) → Plan C
on_bucket M num plan = or_absent NoBucket plan (bucket_at M num)

-- a plan on the version of this bucket and number
abbrev pub on_file : {C : Type 0} → State C → ℕ → ℕ → (VersionOf C → Plan C) → Plan C
on_file M bucket num plan = or_absent NoFile plan (version_at M bucket num)

abbrev pub id_of : {C : Type 0} → VersionOf C → VersionId
id_of v = record { bucket = v.bucket; num = v.num }

-- ---- rules of numbers and locks

-- no serial is left
abbrev pub no_serial : {C : Type 0} → State C → Check
no_serial M = check Cap (M.serial == 2 ^ 64 - 1)

-- no number of a version is left
abbrev pub no_version : {C : Type 0} → State C → Check
no_version M = check Cap (nat_lt M.settings.last_version M.next_version)

-- the last number of a bucket or key is never given
abbrev pub number_end : ℕ
number_end = 4294967295

-- a retention or a hold is asked for in a bucket without Object Lock
abbrev pub lock_off : Option Retention → Bool → Bool → Check
lock_off retention hold lock = check LockOff ((is_some retention || hold) && not lock)

-- a retention is asked for that has ended
abbrev pub bad_until : ℕ → Option Retention → Check
bad_until t retention = check BadUntil (some_and (λ r. not (nat_lt t r.until)) retention)

-- ---- tokens and URLs

-- the text of a new token, from the next two words
abbrev pub new_token : {C : Type 0} → State C → List ℕ → List ℕ
new_token M words = token_of M (slice_index words 0) (slice_index words 1)

-- the number of the key that asks
abbrev pub key_num : Option Key → ℕ
key_num None = 0
key_num (Some k) = k.num
