-- Calls on buckets (the B2 reference, b2_create_bucket, b2_update_bucket, b2_delete_bucket,
-- b2_list_buckets).
use Rattle.std.specs.Prelude.{ℕ, Bool, true, false, not, ◌&&◌, ◌||◌, ◌==◌, ◌+◌, nat_le, List, [], ◌∷◌, Option, Some, None, if◌then◌else◌, unwrap_or, option_and_then, length, map, filter, codes, bytes_eq}
use Rattle.std.specs.Option.{is_some}
use Rattle.std.specs.List.{list_any}
use Rattle.rule_table.specs.declared.fault.FaultKind.TheVariants.{Duplicate, TooManyBuckets, Conflict, LockStays, LockOff, NotEmpty, Cap}
use Rattle.b2_types.specs.declared.bucket.Bucket.{Bucket}
use Rattle.b2_types.specs.declared.key.Key.{Key}
use Rattle.b2_types.specs.declared.call.CreateBucket.{CreateBucket}
use Rattle.b2_types.specs.declared.call.UpdateBucket.{UpdateBucket}
use Rattle.b2_types.specs.declared.call.DeleteBucket.{DeleteBucket}
use Rattle.b2_types.specs.declared.call.ListBuckets.{ListBuckets}
use Rattle.b2_types.specs.declared.record.ChangeOf.TheVariants as change
use Rattle.b2_types.specs.declared.shown.Shown.TheVariants as shown
use Rattle.b2_model.specs.Checks.{check, check_number, some_and}
use Rattle.b2_model.specs.State.{State}
use Rattle.b2_model.specs.Lists.{is_empty}
use Rattle.b2_model.specs.Policy.{is_same_name}
use Rattle.b2_model.specs.Shown.{shown_bucket}
use Rattle.b2_model.specs.Plan.{Plan, shows, writes, on_bucket, number_end}

-- the most buckets of a store
abbrev pub most_buckets : ℕ
most_buckets = 100

-- the last revision of a bucket, which a JSON number keeps exactly
abbrev pub last_revision : ℕ
last_revision = 9007199254740991

abbrev pub new_bucket : {C : Type 0} → State C → CreateBucket → Bucket
new_bucket M c = record {
  num = M.next_bucket;
  name = c.name;
  public = c.public;
  revision = 1;
  lock = unwrap_or c.lock false;
  default = None;
  info = unwrap_or c.info [];
  rules = unwrap_or c.rules [];
}

abbrev pub create_bucket : {C : Type 0} → State C → Option Key → CreateBucket → Plan C
create_bucket M key c = writes
    (check Duplicate (list_any (λ b. is_same_name b.name c.name) M.buckets)
    ∷ check TooManyBuckets (nat_le most_buckets (length M.buckets))
    ∷ check Cap (M.next_bucket == number_end)
    ∷ [])
    (change.BucketMake (new_bucket M c))
    (shown.Bucket (shown_bucket M.settings key (new_bucket M c)))

-- what is not given stays
abbrev pub updated_bucket : UpdateBucket → Bucket → Bucket
updated_bucket c b = record b {
  public = unwrap_or c.public b.public;
  revision = b.revision + 1;
  lock = unwrap_or c.lock b.lock;
  default = unwrap_or c.default b.default;
  info = unwrap_or c.info b.info;
  rules = unwrap_or c.rules b.rules;
}

abbrev pub update_bucket : {C : Type 0} → State C → Option Key → UpdateBucket → Plan C
update_bucket M key c = on_bucket M c.bucket (λ b. writes
    (check_number Conflict b.revision (some_and (λ r. not (r == b.revision)) c.revision)
    ∷ check LockStays (b.lock && not (updated_bucket c b).lock)
    ∷ check LockOff (is_some (option_and_then (λ d. d) c.default) && not (updated_bucket c b).lock)
    ∷ check Cap (nat_le last_revision b.revision)
    ∷ [])
    (change.BucketUpdate (updated_bucket c b))
    (shown.Bucket (shown_bucket M.settings key (updated_bucket c b))))

abbrev pub delete_bucket : {C : Type 0} → State C → Option Key → DeleteBucket → Plan C
delete_bucket M key c = on_bucket M c.bucket (λ b. writes
    (check NotEmpty (list_any (λ v. v.bucket == b.num) M.versions) ∷ [])
    (change.BucketDrop b.num)
    (shown.Bucket (shown_bucket M.settings key b)))

abbrev pub type_name : Bucket → List ℕ
type_name b = if b.public then codes "allPublic" else codes "allPrivate"

-- the types that are asked for: each, where none are given or `all` is among them
abbrev pub has_type : Option (List (List ℕ)) → Bucket → Bool
has_type None b = true
has_type (Some types) b = is_empty types || list_any (λ t. bytes_eq t (codes "all") || bytes_eq t (type_name b)) types

abbrev pub or_true : {X : Type 0} → (X → Bool) → Option X → Bool
or_true test None = true
or_true test (Some x) = test x

-- the bucket passes each filter that is given
abbrev pub fits_filters : ListBuckets → Bucket → Bool
fits_filters c b = or_true (λ n. b.num == n) c.bucket && or_true (λ name. is_same_name b.name name) c.name && has_type c.types b

abbrev pub list_buckets : {C : Type 0} → State C → Option Key → ListBuckets → Plan C
list_buckets M key c = shows [] (shown.Buckets (map (shown_bucket M.settings key) (filter (fits_filters c) M.buckets)))
