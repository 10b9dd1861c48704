-- What calls on buckets come to.
use Rattle.std.proofs.Common.{◌≡◌, ℕ, Bool, true, false, not, ◌&&◌, ◌==◌, nat_le, [], List, Option, Some, option_and_then, ◌∷◌, refl}
use Rattle.std.specs.Option.{is_some}
use Rattle.std.specs.List.{list_any}
use Rattle.b2_base.specs.declared.extent.Extent.{Extent}
use Rattle.rule_table.specs.declared.fault.FaultKind.TheVariants.{NoBucket, NotEmpty, Conflict, LockStays, LockOff, Cap}
use Rattle.b2_types.specs.declared.bucket.Bucket.{Bucket}
use Rattle.b2_types.specs.declared.key.Key.{Key}
use Rattle.b2_types.specs.declared.call.CreateBucket.{CreateBucket}
use Rattle.b2_types.specs.declared.call.UpdateBucket.{UpdateBucket}
use Rattle.b2_types.specs.declared.call.DeleteBucket.{DeleteBucket}
use Rattle.b2_types.specs.declared.call.Call.TheVariants as call
use Rattle.b2_types.specs.declared.record.ChangeOf.TheVariants as change
use Rattle.b2_types.specs.declared.shown.Shown.TheVariants as shown
use Rattle.b2_model.specs.AskBuckets.{create_bucket, last_revision, updated_bucket}
use Rattle.b2_model.specs.Checks.{check, check_number, some_and}
use Rattle.b2_model.specs.State.{State, bucket_at}
use Rattle.b2_model.specs.Policy.{caller_of}
use Rattle.b2_model.specs.Shown.{shown_bucket}
use Rattle.b2_model.specs.Plan.{Plan, writes}
use Rattle.core_decisions.proofs.Forms.{Form}

pub not_not : (b : Bool) → not (not b) ≡ b
not_not true = refl
not_not false = refl

-- nothing is looked up
abbrev pub create_form : (M : State Extent) (t : ℕ) (token : Option (List ℕ)) (c : CreateBucket) → Form M t token (call.CreateBucket c) (Unit {0})
create_form M t token c = record {
  absent = NoBucket;
  thing = Some tt;
  plan = λ copy words _. create_bucket M (caller_of M token).key c;
  quiet = λ copy words _. refl;
  refusals = λ copy words. refl;
  is = λ copy words. refl;
}

abbrev pub delete_plan : State Extent → Option Key → Bucket → Plan Extent
delete_plan M key b = writes
    (check NotEmpty (list_any (λ v. v.bucket == b.num) M.versions) ∷ [])
    (change.BucketDrop b.num)
    (shown.Bucket (shown_bucket M.settings key b))

abbrev pub delete_form : (M : State Extent) (t : ℕ) (token : Option (List ℕ)) (c : DeleteBucket) → Form M t token (call.DeleteBucket c) Bucket
delete_form M t token c = record {
  absent = NoBucket;
  thing = bucket_at M c.bucket;
  plan = λ copy words b. delete_plan M (caller_of M token).key b;
  quiet = λ copy words b. refl;
  refusals = λ copy words. refl;
  is = λ copy words. refl;
}

abbrev pub update_plan : State Extent → Option Key → UpdateBucket → Bucket → Plan Extent
update_plan M key c b = writes
    (check_number Conflict b.revision (some_and (λ r. not (r == b.revision)) c.revision)
    ∷ check LockStays (b.lock && not (updated_bucket c b).lock)
    ∷ check LockOff (is_some (option_and_then (λ d. d) c.default) && not (updated_bucket c b).lock)
    ∷ check Cap (nat_le last_revision b.revision)
    ∷ [])
    (change.BucketUpdate (updated_bucket c b))
    (shown.Bucket (shown_bucket M.settings key (updated_bucket c b)))

abbrev pub update_form : (M : State Extent) (t : ℕ) (token : Option (List ℕ)) (c : UpdateBucket) → Form M t token (call.UpdateBucket c) Bucket
update_form M t token c = record {
  absent = NoBucket;
  thing = bucket_at M c.bucket;
  plan = λ copy words b. update_plan M (caller_of M token).key c b;
  quiet = λ copy words b. refl;
  refusals = λ copy words. refl;
  is = λ copy words. refl;
}
