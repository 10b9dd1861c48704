-- Records under a change of contents.
use Rattle.std.proofs.Common.{◌≡◌, ℕ, Bool, true, not, ◌&&◌, ◌==◌, All, Option, Some, None, option_map, refl, ap, ◌∙◌}
use Rattle.std.specs.Option.{is_some}
use Rattle.b2_types.specs.declared.record.VersionId.{VersionId}
use Rattle.b2_types.specs.declared.record.RecordOf.{RecordOf}
use Rattle.b2_types.specs.declared.record.ChangeOf.{ChangeOf}
use Rattle.b2_types.specs.declared.record.ChangeOf.TheVariants as change
use Rattle.b2_types.specs.declared.version.VersionOf.{VersionOf}
use Rattle.b2_model.specs.Kinds.{is_upload, is_start}
use Rattle.b2_model.specs.Checks.{some_and}
use Rattle.b2_model.specs.State.{State, bucket_at}
use Rattle.b2_model.specs.Rows.{version_at}
use Rattle.b2_model.specs.Changes.{after_record}
use Rattle.b2_model.specs.Contents.{version_by, state_by, change_by}
use Rattle.b2_model.specs.Stored.{is_large, stands, may_make, applies_change, is_snap_state}
use Rattle.content_laws.proofs.Mapped.{any-map}
use Rattle.content_laws.proofs.Carried.{version_at-by}
use Rattle.content_laws.proofs.CarriedPass.{changed-by}
use Rattle.contents_agree.specs.ContentsOf.{contents_of}
use Rattle.contents_agree.proofs.Agree.{same_state}
use Rattle.contents_steps.specs.Entries.{record_by}

module _ {C D : Type 0} (f : C → D) where
  passes-by : (test : VersionOf D → Bool) (own : VersionOf C → Bool) → ((v : VersionOf C) → test (version_by f v) ≡ own v) → (o : Option (VersionOf C)) → some_and test (option_map (version_by f) o) ≡ some_and own o
  passes-by test own same None = refl
  passes-by test own same (Some v) = same v

  stands-by : (M : State C) (id : VersionId) (test : VersionOf D → Bool) (own : VersionOf C → Bool) → ((v : VersionOf C) → test (version_by f v) ≡ own v) → stands (state_by f M) id test ≡ stands M id own
  stands-by M id test own same = ap (some_and test) (version_at-by f M id.bucket id.num) ∙ passes-by test own same (version_at M id.bucket id.num)

  may-by : (M : State C) (bucket num : ℕ) → may_make (state_by f M) bucket num ≡ may_make M bucket num
  may-by M bucket num = ap (λ b. is_some (bucket_at M bucket) && not (num == 0) && not b) (any-map (version_by f) (λ v. v.num == num) M.versions)

  pub applies-by : (g : C → D) (M : State C) (ch : ChangeOf C) → applies_change (state_by f M) (change_by g ch) ≡ applies_change M ch
  applies-by g M (change.Settings s) = refl
  applies-by g M (change.Boot n) = refl
  applies-by g M change.Pass = refl
  applies-by g M (change.BucketMake b) = refl
  applies-by g M (change.BucketUpdate b) = refl
  applies-by g M (change.BucketDrop n) = ap (λ b. is_some (bucket_at M n) && not b) (any-map (version_by f) (λ v. v.bucket == n) M.versions)
  applies-by g M (change.Upload v content m digest) = may-by M v.bucket v.num
  applies-by g M (change.Hide id name) = may-by M id.bucket id.num
  applies-by g M (change.Start v) = may-by M v.bucket v.num
  applies-by g M (change.PartPut id n content m digest) = stands-by M id (λ v. is_start v.action) (λ v. is_start v.action) (λ v. refl)
  applies-by g M (change.Finish id retention) = stands-by M id (λ v. is_start v.action) (λ v. is_start v.action) (λ v. refl)
  applies-by g M (change.Cancel id) = stands-by M id (λ v. is_start v.action) (λ v. is_start v.action) (λ v. refl)
  applies-by g M (change.VersionDrop id) = stands-by M id (λ v. true) (λ v. true) (λ v. refl)
  applies-by g M (change.Retain id retention) = stands-by M id (λ v. is_upload v.action) (λ v. is_upload v.action) (λ v. refl)
  applies-by g M (change.Hold id hold) = stands-by M id (λ v. is_upload v.action) (λ v. is_upload v.action) (λ v. refl)
  applies-by g M (change.KeyMake k) = refl
  applies-by g M (change.KeyDrop n) = refl
  applies-by g M (change.SnapState n) = refl
  applies-by g M (change.SnapLarge v) = may-by M v.bucket v.num
  applies-by g M (change.SnapExtents id pieces) = stands-by M id (λ v. is_large v.mark && is_upload v.action) (λ v. is_large v.mark && is_upload v.action) (λ v. refl)

  pub snap-by : (ch : ChangeOf C) → is_snap_state (change_by f ch) ≡ is_snap_state ch
  snap-by (change.SnapState n) = refl
  snap-by other = refl

  abbrev recorded_at : ℕ → State D → State D
  recorded_at t N = record N { now = t; kept = t }

  pub record-by : (g : C → D) (M : State C) (r : RecordOf C) → All (λ c. f c ≡ g c) (contents_of M) → after_record (state_by f M) (record_by g r) ≡ state_by g (after_record M r)
  record-by g M r agree = ap (λ N. after_record N (record_by g r)) (same_state f g M agree) ∙ ap (recorded_at r.at) (changed-by g r.at r.change M)
