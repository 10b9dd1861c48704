-- Calls on files (the B2 reference, b2_get_upload_url, b2_get_file_info, b2_hide_file,
-- b2_delete_file_version, b2_update_file_retention, b2_update_file_legal_hold).
use Rattle.std.specs.Prelude.{ℕ, Bool, false, not, ◌||◌, List, [], ◌∷◌, ◌++◌, Option, None, unwrap_or, codes, bytes_eq}
use Rattle.std.specs.Option.{is_none}
use Rattle.b2_base.specs.BucketId.{bucket_id}
use Rattle.rule_table.specs.declared.cap.Cap.TheVariants.{BypassGovernance}
use Rattle.rule_table.specs.declared.fault.FaultKind.TheVariants.{NoFile, Hidden}
use Rattle.b2_types.specs.declared.kinds.TokenKind.TheVariants as token
use Rattle.b2_types.specs.declared.key.Key.{Key}
use Rattle.b2_types.specs.declared.key.Grant.{Grant}
use Rattle.b2_types.specs.declared.version.VersionOf.{VersionOf}
use Rattle.b2_types.specs.declared.call.GetUploadUrl.{GetUploadUrl}
use Rattle.b2_types.specs.declared.call.FileCall.{FileCall}
use Rattle.b2_types.specs.declared.call.HideFile.{HideFile}
use Rattle.b2_types.specs.declared.call.DeleteVersion.{DeleteVersion}
use Rattle.b2_types.specs.declared.call.UpdateRetention.{UpdateRetention}
use Rattle.b2_types.specs.declared.call.UpdateHold.{UpdateHold}
use Rattle.b2_types.specs.declared.record.ChangeOf.TheVariants as change
use Rattle.b2_types.specs.declared.shown.Shown.TheVariants as shown
use Rattle.b2_model.specs.Kinds.{is_upload, is_hide, day, later}
use Rattle.b2_model.specs.Checks.{check, some_and}
use Rattle.b2_model.specs.State.{State, bucket_at}
use Rattle.b2_model.specs.Current.{current}
use Rattle.b2_model.specs.Locks.{active_retention, deletion_rules, retention_rules}
use Rattle.b2_model.specs.Version.{marker}
use Rattle.b2_model.specs.Shown.{may, shown_file, shown_name}
use Rattle.b2_model.specs.Plan.{Plan, shows, writes, grants, on_bucket, on_file, id_of, no_serial, no_version, lock_off, bad_until, new_token, key_num}

abbrev pub upload_grant : {C : Type 0} → State C → ℕ → List ℕ → Option Key → ℕ → Grant
upload_grant M t words key bucket = record {
  text = new_token M words;
  kind = token.UploadUrl;
  key = key_num key;
  bucket = bucket;
  file = 0;
  prefix = [];
  end = later t day;
}

abbrev pub upload_url : {C : Type 0} → State C → ℕ → List ℕ
upload_url M bucket = M.settings.url ++ codes "/b2api/v3/b2_upload_file/" ++ bucket_id bucket

abbrev pub get_upload_url : {C : Type 0} → State C → Option Key → ℕ → List ℕ → GetUploadUrl → Plan C
get_upload_url M key t words c = on_bucket M c.bucket (λ b. grants
    (no_serial M ∷ [])
    (upload_grant M t words key b.num)
    (shown.UploadUrl (record { bucket = b.num; token = new_token M words; url = upload_url M b.num })))

abbrev pub get_file_info : {C : Type 0} → (C → ℕ) → State C → Option Key → FileCall → Plan C
get_file_info size M key c = on_file M c.bucket c.file (λ v. shows [] (shown.File (shown_file size M.settings key v)))

abbrev pub hide_file : {C : Type 0} → (C → ℕ) → State C → Option Key → ℕ → HideFile → Plan C
hide_file size M key t c = on_bucket M c.bucket (λ b.
    let newest = current M b.num c.name in
    let hides = marker b.num M.next_version c.name t in
    writes
    (check NoFile (is_none newest) ∷ check Hidden (some_and (λ v. is_hide v.action) newest) ∷ no_version M ∷ [])
    (change.Hide (id_of hides) c.name)
    (shown.File (shown_file size M.settings key hides)))

-- the version has another name than the call gives
abbrev pub is_other_name : {C : Type 0} → VersionOf C → List ℕ → Bool
is_other_name v name = not (bytes_eq v.name name)

abbrev pub delete_version : {C : Type 0} → State C → Option Key → ℕ → DeleteVersion → Plan C
delete_version M key t c = on_file M c.bucket c.file (λ v. writes
    (check NoFile (is_other_name v c.name) ∷ deletion_rules t v (unwrap_or c.bypass false) (may key BypassGovernance))
    (change.VersionDrop (id_of v))
    (shown.Deleted (shown_name v)))

-- whether the bucket has Object Lock
abbrev pub has_lock : {C : Type 0} → State C → ℕ → Bool
has_lock M bucket = some_and (λ b. b.lock) (bucket_at M bucket)

abbrev pub update_retention : {C : Type 0} → State C → Option Key → ℕ → UpdateRetention → Plan C
update_retention M key t c = on_file M c.bucket c.file (λ v. writes
    (check NoFile (is_other_name v c.name || not (is_upload v.action))
    ∷ lock_off c.retention false (has_lock M v.bucket)
    ∷ bad_until t c.retention
    ∷ retention_rules (active_retention t v) c.retention (unwrap_or c.bypass false) (may key BypassGovernance))
    (change.Retain (id_of v) c.retention)
    (shown.Retention (shown_name v) c.retention))

abbrev pub update_hold : {C : Type 0} → State C → UpdateHold → Plan C
update_hold M c = on_file M c.bucket c.file (λ v. writes
    (check NoFile (is_other_name v c.name || not (is_upload v.action)) ∷ lock_off None c.hold (has_lock M v.bucket) ∷ [])
    (change.Hold (id_of v) c.hold)
    (shown.Hold (shown_name v) c.hold))
