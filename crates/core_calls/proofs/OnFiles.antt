-- What calls on a file come to.
use Rattle.std.proofs.Common.{ℕ, Bool, false, not, ◌||◌, [], List, Option, None, unwrap_or, ◌∷◌, refl}
use Rattle.b2_base.specs.declared.extent.Extent.{Extent}
use Rattle.rule_table.specs.declared.cap.Cap.TheVariants.{BypassGovernance}
use Rattle.rule_table.specs.declared.fault.FaultKind.TheVariants.{NoFile}
use Rattle.b2_types.specs.declared.call.DeleteVersion.{DeleteVersion}
use Rattle.b2_types.specs.declared.call.FileCall.{FileCall}
use Rattle.b2_types.specs.declared.call.UpdateHold.{UpdateHold}
use Rattle.b2_types.specs.declared.call.UpdateRetention.{UpdateRetention}
use Rattle.b2_types.specs.declared.call.Call.TheVariants as call
use Rattle.b2_types.specs.declared.version.VersionOf.{VersionOf}
use Rattle.b2_types.specs.declared.record.ChangeOf.TheVariants as change
use Rattle.b2_types.specs.declared.shown.Shown.TheVariants as shown
use Rattle.b2_model.specs.AskFiles.{has_lock, is_other_name}
use Rattle.b2_model.specs.Checks.{Check, check}
use Rattle.b2_model.specs.Kinds.{is_upload}
use Rattle.b2_model.specs.Locks.{active_retention, deletion_rules, retention_rules}
use Rattle.b2_model.specs.State.{State}
use Rattle.b2_model.specs.Rows.{version_at}
use Rattle.b2_model.specs.Policy.{caller_of}
use Rattle.b2_model.specs.Shown.{may, shown_file, shown_name}
use Rattle.b2_model.specs.AskLarge.{not_large}
use Rattle.b2_model.specs.Plan.{bad_until, id_of, lock_off, shows, writes}
use Rattle.new_versions.specs.Decided.{extent_len}
use Rattle.core_decisions.proofs.Forms.{Form}

abbrev pub info_form : (M : State Extent) (t : ℕ) (token : Option (List ℕ)) (c : FileCall) → Form M t token (call.GetFileInfo c) (VersionOf Extent)
info_form M t token c = record {
  absent = NoFile;
  thing = version_at M c.bucket c.file;
  plan = λ copy words v. shows [] (shown.File (shown_file extent_len M.settings (caller_of M token).key v));
  quiet = λ copy words v. refl;
  refusals = λ copy words. refl;
  is = λ copy words. refl;
}

abbrev pub cancel_form : (M : State Extent) (t : ℕ) (token : Option (List ℕ)) (c : FileCall) → Form M t token (call.CancelLargeFile c) (VersionOf Extent)
cancel_form M t token c = record {
  absent = NoFile;
  thing = version_at M c.bucket c.file;
  plan = λ copy words v. writes (not_large v ∷ []) (change.Cancel (id_of v)) (shown.Cancelled (record { account = M.settings.account; file = shown_name v }));
  quiet = λ copy words v. refl;
  refusals = λ copy words. refl;
  is = λ copy words. refl;
}

-- ---- rules of Object Lock

abbrev pub kept_by : ℕ → DeleteVersion → VersionOf Extent → Bool → List Check
kept_by t c v bypasses = check NoFile (is_other_name v c.name) ∷ deletion_rules t v (unwrap_or c.bypass false) bypasses

abbrev pub hold_rules : UpdateHold → VersionOf Extent → Bool → List Check
hold_rules c v lock = check NoFile (is_other_name v c.name || not (is_upload v.action)) ∷ lock_off None c.hold lock ∷ []

abbrev pub new_retention_rules : ℕ → UpdateRetention → VersionOf Extent → Bool → Bool → List Check
new_retention_rules t c v lock bypasses =
    check NoFile (is_other_name v c.name || not (is_upload v.action))
    ∷ lock_off c.retention false lock
    ∷ bad_until t c.retention
    ∷ retention_rules (active_retention t v) c.retention (unwrap_or c.bypass false) bypasses

abbrev pub delete_form : (M : State Extent) (t : ℕ) (token : Option (List ℕ)) (c : DeleteVersion) → Form M t token (call.DeleteFileVersion c) (VersionOf Extent)
delete_form M t token c = record {
  absent = NoFile;
  thing = version_at M c.bucket c.file;
  plan = λ copy words v. writes (kept_by t c v (may (caller_of M token).key BypassGovernance)) (change.VersionDrop (id_of v)) (shown.Deleted (shown_name v));
  quiet = λ copy words v. refl;
  refusals = λ copy words. refl;
  is = λ copy words. refl;
}

abbrev pub hold_form : (M : State Extent) (t : ℕ) (token : Option (List ℕ)) (c : UpdateHold) → Form M t token (call.UpdateFileLegalHold c) (VersionOf Extent)
hold_form M t token c = record {
  absent = NoFile;
  thing = version_at M c.bucket c.file;
  plan = λ copy words v. writes (hold_rules c v (has_lock M v.bucket)) (change.Hold (id_of v) c.hold) (shown.Hold (shown_name v) c.hold);
  quiet = λ copy words v. refl;
  refusals = λ copy words. refl;
  is = λ copy words. refl;
}

abbrev pub retention_form : (M : State Extent) (t : ℕ) (token : Option (List ℕ)) (c : UpdateRetention) → Form M t token (call.UpdateFileRetention c) (VersionOf Extent)
retention_form M t token c = record {
  absent = NoFile;
  thing = version_at M c.bucket c.file;
  plan = λ copy words v. writes (new_retention_rules t c v (has_lock M v.bucket) (may (caller_of M token).key BypassGovernance)) (change.Retain (id_of v) c.retention) (shown.Retention (shown_name v) c.retention);
  quiet = λ copy words v. refl;
  refusals = λ copy words. refl;
  is = λ copy words. refl;
}
