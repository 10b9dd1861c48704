-- What the calls that start and finish a large file come to.
use Rattle.std.proofs.Common.{ℕ, false, List, Option, ◌∷◌, [], unwrap_or, refl}
use Rattle.b2_base.specs.declared.extent.Extent.{Extent}
use Rattle.rule_table.specs.declared.fault.FaultKind.TheVariants.{NoBucket, NoFile}
use Rattle.b2_types.specs.declared.bucket.Bucket.{Bucket}
use Rattle.b2_types.specs.declared.call.Call.TheVariants as call
use Rattle.b2_types.specs.declared.call.FinishCall.{FinishCall}
use Rattle.b2_types.specs.declared.call.StartCall.{StartCall}
use Rattle.b2_types.specs.declared.key.Key.{Key}
use Rattle.b2_types.specs.declared.kinds.Action.TheVariants as action
use Rattle.b2_types.specs.declared.kinds.Mark.TheVariants as mark
use Rattle.b2_types.specs.declared.record.ChangeOf.TheVariants as change
use Rattle.b2_types.specs.declared.shown.Shown.TheVariants as shown
use Rattle.b2_types.specs.declared.version.VersionOf.{VersionOf}
use Rattle.b2_model.specs.AskLarge.{at_finish, new_start}
use Rattle.b2_model.specs.Finish.{finish_rules, finished_file}
use Rattle.b2_model.specs.Plan.{Plan, bad_until, id_of, lock_off, no_version, writes}
use Rattle.b2_model.specs.Policy.{caller_of}
use Rattle.b2_model.specs.Rows.{version_at}
use Rattle.b2_model.specs.Shown.{shown_file}
use Rattle.b2_model.specs.State.{State, bucket_at}
use Rattle.b2_model.specs.Version.{no_digest, version_from}
use Rattle.new_versions.specs.Decided.{extent_len}
use Rattle.core_decisions.proofs.Forms.{Form}

-- the version that is made
abbrev pub started : State Extent → ℕ → StartCall → VersionOf Extent
started M t c = version_from t action.Start [] mark.Large no_digest (new_start M c)

abbrev pub start_plan : State Extent → Option Key → ℕ → StartCall → Bucket → Plan Extent
start_plan M key t c b = writes
    (lock_off c.retention (unwrap_or c.hold false) b.lock ∷ bad_until t c.retention ∷ no_version M ∷ [])
    (change.Start (new_start M c))
    (shown.File (shown_file extent_len M.settings key (started M t c)))

abbrev pub start_form : (M : State Extent) (t : ℕ) (token : Option (List ℕ)) (c : StartCall) → Form M t token (call.StartLargeFile c) Bucket
start_form M t token c = record {
  absent = NoBucket;
  thing = bucket_at M c.bucket;
  plan = λ copy words b. start_plan M (caller_of M token).key t c b;
  quiet = λ copy words b. refl;
  refusals = λ copy words. refl;
  is = λ copy words. refl;
}

abbrev pub finish_plan : State Extent → Option Key → ℕ → FinishCall → VersionOf Extent → Plan Extent
finish_plan M key t c v = writes
    (finish_rules extent_len M.settings.part_min c.digests v)
    (change.Finish (id_of v) (at_finish M t v))
    (shown.File (shown_file extent_len M.settings key (finished_file (at_finish M t v) v)))

abbrev pub finish_form : (M : State Extent) (t : ℕ) (token : Option (List ℕ)) (c : FinishCall) → Form M t token (call.FinishLargeFile c) (VersionOf Extent)
finish_form M t token c = record {
  absent = NoFile;
  thing = version_at M c.bucket c.file;
  plan = λ copy words v. finish_plan M (caller_of M token).key t c v;
  quiet = λ copy words v. refl;
  refusals = λ copy words. refl;
  is = λ copy words. refl;
}
