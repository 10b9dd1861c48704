-- What the call that hides a name comes to.
use Rattle.std.proofs.Common.{ℕ, List, Option, ◌∷◌, [], refl}
use Rattle.std.specs.Option.{is_none}
use Rattle.b2_base.specs.declared.extent.Extent.{Extent}
use Rattle.rule_table.specs.declared.fault.FaultKind.TheVariants.{Hidden, NoBucket, NoFile}
use Rattle.b2_types.specs.declared.bucket.Bucket.{Bucket}
use Rattle.b2_types.specs.declared.call.Call.TheVariants as call
use Rattle.b2_types.specs.declared.call.HideFile.{HideFile}
use Rattle.b2_types.specs.declared.key.Key.{Key}
use Rattle.b2_types.specs.declared.record.ChangeOf.TheVariants as change
use Rattle.b2_types.specs.declared.shown.Shown.TheVariants as shown
use Rattle.b2_types.specs.declared.version.VersionOf.{VersionOf}
use Rattle.b2_model.specs.Checks.{check, some_and}
use Rattle.b2_model.specs.Current.{current}
use Rattle.b2_model.specs.Kinds.{is_hide}
use Rattle.b2_model.specs.Plan.{Plan, id_of, no_version, writes}
use Rattle.b2_model.specs.Policy.{caller_of}
use Rattle.b2_model.specs.Shown.{shown_file}
use Rattle.b2_model.specs.State.{State, bucket_at}
use Rattle.b2_model.specs.Version.{marker}
use Rattle.new_versions.specs.Decided.{extent_len}
use Rattle.core_decisions.proofs.Forms.{Form}

-- the marker that is made
abbrev pub hides : State Extent → ℕ → HideFile → Bucket → VersionOf Extent
hides M t c b = marker b.num M.next_version c.name t

abbrev pub hide_plan : State Extent → Option Key → ℕ → HideFile → Bucket → Plan Extent
hide_plan M key t c b = writes
    (check NoFile (is_none (current M b.num c.name)) ∷ check Hidden (some_and (λ v. is_hide v.action) (current M b.num c.name)) ∷ no_version M ∷ [])
    (change.Hide (id_of (hides M t c b)) c.name)
    (shown.File (shown_file extent_len M.settings key (hides M t c b)))

abbrev pub hide_form : (M : State Extent) (t : ℕ) (token : Option (List ℕ)) (c : HideFile) → Form M t token (call.HideFile c) Bucket
hide_form M t token c = record {
  absent = NoBucket;
  thing = bucket_at M c.bucket;
  plan = λ copy words b. hide_plan M (caller_of M token).key t c b;
  quiet = λ copy words b. refl;
  refusals = λ copy words. refl;
  is = λ copy words. refl;
}
