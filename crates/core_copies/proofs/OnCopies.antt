-- What copies come to.
use Rattle.std.proofs.Common.{◌≡◌, ℕ, List, ◌++◌, Option, Some, None, unwrap_or, refl, ap}
use Rattle.b2_base.specs.declared.extent.Extent.{Extent}
use Rattle.rule_table.specs.declared.call.CallName.TheVariants as names
use Rattle.rule_table.specs.declared.cap.Cap.{Cap}
use Rattle.rule_table.specs.declared.fault.FaultKind.TheVariants.{NoBucket, NoFile}
use Rattle.b2_types.specs.Naming.{on_name}
use Rattle.b2_types.specs.declared.fault.Fault.{Fault}
use Rattle.b2_types.specs.declared.bucket.Bucket.{Bucket}
use Rattle.b2_types.specs.declared.call.Call.{Call}
use Rattle.b2_types.specs.declared.call.Call.TheVariants as call
use Rattle.b2_types.specs.declared.call.CopyFile.{CopyFile}
use Rattle.b2_types.specs.declared.call.CopyPart.{CopyPart}
use Rattle.b2_types.specs.declared.key.Key.{Key}
use Rattle.b2_types.specs.declared.version.VersionOf.{VersionOf}
use Rattle.b2_model.specs.AskCopies.{copy_body, file_copy, file_copy_on, part_copy, part_copy_on}
use Rattle.b2_model.specs.Checks.{Check, first_fault}
use Rattle.b2_model.specs.Plan.{Plan, or_absent}
use Rattle.b2_model.specs.Policy.{Caller, caller_of, judged_call}
use Rattle.b2_model.specs.Rows.{version_at}
use Rattle.b2_model.specs.State.{State, bucket_at}
use Rattle.new_versions.specs.Decided.{extent_len}
use Rattle.copy_calls.specs.declared.file.CopiedBytes.{CopiedBytes}
use Rattle.policy_rules.specs.Asked.{numbers}
use Rattle.core_policy.specs.Rules.{absent_beside, both, judged_on, rules_on, standing}
use Rattle.core_decisions.specs.Decided.{Copies, at_extents}
use Rattle.core_decisions.proofs.Forms.{Form, some_is}

-- ---- two things that stand

pub one_stands : {X Y : Type 0} (x : X) (y : Y) (o : Option X) (w : Option Y) → both o w ≡ Some (x, y) → o ≡ Some x
one_stands x y None w is = absurd (cc is)
one_stands x y (Some a) None is = absurd (cc is)
one_stands x y (Some a) (Some b) is = ap (λ p. Some p.0) (some_is (a, b) (x, y) is)

pub other_stands : {X Y : Type 0} (x : X) (y : Y) (o : Option X) (w : Option Y) → both o w ≡ Some (x, y) → w ≡ Some y
other_stands x y None w is = absurd (cc is)
other_stands x y (Some a) None is = absurd (cc is)
other_stands x y (Some a) (Some b) is = ap (λ p. Some p.1) (some_is (a, b) (x, y) is)

-- ---- a copy that makes these bytes of any

abbrev pub makes_them : CopiedBytes → Copies
makes_them bytes pieces at len = record { content = bytes.content; digest = bytes.digest; told = None }

-- all refusals of a plan
abbrev refusals_by : State Extent → ℕ → Option (List ℕ) → Call → Plan Extent → List Check
refusals_by M t token c p = rules_on M t (judged_call c) (caller_of M token) p.exists ++ p.own

-- ---- as a file

abbrev pub file_plan : State Extent → Option Key → ℕ → CopyFile → Copies → Bucket × VersionOf Extent → Plan Extent
file_plan M key t c copy p = file_copy extent_len M key t c p.0 p.1 (copy_body (at_extents copy) p.1 c.range)

pub file_whole : (M : State Extent) (key : Option Key) (t : ℕ) (c : CopyFile) (copy : Copies) (o : Option Bucket) (w : Option (VersionOf Extent))
    → file_copy_on (at_extents copy) M key t c o w ≡ or_absent (absent_beside NoBucket NoFile o) (file_plan M key t c copy) (both o w)
file_whole M key t c copy None w = refl
file_whole M key t c copy (Some b) None = refl
file_whole M key t c copy (Some b) (Some v) = refl

abbrev pub file_form : (M : State Extent) (t : ℕ) (token : Option (List ℕ)) (c : CopyFile) → Form M t token (call.CopyFile c) (Bucket × VersionOf Extent)
file_form M t token c = record {
  absent = absent_beside NoBucket NoFile (bucket_at M (unwrap_or c.bucket c.source.bucket));
  thing = both (bucket_at M (unwrap_or c.bucket c.source.bucket)) (version_at M c.source.bucket c.source.num);
  plan = λ copy words p. file_plan M (caller_of M token).key t c copy p;
  quiet = λ copy words p. refl;
  refusals = λ copy words. ap (refusals_by M t token (call.CopyFile c)) (file_whole M (caller_of M token).key t c copy (bucket_at M (unwrap_or c.bucket c.source.bucket)) (version_at M c.source.bucket c.source.num));
  is = λ copy words. file_whole M (caller_of M token).key t c copy (bucket_at M (unwrap_or c.bucket c.source.bucket)) (version_at M c.source.bucket c.source.num);
}

-- the policy on it, by what it needs besides and by the bucket that it is copied to
abbrev pub file_rules : State Extent → ℕ → CopyFile → Caller → List Cap → ℕ → Option Fault
file_rules M t c who more target = first_fault (rules_on M t (judged_on names.CopyFile more (record (on_name target c.name) { source = Some (numbers c.source) })) who
    (standing (absent_beside NoBucket NoFile (bucket_at M target)) (both (bucket_at M target) (version_at M c.source.bucket c.source.num))))

-- ---- as a part

abbrev pub part_plan : ℕ → CopyPart → Copies → VersionOf Extent × VersionOf Extent → Plan Extent
part_plan t c copy p = part_copy extent_len t c p.0 p.1 (copy_body (at_extents copy) p.0 c.range)

pub part_whole : (t : ℕ) (c : CopyPart) (copy : Copies) (o w : Option (VersionOf Extent)) → part_copy_on (at_extents copy) t c o w ≡ or_absent NoFile (part_plan t c copy) (both o w)
part_whole t c copy None w = refl
part_whole t c copy (Some v) None = refl
part_whole t c copy (Some v) (Some large) = refl

abbrev pub part_form : (M : State Extent) (t : ℕ) (token : Option (List ℕ)) (c : CopyPart) → Form M t token (call.CopyPart c) (VersionOf Extent × VersionOf Extent)
part_form M t token c = record {
  absent = NoFile;
  thing = both (version_at M c.source.bucket c.source.num) (version_at M c.bucket c.file);
  plan = λ copy words p. part_plan t c copy p;
  quiet = λ copy words p. refl;
  refusals = λ copy words. ap (refusals_by M t token (call.CopyPart c)) (part_whole t c copy (version_at M c.source.bucket c.source.num) (version_at M c.bucket c.file));
  is = λ copy words. part_whole t c copy (version_at M c.source.bucket c.source.num) (version_at M c.bucket c.file);
}
