-- What listings come to.
use Rattle.std.proofs.Common.{◌≡◌, ℕ, [], List, Option, Some, ◌∷◌, option_map, unwrap_or, map, refl, sym, subst, ◌&&◌, ◌==◌}
use Rattle.b2_base.specs.declared.extent.Extent.{Extent}
use Rattle.rule_table.specs.declared.fault.FaultKind.TheVariants.{NoBucket, NoFile}
use Rattle.rule_table.specs.declared.call.CallName.{CallName}
use Rattle.b2_types.specs.declared.fault.Fault.{Fault}
use Rattle.b2_types.specs.Naming.{with_prefix}
use Rattle.b2_types.specs.declared.kinds.Action.{Action}
use Rattle.b2_types.specs.declared.kinds.Action.TheVariants as action
use Rattle.b2_types.specs.declared.bucket.Bucket.{Bucket}
use Rattle.b2_types.specs.declared.call.ListBuckets.{ListBuckets}
use Rattle.b2_types.specs.declared.call.ListFiles.{ListFiles}
use Rattle.b2_types.specs.declared.call.ListUnfinished.{ListUnfinished}
use Rattle.b2_types.specs.declared.call.ListParts.{ListParts}
use Rattle.b2_types.specs.declared.call.Call.TheVariants as call
use Rattle.b2_types.specs.declared.version.PartOf.{PartOf}
use Rattle.b2_types.specs.declared.version.VersionOf.{VersionOf}
use Rattle.b2_types.specs.declared.shown.Shown.{Shown}
use Rattle.b2_types.specs.declared.shown.Shown.TheVariants as shown
use Rattle.b2_model.specs.Checks.{first_fault}
use Rattle.b2_model.specs.AskBuckets.{list_buckets}
use Rattle.b2_model.specs.AskLarge.{not_large}
use Rattle.b2_model.specs.AskListings.{listing_of}
use Rattle.b2_model.specs.Pages.{Page, names_page, parts_page, unfinished_page, versions_page}
use Rattle.b2_model.specs.Plan.{Plan, shows}
use Rattle.b2_model.specs.Policy.{Caller, caller_of}
use Rattle.b2_model.specs.Rows.{version_at}
use Rattle.b2_model.specs.Shown.{shown_part}
use Rattle.b2_model.specs.State.{State, bucket_at}
use Rattle.sound_states.specs.Sound.{Holds, IsAscending, IsSound}
use Rattle.sound_states.proofs.Found.{found_has}
use Rattle.sound_states.proofs.Ascending.{ascends_nil}
use Rattle.new_versions.specs.Decided.{extent_len}
use Rattle.core_policy.specs.Rules.{judged_on, rules_on, standing}
use Rattle.core_decisions.proofs.Forms.{Form}
use Rattle.core_listings.specs.Rows.{names_shown, starts_shown, versions_shown}

-- nothing is looked up
abbrev pub buckets_form : (M : State Extent) (t : ℕ) (token : Option (List ℕ)) (c : ListBuckets) → Form M t token (call.ListBuckets c) (Unit {0})
buckets_form M t token c = record {
  absent = NoBucket;
  thing = Some tt;
  plan = λ copy words _. list_buckets M (caller_of M token).key c;
  quiet = λ copy words _. refl;
  refusals = λ copy words. refl;
  is = λ copy words. refl;
}

-- ---- files

abbrev pub versions_form : (M : State Extent) (t : ℕ) (token : Option (List ℕ)) (c : ListFiles) → Form M t token (call.ListFileVersions c) Bucket
versions_form M t token c = record {
  absent = NoBucket;
  thing = bucket_at M c.bucket;
  plan = λ copy words b. shows [] (versions_shown M (caller_of M token).key b.num (versions_page M b.num (listing_of c)));
  quiet = λ copy words b. refl;
  refusals = λ copy words. refl;
  is = λ copy words. refl;
}

abbrev pub names_form : (M : State Extent) (t : ℕ) (token : Option (List ℕ)) (c : ListFiles) → Form M t token (call.ListFileNames c) Bucket
names_form M t token c = record {
  absent = NoBucket;
  thing = bucket_at M c.bucket;
  plan = λ copy words b. shows [] (names_shown M (caller_of M token).key b.num (names_page M b.num (listing_of c)));
  quiet = λ copy words b. refl;
  refusals = λ copy words. refl;
  is = λ copy words. refl;
}

-- the large files that the call asks for
abbrev pub asked_page : State Extent → ListUnfinished → ℕ → Page (VersionOf Extent)
asked_page M c bucket = unfinished_page M bucket (unwrap_or c.prefix []) (unwrap_or c.start 0) c.max

abbrev pub starts_form : (M : State Extent) (t : ℕ) (token : Option (List ℕ)) (c : ListUnfinished) → Form M t token (call.ListUnfinishedLargeFiles c) Bucket
starts_form M t token c = record {
  absent = NoBucket;
  thing = bucket_at M c.bucket;
  plan = λ copy words b. shows [] (starts_shown M (caller_of M token).key (asked_page M c b.num));
  quiet = λ copy words b. refl;
  refusals = λ copy words. refl;
  is = λ copy words. refl;
}

-- what the policy says of names with a prefix
abbrev pub prefix_fault : State Extent → ℕ → CallName → Caller → ℕ → Option (List ℕ) → Option Fault
prefix_fault M t name who bucket prefix =
    first_fault (rules_on M t (judged_on name [] (with_prefix bucket prefix)) who (standing NoBucket (bucket_at M bucket)))

-- ---- parts

-- a page of parts as it is shown
abbrev pub shown_parts : VersionOf Extent → Page (PartOf Extent) → Shown
shown_parts v page = shown.Parts (map (shown_part extent_len v.bucket v.num) page.rows) (option_map (λ p. p.number) page.next)

abbrev pub parts_plan : ListParts → VersionOf Extent → Plan Extent
parts_plan c v = shows (not_large v ∷ []) (shown_parts v (parts_page v (unwrap_or c.start 0) c.max))

abbrev pub parts_form : (M : State Extent) (t : ℕ) (token : Option (List ℕ)) (c : ListParts) → Form M t token (call.ListParts c) (VersionOf Extent)
parts_form M t token c = record {
  absent = NoFile;
  thing = version_at M c.bucket c.file;
  plan = λ copy words v. parts_plan c v;
  quiet = λ copy words v. refl;
  refusals = λ copy words. refl;
  is = λ copy words. refl;
}

-- whatever a version is, its parts ascend by number
ascend_by : {C : Type 0} (a : Action) (v : VersionOf C) → Holds a v → IsAscending (λ p. p.number) v.parts
ascend_by action.Upload v holds = subst (IsAscending (λ p. p.number)) (sym holds.1) (ascends_nil (λ p. p.number))
ascend_by action.Hide v holds = subst (λ w. IsAscending (λ p. p.number) w.parts) (sym holds) (ascends_nil (λ p. p.number))
ascend_by action.Start v holds = holds.parts

pub parts_ascend : {C : Type 0} (M : State C) (bucket num : ℕ) (v : VersionOf C) → IsSound M → version_at M bucket num ≡ Some v → IsAscending (λ p. p.number) v.parts
parts_ascend M bucket num v sound found =
    ascend_by v.action v (found_has (λ w. w.bucket == bucket && w.num == num) (λ w. Holds w.action w) M.versions v sound.versions.hold found).1
