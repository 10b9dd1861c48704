-- What a download sends of a content.
use Rattle.std.proofs.Common.{◌≡◌, ℕ, ◌+◌, ◌<◌, ◌≤◌, false, not, if◌then◌else◌, option_and_then, unwrap_or, List, [], ◌∷◌, Option, Some, None, refl, arith}
use Rattle.std.proofs.lemmas.Bool.Decides.{nat_tests}
use Rattle.rule_table.specs.declared.fault.FaultKind.{FaultKind}
use Rattle.rule_table.specs.declared.fault.FaultKind.TheVariants.{P2, NoBucket, NoFile, NoKey, Range}
use Rattle.b2_types.specs.declared.fault.Fault.{Fault}
use Rattle.b2_types.specs.declared.bucket.Bucket.{Bucket}
use Rattle.b2_types.specs.declared.key.Key.{Key}
use Rattle.b2_types.specs.declared.version.VersionOf.{VersionOf}
use Rattle.b2_types.specs.declared.call.Call.{Call}
use Rattle.b2_types.specs.declared.call.Call.TheVariants as call
use Rattle.b2_types.specs.declared.call.CopyFile.{CopyFile}
use Rattle.b2_types.specs.declared.call.CopyPart.{CopyPart}
use Rattle.b2_types.specs.declared.call.ByteRange.{ByteRange}
use Rattle.b2_types.specs.declared.call.ByteRange.TheVariants as range
use Rattle.b2_types.specs.Answer.{IsSendable}
use Rattle.b2_model.specs.Checks.{check, first_fault}
use Rattle.b2_model.specs.State.{State, Pieces, length_of, bucket_at}
use Rattle.b2_model.specs.Plan.{Plan, or_absent}
use Rattle.b2_model.specs.AskDownloads.{misses, span_of, content, or_refused}
use Rattle.b2_model.specs.AskCopies.{file_copy_on, part_copy_on}
use Rattle.b2_model.specs.Ask.{plan, plan_of, shown_by, refusals_of, is_open, first_rules, ask, outcome_or_refusal}
use Rattle.b2_model.specs.AskKeys.{authorize_plan, drop_key, key_of_id}
use Rattle.b2_model.specs.Rows.{version_at}
use Rattle.b2_model.specs.Current.{current as newest}
use Rattle.b2_model.specs.Kinds.{is_upload}
use Rattle.b2_model.specs.Policy.{bucket_named, caller_of, key_by}
use Rattle.machine_laws.specs.Ranges.{IsInOrder, AsksInOrder}
use Rattle.machine_laws.proofs.Passed.{passed, none_in}

-- ---- ranges

in_range : (length : ℕ) (r : ByteRange) → IsInOrder (Some r) → misses length r ≡ false → (0 < (span_of length r).len) × ((span_of length r).at + (span_of length r).len ≤ length)
in_range length (range.Between a b) order hit = (grind (arith, nat_tests, order, hit), grind (arith, nat_tests, order, hit))
in_range length (range.From a) order hit = (grind (arith, nat_tests, hit), grind (arith, nat_tests, hit))
in_range length (range.Last n) order hit = (grind (arith, nat_tests, hit), grind (arith, nat_tests, hit))

-- ---- plans

module _ {C : Type 0} where
  -- what the plan shows, where none of its own rules fails
  abbrev Fine : Plan C → Type 0
  Fine p = first_fault p.own ≡ None → IsSendable p.answer

  there : {X : Type 0} (kind : FaultKind) (p : X → Plan C) (o : Option X) → ((x : X) → Fine (p x)) → Fine (or_absent kind p o)
  there kind p None each = λ none. record {}
  there kind p (Some x) each = each x

  current : {X : Type 0} (kind : FaultKind) (p : X → Plan C) (o : Option X) → ((x : X) → Fine (p x)) → Fine (or_refused kind p o)
  current kind p None each = λ none. record {}
  current kind p (Some x) each = each x

  content_fine : (size : C → ℕ) (M : State C) (key : Option Key) (asked : Option ByteRange) → IsInOrder asked → (v : VersionOf C) → Fine (content size M key asked v)
  content_fine size M key None order v none = record {}
  content_fine size M key (Some r) order v none =
      let length = length_of size v.content in
      let stands = passed (check NoFile (not (is_upload v.action))) (check Range (misses length r) ∷ []) (not (is_upload v.action)) refl none in
      in_range length r order (passed (check Range (misses length r)) [] (misses length r) refl stands.1).0

  file_copy_fine : (P : Pieces C) (M : State C) (key : Option Key) (t : ℕ) (c : CopyFile) (b : Option Bucket) (v : Option (VersionOf C)) → Fine (file_copy_on P M key t c b v)
  file_copy_fine P M key t c None v none = record {}
  file_copy_fine P M key t c (Some b) None none = record {}
  file_copy_fine P M key t c (Some b) (Some v) none = record {}

  part_copy_fine : (P : Pieces C) (t : ℕ) (c : CopyPart) (v large : Option (VersionOf C)) → Fine (part_copy_on P t c v large)
  part_copy_fine P t c None large none = record {}
  part_copy_fine P t c (Some v) None none = record {}
  part_copy_fine P t c (Some v) (Some large) none = record {}

  plan_fine : (P : Pieces C) (M : State C) (t : ℕ) (words : List ℕ) (key : Option Key) (c : Call) → AsksInOrder c → Fine (plan P M t words key c)
  plan_fine P M t words key (call.AuthorizeAccount c) order = there P2 (authorize_plan c.version M t words) (option_and_then (key_by M) c.credentials) (λ k none. record {})
  plan_fine P M t words key (call.CreateBucket c) order = λ none. record {}
  plan_fine P M t words key (call.UpdateBucket c) order = there NoBucket _ (bucket_at M c.bucket) (λ b none. record {})
  plan_fine P M t words key (call.DeleteBucket c) order = there NoBucket _ (bucket_at M c.bucket) (λ b none. record {})
  plan_fine P M t words key (call.ListBuckets c) order = λ none. record {}
  plan_fine P M t words key (call.CreateKey c) order = λ none. record {}
  plan_fine P M t words key (call.DeleteKey c) order = there NoKey (drop_key c.version M) (key_of_id M c.key) (λ k none. record {})
  plan_fine P M t words key (call.ListKeys c) order = λ none. record {}
  plan_fine P M t words key (call.GetUploadUrl c) order = there NoBucket _ (bucket_at M c.bucket) (λ b none. record {})
  plan_fine P M t words key (call.StartLargeFile c) order = there NoBucket _ (bucket_at M c.bucket) (λ b none. record {})
  plan_fine P M t words key (call.GetUploadPartUrl c) order = there NoFile _ (version_at M c.bucket c.file) (λ v none. record {})
  plan_fine P M t words key (call.ListParts c) order = there NoFile _ (version_at M c.bucket c.file) (λ v none. record {})
  plan_fine P M t words key (call.FinishLargeFile c) order = there NoFile _ (version_at M c.bucket c.file) (λ v none. record {})
  plan_fine P M t words key (call.CancelLargeFile c) order = there NoFile _ (version_at M c.bucket c.file) (λ v none. record {})
  plan_fine P M t words key (call.ListUnfinishedLargeFiles c) order = there NoBucket _ (bucket_at M c.bucket) (λ b none. record {})
  plan_fine P M t words key (call.ListFileNames c) order = there NoBucket _ (bucket_at M c.bucket) (λ b none. record {})
  plan_fine P M t words key (call.ListFileVersions c) order = there NoBucket _ (bucket_at M c.bucket) (λ b none. record {})
  plan_fine P M t words key (call.GetFileInfo c) order = there NoFile _ (version_at M c.bucket c.file) (λ v none. record {})
  plan_fine P M t words key (call.HideFile c) order = there NoBucket _ (bucket_at M c.bucket) (λ b none. record {})
  plan_fine P M t words key (call.DeleteFileVersion c) order = there NoFile _ (version_at M c.bucket c.file) (λ v none. record {})
  plan_fine P M t words key (call.GetDownloadAuthorization c) order = there NoBucket _ (bucket_at M c.bucket) (λ b none. record {})
  plan_fine P M t words key (call.DownloadFileById c) order = there NoFile _ (version_at M c.bucket c.file) (content_fine P.size M key c.range order)
  plan_fine P M t words key (call.DownloadFileByName c) order = there NoFile _ (bucket_named M c.bucket) (λ b. current NoFile _ (newest M b.num c.name) (content_fine P.size M key c.range order))
  plan_fine P M t words key (call.UpdateFileRetention c) order = there NoFile _ (version_at M c.bucket c.file) (λ v none. record {})
  plan_fine P M t words key (call.UpdateFileLegalHold c) order = there NoFile _ (version_at M c.bucket c.file) (λ v none. record {})
  plan_fine P M t words key (call.CopyFile c) order = file_copy_fine P M key t c (bucket_at M (unwrap_or c.bucket c.source.bucket)) (version_at M c.source.bucket c.source.num)
  plan_fine P M t words key (call.CopyPart c) order = part_copy_fine P t c (version_at M c.source.bucket c.source.num) (version_at M c.bucket c.file)
  plan_fine P M t words key (call.Bad c) order = λ none. record {}

  outcome_fine : (M : State C) (t : ℕ) (words : List ℕ) (p : Plan C) (o : Option Fault) → (o ≡ None → IsSendable p.answer) → IsSendable (outcome_or_refusal M t words p o).answer
  outcome_fine M t words p None fine = fine refl
  outcome_fine M t words p (Some fault) fine = record {}

  pub sendable : (P : Pieces C) (M : State C) (t : ℕ) (words : List ℕ) (token : Option (List ℕ)) (c : Call) → AsksInOrder c → IsSendable (ask P M t words token c).answer
  sendable P M t words token c order =
      let p = plan_of P M t words token c in
      outcome_fine M t words p (first_fault (refusals_of P M t words token c))
      (λ none. plan_fine P M t words (shown_by M token c) c order (none_in (if is_open M c then p.exists else first_rules M t (caller_of M token) c p.exists) p.own none).1)
