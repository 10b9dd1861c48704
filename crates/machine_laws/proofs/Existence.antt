-- What a call is judged by of what stands: a bucket, a file or a key.
use Rattle.std.proofs.Common.{ℕ, List, Option, Some, None, unwrap_or}
use Rattle.std.specs.List.{AllByRecursion}
use Rattle.rule_table.specs.declared.fault.FaultKind.{FaultKind}
use Rattle.rule_table.specs.declared.fault.FaultKind.TheVariants.{NoBucket, NoFile, NoKey}
use Rattle.b2_types.specs.declared.bucket.Bucket.{Bucket}
use Rattle.b2_types.specs.declared.key.Key.{Key}
use Rattle.b2_types.specs.declared.version.VersionOf.{VersionOf}
use Rattle.b2_types.specs.declared.call.Call.{Call}
use Rattle.b2_types.specs.declared.call.Call.TheVariants as call
use Rattle.b2_types.specs.declared.call.CopyFile.{CopyFile}
use Rattle.b2_types.specs.declared.call.CopyPart.{CopyPart}
use Rattle.b2_model.specs.State.{State, Pieces, bucket_at}
use Rattle.b2_model.specs.Rows.{version_at}
use Rattle.b2_model.specs.Current.{current as newest}
use Rattle.b2_model.specs.Plan.{Plan, or_absent}
use Rattle.b2_model.specs.Policy.{bucket_named}
use Rattle.b2_model.specs.AskKeys.{drop_key, key_of_id}
use Rattle.b2_model.specs.AskDownloads.{content, or_refused}
use Rattle.b2_model.specs.AskCopies.{file_copy_on, part_copy_on}
use Rattle.b2_model.specs.Ask.{plan}
use Rattle.machine_laws.specs.Rules.{kinds_of, IsJudged, IsOfExistence}

module _ {C : Type 0} where
  abbrev OfExistence : Plan C → Type 0
  OfExistence p = AllByRecursion IsOfExistence (kinds_of p.exists)

  there : {X : Type 0} (kind : FaultKind) (p : X → Plan C) (o : Option X) → IsOfExistence kind → ((x : X) → OfExistence (p x)) → OfExistence (or_absent kind p o)
  there kind p None fit each = (fit, tt)
  there kind p (Some x) fit each = each x

  current : {X : Type 0} (kind : FaultKind) (p : X → Plan C) (o : Option X) → ((x : X) → OfExistence (p x)) → OfExistence (or_refused kind p o)
  current kind p None each = tt
  current kind p (Some x) each = each x

  file_copy_kinds : (P : Pieces C) (M : State C) (key : Option Key) (t : ℕ) (c : CopyFile) (b : Option Bucket) (v : Option (VersionOf C)) → OfExistence (file_copy_on P M key t c b v)
  file_copy_kinds P M key t c None v = (tt, tt)
  file_copy_kinds P M key t c (Some b) None = (tt, tt)
  file_copy_kinds P M key t c (Some b) (Some v) = tt

  part_copy_kinds : (P : Pieces C) (t : ℕ) (c : CopyPart) (v large : Option (VersionOf C)) → OfExistence (part_copy_on P t c v large)
  part_copy_kinds P t c None large = (tt, tt)
  part_copy_kinds P t c (Some v) None = (tt, tt)
  part_copy_kinds P t c (Some v) (Some large) = tt

  pub exists_kinds : (P : Pieces C) (M : State C) (t : ℕ) (words : List ℕ) (key : Option Key) (c : Call) → IsJudged c → AllByRecursion IsOfExistence (kinds_of (plan P M t words key c).exists)
  exists_kinds P M t words key (call.AuthorizeAccount c) judged = absurd judged
  exists_kinds P M t words key (call.CreateBucket c) judged = tt
  exists_kinds P M t words key (call.UpdateBucket c) judged = there NoBucket _ (bucket_at M c.bucket) tt (λ b. tt)
  exists_kinds P M t words key (call.DeleteBucket c) judged = there NoBucket _ (bucket_at M c.bucket) tt (λ b. tt)
  exists_kinds P M t words key (call.ListBuckets c) judged = tt
  exists_kinds P M t words key (call.CreateKey c) judged = (tt, tt)
  exists_kinds P M t words key (call.DeleteKey c) judged = there NoKey (drop_key c.version M) (key_of_id M c.key) tt (λ k. tt)
  exists_kinds P M t words key (call.ListKeys c) judged = tt
  exists_kinds P M t words key (call.GetUploadUrl c) judged = there NoBucket _ (bucket_at M c.bucket) tt (λ b. tt)
  exists_kinds P M t words key (call.StartLargeFile c) judged = there NoBucket _ (bucket_at M c.bucket) tt (λ b. tt)
  exists_kinds P M t words key (call.GetUploadPartUrl c) judged = there NoFile _ (version_at M c.bucket c.file) tt (λ v. tt)
  exists_kinds P M t words key (call.ListParts c) judged = there NoFile _ (version_at M c.bucket c.file) tt (λ v. tt)
  exists_kinds P M t words key (call.FinishLargeFile c) judged = there NoFile _ (version_at M c.bucket c.file) tt (λ v. tt)
  exists_kinds P M t words key (call.CancelLargeFile c) judged = there NoFile _ (version_at M c.bucket c.file) tt (λ v. tt)
  exists_kinds P M t words key (call.ListUnfinishedLargeFiles c) judged = there NoBucket _ (bucket_at M c.bucket) tt (λ b. tt)
  exists_kinds P M t words key (call.ListFileNames c) judged = there NoBucket _ (bucket_at M c.bucket) tt (λ b. tt)
  exists_kinds P M t words key (call.ListFileVersions c) judged = there NoBucket _ (bucket_at M c.bucket) tt (λ b. tt)
  exists_kinds P M t words key (call.GetFileInfo c) judged = there NoFile _ (version_at M c.bucket c.file) tt (λ v. tt)
  exists_kinds P M t words key (call.HideFile c) judged = there NoBucket _ (bucket_at M c.bucket) tt (λ b. tt)
  exists_kinds P M t words key (call.DeleteFileVersion c) judged = there NoFile _ (version_at M c.bucket c.file) tt (λ v. tt)
  exists_kinds P M t words key (call.GetDownloadAuthorization c) judged = there NoBucket _ (bucket_at M c.bucket) tt (λ b. tt)
  exists_kinds P M t words key (call.DownloadFileById c) judged = there NoFile _ (version_at M c.bucket c.file) tt (λ v. tt)
  exists_kinds P M t words key (call.DownloadFileByName c) judged = there NoFile _ (bucket_named M c.bucket) tt (λ b. current NoFile (content P.size M key c.range) (newest M b.num c.name) (λ v. tt))
  exists_kinds P M t words key (call.UpdateFileRetention c) judged = there NoFile _ (version_at M c.bucket c.file) tt (λ v. tt)
  exists_kinds P M t words key (call.UpdateFileLegalHold c) judged = there NoFile _ (version_at M c.bucket c.file) tt (λ v. tt)
  exists_kinds P M t words key (call.CopyFile c) judged = file_copy_kinds P M key t c (bucket_at M (unwrap_or c.bucket c.source.bucket)) (version_at M c.source.bucket c.source.num)
  exists_kinds P M t words key (call.CopyPart c) judged = part_copy_kinds P t c (version_at M c.source.bucket c.source.num) (version_at M c.bucket c.file)
  exists_kinds P M t words key (call.Bad c) judged = absurd judged
