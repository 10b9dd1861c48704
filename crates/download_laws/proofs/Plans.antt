-- What the plan of a call sends: a content of the state, and it does nothing else.
use Rattle.std.proofs.Common.{◌≡◌, ℕ, false, not, ◌&&◌, ◌==◌, List, [], ◌∷◌, All, Contains, Option, Some, None, option_and_then, unwrap_or, bytes_eq, refl, arith}
use Rattle.std.specs.Prelude.{⊤}
use Rattle.std.proofs.lemmas.List.Elements.{All-weaker, All-contains_itself}
use Rattle.rule_table.specs.declared.fault.FaultKind.{FaultKind}
use Rattle.rule_table.specs.declared.fault.FaultKind.TheVariants.{P2, NoBucket, NoFile, NoKey, Range}
use Rattle.b2_types.specs.declared.bucket.Bucket.{Bucket}
use Rattle.b2_types.specs.declared.key.Key.{Key}
use Rattle.b2_types.specs.declared.version.VersionOf.{VersionOf}
use Rattle.b2_types.specs.declared.answer.AnswerOf.{AnswerOf}
use Rattle.b2_types.specs.declared.answer.AnswerOf.TheVariants as answer
use Rattle.b2_types.specs.declared.answer.ContentOf.{ContentOf}
use Rattle.b2_types.specs.declared.call.Call.{Call}
use Rattle.b2_types.specs.declared.call.Call.TheVariants as call
use Rattle.b2_types.specs.declared.call.CopyFile.{CopyFile}
use Rattle.b2_types.specs.declared.call.CopyPart.{CopyPart}
use Rattle.b2_types.specs.declared.call.ByteRange.{ByteRange}
use Rattle.b2_model.specs.Checks.{check, first_fault}
use Rattle.b2_model.specs.State.{State, Pieces, length_of, bucket_at}
use Rattle.b2_model.specs.Plan.{Plan, or_absent}
use Rattle.b2_model.specs.AskDownloads.{misses, content, or_refused}
use Rattle.b2_model.specs.AskCopies.{file_copy_on, part_copy_on}
use Rattle.b2_model.specs.Ask.{plan}
use Rattle.b2_model.specs.AskKeys.{authorize_plan, drop_key, key_of_id}
use Rattle.b2_model.specs.Rows.{rows, version_at}
use Rattle.b2_model.specs.Current.{current as newest}
use Rattle.b2_model.specs.Kinds.{is_upload, is_start}
use Rattle.b2_model.specs.Policy.{bucket_named, key_by}
use Rattle.machine_laws.proofs.Passed.{passed}
use Rattle.sound_states.proofs.Found.{found_has}
use Rattle.contents_agree.specs.ContentsOf.{contents_of}
use Rattle.contents_agree.proofs.Each.{Each, each_version}
use Rattle.lasting_laws.proofs.KeptPass.{rows_all}
use Rattle.download_laws.specs.Sent.{StandsIn, span_sent, LiesIn}
use Rattle.download_laws.proofs.Spans.{in_content}

-- the plan sends this of the state's contents, and does nothing else
pub record IsSent {C : Type 0} (P : Pieces C) (M : State C) (p : Plan C) (x : ContentOf C) : Type 0 where
  pub stands : StandsIn M x
  pub length : x.file.length ≡ length_of P.size x.content
  pub lies : LiesIn x.file.length (span_sent x)
  pub change : p.change ≡ None
  pub grant : p.grant ≡ None
  pub words : p.words ≡ 0

-- of a content that is sent
abbrev pub OfContent : {C : Type 0} → (ContentOf C → Type 0) → AnswerOf C → Type 0
OfContent S (answer.Json shown) = ⊤
OfContent S (answer.Content x) = S x
OfContent S (answer.Refused fault) = ⊤

module _ {C : Type 0} (P : Pieces C) (M : State C) where
  -- what it sends, where none of its own rules fails
  abbrev pub Sends : Plan C → Type 0
  Sends p = first_fault p.own ≡ None → OfContent (IsSent P M p) p.answer

  there : {X : Type 0} (kind : FaultKind) (p : X → Plan C) (o : Option X) → ((x : X) → o ≡ Some x → Sends (p x)) → Sends (or_absent kind p o)
  there kind p None each = λ none. tt
  there kind p (Some x) each = each x refl

  current : {X : Type 0} (kind : FaultKind) (p : X → Plan C) (o : Option X) → ((x : X) → o ≡ Some x → Sends (p x)) → Sends (or_refused kind p o)
  current kind p None each = λ none. tt
  current kind p (Some x) each = each x refl

  -- ---- the contents of versions that are found

  abbrev Owned : VersionOf C → Type 0
  Owned v = All (Contains (contents_of M)) v.content

  all_owned : All Owned M.versions
  all_owned =
      All-weaker (Each (Contains (contents_of M))) Owned (λ v each. each.0) M.versions
      (each_version (Contains (contents_of M)) M (All-contains_itself (contents_of M)))

  found_owned : (bucket num : ℕ) (v : VersionOf C) → version_at M bucket num ≡ Some v → Owned v
  found_owned bucket num v is = (found_has (λ w. w.bucket == bucket && w.num == num) Owned M.versions v all_owned is).1

  newest_owned : (bucket : ℕ) (name : List ℕ) (v : VersionOf C) → newest M bucket name ≡ Some v → Owned v
  newest_owned bucket name v is =
      (found_has (λ w. bytes_eq w.name name && not (is_start w.action)) Owned (rows M bucket) v (rows_all Owned M bucket all_owned) is).1

  -- ---- plans

  content_sends : (key : Option Key) (asked : Option ByteRange) (v : VersionOf C) → Owned v → Sends (content P.size M key asked v)
  content_sends key None v owned none =
      record { stands = owned; length = refl; lies = omega arith; change = refl; grant = refl; words = refl }
  content_sends key (Some r) v owned none =
      let length = length_of P.size v.content in
      let stands = passed (check NoFile (not (is_upload v.action))) (check Range (misses length r) ∷ []) (not (is_upload v.action)) refl none in
      let hit : misses length r ≡ false = (passed (check Range (misses length r)) [] (misses length r) refl stands.1).0 in
      record { stands = owned; length = refl; lies = in_content length r hit; change = refl; grant = refl; words = refl }

  file_copy_sends : (key : Option Key) (t : ℕ) (c : CopyFile) (b : Option Bucket) (v : Option (VersionOf C)) → Sends (file_copy_on P M key t c b v)
  file_copy_sends key t c None v none = tt
  file_copy_sends key t c (Some b) None none = tt
  file_copy_sends key t c (Some b) (Some v) none = tt

  part_copy_sends : (t : ℕ) (c : CopyPart) (v large : Option (VersionOf C)) → Sends (part_copy_on P t c v large)
  part_copy_sends t c None large none = tt
  part_copy_sends t c (Some v) None none = tt
  part_copy_sends t c (Some v) (Some large) none = tt

  pub plan_sends : (t : ℕ) (words : List ℕ) (key : Option Key) (c : Call) → Sends (plan P M t words key c)
  plan_sends t words key (call.AuthorizeAccount c) = there P2 (authorize_plan c.version M t words) (option_and_then (key_by M) c.credentials) (λ k is none. tt)
  plan_sends t words key (call.CreateBucket c) = λ none. tt
  plan_sends t words key (call.UpdateBucket c) = there NoBucket _ (bucket_at M c.bucket) (λ b is none. tt)
  plan_sends t words key (call.DeleteBucket c) = there NoBucket _ (bucket_at M c.bucket) (λ b is none. tt)
  plan_sends t words key (call.ListBuckets c) = λ none. tt
  plan_sends t words key (call.CreateKey c) = λ none. tt
  plan_sends t words key (call.DeleteKey c) = there NoKey (drop_key c.version M) (key_of_id M c.key) (λ k is none. tt)
  plan_sends t words key (call.ListKeys c) = λ none. tt
  plan_sends t words key (call.GetUploadUrl c) = there NoBucket _ (bucket_at M c.bucket) (λ b is none. tt)
  plan_sends t words key (call.StartLargeFile c) = there NoBucket _ (bucket_at M c.bucket) (λ b is none. tt)
  plan_sends t words key (call.GetUploadPartUrl c) = there NoFile _ (version_at M c.bucket c.file) (λ v is none. tt)
  plan_sends t words key (call.ListParts c) = there NoFile _ (version_at M c.bucket c.file) (λ v is none. tt)
  plan_sends t words key (call.FinishLargeFile c) = there NoFile _ (version_at M c.bucket c.file) (λ v is none. tt)
  plan_sends t words key (call.CancelLargeFile c) = there NoFile _ (version_at M c.bucket c.file) (λ v is none. tt)
  plan_sends t words key (call.ListUnfinishedLargeFiles c) = there NoBucket _ (bucket_at M c.bucket) (λ b is none. tt)
  plan_sends t words key (call.ListFileNames c) = there NoBucket _ (bucket_at M c.bucket) (λ b is none. tt)
  plan_sends t words key (call.ListFileVersions c) = there NoBucket _ (bucket_at M c.bucket) (λ b is none. tt)
  plan_sends t words key (call.GetFileInfo c) = there NoFile _ (version_at M c.bucket c.file) (λ v is none. tt)
  plan_sends t words key (call.HideFile c) = there NoBucket _ (bucket_at M c.bucket) (λ b is none. tt)
  plan_sends t words key (call.DeleteFileVersion c) = there NoFile _ (version_at M c.bucket c.file) (λ v is none. tt)
  plan_sends t words key (call.GetDownloadAuthorization c) = there NoBucket _ (bucket_at M c.bucket) (λ b is none. tt)
  plan_sends t words key (call.DownloadFileById c) =
      there NoFile (content P.size M key c.range) (version_at M c.bucket c.file) (λ v is. content_sends key c.range v (found_owned c.bucket c.file v is))
  plan_sends t words key (call.DownloadFileByName c) =
      there NoFile _ (bucket_named M c.bucket) (λ b at. current NoFile (content P.size M key c.range) (newest M b.num c.name)
      (λ v is. content_sends key c.range v (newest_owned b.num c.name v is)))
  plan_sends t words key (call.UpdateFileRetention c) = there NoFile _ (version_at M c.bucket c.file) (λ v is none. tt)
  plan_sends t words key (call.UpdateFileLegalHold c) = there NoFile _ (version_at M c.bucket c.file) (λ v is none. tt)
  plan_sends t words key (call.CopyFile c) = file_copy_sends key t c (bucket_at M (unwrap_or c.bucket c.source.bucket)) (version_at M c.source.bucket c.source.num)
  plan_sends t words key (call.CopyPart c) = part_copy_sends t c (version_at M c.source.bucket c.source.num) (version_at M c.bucket c.file)
  plan_sends t words key (call.Bad c) = λ none. tt
