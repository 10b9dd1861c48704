-- No download sends a start, and no listing of names shows one.
use Rattle.std.proofs.Common.{◌≡◌, ◌⊎◌, inl, inr, ℕ, Bool, true, false, not, ◌&&◌, List, [], ◌∷◌, All, Option, Some, None, option_and_then, unwrap_or, filter, map, take, if◌then◌else◌, refl, sym}
use Rattle.std.specs.Prelude.{⊤}
use Rattle.std.proofs.lemmas.Bool.{false≢true}
use Rattle.std.proofs.lemmas.List.Elements.{All-nil, All-cons, All-head, All-tail, All-take, All-map, All-filter}
use Rattle.rule_table.specs.declared.fault.FaultKind.{FaultKind}
use Rattle.rule_table.specs.declared.fault.FaultKind.TheVariants.{NoBucket, NoFile, NoKey}
use Rattle.name_rules.specs.Folder.{begins_with, folder_in}
use Rattle.b2_base.specs.declared.settings.Settings.{Settings}
use Rattle.b2_types.specs.declared.fault.Fault.{Fault}
use Rattle.b2_types.specs.declared.bucket.Bucket.{Bucket}
use Rattle.b2_types.specs.declared.key.Key.{Key}
use Rattle.b2_types.specs.declared.kinds.Action.{Action}
use Rattle.b2_types.specs.declared.kinds.Action.TheVariants as action
use Rattle.b2_types.specs.declared.shown.RowKind.TheVariants as row
use Rattle.b2_types.specs.declared.shown.ShownFile.{ShownFile}
use Rattle.b2_types.specs.declared.version.VersionOf.{VersionOf}
use Rattle.b2_types.specs.declared.call.Call.{Call}
use Rattle.b2_types.specs.declared.call.Call.TheVariants as call
use Rattle.b2_types.specs.declared.call.ByteRange.{ByteRange}
use Rattle.b2_types.specs.declared.call.CopyFile.{CopyFile}
use Rattle.b2_types.specs.declared.call.CopyPart.{CopyPart}
use Rattle.b2_types.specs.declared.call.ListFiles.{ListFiles}
use Rattle.b2_model.specs.Kinds.{is_upload}
use Rattle.b2_model.specs.Checks.{first_fault}
use Rattle.b2_model.specs.State.{State, Pieces, bucket_at}
use Rattle.b2_model.specs.Rows.{rows, version_at}
use Rattle.b2_model.specs.Current.{current as newest}
use Rattle.b2_model.specs.Pages.{Row, file, folder, Listing, with_prefix, is_current, visible_versions, or_file, row_of, same_folder, before_others, with_folders, is_from, page_size, most_rows, names_page}
use Rattle.b2_model.specs.Shown.{row_kind, shown_row}
use Rattle.b2_model.specs.Policy.{caller_of, key_by, bucket_named}
use Rattle.b2_model.specs.Plan.{Plan, or_absent}
use Rattle.b2_model.specs.AskKeys.{authorize_plan, drop_key, key_of_id}
use Rattle.b2_model.specs.AskListings.{listing_of}
use Rattle.b2_model.specs.AskDownloads.{content, or_refused}
use Rattle.b2_model.specs.AskCopies.{file_copy_on, part_copy_on}
use Rattle.b2_model.specs.Ask.{ask, plan, plan_of, shown_by, refusals_of, is_open, first_rules, outcome_or_refusal}
use Rattle.machine_laws.proofs.Passed.{none_in}
use Rattle.sound_states.proofs.Ascending.{all_from}
use Rattle.sound_states.proofs.Tests.{both_hold}
use Rattle.sound_steps.proofs.Plans.{Pass, all_pass}
use Rattle.lasting_laws.specs.Visible.{HidesStarts}
use Rattle.lasting_laws.proofs.Kept.{filter_with}

upload_row : (a : Action) → not (is_upload a) ≡ false → row_kind a ≡ row.Upload
upload_row action.Upload is = refl
upload_row action.Hide is = absurd (false≢true (sym is))
upload_row action.Start is = absurd (false≢true (sym is))

not_so : (a : Bool) → a ≡ true → not a ≡ false
not_so true is = refl
not_so false is = absurd (false≢true is)

-- ---- rows of names

abbrev IsListed : ShownFile → Type 0
IsListed r = (r.action ≡ row.Upload) ⊎ (r.action ≡ row.Folder)

module _ {C : Type 0} where
  abbrev IsFile : VersionOf C → Type 0
  IsFile v = is_upload v.action ≡ true

  abbrev IsRow : Row C → Type 0
  IsRow (file v) = IsFile v
  IsRow (folder name) = ⊤

  or_file_row : (v : VersionOf C) (o : Option (List ℕ)) → IsFile v → IsRow (or_file v o)
  or_file_row v None is = is
  or_file_row v (Some name) is = tt

  row_of_row : (prefix : List ℕ) (delimiter : Option (List ℕ)) (v : VersionOf C) → IsFile v → IsRow (row_of prefix delimiter v)
  row_of_row prefix None v is = is
  row_of_row prefix (Some delimiter) v is = or_file_row v (folder_in prefix delimiter v.name) is

  if_rows : (b : Bool) (xs ys : List (Row C)) → All IsRow xs → All IsRow ys → All IsRow (if b then xs else ys)
  if_rows true xs ys first second = first
  if_rows false xs ys first second = second

  before_others_rows : (r : Row C) (rs : List (Row C)) → IsRow r → All IsRow rs → All IsRow (before_others r rs)
  before_others_rows r [] one all = All-cons IsRow r [] one all
  before_others_rows r (s ∷ rest) one all = if_rows (same_folder r s) (s ∷ rest) (r ∷ s ∷ rest) all (All-cons IsRow r (s ∷ rest) one all)

  with_folders_rows : (prefix : List ℕ) (delimiter : Option (List ℕ)) (vs : List (VersionOf C)) → All IsFile vs → All IsRow (with_folders prefix delimiter vs)
  with_folders_rows prefix delimiter [] all = All-nil IsRow
  with_folders_rows prefix delimiter (v ∷ vs) all =
      before_others_rows (row_of prefix delimiter v) (with_folders prefix delimiter vs) (row_of_row prefix delimiter v (All-head IsFile v vs all)) (with_folders_rows prefix delimiter vs (All-tail IsFile v vs all))

  any_version : (vs : List (VersionOf C)) → All (λ v. Unit {0}) vs
  any_version vs k d within = tt

  visible_files : (vs : List (VersionOf C)) → All IsFile (visible_versions vs)
  visible_files vs =
      let test : VersionOf C → Bool = λ v. is_upload v.action && is_current vs v in
      all_from (λ v. Unit {0} × (test v ≡ true)) IsFile (filter test vs) (λ v both. (both_hold (is_upload v.action) (is_current vs v) both.1).0) (filter_with (λ v. Unit {0}) test vs (any_version vs))

  page_rows : (M : State C) (b : ℕ) (asked : Listing) → All IsRow (names_page M b asked).rows
  page_rows M b asked =
      let files = visible_files (rows M b) in
      let begun = All-filter (λ v. begins_with asked.prefix v.name) IsFile (visible_versions (rows M b)) files in
      let all = with_folders asked.prefix asked.delimiter (with_prefix asked.prefix (visible_versions (rows M b))) in
      All-take IsRow (page_size most_rows asked.most) (filter (is_from asked.start asked.start_num) all)
      (All-filter (is_from asked.start asked.start_num) IsRow all (with_folders_rows asked.prefix asked.delimiter (with_prefix asked.prefix (visible_versions (rows M b))) begun))

  listed : (size : C → ℕ) (settings : Settings) (key : Option Key) (b : ℕ) (r : Row C) → IsRow r → IsListed (shown_row size settings key b r)
  listed size settings key b (file v) is = inl (upload_row v.action (not_so (is_upload v.action) is))
  listed size settings key b (folder name) is = inr refl

  names_listed : (size : C → ℕ) (settings : Settings) (key : Option Key) (M : State C) (b : ℕ) (asked : Listing) → All IsListed (map (shown_row size settings key b) (names_page M b asked).rows)
  names_listed size settings key M b asked =
      All-map IsListed (shown_row size settings key b) (names_page M b asked).rows
      (all_from IsRow (λ r. IsListed (shown_row size settings key b r)) (names_page M b asked).rows (listed size settings key b) (page_rows M b asked))

-- ---- plans

module _ {C : Type 0} where
  abbrev Hides : Plan C → Type 0
  Hides p = Pass p.own → HidesStarts p.answer

  there : {X : Type 0} (kind : FaultKind) (p : X → Plan C) (o : Option X) → ((x : X) → Hides (p x)) → Hides (or_absent kind p o)
  there kind p None each = λ none. tt
  there kind p (Some x) each = each x

  newest_hides : (p : VersionOf C → Plan C) (o : Option (VersionOf C)) → ((v : VersionOf C) → Hides (p v)) → Hides (or_refused NoFile p o)
  newest_hides p None each = λ none. tt
  newest_hides p (Some v) each = each v

  file_copy_hides : (P : Pieces C) (M : State C) (key : Option Key) (t : ℕ) (c : CopyFile) (b : Option Bucket) (v : Option (VersionOf C)) → Hides (file_copy_on P M key t c b v)
  file_copy_hides P M key t c None v = λ none. tt
  file_copy_hides P M key t c (Some b) None = λ none. tt
  file_copy_hides P M key t c (Some b) (Some v) = λ none. tt

  part_copy_hides : (P : Pieces C) (t : ℕ) (c : CopyPart) (v large : Option (VersionOf C)) → Hides (part_copy_on P t c v large)
  part_copy_hides P t c None large = λ none. tt
  part_copy_hides P t c (Some v) None = λ none. tt
  part_copy_hides P t c (Some v) (Some large) = λ none. tt

  sent : (size : C → ℕ) (M : State C) (key : Option Key) (range : Option ByteRange) (v : VersionOf C) → Hides (content size M key range v)
  sent size M key range v pass = upload_row v.action pass.0

  plan_hides : (P : Pieces C) (M : State C) (t : ℕ) (words : List ℕ) (key : Option Key) (c : Call) → Hides (plan P M t words key c)
  plan_hides P M t words key (call.AuthorizeAccount c) = there _ (authorize_plan c.version M t words) (option_and_then (key_by M) c.credentials) (λ k pass. tt)
  plan_hides P M t words key (call.CreateBucket c) = λ pass. tt
  plan_hides P M t words key (call.UpdateBucket c) = there NoBucket _ (bucket_at M c.bucket) (λ b pass. tt)
  plan_hides P M t words key (call.DeleteBucket c) = there NoBucket _ (bucket_at M c.bucket) (λ b pass. tt)
  plan_hides P M t words key (call.ListBuckets c) = λ pass. tt
  plan_hides P M t words key (call.CreateKey c) = λ pass. tt
  plan_hides P M t words key (call.DeleteKey c) = there NoKey (drop_key c.version M) (key_of_id M c.key) (λ k pass. tt)
  plan_hides P M t words key (call.ListKeys c) = λ pass. tt
  plan_hides P M t words key (call.GetUploadUrl c) = there NoBucket _ (bucket_at M c.bucket) (λ b pass. tt)
  plan_hides P M t words key (call.StartLargeFile c) = there NoBucket _ (bucket_at M c.bucket) (λ b pass. tt)
  plan_hides P M t words key (call.GetUploadPartUrl c) = there NoFile _ (version_at M c.bucket c.file) (λ v pass. tt)
  plan_hides P M t words key (call.ListParts c) = there NoFile _ (version_at M c.bucket c.file) (λ v pass. tt)
  plan_hides P M t words key (call.FinishLargeFile c) = there NoFile _ (version_at M c.bucket c.file) (λ v pass. tt)
  plan_hides P M t words key (call.CancelLargeFile c) = there NoFile _ (version_at M c.bucket c.file) (λ v pass. tt)
  plan_hides P M t words key (call.ListUnfinishedLargeFiles c) = there NoBucket _ (bucket_at M c.bucket) (λ b pass. tt)
  plan_hides P M t words key (call.ListFileNames c) = there NoBucket _ (bucket_at M c.bucket) (λ b pass. names_listed P.size M.settings key M b.num (listing_of c))
  plan_hides P M t words key (call.ListFileVersions c) = there NoBucket _ (bucket_at M c.bucket) (λ b pass. tt)
  plan_hides P M t words key (call.GetFileInfo c) = there NoFile _ (version_at M c.bucket c.file) (λ v pass. tt)
  plan_hides P M t words key (call.HideFile c) = there NoBucket _ (bucket_at M c.bucket) (λ b pass. tt)
  plan_hides P M t words key (call.DeleteFileVersion c) = there NoFile _ (version_at M c.bucket c.file) (λ v pass. tt)
  plan_hides P M t words key (call.GetDownloadAuthorization c) = there NoBucket _ (bucket_at M c.bucket) (λ b pass. tt)
  plan_hides P M t words key (call.DownloadFileById c) = there NoFile (content P.size M key c.range) (version_at M c.bucket c.file) (sent P.size M key c.range)
  plan_hides P M t words key (call.DownloadFileByName c) =
      there NoFile _ (bucket_named M c.bucket) (λ b. newest_hides (content P.size M key c.range) (newest M b.num c.name) (sent P.size M key c.range))
  plan_hides P M t words key (call.UpdateFileRetention c) = there NoFile _ (version_at M c.bucket c.file) (λ v pass. tt)
  plan_hides P M t words key (call.UpdateFileLegalHold c) = there NoFile _ (version_at M c.bucket c.file) (λ v pass. tt)
  plan_hides P M t words key (call.CopyFile c) = file_copy_hides P M key t c (bucket_at M (unwrap_or c.bucket c.source.bucket)) (version_at M c.source.bucket c.source.num)
  plan_hides P M t words key (call.CopyPart c) = part_copy_hides P t c (version_at M c.source.bucket c.source.num) (version_at M c.bucket c.file)
  plan_hides P M t words key (call.Bad c) = λ pass. tt

  outcome_hides : (M : State C) (t : ℕ) (words : List ℕ) (p : Plan C) (o : Option Fault) → (o ≡ None → HidesStarts p.answer) → HidesStarts (outcome_or_refusal M t words p o).answer
  outcome_hides M t words p None hides = hides refl
  outcome_hides M t words p (Some fault) hides = tt

  pub hides_starts : (P : Pieces C) (M : State C) (t : ℕ) (words : List ℕ) (token : Option (List ℕ)) (c : Call) → HidesStarts (ask P M t words token c).answer
  hides_starts P M t words token c =
      let p = plan_of P M t words token c in
      outcome_hides M t words p (first_fault (refusals_of P M t words token c)) (λ none. plan_hides P M t words (shown_by M token c) c
      (all_pass p.own (none_in (if is_open M c then p.exists else first_rules M t (caller_of M token) c p.exists) p.own none).1))
