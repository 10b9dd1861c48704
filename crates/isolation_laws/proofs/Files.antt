-- File info and downloads, call by call: what of the state their answers are made of.
use Rattle.std.proofs.Common.{◌≡◌, ℕ, ◌||◌, not, false, List, [], ◌∷◌, ◌++◌, Option, Some, None, option_map, refl, ap, ◌∙◌}
use Rattle.rule_table.specs.declared.fault.FaultKind.TheVariants.{NoFile, Range}
use Rattle.b2_base.specs.declared.settings.Settings.{Settings}
use Rattle.b2_types.specs.declared.bucket.Bucket.{Bucket}
use Rattle.b2_types.specs.declared.key.Key.{Key}
use Rattle.b2_types.specs.declared.version.VersionOf.{VersionOf}
use Rattle.b2_types.specs.declared.call.ByteRange.{ByteRange}
use Rattle.b2_types.specs.declared.call.Call.TheVariants as call
use Rattle.b2_types.specs.declared.call.FileCall.{FileCall}
use Rattle.b2_types.specs.declared.call.DownloadById.{DownloadById}
use Rattle.b2_types.specs.declared.call.DownloadByName.{DownloadByName}
use Rattle.b2_types.specs.declared.answer.AnswerOf.TheVariants as answer
use Rattle.b2_types.specs.declared.shown.Shown.TheVariants as shown
use Rattle.b2_model.specs.Checks.{check, some_and}
use Rattle.b2_model.specs.State.{State, Pieces, bucket_at, length_of}
use Rattle.b2_model.specs.Rows.{version_at}
use Rattle.b2_model.specs.Current.{current}
use Rattle.b2_model.specs.Kinds.{is_upload}
use Rattle.b2_model.specs.Plan.{Plan, shows, answers}
use Rattle.b2_model.specs.Shown.{shown_file}
use Rattle.b2_model.specs.AskDownloads.{misses, span_of, content, or_refused}
use Rattle.b2_model.specs.Policy.{caller_of, limits, judged_call, bucket_named, is_name_among, items}
use Rattle.b2_model.specs.Ask.{ask}
use Rattle.isolation_laws.proofs.Judged.{policy_alike, answered_alike, absent_alike}

module _ {C : Type 0} where
  abbrev info_shown : (C → ℕ) → Option Key → VersionOf C → Settings → Plan C
  info_shown size key v settings = shows [] (shown.File (shown_file size settings key v))

  abbrev content_sent : (C → ℕ) → Option Key → Option ByteRange → VersionOf C → Settings → Plan C
  content_sent size key asked v settings =
      answers (check NoFile (not (is_upload v.action)) ∷ check Range (some_and (misses (length_of size v.content)) asked) ∷ [])
      (answer.Content (record { file = shown_file size settings key v; content = v.content; range = option_map (span_of (length_of size v.content)) asked }))

  current_sent : (M N : State C) (size : C → ℕ) (key : Option Key) (asked : Option ByteRange) (o p : Option (VersionOf C)) → M.settings ≡ N.settings → o ≡ p
      → or_refused NoFile (content size M key asked) o ≡ or_refused NoFile (content size N key asked) p
  current_sent M N size key asked o p settings same = ap (or_refused NoFile (content size M key asked)) same ∙ here p
    where
      here : (q : Option (VersionOf C)) → or_refused NoFile (content size M key asked) q ≡ or_refused NoFile (content size N key asked) q
      here None = refl
      here (Some v) = ap (content_sent size key asked v) settings

  module _ (P : Pieces C) (M N : State C) (t : ℕ) (words : List ℕ) (token : Option (List ℕ)) (settings : M.settings ≡ N.settings) (caller : caller_of M token ≡ caller_of N token) where
    pub info_alike : (c : FileCall) → version_at M c.bucket c.file ≡ version_at N c.bucket c.file
        → (ask P M t words token (call.GetFileInfo c)).answer ≡ (ask P N t words token (call.GetFileInfo c)).answer
    info_alike c version =
        answered_alike P M N t words token (call.GetFileInfo c) caller refl
        (λ exists. policy_alike M N t (judged_call (call.GetFileInfo c)) (caller_of M token) exists settings refl (ap (λ o. items (option_map (λ v. v.name) o) ++ []) version))
        (λ key. absent_alike NoFile _ _ (version_at M c.bucket c.file) (version_at N c.bucket c.file) version (λ v is. ap (info_shown P.size key v) settings))

    pub download_alike : (c : DownloadById) → bucket_at M c.bucket ≡ bucket_at N c.bucket → version_at M c.bucket c.file ≡ version_at N c.bucket c.file
        → (ask P M t words token (call.DownloadFileById c)).answer ≡ (ask P N t words token (call.DownloadFileById c)).answer
    download_alike c bucket version =
        answered_alike P M N t words token (call.DownloadFileById c) caller (ap (some_and (λ b. b.public)) bucket)
        (λ exists. policy_alike M N t (judged_call (call.DownloadFileById c)) (caller_of M token) exists settings refl (ap (λ o. items (option_map (λ v. v.name) o) ++ []) version))
        (λ key. absent_alike NoFile (content P.size M key c.range) (content P.size N key c.range) (version_at M c.bucket c.file) (version_at N c.bucket c.file) version
        (λ v is. ap (content_sent P.size key c.range v) settings))

    pub download_by_name_alike : (c : DownloadByName) → is_name_among M (limits (caller_of M token)) c.bucket ≡ is_name_among N (limits (caller_of M token)) c.bucket
        → bucket_named M c.bucket ≡ bucket_named N c.bucket
        → ((b : Bucket) → bucket_named N c.bucket ≡ Some b → current M b.num c.name ≡ current N b.num c.name)
        → (ask P M t words token (call.DownloadFileByName c)).answer ≡ (ask P N t words token (call.DownloadFileByName c)).answer
    download_by_name_alike c among bucket newest =
        answered_alike P M N t words token (call.DownloadFileByName c) caller (ap (some_and (λ b. b.public)) bucket)
        (λ exists. policy_alike M N t (judged_call (call.DownloadFileByName c)) (caller_of M token) exists settings (ap (λ o. not o || false) among) refl)
        (λ key. absent_alike NoFile
        (λ b. or_refused NoFile (content P.size M key c.range) (current M b.num c.name))
        (λ b. or_refused NoFile (content P.size N key c.range) (current N b.num c.name))
        (bucket_named M c.bucket) (bucket_named N c.bucket) bucket
        (λ b is. current_sent M N P.size key c.range (current M b.num c.name) (current N b.num c.name) settings (newest b is)))
