-- Downloads (the B2 reference, b2_get_download_authorization, b2_download_file_by_id,
-- b2_download_file_by_name), and ranges of bytes (RFC 9110, section 14).
use Rattle.std.specs.Prelude.{ℕ, Bool, true, not, ◌||◌, ◌==◌, ◌+◌, ◌-◌, ◌*◌, nat_le, min, List, [], ◌∷◌, Option, Some, None, option_map}
use Rattle.rule_table.specs.declared.fault.FaultKind.{FaultKind}
use Rattle.rule_table.specs.declared.fault.FaultKind.TheVariants.{NoFile, Range}
use Rattle.b2_types.specs.declared.kinds.TokenKind.TheVariants as token
use Rattle.b2_types.specs.declared.key.Key.{Key}
use Rattle.b2_types.specs.declared.key.Grant.{Grant}
use Rattle.b2_types.specs.declared.version.VersionOf.{VersionOf}
use Rattle.b2_types.specs.declared.call.AuthorizeDownload.{AuthorizeDownload}
use Rattle.b2_types.specs.declared.call.DownloadById.{DownloadById}
use Rattle.b2_types.specs.declared.call.DownloadByName.{DownloadByName}
use Rattle.b2_types.specs.declared.call.ByteRange.{ByteRange}
use Rattle.b2_types.specs.declared.call.ByteRange.TheVariants as range
use Rattle.b2_types.specs.declared.answer.Span.{Span}
use Rattle.b2_types.specs.declared.answer.AnswerOf.TheVariants as answer
use Rattle.b2_types.specs.declared.shown.Shown.TheVariants as shown
use Rattle.b2_model.specs.Kinds.{is_upload, later}
use Rattle.b2_types.specs.Fault.{plain as plain_fault}
use Rattle.b2_model.specs.Checks.{check, some_and}
use Rattle.b2_model.specs.State.{State, length_of}
use Rattle.b2_model.specs.Current.{current}
use Rattle.b2_model.specs.Policy.{bucket_named}
use Rattle.b2_model.specs.Shown.{shown_file}
use Rattle.b2_model.specs.Plan.{Plan, answers, grants, on_bucket, on_file, or_absent, no_serial, new_token, key_num}

abbrev pub download_grant : {C : Type 0} → State C → ℕ → List ℕ → Option Key → AuthorizeDownload → Grant
download_grant M t words key c = record {
  text = new_token M words;
  kind = token.Download;
  key = key_num key;
  bucket = c.bucket;
  file = 0;
  prefix = c.prefix;
  end = later t (c.duration * 1000);
}

abbrev pub get_download_authorization : {C : Type 0} → State C → Option Key → ℕ → List ℕ → AuthorizeDownload → Plan C
get_download_authorization M key t words c = on_bucket M c.bucket (λ b. grants
    (no_serial M ∷ [])
    (download_grant M t words key c)
    (shown.DownloadToken (record { bucket = b.num; prefix = c.prefix; token = new_token M words })))

-- a range has no byte of a content of this length
abbrev pub misses : ℕ → ByteRange → Bool
misses length (range.Between a b) = nat_le length a
misses length (range.From a) = nat_le length a
misses length (range.Last n) = length == 0 || n == 0

-- the bytes of a range
abbrev pub span_of : ℕ → ByteRange → Span
span_of length (range.Between a b) = record { at = a; len = min (b + 1) length - a }
span_of length (range.From a) = record { at = a; len = length - a }
span_of length (range.Last n) = record { at = length - min n length; len = min n length }

abbrev pub content : {C : Type 0} → (C → ℕ) → State C → Option Key → Option ByteRange → VersionOf C → Plan C
content size M key asked v =
    let length = length_of size v.content in
    answers (check NoFile (not (is_upload v.action)) ∷ check Range (some_and (misses length) asked) ∷ [])
    (answer.Content (record { file = shown_file size M.settings key v; content = v.content; range = option_map (span_of length) asked }))

abbrev pub download_by_id : {C : Type 0} → (C → ℕ) → State C → Option Key → DownloadById → Plan C
download_by_id size M key c = on_file M c.bucket c.file (content size M key c.range)

-- a refusal of the state
abbrev pub or_refused : {C X : Type 0} → FaultKind → (X → Plan C) → Option X → Plan C
or_refused kind plan None = answers (check kind true ∷ []) (answer.Refused (plain_fault kind))
or_refused kind plan (Some x) = plan x

abbrev pub download_by_name : {C : Type 0} → (C → ℕ) → State C → Option Key → DownloadByName → Plan C
download_by_name size M key c = or_absent NoFile
    (λ b. or_refused NoFile (content size M key c.range) (current M b.num c.name))
    (bucket_named M c.bucket)
