-- Copies (the B2 reference, b2_copy_file and b2_copy_part). A copy is a download followed by an upload: it
-- stores what an upload of the bytes of the range would store, whose digest is known.
use Rattle.std.specs.Prelude.{ℕ, false, not, nat_lt, List, [], ◌∷◌, ◌++◌, Option, Some, None, unwrap_or, option_map}
use Rattle.rule_table.specs.declared.fault.FaultKind.TheVariants.{NoBucket, NoFile, Range, LongCopy}
use Rattle.b2_types.specs.declared.kinds.Action.TheVariants as action
use Rattle.b2_types.specs.declared.kinds.Mark.TheVariants as mark
use Rattle.b2_types.specs.declared.bucket.Bucket.{Bucket}
use Rattle.b2_types.specs.declared.key.Key.{Key}
use Rattle.b2_types.specs.declared.version.VersionOf.{VersionOf}
use Rattle.b2_types.specs.declared.call.ByteRange.{ByteRange}
use Rattle.b2_types.specs.declared.call.CopyFile.{CopyFile}
use Rattle.b2_types.specs.declared.call.CopyPart.{CopyPart}
use Rattle.b2_types.specs.declared.call.CopyMetadata.{CopyMetadata}
use Rattle.b2_types.specs.declared.call.CopyMetadata.TheVariants as metadata
use Rattle.b2_types.specs.declared.answer.Span.{Span}
use Rattle.b2_types.specs.declared.record.NewVersion.{NewVersion}
use Rattle.b2_types.specs.declared.record.ChangeOf.TheVariants as change
use Rattle.b2_types.specs.declared.shown.Shown.TheVariants as shown
use Rattle.b2_model.specs.Kinds.{is_upload}
use Rattle.b2_model.specs.Checks.{Check, check, some_and}
use Rattle.b2_model.specs.Body.{Body}
use Rattle.b2_model.specs.State.{State, Pieces, bucket_at, length_of}
use Rattle.b2_model.specs.Rows.{version_at}
use Rattle.b2_model.specs.Locks.{own_or_default}
use Rattle.b2_model.specs.MediaTypes.{resolved_type}
use Rattle.b2_model.specs.Version.{version_from}
use Rattle.b2_model.specs.Shown.{shown_file, shown_part}
use Rattle.b2_model.specs.Plan.{Plan, writes, absent_plan, id_of, no_version, lock_off, bad_until}
use Rattle.b2_model.specs.AskLarge.{not_large}
use Rattle.b2_model.specs.AskDownloads.{misses, span_of}

-- the most bytes of a copy, as of any upload
abbrev pub most_copied : ℕ
most_copied = 5000000000

-- the bytes that are copied: all, where no range is asked for
abbrev pub copied_span : {C : Type 0} → (C → ℕ) → VersionOf C → Option ByteRange → Span
copied_span size v range = unwrap_or (option_map (span_of (length_of size v.content)) range) (record { at = 0; len = length_of size v.content })

abbrev pub no_upload : {C : Type 0} → VersionOf C → Check
no_upload v = check NoFile (not (is_upload v.action))

abbrev pub span_rules : {C : Type 0} → (C → ℕ) → VersionOf C → Option ByteRange → List Check
span_rules size v range =
    check Range (some_and (misses (length_of size v.content)) range)
    ∷ check LongCopy (nat_lt most_copied (copied_span size v range).len)
    ∷ []

-- what the copy's bytes make
abbrev pub copy_body : {C : Type 0} → Pieces C → VersionOf C → Option ByteRange → Body C
copy_body P v range = P.copy v.content (copied_span P.size v range).at (copied_span P.size v range).len

-- ---- as a file

abbrev pub copied_type : {C : Type 0} → VersionOf C → CopyMetadata → List ℕ
copied_type v metadata.Kept = v.kind
copied_type v (metadata.Replaced kind info) = kind

abbrev pub copied_info : {C : Type 0} → VersionOf C → CopyMetadata → List (List ℕ × List ℕ)
copied_info v metadata.Kept = v.info
copied_info v (metadata.Replaced kind info) = unwrap_or info []

abbrev pub copied_version : {C : Type 0} → State C → ℕ → Bucket → VersionOf C → CopyFile → NewVersion
copied_version M t b v c = record {
  bucket = b.num;
  num = M.next_version;
  name = c.name;
  kind = resolved_type (copied_type v c.metadata) c.name;
  info = copied_info v c.metadata;
  retention = own_or_default t c.retention b.default;
  hold = unwrap_or c.hold false;
}

abbrev pub file_copy : {C : Type 0} → (C → ℕ) → State C → Option Key → ℕ → CopyFile → Bucket → VersionOf C → Body C → Plan C
file_copy size M key t c b v body = writes
    (no_upload v ∷ span_rules size v c.range
    ++ lock_off c.retention (unwrap_or c.hold false) b.lock ∷ bad_until t c.retention ∷ no_version M ∷ [])
    (change.Upload (copied_version M t b v c) body.content mark.Verified body.digest)
    (shown.File (shown_file size M.settings key (version_from t action.Upload (body.content ∷ []) mark.Verified body.digest (copied_version M t b v c))))

-- the bucket is looked for before the source
abbrev pub file_copy_on : {C : Type 0} → Pieces C → State C → Option Key → ℕ → CopyFile → Option Bucket → Option (VersionOf C) → Plan C
file_copy_on P M key t c None v = absent_plan NoBucket
file_copy_on P M key t c (Some b) None = absent_plan NoFile
file_copy_on P M key t c (Some b) (Some v) = file_copy P.size M key t c b v (copy_body P v c.range)

abbrev pub copy_file : {C : Type 0} → Pieces C → State C → Option Key → ℕ → CopyFile → Plan C
copy_file P M key t c =
    file_copy_on P M key t c (bucket_at M (unwrap_or c.bucket c.source.bucket)) (version_at M c.source.bucket c.source.num)

-- ---- as a part

abbrev pub part_copy : {C : Type 0} → (C → ℕ) → ℕ → CopyPart → VersionOf C → VersionOf C → Body C → Plan C
part_copy size t c v large body = writes
    (no_upload v ∷ not_large large ∷ span_rules size v c.range)
    (change.PartPut (id_of large) c.number body.content mark.Verified body.digest)
    (shown.Part (shown_part size large.bucket large.num (record { number = c.number; content = body.content; mark = mark.Verified; digest = body.digest; stamp = t })))

abbrev pub part_copy_on : {C : Type 0} → Pieces C → ℕ → CopyPart → Option (VersionOf C) → Option (VersionOf C) → Plan C
part_copy_on P t c None large = absent_plan NoFile
part_copy_on P t c (Some v) None = absent_plan NoFile
part_copy_on P t c (Some v) (Some large) = part_copy P.size t c v large (copy_body P v c.range)

abbrev pub copy_part : {C : Type 0} → Pieces C → State C → ℕ → CopyPart → Plan C
copy_part P M t c = part_copy_on P t c (version_at M c.source.bucket c.source.num) (version_at M c.bucket c.file)
