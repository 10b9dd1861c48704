-- Uploads without bytes, digests in upper case, and parts below the least size.
use Rattle.std.specs.Prelude.{ℕ, List, [], ◌∷◌, Option, Some, None, codes}
use Rattle.b2_types.specs.declared.fault.Fault.{Fault}
use Rattle.b2_types.specs.declared.call.ByteRange.{ByteRange}
use Rattle.b2_types.specs.declared.upload.DigestRule.TheVariants as rule
use Rattle.b2_types.specs.declared.upload.FileUpload.{FileUpload}
use Rattle.b2_types.specs.declared.upload.UploadCall.TheVariants as upload
use Rattle.b2_types.specs.declared.answer.Span.{Span}
use Rattle.b2_model.specs.Ask.{Outcome}
use Rattle.b2_model.specs.UploadSteps.{Body, end, body_of}
use Rattle.std.specs.Prelude.{length}
use Rattle.worked_rows.specs.Store.{Bytes, words, master_grant, by_master, refusal}
use Rattle.worked_rows.specs.Uploads.{first, upload_of, flight}
use Rattle.worked_rows.specs.Downloads.{by_name, sent_range}
use Rattle.worked_rows.specs.Large.{part, fault_of}

-- ---- no bytes

-- the SHA-1 of nothing (FIPS 180-4)
abbrev pub digest_of_nothing : List ℕ
digest_of_nothing = 218 ∷ 57 ∷ 163 ∷ 238 ∷ 94 ∷ 107 ∷ 75 ∷ 13 ∷ 50 ∷ 85 ∷ 191 ∷ 239 ∷ 149 ∷ 96 ∷ 24 ∷ 144 ∷ 175 ∷ 216 ∷ 7 ∷ 9 ∷ []

abbrev pub empty_upload : FileUpload
empty_upload = record (upload_of (rule.Given digest_of_nothing)) { length = 0 }

abbrev pub empty_body : Body Bytes
empty_body = record { content = []; digest = digest_of_nothing; told = None }

-- what the machine reads of no bytes
abbrev pub nothing_read : Body Bytes
nothing_read = body_of (upload.File empty_upload) []

abbrev pub empty_file : Outcome Bytes
empty_file = end length first.state 2000 (flight empty_upload) empty_body words

abbrev pub download : Option ByteRange → Outcome Bytes
download range = by_master (record empty_file.state { grants = master_grant ∷ [] }) 3000 (by_name (codes "a.txt") range)

abbrev pub range_refused : ByteRange → Option Fault
range_refused range = refusal (download (Some range)).answer

abbrev pub sent_whole : Option (Option Span)
sent_whole = sent_range (download None).answer

-- ---- digits

abbrev pub upper_digits : List ℕ
upper_digits = codes "A9993E364706816ABA3E25717850C26C9CD0D89D"

-- ---- parts

abbrev pub nine : Bytes
nine = 97 ∷ 97 ∷ 97 ∷ 97 ∷ 97 ∷ 97 ∷ 97 ∷ 97 ∷ 97 ∷ []

-- two parts of these contents become a file
abbrev pub two_parts : Bytes → Bytes → Option Fault
two_parts a b = fault_of (part 1 a 7 ∷ part 2 b 8 ∷ []) ((7 ∷ []) ∷ (8 ∷ []) ∷ [])
