-- Uploads of small files.
use Rattle.std.specs.Prelude.{ℕ, false, List, [], ◌∷◌, Option, Some, None, codes, length}
use Rattle.b2_types.specs.declared.kinds.TokenKind.TheVariants as token
use Rattle.b2_types.specs.declared.fault.Fault.{Fault}
use Rattle.b2_types.specs.declared.key.Grant.{Grant}
use Rattle.b2_types.specs.declared.key.Flight.{Flight}
use Rattle.b2_types.specs.declared.upload.DigestRule.{DigestRule}
use Rattle.b2_types.specs.declared.upload.DigestRule.TheVariants as rule
use Rattle.b2_types.specs.declared.upload.FileUpload.{FileUpload}
use Rattle.b2_types.specs.declared.upload.UploadCall.TheVariants as upload
use Rattle.b2_model.specs.State.{State}
use Rattle.b2_model.specs.Ask.{Outcome}
use Rattle.b2_model.specs.UploadSteps.{Begun, Body, begin, end, without_flight, body_of}
use Rattle.worked_rows.specs.Store.{Bytes, words, photos_1, with_bucket, plain_type, refusal}

abbrev pub url_token : List ℕ
url_token = codes "url"

abbrev pub url_grant : Grant
url_grant = record { text = url_token; kind = token.UploadUrl; key = 0; bucket = 1; file = 0; prefix = []; end = 86400000 }

-- bucket 1 and an upload URL
abbrev pub ready : State Bytes
ready = record (with_bucket photos_1) { grants = url_grant ∷ [] }

abbrev pub upload_of : DigestRule → FileUpload
upload_of digest = record {
  bucket = 1;
  length = 3;
  digest = digest;
  name = codes "a.txt";
  kind = plain_type;
  info = [];
  retention = None;
  hold = false;
}

-- the SHA-1 of `abc` (FIPS 180-4)
abbrev pub digest_of_abc : List ℕ
digest_of_abc = 169 ∷ 153 ∷ 62 ∷ 54 ∷ 71 ∷ 6 ∷ 129 ∷ 106 ∷ 186 ∷ 62 ∷ 37 ∷ 113 ∷ 120 ∷ 80 ∷ 194 ∷ 108 ∷ 156 ∷ 208 ∷ 216 ∷ 157 ∷ []

abbrev pub other_digest : List ℕ
other_digest = 169 ∷ 153 ∷ 62 ∷ 54 ∷ 71 ∷ 6 ∷ 129 ∷ 106 ∷ 186 ∷ 62 ∷ 37 ∷ 113 ∷ 120 ∷ 80 ∷ 194 ∷ 108 ∷ 156 ∷ 208 ∷ 216 ∷ 156 ∷ []

abbrev pub given_abc : FileUpload
given_abc = upload_of (rule.Given digest_of_abc)

abbrev pub flight : FileUpload → Flight
flight u = record { conn = 1; token = url_token; upload = upload.File u }

abbrev pub first : Begun Bytes
first = begin ready 1000 1 (Some url_token) (upload.File given_abc)

-- a second upload on the same URL
abbrev pub second : Begun Bytes
second = begin first.state 1500 2 (Some url_token) (upload.File given_abc)

abbrev pub after_loss : Begun Bytes
after_loss = begin (without_flight second.state 1600 1) 1700 2 (Some url_token) (upload.File given_abc)

-- a body whose content is `abc`, and what its digits tell
abbrev pub body_abc : Option (List ℕ) → Body Bytes
body_abc told = record { content = codes "abc"; digest = digest_of_abc; told = told }

-- an upload with this rule that ends with such a body
abbrev pub ended_with : DigestRule → Option (List ℕ) → Outcome Bytes
ended_with digest told = end length first.state 2000 (flight (upload_of digest)) (body_abc told) words

abbrev pub end_refused : DigestRule → Option (List ℕ) → Option Fault
end_refused digest told = refusal (ended_with digest told).answer

abbrev pub at_end : Outcome Bytes
at_end = ended_with rule.AtEnd (Some digest_of_abc)

abbrev pub unverified : Outcome Bytes
unverified = ended_with rule.NotVerified None

abbrev pub abc : List ℕ
abc = codes "abc"

abbrev pub small : Outcome Bytes
small = ended_with (rule.Given digest_of_abc) None

abbrev pub digits : List ℕ
digits = codes "a9993e364706816aba3e25717850c26c9cd0d89d"

-- a body of the rule that is these bytes
abbrev pub read_as : DigestRule → List ℕ → Body Bytes
read_as digest bytes = body_of (upload.File (upload_of digest)) bytes
