-- How long an upload's body and its content are to be.
use Rattle.std.specs.Prelude.{◌-◌, ℕ}
use Rattle.b2_types.specs.declared.upload.DigestRule.{DigestRule}
use Rattle.b2_types.specs.declared.upload.DigestRule.TheVariants as rule
use Rattle.b2_types.specs.declared.upload.UploadCall.{UploadCall}
use Rattle.b2_types.specs.declared.upload.UploadCall.TheVariants as upload
use Rattle.b2_model.specs.Body.{digest_rule}

-- the bytes of its body
abbrev pub body_length : UploadCall → ℕ
body_length (upload.File u) = u.length
body_length (upload.Part u) = u.length
body_length (upload.Bad c) = 0

-- those of its content, where the digest may stand behind it
abbrev pub content_under : DigestRule → ℕ → ℕ
content_under rule.AtEnd len = len - 40
content_under (rule.Given digest) len = len
content_under rule.NotVerified len = len

abbrev pub content_length : UploadCall → ℕ
content_length u = content_under (digest_rule u) (body_length u)
