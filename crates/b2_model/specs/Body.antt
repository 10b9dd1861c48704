-- The body of an upload that came whole: its content, the content's SHA-1 (FIPS 180-4), and the digest that
-- its last 40 bytes give where the digest stands there (the B2 reference, "Uploading files").
use Rattle.std.specs.Prelude.{ℕ, Bool, true, false, ◌-◌, List, Option, Some, None, length, take, drop, bytes_eq, Result, Ok, Err}
use Rattle.std.specs.List.{flat_map}
use Rattle.hex.specs.Hex.{decode_sized}
use Rattle.sha1.specs.Sha1.{sha1}
use Rattle.b2_types.specs.declared.upload.DigestRule.{DigestRule}
use Rattle.b2_types.specs.declared.upload.DigestRule.TheVariants as rule
use Rattle.b2_types.specs.declared.upload.UploadCall.{UploadCall}
use Rattle.b2_types.specs.declared.upload.UploadCall.TheVariants as upload

-- a body that came whole: its content, the content's SHA-1, and the digest that its last 40 bytes give
pub record Body (C : Type 0) : Type 0 where
  pub content : C
  pub digest : List ℕ
  pub told : Option (List ℕ)

abbrev pub is_told : Option (List ℕ) → List ℕ → Bool
is_told None digest = false
is_told (Some told) digest = bytes_eq told digest

-- the digest is the one that the rule asks for
abbrev pub agrees : {C : Type 0} → DigestRule → Body C → Bool
agrees (rule.Given digest) body = bytes_eq digest body.digest
agrees rule.AtEnd body = is_told body.told body.digest
agrees rule.NotVerified body = true

-- ---- bodies that are lists of bytes

abbrev pub digest_rule : UploadCall → DigestRule
digest_rule (upload.File u) = u.digest
digest_rule (upload.Part u) = u.digest
digest_rule (upload.Bad b) = rule.NotVerified

abbrev pub told_digest : {E : Type 0} → Result (List ℕ) E → Option (List ℕ)
told_digest (Ok digest) = Some digest
told_digest (Err e) = None

-- the content, and what its last 40 bytes tell where the digest stands there
abbrev pub body_under : DigestRule → List ℕ → Body (List ℕ)
body_under rule.AtEnd bytes =
    let content = take (length bytes - 40) bytes in
    record { content = content; digest = sha1 content; told = told_digest (decode_sized (drop (length bytes - 40) bytes) 20) }
body_under (rule.Given digest) bytes = record { content = bytes; digest = sha1 bytes; told = None }
body_under rule.NotVerified bytes = record { content = bytes; digest = sha1 bytes; told = None }

abbrev pub body_of : UploadCall → List ℕ → Body (List ℕ)
body_of u bytes = body_under (digest_rule u) bytes

-- a copy of some bytes of contents that stand one after the other
abbrev pub copy_of : List (List ℕ) → ℕ → ℕ → Body (List ℕ)
copy_of pieces at len =
    let content = take len (drop at (flat_map (λ piece. piece) pieces)) in
    record { content = content; digest = sha1 content; told = None }
