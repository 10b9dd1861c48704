-- A body that came whole, cut where its content ends.
use Rattle.std.proofs.Common.{◌≡◌, ℕ, List, [], Option, length, take, drop, refl, sym, ap, ◌∙◌}
use Rattle.std.proofs.Math.Seq.{take-length}
use Rattle.sha1.specs.Sha1.{sha1}
use Rattle.b2_types.specs.declared.upload.DigestRule.{DigestRule}
use Rattle.b2_types.specs.declared.upload.DigestRule.TheVariants as rule
use Rattle.b2_model.specs.Body.{Body, body_under}
use Rattle.durable_store.specs.Lengths.{content_under}
use Rattle.durable_store.specs.Ends.{told_under}

-- a content, and what the bytes behind it tell
abbrev cut_of : DigestRule → List ℕ → List ℕ → Body (List ℕ)
cut_of r content rest = record { content = content; digest = sha1 content; told = told_under r rest }

cut_at : (r : DigestRule) (bytes : List ℕ) (len : ℕ) → len ≡ content_under r (length bytes) → cut_of r (take len bytes) (drop len bytes) ≡ body_under r bytes
cut_at rule.AtEnd bytes len is = ap (λ (n : ℕ). cut_of rule.AtEnd (take n bytes) (drop n bytes)) is
cut_at (rule.Given digest) bytes len is = ap (λ (xs : List ℕ). cut_of (rule.Given digest) xs []) (ap (λ (n : ℕ). take n bytes) is ∙ take-length bytes)
cut_at rule.NotVerified bytes len is = ap (λ (xs : List ℕ). cut_of rule.NotVerified xs []) (ap (λ (n : ℕ). take n bytes) is ∙ take-length bytes)

pub whole_body : (r : DigestRule) (content digest rest bytes : List ℕ) (told : Option (List ℕ)) (n len : ℕ) → content ≡ take len bytes → digest ≡ sha1 (take len bytes) → rest ≡ drop len bytes → told ≡ told_under r rest
    → length bytes ≡ n → len ≡ content_under r n → record { content = content; digest = digest; told = told } ≡ body_under r bytes
whole_body r content digest rest bytes told n len content_is digest_is rest_is told_is all is =
    let taken : List ℕ = take len bytes in
    let behind : told ≡ told_under r (drop len bytes) = told_is ∙ ap (told_under r) rest_is in
    let one : record { content = content; digest = digest; told = told } ≡ cut_of r taken (drop len bytes) = rw (content_is, digest_is, behind) refl in
    one ∙ cut_at r bytes len (is ∙ ap (content_under r) (sym all))
