-- A bucket's name is ASCII, and so is text.
use Rattle.std.proofs.Common.{ℕ, ◌<◌, ◌≤◌, ◌⊎◌, inl, inr, List, length, Result, Ok, Err, IsOk, MatchResult, EachIndex, slice_index, get_or, refl, arith}
use Rattle.std.proofs.lemmas.Bool.Decides.{nat_tests}
use Rattle.std.specs.Str.{IsUtf8}
use Rattle.std.proofs.lemmas.Bool.{cases_lt}
use Rattle.std.proofs.lemmas.List.{get_or_past}
use Rattle.std.proofs.lemmas.Str.{IsUtf8-from_ascii}
use Rattle.name_rules.specs.BucketName.{IsBucketByte}

bucket_small : (b : ℕ) → IsBucketByte b → b < 128
bucket_small b h = grind (arith, nat_tests, h)

ascii_at : (bytes : List ℕ) (i : ℕ) → EachIndex bytes (λ i. IsBucketByte (slice_index bytes i)) → (i < length bytes) ⊎ (length bytes ≤ i) → get_or bytes i 0 < 128
ascii_at bytes i each (inl within) = bucket_small (get_or bytes i 0) (each i within)
ascii_at bytes i each (inr past) = let none = get_or_past bytes i 0 past in omega (arith, none)

-- a name's bytes are text
pub name_is_text : (bytes : List ℕ) → EachIndex bytes (λ i. IsBucketByte (slice_index bytes i)) → IsUtf8 bytes
name_is_text bytes each = IsUtf8-from_ascii bytes (λ i. ascii_at bytes i each (cases_lt i (length bytes)))

pub ok_if : {S E U : Type 0} (r : Result S E) (P : S → Type 0) (Q : E → Type 0) → MatchResult r P (λ e. (U → ⊥) × Q e) → U → IsOk r
ok_if (Ok s) P Q m u = refl
ok_if (Err e) P Q m u = absurd (m.0 u)
