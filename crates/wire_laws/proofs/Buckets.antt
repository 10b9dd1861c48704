-- What is told of the buckets that a key or an account's token is limited to.
use Rattle.std.proofs.Common.{◌≡◌, ℕ, ◌<◌, ◌^◌, List, [], ◌∷◌, length, Bool, true, false, sym, ap, ◌∙◌, refl, arith}
use Rattle.std.specs.Prelude.{nat_lt, codes}
use Rattle.std.proofs.lemmas.Bool.{false≢true, lt-ltb}
use Rattle.std.proofs.Math.Dec.{eqb-suc-zero}
use Rattle.std.proofs.lemmas.List.{map-id}
use Rattle.std.proofs.lemmas.List.Elements.{All-head}
use Rattle.serde_json.specs.Data.{Data}
use Rattle.b2_types.specs.declared.kinds.ApiVersion.TheVariants as version
use Rattle.wire_forms.specs.Body.{bucket_id_json, key_buckets, key_options, list_of}
use Rattle.wire_laws.specs.Told.{first_and_more, AreBuckets}
use Rattle.wire_laws.proofs.Plain.{text, items, is_empty, is_null, same_list, same_bucket}

several : (buckets : List ℕ) (a b : ℕ) → nat_lt 1 (length (a ∷ b ∷ buckets)) ≡ true
several buckets a b = lt-ltb 1 (length (a ∷ b ∷ buckets)) (omega arith)

same_id : (a b : ℕ) → a < 2 ^ 32 → b < 2 ^ 32 → bucket_id_json a ≡ bucket_id_json b → a ≡ b
same_id a b small_a small_b same = same_bucket a b small_a small_b (ap text same)

abbrev marked : List ℕ → Bool
marked buckets = is_empty (items (key_options version.V3 buckets))

marked_more : (a b : ℕ) (buckets : List ℕ) → marked (a ∷ b ∷ buckets) ≡ false
marked_more a b buckets = rw (several buckets a b) refl

-- version 3 tells the first, and whether there are more
pub tells_first : (xs ys : List ℕ) → AreBuckets xs → AreBuckets ys → key_buckets version.V3 xs ≡ key_buckets version.V3 ys → key_options version.V3 xs ≡ key_options version.V3 ys
    → first_and_more xs ≡ first_and_more ys
tells_first [] [] first second same options = refl
tells_first [] (y ∷ ys) first second same options = absurd (false≢true (ap (λ p. is_null p.1) (sym same)))
tells_first (x ∷ xs) [] first second same options = absurd (false≢true (ap (λ p. is_null p.1) same))
tells_first (x ∷ []) (y ∷ []) first second same options =
    ap (λ n. n ∷ []) (same_id x y (All-head (λ b. b < 2 ^ 32) x [] first) (All-head (λ b. b < 2 ^ 32) y [] second) (ap (λ p. p.1) same))
tells_first (x ∷ []) (y ∷ z ∷ ys) first second same options = absurd (false≢true (sym (marked_more y z ys) ∙ ap (λ d. is_empty (items d)) (sym options)))
tells_first (x ∷ z ∷ xs) (y ∷ []) first second same options = absurd (false≢true (sym (marked_more x z xs) ∙ ap (λ d. is_empty (items d)) options))
tells_first (x ∷ w ∷ xs) (y ∷ z ∷ ys) first second same options =
    ap (λ n. n ∷ 0 ∷ []) (same_id x y (All-head (λ b. b < 2 ^ 32) x (w ∷ xs) first) (All-head (λ b. b < 2 ^ 32) y (z ∷ ys) second) (ap (λ p. p.1) same))

pub keeps_first : (xs : List ℕ) → key_buckets version.V3 (first_and_more xs) ≡ key_buckets version.V3 xs
keeps_first [] = refl
keeps_first (x ∷ []) = refl
keeps_first (x ∷ y ∷ xs) = refl

pub keeps_options : (xs : List ℕ) → key_options version.V3 (first_and_more xs) ≡ key_options version.V3 xs
keeps_options [] = refl
keeps_options (x ∷ []) = refl
keeps_options (x ∷ y ∷ xs) = rw (several xs x y) refl

-- some are no null
some_four : (y : ℕ) (ys : List ℕ) → key_buckets version.V4 (y ∷ ys) ≡ (codes "bucketIds", list_of bucket_id_json (y ∷ ys))
some_four y ys = rw (eqb-suc-zero (length ys)) refl

not_null : (y : ℕ) (ys : List ℕ) → is_null (key_buckets version.V4 (y ∷ ys)).1 ≡ false
not_null y ys = ap (λ (p : List ℕ × Data). is_null p.1) (some_four y ys)

-- version 4 tells all
pub tells_all : (xs ys : List ℕ) → AreBuckets xs → AreBuckets ys → key_buckets version.V4 xs ≡ key_buckets version.V4 ys → xs ≡ ys
tells_all [] [] first second same = refl
tells_all [] (y ∷ ys) first second same = absurd (false≢true (sym (not_null y ys) ∙ ap (λ (p : List ℕ × Data). is_null p.1) (sym same)))
tells_all (x ∷ xs) [] first second same = absurd (false≢true (sym (not_null x xs) ∙ ap (λ (p : List ℕ × Data). is_null p.1) same))
tells_all (x ∷ xs) (y ∷ ys) first second same =
    let both = sym (some_four x xs) ∙ same ∙ some_four y ys in
    sym (map-id (x ∷ xs))
    ∙ same_list bucket_id_json (λ n. n) (λ b. b < 2 ^ 32) same_id (x ∷ xs) (y ∷ ys) first second (ap (λ (p : List ℕ × Data). p.1) both)
    ∙ map-id (y ∷ ys)
