-- An id is cut into its digits in one way.
use Rattle.std.proofs.Common.{◌≡◌, ◌≢◌, ℕ, ◌<◌, ◌^◌, List, ◌∷◌, ◌++◌, length, take, drop, codes, sym, ap, ◌∙◌, arith, append_assoc, length-append, take-append-drop, length-take, length-drop}
use Rattle.std.proofs.lemmas.List.{take_at, drop_at}
use Rattle.b2_base.specs.Digits.{eight_digits, sixteen_digits}
use Rattle.b2_base.specs.FileId.{id_text, file_id, IsIdOf}
use Rattle.b2_base.proofs.DigitsLemmas.{length-eight_digits, length-sixteen_digits, same_sixteen}

behind_start : (bucket version : List ℕ) → id_text bucket version ≡ codes "4_z" ++ (bucket ++ (codes "_f" ++ version))
behind_start bucket version = ap (λ xs. 52 ∷ 95 ∷ 122 ∷ xs) (append_assoc bucket (codes "_f") version)

rest_of : (bytes rest bucket version : List ℕ) → bytes ≡ codes "4_z" ++ rest → bytes ≡ id_text bucket version → rest ≡ bucket ++ (codes "_f" ++ version)
rest_of bytes rest bucket version front is = ap (drop 3) (sym front ∙ is ∙ behind_start bucket version)

pub other_len : (bytes rest : List ℕ) → bytes ≡ codes "4_z" ++ rest → length rest ≢ 26 → (bucket version : List ℕ) → length bucket ≡ 8 → length version ≡ 16 → bytes ≢ id_text bucket version
other_len bytes rest front long bucket version b v is =
    long (omega (arith, ap length (rest_of bytes rest bucket version front is), length-append bucket (codes "_f" ++ version), b, v))

pub other_middle : (bytes rest : List ℕ) → bytes ≡ codes "4_z" ++ rest → ((xs : List ℕ) → drop 8 rest ≢ codes "_f" ++ xs)
    → (bucket version : List ℕ) → length bucket ≡ 8 → length version ≡ 16 → bytes ≢ id_text bucket version
other_middle bytes rest front middle bucket version b v is =
    middle version (ap (drop 8) (rest_of bytes rest bucket version front is) ∙ drop_at bucket (codes "_f" ++ version) 8 b)

pub is_id : (bytes rest bucket middle version : List ℕ) → bytes ≡ codes "4_z" ++ rest → length rest ≡ 26 → bucket ≡ take 8 rest → middle ≡ drop 8 rest
    → middle ≡ codes "_f" ++ version → IsIdOf bytes bucket version
is_id bytes rest bucket middle version front len b m f = record {
  text = front ∙ ap (λ (xs : List ℕ). codes "4_z" ++ xs) (sym (take-append-drop 8 rest) ∙ ap (λ xs. xs ++ drop 8 rest) (sym b) ∙ ap (λ xs. bucket ++ xs) (sym m ∙ f)) ∙ sym (behind_start bucket version);
  bucket_len = omega (arith, ap length b, length-take 8 rest, len);
  version_len = omega (arith, ap length f, ap length m, length-drop 8 rest, len);
}

same_pieces : (bytes bucket version : List ℕ) (b v : ℕ) → IsIdOf bytes bucket version → bytes ≡ file_id b v → (bucket ≡ eight_digits b) × (version ≡ sixteen_digits v)
same_pieces bytes bucket version b v id is =
    let rest : bucket ++ (codes "_f" ++ version) ≡ eight_digits b ++ (codes "_f" ++ sixteen_digits v) =
    ap (drop 3) (sym (behind_start bucket version) ∙ sym id.text ∙ is ∙ behind_start (eight_digits b) (sixteen_digits v)) in (
      sym (take_at bucket (codes "_f" ++ version) 8 id.bucket_len) ∙ ap (take 8) rest ∙ take_at (eight_digits b) (codes "_f" ++ sixteen_digits v) 8 (length-eight_digits b),
      ap (drop 2) (sym (drop_at bucket (codes "_f" ++ version) 8 id.bucket_len) ∙ ap (drop 8) rest ∙ drop_at (eight_digits b) (codes "_f" ++ sixteen_digits v) 8 (length-eight_digits b)),
    )

pub no_pieces : (bytes : List ℕ) → ((bucket version : List ℕ) → length bucket ≡ 8 → length version ≡ 16 → bytes ≢ id_text bucket version)
    → (b v : ℕ) → b < 2 ^ 32 → v < 2 ^ 64 → bytes ≢ file_id b v
no_pieces bytes none b v small_b small_v is = none (eight_digits b) (sixteen_digits v) (length-eight_digits b) (length-sixteen_digits v) is

pub other_bucket : (bytes bucket version : List ℕ) → IsIdOf bytes bucket version → ((n : ℕ) → n < 2 ^ 32 → bucket ≢ eight_digits n)
    → (b v : ℕ) → b < 2 ^ 32 → v < 2 ^ 64 → bytes ≢ file_id b v
other_bucket bytes bucket version id none b v small_b small_v is = none b small_b (same_pieces bytes bucket version b v id is).0

pub other_version : (bytes bucket version : List ℕ) → IsIdOf bytes bucket version → ((n : ℕ) → n < 2 ^ 64 → version ≢ sixteen_digits n)
    → (b v : ℕ) → b < 2 ^ 32 → v < 2 ^ 64 → bytes ≢ file_id b v
other_version bytes bucket version id none b v small_b small_v is = none v small_v (same_pieces bytes bucket version b v id is).1

pub is_file_id : (bytes bucket version : List ℕ) (b v : ℕ) → IsIdOf bytes bucket version → bucket ≡ eight_digits b → version ≡ sixteen_digits v → bytes ≡ file_id b v
is_file_id bytes bucket version b v id same_b same_v = id.text ∙ ap (λ x. id_text x version) same_b ∙ ap (id_text (eight_digits b)) same_v

-- an id has one version
pub one_version : (bytes : List ℕ) (b v c w : ℕ) → v < 2 ^ 64 → w < 2 ^ 64 → bytes ≡ file_id b v → bytes ≡ file_id c w → v ≡ w
one_version bytes b v c w small_v small_w first second =
    let id : IsIdOf bytes (eight_digits b) (sixteen_digits v) = record { text = first; bucket_len = length-eight_digits b; version_len = length-sixteen_digits v } in
    same_sixteen v w small_v small_w (same_pieces bytes (eight_digits b) (sixteen_digits v) c w id second).1
