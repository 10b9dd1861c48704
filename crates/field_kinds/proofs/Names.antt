-- Names of buckets and files pass the tests exactly where they keep the rules.
use Rattle.std.proofs.Common.{◌≡◌, ℕ, zero, suc, ◌<◌, ◌≤◌, List, [], ◌∷◌, length, get_or, take, map, codes, Bool, true, false, not, inl, inr, Some, None, sym, ◌∙◌, ap, refl, arith}
use Rattle.std.specs.Prelude.{◌&&◌, ◌||◌, ◌==◌, nat_le, bytes_eq, EachIndex, slice_index}
use Rattle.std.specs.Str.{IsUtf8}
use Rattle.std.specs.List.{list_all}
use Rattle.std.specs.Char.{to_ascii_lowercase}
use Rattle.std.specs.Cmp.Lexicographic.{bytes_decides}
use Rattle.std.proofs.lemmas.Bool.{and_from, and_parts, and_left, and_right, le-leb, lt-leb, leb-true, eq-eqb, ne_eqb, not-true, both_ways, cases_Bool}
use Rattle.std.proofs.lemmas.List.Folds.{list_all_at}
use Rattle.name_rules.specs.BucketName.{IsBucketByte, IsReserved, HasShape, IsBucketName, IsBucketFault}
use Rattle.name_rules.specs.FileName.{IsNoCode, HasLength, IsFileName, IsNameFault}
use Rattle.name_rules.specs.declared.bucket.BucketFault.{BucketFault}
use Rattle.name_rules.specs.declared.bucket.BucketFault.TheVariants as bucket
use Rattle.name_rules.specs.declared.file.NameFault.{NameFault}
use Rattle.name_rules.specs.declared.file.NameFault.TheVariants as file
use Rattle.field_kinds.specs.Kinds.{is_bucket_byte, is_bucket_name, is_no_code, is_file_name, if_passes}

all_pass : (p : ℕ → Bool) (xs : List ℕ) → ((i : ℕ) → i < length xs → p (get_or xs i 0) ≡ true) → list_all p xs ≡ true
all_pass p [] each = refl
all_pass p (x ∷ xs) each = and_from (p x) (list_all p xs) (each 0 (omega arith)) (all_pass p xs (λ i below. each (suc i) (omega arith)))

free_of : (bytes : List ℕ) → (IsReserved bytes → ⊥) → not (bytes_eq (map to_ascii_lowercase (take 3 bytes)) (codes "b2-")) ≡ true
free_of bytes free = elim (cases_Bool (bytes_eq (map to_ascii_lowercase (take 3 bytes)) (codes "b2-"))) [
  | inl equal ↦ absurd (free ((bytes_decides (map to_ascii_lowercase (take 3 bytes)) (codes "b2-")).0 equal))
  | inr other ↦ ap not other
]

not_free : (bytes : List ℕ) → IsReserved bytes → not (bytes_eq (map to_ascii_lowercase (take 3 bytes)) (codes "b2-")) ≡ false
not_free bytes reserved = ap not ((bytes_decides (map to_ascii_lowercase (take 3 bytes)) (codes "b2-")).1 reserved)

has_size : (low high : ℕ) (bytes : List ℕ) → low ≤ length bytes → length bytes ≤ high → (nat_le low (length bytes) && nat_le (length bytes) high) ≡ true
has_size low high bytes least most = and_from (nat_le low (length bytes)) (nat_le (length bytes) high) (le-leb low (length bytes) least) (le-leb (length bytes) high most)

is_short : (low high : ℕ) (bytes : List ℕ) → length bytes < low → (nat_le low (length bytes) && nat_le (length bytes) high) ≡ false
is_short low high bytes few = and_left (nat_le low (length bytes)) (nat_le (length bytes) high) (lt-leb low (length bytes) few)

is_long : (low high : ℕ) (bytes : List ℕ) → high < length bytes → (nat_le low (length bytes) && nat_le (length bytes) high) ≡ false
is_long low high bytes many = and_right (nat_le low (length bytes)) (nat_le (length bytes) high) (lt-leb (length bytes) high many)

not_true : (b : Bool) → (b ≡ true → ⊥) → b ≡ false
not_true true fails = absurd (fails refl)
not_true false fails = refl

pub bucket_kept : (bytes : List ℕ) → IsBucketName bytes → is_bucket_name bytes ≡ true
bucket_kept bytes name =
    and_from (nat_le 6 (length bytes) && nat_le (length bytes) 63) (not (bytes_eq (map to_ascii_lowercase (take 3 bytes)) (codes "b2-")) && list_all is_bucket_byte bytes)
    (has_size 6 63 bytes name.0.least name.0.most)
    (and_from (not (bytes_eq (map to_ascii_lowercase (take 3 bytes)) (codes "b2-"))) (list_all is_bucket_byte bytes)
    (free_of bytes name.0.free) (all_pass is_bucket_byte bytes name.1))

pub bucket_refused : (bytes : List ℕ) (f : BucketFault) → IsBucketFault bytes f → is_bucket_name bytes ≡ false
bucket_refused bytes bucket.Short fault =
    and_left (nat_le 6 (length bytes) && nat_le (length bytes) 63) (not (bytes_eq (map to_ascii_lowercase (take 3 bytes)) (codes "b2-")) && list_all is_bucket_byte bytes) (is_short 6 63 bytes fault)
bucket_refused bytes bucket.Long fault =
    and_left (nat_le 6 (length bytes) && nat_le (length bytes) 63) (not (bytes_eq (map to_ascii_lowercase (take 3 bytes)) (codes "b2-")) && list_all is_bucket_byte bytes) (is_long 6 63 bytes fault)
bucket_refused bytes bucket.Reserved fault =
    and_right (nat_le 6 (length bytes) && nat_le (length bytes) 63) (not (bytes_eq (map to_ascii_lowercase (take 3 bytes)) (codes "b2-")) && list_all is_bucket_byte bytes)
    (and_left (not (bytes_eq (map to_ascii_lowercase (take 3 bytes)) (codes "b2-"))) (list_all is_bucket_byte bytes) (not_free bytes fault.2))
bucket_refused bytes (bucket.Char at) fault =
    and_right (nat_le 6 (length bytes) && nat_le (length bytes) 63) (not (bytes_eq (map to_ascii_lowercase (take 3 bytes)) (codes "b2-")) && list_all is_bucket_byte bytes)
    (and_right (not (bytes_eq (map to_ascii_lowercase (take 3 bytes)) (codes "b2-"))) (list_all is_bucket_byte bytes)
    (list_all_at is_bucket_byte bytes at 0 fault.1.within (not_true (is_bucket_byte (slice_index bytes at)) fault.1.other)))

no_code : (byte : ℕ) → IsNoCode byte → is_no_code byte ≡ true
no_code byte is = and_from (nat_le 32 byte) (not (byte == 127)) (le-leb 32 byte is.0) (ap not (ne_eqb byte 127 is.1))

code_of : (byte : ℕ) → is_no_code byte ≡ true → IsNoCode byte
code_of byte is =
    let parts = and_parts (nat_le 32 byte) (not (byte == 127)) is in
    (leb-true 32 byte parts.0, λ same. both_ways (byte == 127) (not-true (byte == 127) parts.1) (eq-eqb byte 127 same))

pub file_kept : (bytes : List ℕ) → IsFileName bytes → is_file_name bytes ≡ true
file_kept bytes name =
    and_from (nat_le 1 (length bytes) && nat_le (length bytes) 1024) (list_all is_no_code bytes)
    (has_size 1 1024 bytes name.size.0 name.size.1) (all_pass is_no_code bytes (λ i below. no_code (slice_index bytes i) (name.codes i below)))

pub file_refused : (bytes : List ℕ) (f : NameFault) → IsUtf8 bytes → IsNameFault bytes f → is_file_name bytes ≡ false
file_refused bytes file.Empty text fault =
    and_left (nat_le 1 (length bytes) && nat_le (length bytes) 1024) (list_all is_no_code bytes) (is_short 1 1024 bytes (omega (arith, fault)))
file_refused bytes file.Long text fault =
    and_left (nat_le 1 (length bytes) && nat_le (length bytes) 1024) (list_all is_no_code bytes) (is_long 1 1024 bytes fault)
file_refused bytes (file.NotUtf8 at) text fault = absurd (fault.1 text)
file_refused bytes (file.Code at) text fault =
    and_right (nat_le 1 (length bytes) && nat_le (length bytes) 1024) (list_all is_no_code bytes)
    (list_all_at is_no_code bytes at 0 fault.2.within (not_true (is_no_code (slice_index bytes at)) (λ is. fault.2.other (code_of (slice_index bytes at) is))))

pub bucket_is : (name bytes text : List ℕ) → name ≡ bytes → bytes ≡ text → IsBucketName bytes → Some name ≡ if_passes is_bucket_name text
bucket_is name bytes text is same keeps =
    let passes : is_bucket_name text ≡ true = ap is_bucket_name (sym same) ∙ bucket_kept bytes keeps in
    rw passes (ap Some (is ∙ same))

pub bucket_isnt : (bytes text : List ℕ) (f : BucketFault) → bytes ≡ text → IsBucketFault bytes f → None ≡ if_passes is_bucket_name text
bucket_isnt bytes text f same fault =
    let fails : is_bucket_name text ≡ false = ap is_bucket_name (sym same) ∙ bucket_refused bytes f fault in
    rw fails refl

pub file_is : (name bytes text : List ℕ) → name ≡ bytes → bytes ≡ text → IsFileName bytes → Some name ≡ if_passes is_file_name text
file_is name bytes text is same keeps =
    let passes : is_file_name text ≡ true = ap is_file_name (sym same) ∙ file_kept bytes keeps in
    rw passes (ap Some (is ∙ same))

pub file_isnt : (bytes text : List ℕ) (f : NameFault) → bytes ≡ text → IsUtf8 bytes → IsNameFault bytes f → None ≡ if_passes is_file_name text
file_isnt bytes text f same utf8 fault =
    let fails : is_file_name text ≡ false = ap is_file_name (sym same) ∙ file_refused bytes f utf8 fault in
    rw fails refl
