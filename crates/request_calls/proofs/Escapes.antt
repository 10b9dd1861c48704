-- Bytes are a name with escapes, or they are none.
use Rattle.std.proofs.Common.{◌≡◌, ◌⊎◌, inl, inr, ℕ, zero, suc, ◌+◌, ◌<◌, ◌≤◌, Bool, true, false, List, length, sym, ◌∙◌, subst, refl, arith}
use Rattle.std.specs.Prelude.{IsTrue, EachIndex, slice_index}
use Rattle.std.specs.Char.{is_ascii_hexdigit}
use Rattle.std.specs.Str.{IsUtf8, is_utf8}
use Rattle.std.proofs.lemmas.Bool.{false≢true, cases_lt, cases_eq, cases_Bool}
use Rattle.std.proofs.lemmas.Str.{IsUtf8-from_is_utf8, is_utf8-from_IsUtf8}
use Rattle.name_rules.specs.FileName.{IsNoCode, HasLength, IsFileName}
use Rattle.name_rules.specs.Decode.{HasDigitsBehind, IsBadEscape, HasNoBadEscape, decoded_name}
use Rattle.name_rules.specs.declared.file.TheConstants.{MOST_FILE_NAME}
use Rattle.head_fields.specs.Downloads.{IsEscaped}

-- it holds, or it doesn't
abbrev pub Either : Type 0 → Type 0
Either P = P ⊎ (P → ⊥)

-- ---- parts

not_either : {P : Type 0} → Either P → Either (P → ⊥)
not_either (inl holds) = inr (λ none. none holds)
not_either (inr none) = inl none

both_either : {P Q : Type 0} → Either P → Either Q → Either (P × Q)
both_either (inl one) (inl other) = inl (one, other)
both_either (inl one) (inr none) = inr (λ both. none both.1)
both_either (inr none) other = inr (λ both. none both.0)

less_either : (m n : ℕ) → Either (m < n)
less_either m n = by (cases_lt m n)
  where
    by : (m < n) ⊎ (n ≤ m) → Either (m < n)
    by (inl less) = inl less
    by (inr most) = inr (λ less. omega (arith, less, most))

most_either : (m n : ℕ) → Either (m ≤ n)
most_either m n = by (cases_lt n m)
  where
    by : (n < m) ⊎ (m ≤ n) → Either (m ≤ n)
    by (inl less) = inr (λ most. omega (arith, less, most))
    by (inr most) = inl most

true_either : (b : Bool) → Either (IsTrue b)
true_either true = inl refl
true_either false = inr (λ is. false≢true is)

-- of each number below this one, or not of each
each_either : (P : ℕ → Type 0) → ((at : ℕ) → Either (P at)) → (n : ℕ) → Either ((at : ℕ) → at < n → P at)
each_either P test zero = inl (λ at less. absurd (omega (arith, less)))
each_either P test (suc n) = by (each_either P test n) (test n)
  where
    at_last : P n → ((at : ℕ) → at < n → P at) → (at : ℕ) → at < suc n → (at < n) ⊎ (n ≤ at) → P at
    at_last last each at less (inl before) = each at before
    at_last last each at less (inr from) = let same : n ≡ at = omega (arith, less, from) in subst P same last

    by : Either ((at : ℕ) → at < n → P at) → Either (P n) → Either ((at : ℕ) → at < suc n → P at)
    by (inl each) (inl last) = inl (λ at less. at_last last each at less (cases_lt at n))
    by (inl each) (inr none) = inr (λ all. none (all n (omega arith)))
    by (inr none) last = inr (λ all. none (λ at less. all at (omega (arith, less))))

-- ---- escapes

digits_either : (bytes : List ℕ) (at : ℕ) → Either (HasDigitsBehind bytes at)
digits_either bytes at =
    by (less_either (at + 2) (length bytes)) (true_either (is_ascii_hexdigit (slice_index bytes (at + 1)))) (true_either (is_ascii_hexdigit (slice_index bytes (at + 2))))
  where
    by : Either (at + 2 < length bytes) → Either (IsTrue (is_ascii_hexdigit (slice_index bytes (at + 1)))) → Either (IsTrue (is_ascii_hexdigit (slice_index bytes (at + 2)))) → Either (HasDigitsBehind bytes at)
    by (inl within) (inl high) (inl low) = inl (record { within = within; high = high; low = low })
    by (inl within) (inl high) (inr none) = inr (λ digits. none digits.low)
    by (inl within) (inr none) low = inr (λ digits. none digits.high)
    by (inr none) high low = inr (λ digits. none digits.within)

bad_either : (bytes : List ℕ) (at : ℕ) → Either (IsBadEscape bytes at)
bad_either bytes at = by (less_either at (length bytes)) (cases_eq (slice_index bytes at) 37) (digits_either bytes at)
  where
    by : Either (at < length bytes) → Either (slice_index bytes at ≡ 37) → Either (HasDigitsBehind bytes at) → Either (IsBadEscape bytes at)
    by (inl within) (inl percent) (inl digits) = inr (λ bad. bad.2 digits)
    by (inl within) (inl percent) (inr none) = inl (within, percent, none)
    by (inl within) (inr other) digits = inr (λ bad. other bad.1)
    by (inr none) percent digits = inr (λ bad. none bad.0)

no_bad_either : (bytes : List ℕ) (end : ℕ) → Either (HasNoBadEscape bytes end)
no_bad_either bytes end = each_either (λ at. IsBadEscape bytes at → ⊥) (λ at. not_either (bad_either bytes at)) end

-- ---- names

pub text_either : (bytes : List ℕ) → Either (IsUtf8 bytes)
text_either bytes = by (cases_Bool (is_utf8 bytes))
  where
    by : (is_utf8 bytes ≡ true) ⊎ (is_utf8 bytes ≡ false) → Either (IsUtf8 bytes)
    by (inl is) = inl (IsUtf8-from_is_utf8 bytes is)
    by (inr other) = inr (λ text. false≢true (sym other ∙ is_utf8-from_IsUtf8 bytes text))

no_code_either : (byte : ℕ) → Either (IsNoCode byte)
no_code_either byte = both_either (most_either 32 byte) (not_either (cases_eq byte 127))

name_either : (bytes : List ℕ) → Either (IsFileName bytes)
name_either bytes =
    by (both_either (most_either 1 (length bytes)) (most_either (length bytes) MOST_FILE_NAME)) (text_either bytes)
    (each_either (λ i. IsNoCode (slice_index bytes i)) (λ i. no_code_either (slice_index bytes i)) (length bytes))
  where
    by : Either (HasLength bytes) → Either (IsUtf8 bytes) → Either (EachIndex bytes (λ i. IsNoCode (slice_index bytes i))) → Either (IsFileName bytes)
    by (inl size) (inl text) (inl codes) = inl (record { size = size; text = text; codes = codes })
    by (inl size) (inl text) (inr none) = inr (λ name. none name.codes)
    by (inl size) (inr none) codes = inr (λ name. none name.text)
    by (inr none) text codes = inr (λ name. none name.size)

-- the bytes are a name of a file with escapes, or they are none
pub escaped_either : (bytes : List ℕ) → Either (IsEscaped bytes)
escaped_either bytes = both_either (no_bad_either bytes (length bytes)) (name_either (decoded_name bytes))
