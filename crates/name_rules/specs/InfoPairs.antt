-- Pairs of information about a file or a bucket (the B2 reference, "File information").
use Rattle.std.specs.Prelude.{◌≡◌, ◌≢◌, ℕ, ◌+◌, ◌-◌, ◌^◌, ◌<◌, ◌≤◌, min, List, [], length, map, sum_by, codes, Bool, ◌||◌, ◌==◌, IsTrue, EachIndex, slice_index, slice_index_or, All}
use Rattle.std.specs.List.{list_any}
use Rattle.std.specs.List.Sorted.{IsPermutation, IsStrictlySortedBy}
use Rattle.std.specs.Ordering.{nat_cmp}
use Rattle.std.specs.Cmp.Lexicographic.{slice_cmp}
use Rattle.std.specs.Char.{is_ascii_alphanumeric, to_ascii_lowercase}
use Rattle.name_rules.specs.declared.info.TheConstants.{MOST_PAIRS, MOST_KEY, MOST_INFO}
use Rattle.name_rules.specs.declared.info.InfoFault.{InfoFault}
use Rattle.name_rules.specs.declared.info.InfoFault.TheVariants.{TooMany, Key, Repeat, Size}

-- an ASCII letter, a digit or one of these marks
abbrev pub is_key_byte : ℕ → Bool
is_key_byte byte = is_ascii_alphanumeric byte || list_any (λ mark. mark == byte) (codes "-_.`~!#$%^&*'|+")

abbrev pub IsKeyByte : ℕ → Type 0
IsKeyByte byte = IsTrue (is_key_byte byte)

-- 1 to 50 such bytes
pub record IsKey (key : List ℕ) : Type 0 where
  pub least : 1 ≤ length key
  pub most : length key ≤ MOST_KEY
  pub each : EachIndex key (λ i. IsKeyByte (slice_index key i))

abbrev pub lower : List ℕ → List ℕ
lower key = map to_ascii_lowercase key

-- the pair with its key in lower case
abbrev pub lowered : List ℕ × List ℕ → List ℕ × List ℕ
lowered pair = (lower pair.0, pair.1)

abbrev pub keys : List (List ℕ × List ℕ) → List (List ℕ)
keys pairs = map (λ pair. pair.0) pairs

-- the bytes of all keys and values
abbrev pub size : List (List ℕ × List ℕ) → ℕ
size pairs = sum_by (λ pair. length pair.0 + length pair.1) pairs

abbrev pub key_at : List (List ℕ × List ℕ) → ℕ → List ℕ
key_at pairs at = slice_index_or (keys pairs) at []

abbrev pub HasKey : List (List ℕ × List ℕ) → ℕ → Type 0
HasKey pairs at = IsKey (key_at pairs at)

-- the key doesn't stand before, in either case
abbrev pub IsNew : List (List ℕ × List ℕ) → ℕ → Type 0
IsNew pairs at = (i : ℕ) → i < at → lower (key_at pairs i) ≢ lower (key_at pairs at)

-- P holds of each place before this one
abbrev pub AllBefore : (ℕ → Type 0) → ℕ → Type 0
AllBefore P end = (at : ℕ) → at < end → P at

-- P holds of each place before this one, which is below the end, and not of it
pub record IsFirstNot (P : ℕ → Type 0) (end at : ℕ) : Type 0 where
  pub within : at < end
  pub other : P at → ⊥
  pub before : AllBefore P at

-- at most 10 pairs with keys that differ, of 7,000 bytes together
pub record AreInfo (pairs : List (List ℕ × List ℕ)) : Type 0 where
  pub few : length pairs ≤ MOST_PAIRS
  pub keys : AllBefore (HasKey pairs) (length pairs)
  pub apart : AllBefore (IsNew pairs) (length pairs)
  pub small : size pairs ≤ MOST_INFO

-- why the pairs are none
abbrev pub IsInfoFault : List (List ℕ × List ℕ) → InfoFault → Type 0
IsInfoFault pairs TooMany = MOST_PAIRS < length pairs
IsInfoFault pairs (Key at) = (length pairs ≤ MOST_PAIRS) × IsFirstNot (HasKey pairs) (length pairs) at
IsInfoFault pairs (Repeat at) = (length pairs ≤ MOST_PAIRS) × AllBefore (HasKey pairs) (length pairs) × IsFirstNot (IsNew pairs) (length pairs) at
IsInfoFault pairs (Size bytes) = (length pairs ≤ MOST_PAIRS) × AllBefore (HasKey pairs) (length pairs) × AllBefore (IsNew pairs) (length pairs)
    × (MOST_INFO < size pairs) × (bytes ≡ min (size pairs) (2 ^ 64 - 1))

-- the keys ascend by their bytes
abbrev pub IsAscending : List (List ℕ × List ℕ) → Type 0
IsAscending pairs = IsStrictlySortedBy (slice_cmp nat_cmp) (keys pairs)

-- the same pairs with lower-case keys that ascend
pub record IsArranged (pairs arranged : List (List ℕ × List ℕ)) : Type 0 where
  pub same : IsPermutation (map lowered pairs) arranged
  pub order : IsAscending arranged

abbrev pub IsKeptKey : List ℕ → Type 0
IsKeptKey key = IsKey key × (lower key ≡ key)

-- pairs as they are kept
pub record AreKept (pairs : List (List ℕ × List ℕ)) : Type 0 where
  pub few : length pairs ≤ MOST_PAIRS
  pub keys : All (λ pair. IsKeptKey pair.0) pairs
  pub order : IsAscending pairs
  pub small : size pairs ≤ MOST_INFO
