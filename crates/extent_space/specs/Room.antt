-- Where contents stand in an area: what is in use, the holes between, and the end.
use Rattle.std.specs.Prelude.{Option, None, Some, Bool, ◌≡◌, ℕ, ◌+◌, ◌-◌, ◌*◌, ◌/◌, ◌%◌, ◌<◌, ◌≤◌, List, All, nat_le, nat_eq, if◌then◌else◌, ◌↔◌, ◌⊎◌}
use Rattle.std.specs.List.{AllPairs, Any, find}
use Rattle.std.specs.Option.{option_or, option_map}
use Rattle.b2_base.specs.declared.extent.Extent.{Extent}

-- the bytes from `from` up to `to`, without that at `to`
pub record Hole : Type 0 where
  pub from : ℕ
  pub to : ℕ

-- all before the end that lies in no hole is in use, and nothing ever ends after the limit
pub record Room : Type 0 where
  pub holes : List Hole
  pub end : ℕ
  pub limit : ℕ

-- a length, rounded up to a multiple of 4,096
abbrev pub rounded : ℕ → ℕ
rounded len = (len + 4095) / 4096 * 4096

abbrev pub IsWhole : ℕ → Type 0
IsWhole n = n % 4096 ≡ 0

-- the byte is one of those that the extent takes
abbrev pub Covers : Extent → ℕ → Type 0
Covers e b = (e.at ≤ b) × (b < e.at + rounded e.len)

-- the byte is none of them
abbrev pub IsClearOf : Extent → ℕ → Type 0
IsClearOf e b = (b < e.at) ⊎ (e.at + rounded e.len ≤ b)

-- no byte is taken by both
abbrev pub Apart : Extent → Extent → Type 0
Apart e f = (e.at + rounded e.len ≤ f.at) ⊎ (f.at + rounded f.len ≤ e.at)

-- the byte does not lie in the hole
abbrev pub IsOutside : ℕ → Hole → Type 0
IsOutside b h = (b < h.from) ⊎ (h.to ≤ b)

-- the byte is in use: it lies before the end, and in no hole
abbrev pub IsUsed : Room → ℕ → Type 0
IsUsed r b = (b < r.end) × All (IsOutside b) r.holes

-- none of the bytes from `from` up to `to` is in use
abbrev pub IsFree : Room → ℕ → ℕ → Type 0
IsFree r from to = (b : ℕ) → from ≤ b → b < to → IsUsed r b → ⊥

-- a hole has a byte, lies before the end and does not reach it
pub record IsHole (end : ℕ) (h : Hole) : Type 0 where
  pub some : h.from < h.to
  pub before : h.to < end
  pub from : IsWhole h.from
  pub to : IsWhole h.to

-- the holes ascend and do not touch one another, and none reaches the end
pub record IsTidy (r : Room) : Type 0 where
  pub holes : All (IsHole r.end) r.holes
  pub apart : AllPairs (λ g h. g.to < h.from) r.holes
  pub end : IsWhole r.end
  pub within : r.end ≤ r.limit

-- whether the hole has so many bytes
abbrev pub has_room : ℕ → Hole → Bool
has_room n h = nat_le n (h.to - h.from)

-- the front of the first hole that has so many bytes, else the end, where the limit allows
abbrev pub first_fit : Room → ℕ → Option ℕ
first_fit r n =
    option_or (option_map (λ h. h.from) (find (has_room n) r.holes))
    (if nat_le (r.end + n) r.limit then Some r.end else None)

-- there are n free bytes from here on
pub record HasFree (r : Room) (n from : ℕ) : Type 0 where
  pub whole : IsWhole from
  pub within : from + n ≤ r.limit
  pub free : IsFree r from (from + n)

-- what is taken for a content of this length: none where no hole has room and the end would
-- pass the limit
abbrev pub extent_for : Room → ℕ → Option Extent
extent_for r len =
    if nat_eq len 0
    then Some (record { at = 0; len = 0 })
    else option_map (λ at. record { at = at; len = len }) (first_fit r (rounded len))

-- the extent is in use as a whole; one of no bytes always counts as taken
abbrev pub IsTaken : Room → Extent → Type 0
IsTaken r e = (e.len ≡ 0) ⊎ (IsWhole e.at × ((b : ℕ) → Covers e b → IsUsed r b))

-- it has no byte of what was taken
abbrev pub IsApartFromTaken : Room → Extent → Type 0
IsApartFromTaken r e = (f : Extent) → 0 < f.len → IsTaken r f → Apart e f

-- the bytes in use are those of before and those from `from` up to `to`
pub record IsFilled (old : Room) (from to : ℕ) (new : Room) : Type 0 where
  pub used : (b : ℕ) → IsUsed new b ↔ (IsUsed old b ⊎ ((from ≤ b) × (b < to)))
  pub same_limit : new.limit ≡ old.limit
  pub tidy : IsTidy new

-- the bytes in use are those of before and those of e
abbrev pub Takes : Room → Extent → Room → Type 0
Takes old e new = IsFilled old e.at (e.at + rounded e.len) new

-- the bytes in use are those of before but for those of e
pub record GivesBack (old : Room) (e : Extent) (new : Room) : Type 0 where
  pub used : (b : ℕ) → IsUsed new b ↔ (IsUsed old b × IsClearOf e b)
  pub same_limit : new.limit ≡ old.limit
  pub tidy : IsTidy new

-- an extent that stands in an area of this limit
pub record IsPlaced (limit : ℕ) (e : Extent) : Type 0 where
  pub whole : IsWhole e.at
  pub none : e.len ≡ 0 → e.at ≡ 0
  pub within : e.at + rounded e.len ≤ limit

-- the room in which the bytes of these extents are in use, and no others: there is one at most
pub record IsRoomOf (limit : ℕ) (used : List Extent) (r : Room) : Type 0 where
  pub bytes : (b : ℕ) → IsUsed r b ↔ Any (λ e. Covers e b) used
  pub of_limit : r.limit ≡ limit
  pub tidy : IsTidy r
