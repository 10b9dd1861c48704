-- Holes, kept by their ends: what a map from the end of each to its start means.
use Rattle.std.specs.Prelude.{List, map, find, ◌≡◌, ◌≢◌, ℕ, ◌<◌, ◌≤◌, ◌⊎◌, nat_lt, if◌then◌else◌}
use Rattle.std.specs.declared.option.Option.{Option}
use Rattle.std.specs.declared.option.Option.TheVariants.{None, Some}
use Rattle.std.specs.Option.{option_map}
use Rattle.extent_space.specs.Room.{Hole, IsHole, IsWhole, Room, has_room}

-- an entry of the map is this hole
abbrev pub hole_of : ℕ × ℕ → Hole
hole_of e = record { from = e.1; to = e.0 }

-- the room with these holes, in order of their ends
abbrev pub room_of : List (ℕ × ℕ) → ℕ → ℕ → Room
room_of entries end limit = record { holes = map hole_of entries; end = end; limit = limit }

-- the start of the first hole that has n bytes
abbrev pub front_with : ℕ → List (ℕ × ℕ) → Option ℕ
front_with n entries = option_map (λ e. e.1) (find (λ e. has_room n (hole_of e)) entries)

-- no two touch
abbrev pub AreApart : (ℕ → Option ℕ) → Type 0
AreApart starts =
    (to from later start : ℕ) → starts to ≡ Some from → starts later ≡ Some start
    → to < later → to < start

-- each is a hole before the end, and no two touch
pub record AreHoles (starts : ℕ → Option ℕ) (end limit : ℕ) : Type 0 where
  pub each : (to from : ℕ) → starts to ≡ Some from → IsHole end (record { from = from; to = to })
  pub apart : AreApart starts
  pub whole : IsWhole end
  pub within : end ≤ limit

-- the byte lies in none of them
abbrev pub IsInNone : (ℕ → Option ℕ) → ℕ → Type 0
IsInNone starts b = (to from : ℕ) → starts to ≡ Some from → (b < from) ⊎ (to ≤ b)

-- the hole in which the byte lies ends at `to`; where it lies in none, `to` is the byte
abbrev pub IsEndOfFree : (ℕ → Option ℕ) → ℕ → ℕ → Type 0
IsEndOfFree starts b to =
    ((from : ℕ) × (starts to ≡ Some from) × (from ≤ b) × (b < to))
    ⊎ ((to ≡ b) × IsInNone starts b)

-- `n` is the first byte from `at` on that lies in one of them, else the end
pub record IsFreeFrom (starts : ℕ → Option ℕ) (at end n : ℕ) : Type 0 where
  pub before : (b : ℕ) → at ≤ b → b < n → IsInNone starts b
  pub here : (n ≡ end) ⊎ ((to from : ℕ) × (starts to ≡ Some from) × (from ≤ n) × (n < to) × (at ≤ n) × ((n ≡ at) ⊎ (n ≡ from)))

-- the hole from `from` up to `to` is added, where that has a byte
pub record AddsHole (old new : ℕ → Option ℕ) (from to : ℕ) : Type 0 where
  pub others : (q : ℕ) → q ≢ to → new q ≡ old q
  pub here : new to ≡ (if nat_lt from to then Some from else old to)

-- the bytes from x up to y are cut out of the hole from `first` up to `last`, of which up to two
-- holes are left
pub record IsCut (old new : ℕ → Option ℕ) (first last x y : ℕ) : Type 0 where
  pub others : (to : ℕ) → to ≢ last → to ≢ x → new to ≡ old to
  pub front : new x ≡ (if nat_lt first x then Some first else old x)
  pub back : new last ≡ (if nat_lt y last then Some y else None)
