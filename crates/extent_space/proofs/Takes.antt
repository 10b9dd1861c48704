-- What a take means to the extents in use.
use Rattle.std.proofs.Common.{◌≡◌, ℕ, ◌<◌, ◌≤◌, ◌+◌, ◌-◌, ◌^◌, None, Bool, false, List, [], ◌∷◌, inl, inr, ⊎_elim, refl, arith}
use Rattle.std.specs.Prelude.{All}
use Rattle.std.specs.List.{find}
use Rattle.std.proofs.lemmas.Bool.{cases_lt, lt-leb, ne_eqb}
use Rattle.std.proofs.lemmas.List.Elements.{All-head, All-tail, All-weaker}
use Rattle.b2_base.specs.declared.extent.Extent.{Extent}
use Rattle.extent_space.specs.Room.{Apart, Covers, IsFilled, IsFree, IsHole, IsTaken, IsTidy, IsUsed, IsWhole, Room, extent_for, has_room, rounded}

pub nothing_taken : (r : Room) → IsTidy r → IsFilled r 0 0 r
nothing_taken r tidy = record { used = λ b. (λ u. inl u, λ u. elim u [ inl v ↦ v | inr v ↦ absurd (omega (arith, v.1)) ]); same_limit = refl; tidy = tidy }

none_found : {X : Type 0} (p : X → Bool) (xs : List X) → All (λ x. p x ≡ false) xs → find p xs ≡ None
none_found p [] all = refl
none_found p (x ∷ xs) all = rw (All-head (λ y. p y ≡ false) x xs all) (none_found p xs (All-tail (λ y. p y ≡ false) x xs all))

-- a length that is at most the limit's type's last number, and yet can't be rounded up within it
pub too_long : (r : Room) (len : ℕ) → IsTidy r → r.limit < 2 ^ 64 → 2 ^ 64 < len + 4096 → extent_for r len ≡ None
too_long r len tidy small long =
    let much : 2 ^ 64 ≤ rounded len = omega arith in
    let none : find (has_room (rounded len)) r.holes ≡ None = none_found (has_room (rounded len)) r.holes (All-weaker (IsHole r.end) (λ h. has_room (rounded len) h ≡ false) (λ h is. lt-leb (rounded len) (h.to - h.from) (omega (arith, is.before, tidy.within))) r.holes tidy.holes) in
    rw (ne_eqb len 0 (λ e. omega arith), none, lt-leb (r.end + rounded len) r.limit (omega arith)) refl

pub is_taken : (r s : Room) (at len : ℕ) → IsWhole at → IsFilled r at (at + rounded len) s → IsTaken s (record { at = at; len = len })
is_taken r s at len whole filled = inr (whole, λ b inside. (filled.used b).1 (inr inside))

-- what was free is apart from all that is taken
pub free_is_apart : (r : Room) (at len : ℕ) → 0 < len → IsFree r at (at + rounded len) → (f : Extent) → 0 < f.len → IsTaken r f → Apart (record { at = at; len = len }) f
free_is_apart r at len more free f some taken = elim taken [
  | inl none ↦ absurd (omega (arith, none))
  | inr t ↦ ⊎_elim (λ (low : f.at < at + rounded len). ⊎_elim (λ (high : at < f.at + rounded f.len). absurd (both t.1 low high)) (λ (l : f.at + rounded f.len ≤ at). inr l) (cases_lt at (f.at + rounded f.len))) (λ (l : at + rounded len ≤ f.at). inl l) (cases_lt f.at (at + rounded len))
] where
  both : ((b : ℕ) → Covers f b → IsUsed r b) → f.at < at + rounded len → at < f.at + rounded f.len → ⊥
  both used low high = ⊎_elim (λ (before : at < f.at). free f.at (omega arith) low (used f.at (omega arith, omega arith))) (λ (after : f.at ≤ at). free at (omega arith) (omega arith) (used at (after, high))) (cases_lt at f.at)
