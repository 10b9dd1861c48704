-- Where extents stand that are in use.
use Rattle.std.proofs.Common.{◌≡◌, ◌⊎◌, inl, inr, ℕ, ◌+◌, ◌-◌, ◌≤◌, ◌<◌, Option, Some, None, Bool, true, false, nat_eq, if◌then◌else◌, List, [], ◌∷◌, ◌++◌, Contains, refl, sym, ap, subst, ◌∙◌, arith}
use Rattle.std.proofs.lemmas.List.Elements.{Contains-push}
use Rattle.std.proofs.lemmas.Bool.{cases_lt}
use Rattle.std.specs.Option.{option_map}
use Rattle.b2_base.specs.declared.extent.Extent.{Extent}
use Rattle.extent_space.specs.Room.{Room, Apart, IsTaken, IsTidy, extent_for, first_fit, rounded}
use Rattle.blob_extents.specs.Uses.{Uses, IsInUse}
use Rattle.blob_extents.proofs.Frames.{rounds_up}

abbrev extent : ℕ → ℕ → Extent
extent at len = record { at = at; len = len }

abbrev at_or : Option Extent → ℕ
at_or None = 0
at_or (Some e) = e.at

abbrev len_or : Option Extent → ℕ
len_or None = 0
len_or (Some e) = e.len

-- what is taken ends before the limit
pub ends_before : (r : Room) (e : Extent) → IsTidy r → IsTaken r e → (e.len ≡ 0 → e.at ≡ 0) → e.at + e.len ≤ r.limit
ends_before r e tidy (inl none) front = omega (arith, none, front none)
ends_before r e tidy (inr taken) front = by_case (cases_lt 0 e.len)
  where
    by_case : (0 < e.len) ⊎ (e.len ≤ 0) → e.at + e.len ≤ r.limit
    by_case (inl some) =
        let last = taken.1 (e.at + e.len - 1) (omega arith, omega (arith, rounds_up e.len)) in
        omega (arith, last.0, tidy.within)
    by_case (inr none) = let empty : e.len ≡ 0 = omega arith in omega (arith, empty, front empty)

-- a content of no bytes stands at the front
pub none_at_front : (r : Room) (len : ℕ) (e : Extent) → extent_for r len ≡ Some e → e.len ≡ 0 → e.at ≡ 0
none_at_front r len e is empty = by_test (nat_eq len 0) refl is
  where
    from_fit : (o : Option ℕ) → nat_eq len 0 ≡ false → option_map (λ at. extent at len) o ≡ Some e → e.at ≡ 0
    from_fit None test shown = absurd (cc)
    from_fit (Some at) test shown =
        let same : Some (extent at len) ≡ Some e = shown in
        let long : e.len ≡ len = ap len_or (sym same) in
        let none : len ≡ 0 = sym long ∙ empty in
        let is_zero : nat_eq len 0 ≡ true = ap (λ n. nat_eq n 0) none in
        absurd (cc)

    by_test : (b : Bool) → nat_eq len 0 ≡ b → (if b then Some (extent 0 0) else option_map (λ at. extent at len) (first_fit r (rounded len))) ≡ Some e → e.at ≡ 0
    by_test true test shown = sym (ap at_or shown)
    by_test false test shown = from_fit (first_fit r (rounded len)) test shown

-- apart from an extent of some bytes, and so from one of none, which stands at the front
pub apart_of : (x e : Extent) → (0 < e.len → Apart x e) → (e.len ≡ 0 → e.at ≡ 0) → Apart x e
apart_of x e some none = by_case (cases_lt 0 e.len)
  where
    by_case : (0 < e.len) ⊎ (e.len ≤ 0) → Apart x e
    by_case (inl larger) = some larger
    by_case (inr least) = let empty : e.len ≡ 0 = omega arith in inr (omega (arith, empty, none empty))

-- the same room
pub in_use_still : (old new : Uses) (e : Extent) → new.room ≡ old.room → IsInUse old e → IsInUse new e
in_use_still old new e same used = record { taken = subst (λ r. IsTaken r e) (sym same) used.taken; none = used.none }

-- what is pinned once more is among the pins
pub now_pinned : (old new : List Extent) (e : Extent) → new ≡ old ++ e ∷ [] → Contains new e
now_pinned old new e is = subst (λ l. Contains l e) (sym is) (Contains-push old e)
