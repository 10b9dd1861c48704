-- One more of the extents that are in use.
use Rattle.std.proofs.Common.{◌≡◌, ℕ, ◌<◌, ◌≤◌, ◌⊎◌, ◌↔◌, ◌+◌, List, length, get_or, take, subst, sym, ap, ◌∙◌, inl, inr, ⊎_elim, refl, arith}
use Rattle.std.specs.List.{AllPairs, Any}
use Rattle.std.proofs.lemmas.Bool.{cases_lt}
use Rattle.std.proofs.lemmas.List.{get_or-take, get_or_default, length-take-le}
use Rattle.b2_base.specs.declared.extent.Extent.{Extent}
use Rattle.extent_space.specs.Room.{Apart, Covers, IsFilled, IsFree, IsRoomOf, Room, rounded}

module _ {X : Type 0} (P : X → Type 0) (xs : List X) where
  -- one of the first i
  one_of_first : ℕ → Type 0
  one_of_first i = (k : ℕ) × (x : X) × (k < i) × (get_or xs k x ≡ x) × P x

  from_first : (i : ℕ) → i ≤ length xs → Any P (take i xs) → one_of_first i
  unfolding one_of_first
  from_first i within a = let low : a.0 < i = subst (λ n. a.0 < n) (length-take-le i xs within) a.2 in (a.0, a.1, low, sym (get_or-take i xs a.0 a.1 low) ∙ a.3, a.4)

  to_first : (i : ℕ) → i ≤ length xs → one_of_first i → Any P (take i xs)
  unfolding one_of_first
  to_first i within a = (a.0, a.1, subst (λ n. a.0 < n) (sym (length-take-le i xs within)) a.2, get_or-take i xs a.0 a.1 a.2 ∙ a.3, a.4)

  -- one of the first i + 1 is one of the first i, or that at i
  pub any_more : (i : ℕ) (d : X) → i < length xs → Any P (take (i + 1) xs) ↔ (Any P (take i xs) ⊎ P (get_or xs i d))
  unfolding one_of_first
  any_more i d inside = (
    λ a. let h = from_first (i + 1) (omega arith) a in ⊎_elim
        (λ (low : h.0 < i). inl (to_first i (omega arith) (h.0, h.1, low, h.3, h.4)))
        (λ (high : i ≤ h.0). let same : h.0 ≡ i = omega (arith, h.2) in inr (subst P (sym h.3 ∙ ap (λ k. get_or xs k h.1) same ∙ get_or_default xs i h.1 d inside) h.4))
        (cases_lt h.0 i),
    λ u. elim u [
      | inl a ↦ let h = from_first i (omega arith) a in to_first (i + 1) (omega arith) (h.0, h.1, omega (arith, h.2), h.3, h.4)
      | inr p ↦ to_first (i + 1) (omega arith) (i, get_or xs i d, omega arith, get_or_default xs i (get_or xs i d) d inside, p)
    ],
  )

module _ (limit : ℕ) (used : List Extent) (i : ℕ) (d : Extent) (inside : i < length used) (r : Room) (before : IsRoomOf limit (take i used) r) where
  -- it is apart from those before it, and so free
  pub free_yet : AllPairs Apart used → IsFree r (get_or used i d).at ((get_or used i d).at + rounded (get_or used i d).len)
  unfolding one_of_first
  free_yet apart b low high is =
      let h = from_first (λ e. Covers e b) used i (omega arith) ((before.bytes b).0 is) in
      let pair : Apart (get_or used h.0 d) (get_or used i d) = apart h.0 i d h.2 inside in
      let there : get_or used h.0 d ≡ h.1 = get_or_default used h.0 d h.1 (omega (arith, h.2)) ∙ h.3 in
      elim (subst (λ e. Apart e (get_or used i d)) there pair) [ inl l ↦ omega (arith, l, h.4) | inr m ↦ omega (arith, m, h.4) ]

  pub used_more : (s : Room) → IsFilled r (get_or used i d).at ((get_or used i d).at + rounded (get_or used i d).len) s → IsRoomOf limit (take (i + 1) used) s
  used_more s filled = record {
    bytes = λ b. let more = any_more (λ e. Covers e b) used i d inside in (
      λ u. more.1 (elim ((filled.used b).0 u) [ inl v ↦ inl ((before.bytes b).0 v) | inr v ↦ inr v ]),
      λ u. (filled.used b).1 (elim (more.0 u) [ inl v ↦ inl ((before.bytes b).1 v) | inr v ↦ inr v ]),
    );
    of_limit = filled.same_limit ∙ before.of_limit;
    tidy = filled.tidy;
  }

  pub used_no_more : (get_or used i d).len ≡ 0 → IsRoomOf limit (take (i + 1) used) r
  used_no_more none = used_more r (record { used = λ b. (λ u. inl u, λ u. elim u [ inl v ↦ v | inr v ↦ absurd (omega (arith, none, v.0, v.1)) ]); same_limit = refl; tidy = before.tidy })
