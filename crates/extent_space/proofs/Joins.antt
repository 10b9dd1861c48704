-- Bytes are joined with the holes on both sides.
use Rattle.std.proofs.Common.{◌≡◌, ◌≢◌, ℕ, ◌<◌, ◌≤◌, ◌⊎◌, ◌↔◌, ◌-◌, Option, None, Some, subst, sym, ap, ◌∙◌, inl, inr, ⊎_elim, arith}
use Rattle.std.proofs.lemmas.Bool.{cases_eq, cases_lt, cases_order}
use Rattle.extent_space.specs.Room.{IsWhole}
use Rattle.extent_space.specs.Holes.{AreHoles, IsEndOfFree, IsInNone}

-- the bytes from x up to y are in use, and a hole that ends at x starts at p
module _ (f : ℕ → Option ℕ) (end limit x y p : ℕ) (holes : AreHoles f end limit) (some : x < y) (used : (b : ℕ) → x ≤ b → b < y → (b < end) × IsInNone f b) (before : (f x ≡ Some p) ⊎ ((f x ≡ None) × (p ≡ x))) where
  -- no other hole ends within
  none_within : (q b : ℕ) → f q ≡ Some b → x < q → q ≤ y → ⊥
  none_within q b is low high = let h = holes.each q b is in ⊎_elim (λ (l : q - 1 < b). omega (arith, h.some)) (λ (m : q ≤ q - 1). omega arith) ((used (q - 1) (omega arith) (omega arith)).1 q b is)

  before_x : p ≤ x
  before_x = elim before [ inl is ↦ omega (arith, (holes.each x p is).some) | inr n ↦ omega (arith, n.1) ]

  end_after : y ≤ end
  end_after = let u = used (y - 1) (omega arith) (omega arith) in omega (arith, u.0)

  -- a hole that ends before x, ends before p
  ends_before : (q b : ℕ) → f q ≡ Some b → q < x → q < p
  ends_before q b is low = elim before [ inl h ↦ holes.apart q b x p is h low | inr n ↦ omega (arith, n.1) ]

  -- a byte before x that lies in no hole but that which ends there, lies before p
  clear_before : (b : ℕ) → IsInNone f b → b < x → b < p
  clear_before b u low = elim before [ inl h ↦ ⊎_elim (λ (l : b < p). l) (λ (m : x ≤ b). omega arith) (u x p h) | inr n ↦ omega (arith, n.1) ]

  -- ---- what was in use reached the end
  module _ (g : ℕ → Option ℕ) (last : y ≡ end) (others : (q : ℕ) → q ≢ x → g q ≡ f q) (gone : g x ≡ None) where
    still : (q b : ℕ) → g q ≡ Some b → (f q ≡ Some b) × (q < x)
    still q b is =
        let other : q ≢ x = λ e. cc (gone, is, subst (λ n. g n ≡ None) (sym e) gone) in
        let was : f q ≡ Some b = sym (others q other) ∙ is in (
          was,
          elim (cases_order q x) [
            | inl e ↦ absurd (other e)
            | inr (inl low) ↦ low
            | inr (inr high) ↦ absurd (none_within q b was high (omega (arith, (holes.each q b was).before)))
          ],
        )

    pub lowered_holes : IsWhole p → AreHoles g p limit
    lowered_holes whole = record {
      each = λ q b is. let s = still q b is in let h = holes.each q b s.0 in record { some = h.some; before = ends_before q b s.0 s.1; from = h.from; to = h.to };
      apart = λ q b u c is also below. holes.apart q b u c (still q b is).0 (still u c also).0 below;
      whole = whole;
      within = omega (arith, before_x, end_after, holes.within);
    }

    pub lowered_used : (b : ℕ) → ((b < p) × IsInNone g b) ↔ (((b < end) × IsInNone f b) × ((b < x) ⊎ (y ≤ b)))
    lowered_used b = (
      λ u. ((omega (arith, u.0, before_x, end_after), λ q c is. ⊎_elim (λ (same : q ≡ x). inl (grind (arith, same, is, before, u.0))) (λ (other : q ≢ x). u.1 q c (others q other ∙ is)) (cases_eq q x)), inl (omega (arith, u.0, before_x))),
      λ u. let low : b < x = elim u.1 [ inl l ↦ l | inr h ↦ absurd (omega (arith, u.0.0, h)) ] in (clear_before b u.0.1 low, λ q c is. u.0.1 q c (still q c is).0),
    )

  -- ---- it did not: r is the end of the hole at y, if there is one
  module _ (g : ℕ → Option ℕ) (r : ℕ) (free : IsEndOfFree f y r) (inside : y ≢ end) (others : (q : ℕ) → q ≢ x → q ≢ r → g q ≡ f q) (gone : g x ≡ None) (joined : g r ≡ Some p) where
    hole_after : ((f r ≡ Some y) × (y < r)) ⊎ ((r ≡ y) × IsInNone f y)
    hole_after = elim free [
      | inl h ↦ inl (let from_y : h.0 ≡ y = elim ((used (y - 1) (omega arith) (omega arith)).1 r h.0 h.1) [ inl l ↦ omega (arith, l, h.2) | inr m ↦ absurd (omega (arith, m, h.3)) ] in (h.1 ∙ ap Some from_y, h.3))
      | inr h ↦ inr h
    ]

    after_y : y ≤ r
    after_y = elim hole_after [ inl h ↦ omega (arith, h.1) | inr h ↦ omega (arith, h.0) ]

    before_end : r < end
    before_end = elim hole_after [ inl h ↦ (holes.each r y h.0).before | inr h ↦ grind (arith, h.0, end_after, inside) ]

    none_inside : (q b : ℕ) → f q ≡ Some b → x < q → q < r → ⊥
    none_inside q b is low high = ⊎_elim (λ (past : y < q). elim hole_after [ inl h ↦ let l = holes.apart q b r y is h.0 high in absurd (omega arith) | inr h ↦ absurd (omega (arith, h.0)) ]) (λ (in_use : q ≤ y). none_within q b is low in_use) (cases_lt y q)

    origin : (q b : ℕ) → g q ≡ Some b → ((q ≡ r) × (b ≡ p)) ⊎ ((q ≢ r) × (q ≢ x) × (f q ≡ Some b))
    origin q b is = ⊎_elim (λ (same : q ≡ r). inl (same, cc (joined, is, ap g same))) (λ (other : q ≢ r). let apart : q ≢ x = λ e. cc (gone, is, ap g e) in inr (other, apart, sym (others q apart other) ∙ is)) (cases_eq q r)

    whole_p : IsWhole x → IsWhole p
    whole_p whole = elim before [ inl h ↦ (holes.each x p h).from | inr n ↦ subst IsWhole (sym n.1) whole ]

    whole_r : IsWhole y → IsWhole r
    whole_r whole = elim hole_after [ inl h ↦ (holes.each r y h.0).to | inr n ↦ subst IsWhole (sym n.0) whole ]

    pub joined_holes : IsWhole x → IsWhole y → AreHoles g end limit
    joined_holes whole_x whole_y = record {
      each = λ q b is. elim (origin q b is) [
        | inl o ↦ rw (o.0, o.1) (record { some = omega (arith, before_x, after_y); before = before_end; from = whole_p whole_x; to = whole_r whole_y })
        | inr o ↦ holes.each q b o.2
      ];
      apart = λ q b u c is also below. elim (origin q b is) [
        | inl o ↦ elim (origin u c also) [
          | inl n ↦ absurd (omega (arith, o.0, n.0))
          | inr n ↦ elim hole_after [
            | inl h ↦ omega (arith, o.0, holes.apart r y u c h.0 n.2)
            | inr h ↦ elim (h.1 u c n.2) [ inl l ↦ omega (arith, l, o.0, h.0) | inr m ↦ absurd (omega (arith, m, o.0, h.0)) ]
          ]
        ]
        | inr o ↦ elim (origin u c also) [
          | inl n ↦ elim (cases_order q x) [
            | inl e ↦ absurd (o.1 e)
            | inr (inl low) ↦ omega (arith, n.1, ends_before q b o.2 low)
            | inr (inr high) ↦ absurd (none_inside q b o.2 high (omega (arith, n.0)))
          ]
          | inr n ↦ holes.apart q b u c o.2 n.2 below
        ]
      ];
      whole = holes.whole;
      within = holes.within;
    }

    pub joined_used : (b : ℕ) → ((b < end) × IsInNone g b) ↔ (((b < end) × IsInNone f b) × ((b < x) ⊎ (y ≤ b)))
    joined_used b = (
      λ u. ((u.0, λ q c is. outside u.1 q c is), elim (u.1 r p joined) [ inl l ↦ inl (omega (arith, l, before_x)) | inr h ↦ inr (omega (arith, h, after_y)) ]),
      λ u. (
        u.0.0,
        λ q c is. elim (origin q c is) [
          | inl o ↦ elim u.1 [
            | inl low ↦ inl (omega (arith, o.1, clear_before b u.0.1 low))
            | inr high ↦ inr (elim hole_after [ inl h ↦ elim (u.0.1 r y h.0) [ inl l ↦ absurd (omega (arith, l, high)) | inr m ↦ omega (arith, m, o.0) ] | inr h ↦ omega (arith, h.0, o.0, high) ])
          ]
          | inr o ↦ u.0.1 q c o.2
        ],
      ),
    ) where
      outside : IsInNone g b → IsInNone f b
      outside u q c is = ⊎_elim (λ (same : q ≡ r). elim (u r p joined) [
        | inl l ↦ elim hole_after [
          | inl h ↦ inl (grind (arith, l, h.0, same, is, before_x))
          | inr h ↦ absurd (none_within q c is (omega (arith, h.0)) (omega (arith, h.0)))
        ]
        | inr m ↦ inr (omega arith)
      ]) (λ (other : q ≢ r). ⊎_elim (λ (same : q ≡ x). elim (u r p joined) [
        | inl l ↦ elim before [ inl h ↦ inl (grind (arith, l, h, same, is)) | inr n ↦ absurd (grind (arith, n.0, same, is)) ]
        | inr m ↦ inr (omega (arith, after_y))
      ]) (λ (apart : q ≢ x). u q c (others q apart other ∙ is)) (cases_eq q x)) (cases_eq q r)
