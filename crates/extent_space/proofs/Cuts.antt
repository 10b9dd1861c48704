-- Bytes are cut out of a hole.
use Rattle.std.proofs.Common.{◌≡◌, ◌≢◌, ℕ, ◌<◌, ◌≤◌, ◌⊎◌, ◌↔◌, Option, Some, subst, sym, ap, ◌∙◌, inl, inr, ⊎_elim, arith}
use Rattle.std.proofs.Common.{nat_cmp, is_gt, is_some, true, false, Less, Greater, refl}
use Rattle.std.proofs.lemmas.Cmp.{ranked}
use Rattle.std.proofs.lemmas.Bool.{false≢true, cases_eq, cases_order, cases_lt}
use Rattle.std.proofs.lemmas.Grind.{common_steps}
use Rattle.extent_space.specs.Room.{IsWhole}
use Rattle.extent_space.specs.Holes.{AreApart, AreHoles, IsCut, IsInNone}

pub is_less : (m n : ℕ) → m < n → nat_cmp m n ≡ Less
is_less m n h = grind (arith, common_steps)

pub is_greater : (m n : ℕ) → n < m → nat_cmp m n ≡ Greater
is_greater m n h = grind (arith, common_steps)

pub less_from : (m n : ℕ) → nat_cmp m n ≡ Less → m < n
less_from m n h = rw h at (ranked m n (nat_cmp m n) refl)

pub found_one : (o : Option ℕ) (x : ℕ) → o ≡ Some x → is_some o ≡ true
found_one o x is = rw is refl

-- the first hole that ends after a byte starts after it, and so does each later one
pub after_first : (f : ℕ → Option ℕ) → AreApart f → (b first start to from : ℕ) → f first ≡ Some start → f to ≡ Some from → b < first → b < start → is_gt (nat_cmp first to) ≡ false → (b < from) ⊎ (to ≤ b)
after_first f apart b first start to from one two past low ordered = elim (cases_order first to) [
  | inl same ↦ grind (arith, same, one, two, low)
  | inr (inl below) ↦ inl (omega (arith, apart first start to from one two below))
  | inr (inr above) ↦ absurd (false≢true (sym ordered ∙ ap is_gt (is_greater first to above)))
]

module _ (f g : ℕ → Option ℕ) (end limit first last x y : ℕ) (holes : AreHoles f end limit) (hole : f last ≡ Some first) (after : first ≤ x) (some : x < y) (before : y ≤ last) (cut : IsCut f g first last x y) where
  -- no hole ends inside another
  none_here : (b : ℕ) → f x ≡ Some b → ⊥
  none_here b is = let h = holes.apart x b last first is hole (omega arith) in absurd (omega arith)

  -- what holes there are afterwards
  left_over : (q b : ℕ) → g q ≡ Some b → ((q ≡ last) × (b ≡ y) × (y < last)) ⊎ (((q ≡ x) × (b ≡ first) × (first < x)) ⊎ ((q ≢ last) × (f q ≡ Some b)))
  left_over q b is = grind (arith, common_steps, cut.others q, cut.front, cut.back, none_here b)

  -- a byte that lay in no hole lies in none that is left, and those that were cut out do not either
  none_after : (b : ℕ) → (IsInNone f b ⊎ ((x ≤ b) × (b < y))) → IsInNone g b
  none_after b u q c is = grind (arith, u, left_over q c is)

  none_before : (b : ℕ) → (b < x) ⊎ (y ≤ b) → IsInNone g b → IsInNone f b
  none_before b w u q c is = ⊎_elim (λ (same : q ≡ last). grind (arith, common_steps, same, is, hole, w, cut.front, cut.back, u x first, u last y)) (λ (ne : q ≢ last). u q c (cut.others q ne (λ e. none_here c (subst (λ n. f n ≡ Some c) e is)) ∙ is)) (cases_eq q last)

  pub cut_holes : IsWhole x → IsWhole y → AreHoles g end limit
  cut_holes whole_x whole_y = record {
    each = λ q b is. let h = holes.each last first hole in elim (left_over q b is) [
      | inl l ↦ rw (l.0, l.1) (record { some = l.2; before = h.before; from = whole_y; to = h.to })
      | inr (inl l) ↦ rw (l.0, l.1) (record { some = l.2; before = omega (arith, h.before); from = h.from; to = whole_x })
      | inr (inr l) ↦ holes.each q b l.1
    ];
    apart = λ q b u c is also below. elim (left_over q b is) [
      | inl l ↦ elim (left_over u c also) [
        | inl m ↦ omega (arith, l.0, m.0)
        | inr (inl m) ↦ omega (arith, l.0, m.0)
        | inr (inr m) ↦ omega (arith, l.0, holes.apart last first u c hole m.1)
      ]
      | inr (inl l) ↦ elim (left_over u c also) [
        | inl m ↦ omega (arith, l.0, m.1)
        | inr (inl m) ↦ omega (arith, l.0, m.0)
        | inr (inr m) ↦ ⊎_elim (λ (low : u < last). omega (arith, holes.apart u c last first m.1 hole low)) (λ high. omega (arith, m.0, l.0, holes.apart last first u c hole m.1)) (cases_lt u last)
      ]
      | inr (inr l) ↦ elim (left_over u c also) [
        | inl m ↦ omega (arith, m.0, m.1, holes.apart q b last first l.1 hole)
        | inr (inl m) ↦ omega (arith, m.0, m.1, holes.apart q b last first l.1 hole)
        | inr (inr m) ↦ holes.apart q b u c l.1 m.1 below
      ]
    ];
    whole = holes.whole;
    within = holes.within;
  }

  -- the bytes in use are those of before and those that were cut out
  pub cut_used : (b : ℕ) → ((b < end) × IsInNone g b) ↔ (((b < end) × IsInNone f b) ⊎ ((x ≤ b) × (b < y)))
  cut_used b = (
    λ u. ⊎_elim (λ (low : b < x). inl (u.0, none_before b (inl low) u.1)) (λ (high : x ≤ b). ⊎_elim (λ (inside : b < y). inr (high, inside)) (λ (past : y ≤ b). inl (u.0, none_before b (inr past) u.1)) (cases_lt b y)) (cases_lt b x),
    λ u. elim u [ inl v ↦ (v.0, none_after b (inl v.1)) | inr v ↦ (omega (arith, v.1, (holes.each last first hole).before), none_after b (inr v)) ],
  )
