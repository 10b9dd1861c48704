-- Bytes after the end are taken, and those between become a hole.
use Rattle.std.proofs.Common.{◌≡◌, ℕ, ◌<◌, ◌≤◌, ◌⊎◌, ◌↔◌, Option, Some, subst, ◌∙◌, inl, inr, ⊎_elim, arith}
use Rattle.std.proofs.lemmas.Bool.{cases_lt}
use Rattle.std.proofs.lemmas.Grind.{common_steps}
use Rattle.extent_space.specs.Room.{IsWhole}
use Rattle.extent_space.specs.Holes.{AddsHole, AreHoles, IsInNone}

module _ (f g : ℕ → Option ℕ) (end limit x y : ℕ) (holes : AreHoles f end limit) (past : end ≤ x) (some : x < y) (within : y ≤ limit) (added : AddsHole f g end x) where
  none_here : (b : ℕ) → f x ≡ Some b → ⊥
  none_here b is = absurd (omega (arith, (holes.each x b is).before))

  origin : (q b : ℕ) → g q ≡ Some b → ((q ≡ x) × (b ≡ end) × (end < x)) ⊎ (f q ≡ Some b)
  origin q b is = grind (arith, common_steps, is, added.others q, added.here, none_here b)

  kept : (q b : ℕ) → f q ≡ Some b → g q ≡ Some b
  kept q b is = added.others q (λ e. none_here b (subst (λ n. f n ≡ Some b) e is)) ∙ is

  pub raised_holes : IsWhole x → IsWhole y → AreHoles g y limit
  raised_holes whole_x whole_y = record {
    each = λ q b is. elim (origin q b is) [
      | inl o ↦ rw (o.0, o.1) (record { some = o.2; before = some; from = holes.whole; to = whole_x })
      | inr o ↦ let h = holes.each q b o in record { some = h.some; before = omega (arith, h.before); from = h.from; to = h.to }
    ];
    apart = λ q b u c is also below. elim (origin q b is) [
      | inl o ↦ elim (origin u c also) [
        | inl n ↦ absurd (omega (arith, o.0, n.0))
        | inr n ↦ absurd (omega (arith, o.0, (holes.each u c n).before))
      ]
      | inr o ↦ elim (origin u c also) [
        | inl n ↦ omega (arith, n.1, (holes.each q b o).before)
        | inr n ↦ holes.apart q b u c o n below
      ]
    ];
    whole = whole_y;
    within = within;
  }

  clear_end : (b : ℕ) → IsInNone g b → b < x → b < end
  clear_end b u low = ⊎_elim (λ (l : end < x). elim (u x end (grind (arith, common_steps, added.here, l))) [ inl h ↦ h | inr h ↦ absurd (omega arith) ]) (λ (h : x ≤ end). omega arith) (cases_lt end x)

  pub raised_used : (b : ℕ) → ((b < y) × IsInNone g b) ↔ (((b < end) × IsInNone f b) ⊎ ((x ≤ b) × (b < y)))
  raised_used b = (
    λ u. ⊎_elim (λ (low : b < x). inl (clear_end b u.1 low, λ q c is. u.1 q c (kept q c is))) (λ (high : x ≤ b). inr (high, u.0)) (cases_lt b x),
    λ u. elim u [
      | inl v ↦ (omega (arith, v.0), λ q c is. elim (origin q c is) [ inl o ↦ inl (omega (arith, o.1, v.0)) | inr o ↦ v.1 q c o ])
      | inr v ↦ (v.1, λ q c is. inr (elim (origin q c is) [ inl o ↦ omega (arith, o.0, v.0) | inr o ↦ omega (arith, v.0, (holes.each q c o).before) ]))
    ],
  )
