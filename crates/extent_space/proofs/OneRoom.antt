-- A room is determined by the bytes that are in use.
use Rattle.std.proofs.Common.{◌≡◌, ℕ, suc, ◌<◌, ◌≤◌, ◌↔◌, ◌-◌, List, [], ◌∷◌, subst, sym, inl, inr, ⊎_elim, refl, arith}
use Rattle.std.specs.Prelude.{All}
use Rattle.std.specs.List.{AllPairs}
use Rattle.std.proofs.lemmas.Bool.{cases_lt}
use Rattle.std.proofs.lemmas.List.Elements.{All-cons, All-head, All-nil, All-tail, All-weaker}
use Rattle.extent_space.specs.Room.{Hole, IsHole, IsOutside, IsTidy, IsUsed, Room}

AreAscending : List Hole → Type 0
AreAscending hs = All (λ h. h.from < h.to) hs × AllPairs (λ g h. g.to < h.from) hs

hole_is : (h g : Hole) → h.from ≡ g.from → h.to ≡ g.to → h ≡ g
hole_is h g from to = let p : (let x : Hole = record { from = h.from; to = h.to } in x) ≡ record { from = g.from; to = g.to } = rw (from, to) refl in p

room_is : (r s : Room) → r.holes ≡ s.holes → r.end ≡ s.end → r.limit ≡ s.limit → r ≡ s
room_is r s holes end limit = let p : (let x : Room = record { holes = r.holes; end = r.end; limit = r.limit } in x) ≡ record { holes = s.holes; end = s.end; limit = s.limit } = rw (holes, end, limit) refl in p

-- the holes after one begin after it
later : (h : Hole) (hs : List Hole) → AllPairs (λ g h. g.to < h.from) (h ∷ hs) → All (λ g. h.to < g.from) hs
later h hs apart k d inside = apart 0 (suc k) d (omega arith) (omega arith)

fewer : (h : Hole) (hs : List Hole) → AllPairs (λ g h. g.to < h.from) (h ∷ hs) → AllPairs (λ g h. g.to < h.from) hs
fewer h hs apart i j d below inside = apart (suc i) (suc j) d (omega arith) (omega arith)

-- a byte up to the first of them lies in none
outside_later : (h : Hole) (hs : List Hole) (b : ℕ) → AllPairs (λ g h. g.to < h.from) (h ∷ hs) → b ≤ h.to → All (IsOutside b) hs
outside_later h hs b apart low = All-weaker (λ g. h.to < g.from) (IsOutside b) (λ g past. inl (omega arith)) hs (later h hs apart)

-- the first hole of a list does not begin before that of a list that leaves the same bytes out
no_earlier : (h g : Hole) (hs gs : List Hole) → AreAscending (h ∷ hs) → AreAscending (g ∷ gs) → ((b : ℕ) → All (IsOutside b) (g ∷ gs) → All (IsOutside b) (h ∷ hs)) → g.from ≤ h.from
unfolding AreAscending
no_earlier h g hs gs up down same = ⊎_elim (λ (low : h.from < g.from).
    let some = All-head (λ x. x.from < x.to) h hs up.0 in
    let wide = All-head (λ x. x.from < x.to) g gs down.0 in
    let out = All-head (IsOutside h.from) h hs (same h.from (All-cons (IsOutside h.from) g gs (inl low) (outside_later g gs h.from down.1 (omega arith)))) in
    elim out [ inl l ↦ absurd (omega arith) | inr m ↦ absurd (omega arith) ]) (λ l. l) (cases_lt h.from g.from)

-- nor does it end later
no_longer : (h g : Hole) (hs gs : List Hole) → AreAscending (h ∷ hs) → AreAscending (g ∷ gs) → h.from ≡ g.from → ((b : ℕ) → All (IsOutside b) (g ∷ gs) → All (IsOutside b) (h ∷ hs)) → h.to ≤ g.to
unfolding AreAscending
no_longer h g hs gs up down same_from same = ⊎_elim (λ (long : g.to < h.to).
    let wide = All-head (λ x. x.from < x.to) g gs down.0 in
    let out = All-head (IsOutside g.to) h hs (same g.to (All-cons (IsOutside g.to) g gs (inr (omega arith)) (outside_later g gs g.to down.1 (omega arith)))) in
    elim out [ inl l ↦ absurd (omega arith) | inr m ↦ absurd (omega arith) ]) (λ l. l) (cases_lt g.to h.to)

-- the bytes outside the others
outside_rest : (h g : Hole) (hs gs : List Hole) → AreAscending (h ∷ hs) → AreAscending (g ∷ gs) → h ≡ g → ((b : ℕ) → All (IsOutside b) (g ∷ gs) → All (IsOutside b) (h ∷ hs)) → (b : ℕ) → All (IsOutside b) gs → All (IsOutside b) hs
unfolding AreAscending
outside_rest h g hs gs up down is same b out = ⊎_elim
    (λ (low : b < h.to). outside_later h hs b up.1 (omega arith))
    (λ (high : h.to ≤ b). All-tail (IsOutside b) h hs (same b (All-cons (IsOutside b) g gs (inr (subst (λ x. x.to ≤ b) is high)) out)))
    (cases_lt b h.to)

same_holes : (hs gs : List Hole) → AreAscending hs → AreAscending gs → ((b : ℕ) → All (IsOutside b) hs ↔ All (IsOutside b) gs) → hs ≡ gs
unfolding AreAscending
same_holes [] [] up down same = refl
same_holes [] (g ∷ gs) up down same = let some = All-head (λ h. h.from < h.to) g gs down.0 in elim (All-head (IsOutside g.from) g gs ((same g.from).0 (All-nil (IsOutside g.from)))) [ inl l ↦ absurd (omega arith) | inr m ↦ absurd (omega arith) ]
same_holes (h ∷ hs) [] up down same = let some = All-head (λ h. h.from < h.to) h hs up.0 in elim (All-head (IsOutside h.from) h hs ((same h.from).1 (All-nil (IsOutside h.from)))) [ inl l ↦ absurd (omega arith) | inr m ↦ absurd (omega arith) ]
same_holes (h ∷ hs) (g ∷ gs) up down same =
    let left = λ (b : ℕ). (same b).0 in
    let right = λ (b : ℕ). (same b).1 in
    let one = no_earlier h g hs gs up down right in
    let two = no_earlier g h gs hs down up left in
    let from : h.from ≡ g.from = omega arith in
    let three = no_longer h g hs gs up down from right in
    let four = no_longer g h gs hs down up (sym from) left in
    let is : h ≡ g = hole_is h g from (omega arith) in
    let rest : hs ≡ gs = same_holes hs gs (All-tail (λ x. x.from < x.to) h hs up.0, fewer h hs up.1) (All-tail (λ x. x.from < x.to) g gs down.0, fewer g gs down.1) (λ b. (outside_rest g h gs hs down up (sym is) left b, outside_rest h g hs gs up down is right b)) in
    rw (is, rest) refl

-- a room ends after each byte that is in use, and at the first after which none is
no_sooner : (r s : Room) → IsTidy r → ((b : ℕ) → IsUsed r b → IsUsed s b) → r.end ≤ s.end
no_sooner r s tidy same = ⊎_elim
    (λ (none : r.end < 1). omega arith)
    (λ (some : 1 ≤ r.end). let last = same (r.end - 1) (omega arith, All-weaker (IsHole r.end) (IsOutside (r.end - 1)) (λ h is. inr (omega (arith, is.before))) r.holes tidy.holes) in omega (arith, last.0))
    (cases_lt r.end 1)

ascending : (r : Room) → IsTidy r → AreAscending r.holes
unfolding AreAscending
ascending r tidy = (All-weaker (IsHole r.end) (λ h. h.from < h.to) (λ h is. is.some) r.holes tidy.holes, tidy.apart)

outside_too : (r s : Room) → IsTidy s → r.end ≡ s.end → ((b : ℕ) → IsUsed r b → IsUsed s b) → (b : ℕ) → All (IsOutside b) r.holes → All (IsOutside b) s.holes
outside_too r s tidy end same b out = ⊎_elim
    (λ (inside : b < r.end). (same b (inside, out)).1)
    (λ (past : r.end ≤ b). All-weaker (IsHole s.end) (IsOutside b) (λ h is. inr (omega (arith, is.before))) s.holes tidy.holes)
    (cases_lt b r.end)

pub same_room : (r s : Room) → IsTidy r → IsTidy s → r.limit ≡ s.limit → ((b : ℕ) → IsUsed r b ↔ IsUsed s b) → r ≡ s
same_room r s tidy also limit same =
    let left = λ (b : ℕ). (same b).0 in
    let right = λ (b : ℕ). (same b).1 in
    let one = no_sooner r s tidy left in
    let two = no_sooner s r also right in
    let end : r.end ≡ s.end = omega arith in
    room_is r s (same_holes r.holes s.holes (ascending r tidy) (ascending s also) (λ b. (outside_too r s also end left b, outside_too s r tidy (sym end) right b))) end limit
