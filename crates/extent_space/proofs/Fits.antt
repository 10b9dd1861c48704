-- The first hole that has room.
use Rattle.std.proofs.Common.{◌≡◌, ℕ, ◌<◌, ◌≤◌, ◌+◌, ◌-◌, Option, None, Some, Bool, true, false, cond, List, [], ◌∷◌, map, subst, sym, ap, ◌∙◌, ⊎_elim, refl, arith}
use Rattle.std.specs.Prelude.{All, nat_le}
use Rattle.std.specs.List.{find}
use Rattle.std.specs.Option.{option_map, option_or}
use Rattle.std.proofs.lemmas.Bool.{cases_Bool, leb-true, le-leb, lt-leb}
use Rattle.std.proofs.lemmas.List.Elements.{All-head, All-tail}
use Rattle.std.specs.BTreeMap.{BTreeMap}
use Rattle.extent_space.proofs.Rooms.{room_of}
use Rattle.extent_space.specs.Room.{HasFree, Hole, IsHole, IsOutside, IsTidy, Room, first_fit, has_room}
use Rattle.extent_space.specs.Holes.{hole_of}

same_some : {m n : ℕ} → Some m ≡ Some n → m ≡ n
same_some is = cc

-- what a search finds is one of those that were searched
found_one : {X : Type 0} (P : X → Type 0) (p : X → Bool) (xs : List X) (x : X) → All P xs → find p xs ≡ Some x → P x × (p x ≡ true)
found_one P p [] x all is = cc
found_one P p (y ∷ ys) x all is = ⊎_elim
    (λ (yes : p y ≡ true). let same : y ≡ x = let h = rw yes at is in cc in (subst P same (All-head P y ys all), ap p (sym same) ∙ yes))
    (λ (no : p y ≡ false). found_one P p ys x (All-tail P y ys all) (rw no at is))
    (cases_Bool (p y))

-- a search by what a map shows of each
pub find-map : {X Y : Type 0} (f : X → Y) (p : Y → Bool) (xs : List X) → find p (map f xs) ≡ option_map f (find (λ x. p (f x)) xs)
find-map f p [] = refl
find-map f p (x ∷ xs) = ⊎_elim (λ (yes : p (f x) ≡ true). rw yes refl) (λ (no : p (f x) ≡ false). rw no (find-map f p xs)) (cases_Bool (p (f x)))

pub front_of_holes : (n : ℕ) (es : List (ℕ × ℕ)) → option_map (λ h. h.from) (find (has_room n) (map hole_of es)) ≡ option_map (λ e. e.1) (find (λ e. has_room n (hole_of e)) es)
front_of_holes n es = ap (option_map (λ h. h.from)) (find-map hole_of (has_room n) es) ∙ twice (find (λ e. has_room n (hole_of e)) es) where
  twice : (o : Option (ℕ × ℕ)) → option_map (λ h. h.from) (option_map hole_of o) ≡ option_map (λ e. e.1) o
  twice None = refl
  twice (Some e) = refl

-- the front of the first hole with room has that room, and so has the end
pub has_free : (r : Room) (n from : ℕ) → IsTidy r → first_fit r n ≡ Some from → HasFree r n from
has_free r n from tidy is = go (find (has_room n) r.holes) refl where
  in_hole : (h : Hole) → find (has_room n) r.holes ≡ Some h → HasFree r n h.from
  in_hole h found = let one = found_one (λ g. IsHole r.end g) (has_room n) r.holes h tidy.holes found in let room = leb-true n (h.to - h.from) one.1 in record {
    whole = one.0.from;
    within = omega (arith, room, one.0.some, one.0.before, tidy.within);
    free = λ b low high used. let out = (found_one (IsOutside b) (has_room n) r.holes h used.1 found).0 in ⊎_elim (λ (l : b < h.from). absurd (omega arith)) (λ (m : h.to ≤ b). absurd (omega (arith, room, one.0.some))) out;
  }

  go : (o : Option Hole) → find (has_room n) r.holes ≡ o → HasFree r n from
  go (Some h) found = let here : Some h.from ≡ Some from = rw found at is in subst (HasFree r n) (same_some here) (in_hole h found)
  go None found = let here : cond (nat_le (r.end + n) r.limit) (Some r.end) None ≡ Some from = rw found at is in ⊎_elim
      (λ (yes : nat_le (r.end + n) r.limit ≡ true). subst (HasFree r n) (same_some (rw yes at here)) (record { whole = tidy.end; within = leb-true (r.end + n) r.limit yes; free = λ b low high used. absurd (omega (arith, used.0)) }))
      (λ (no : nat_le (r.end + n) r.limit ≡ false). let none : None ≡ Some from = rw no at here in cc)
      (cases_Bool (nat_le (r.end + n) r.limit))

-- the same by the map of the holes
pub first_fit_by_map : (m : BTreeMap ℕ ℕ) (end limit n : ℕ) → first_fit (room_of m end limit) n ≡ option_or (option_map (λ e. e.1) (find (λ e. has_room n (hole_of e)) m.entries)) (cond (nat_le (end + n) limit) (Some end) None)
first_fit_by_map m end limit n = ap (λ o. option_or o (cond (nat_le (end + n) limit) (Some end) None)) (front_of_holes n m.entries)

pub fit_in_hole : (m : BTreeMap ℕ ℕ) (end limit n from : ℕ) → option_map (λ e. e.1) (find (λ e. has_room n (hole_of e)) m.entries) ≡ Some from → Some from ≡ first_fit (room_of m end limit) n
fit_in_hole m end limit n from is = sym (first_fit_by_map m end limit n ∙ rw is refl)

pub fit_at_end : (m : BTreeMap ℕ ℕ) (end limit n : ℕ) → option_map (λ e. e.1) (find (λ e. has_room n (hole_of e)) m.entries) ≡ None → end + n ≤ limit → Some end ≡ first_fit (room_of m end limit) n
fit_at_end m end limit n is room = sym (first_fit_by_map m end limit n ∙ rw (is, le-leb (end + n) limit room) refl)

pub no_fit : (m : BTreeMap ℕ ℕ) (end limit n : ℕ) → option_map (λ e. e.1) (find (λ e. has_room n (hole_of e)) m.entries) ≡ None → limit < end + n → None ≡ first_fit (room_of m end limit) n
no_fit m end limit n is full = sym (first_fit_by_map m end limit n ∙ rw (is, lt-leb (end + n) limit full) refl)
