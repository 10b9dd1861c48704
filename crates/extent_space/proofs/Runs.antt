-- What is true of rooms over many calls.
use Rattle.std.proofs.Common.{◌≡◌, ℕ, ◌<◌, ◌≤◌, ◌⊎◌, ◌↔◌, ◌+◌, List, [], ◌∷◌, subst, sym, ◌∙◌, inl, inr, ⊎_elim, refl, arith}
use Rattle.std.proofs.lemmas.Bool.{cases_lt}
use Rattle.std.specs.List.{Any}
use Rattle.std.specs.Prelude.{All}
use Rattle.std.proofs.Common.{suc, zero, length, get_or}
use Rattle.std.proofs.lemmas.List.{get_or_default}
use Rattle.b2_base.specs.declared.extent.Extent.{Extent}
use Rattle.extent_space.specs.Room.{Apart, Covers, GivesBack, IsClearOf, IsFree, IsPlaced, IsRoomOf, IsTaken, IsTidy, IsUsed, Room, Takes, rounded}
use Rattle.extent_space.specs.Runs.{Change, IsUsedAfter, Runs, returned, took}
use Rattle.extent_space.proofs.OneRoom.{same_room}

-- the extents that are in use determine the room
pub one_room : (limit : ℕ) (used : List Extent) (r s : Room) → IsRoomOf limit used r → IsRoomOf limit used s → r ≡ s
one_room limit used r s of also = same_room r s of.tidy also.tidy (of.of_limit ∙ sym also.of_limit) (λ b. (λ u. (also.bytes b).1 ((of.bytes b).0 u), λ u. (of.bytes b).1 ((also.bytes b).0 u)))

-- what is taken and given back again leaves the room as it was
pub taken_and_back : (r m s : Room) (e : Extent) → IsTidy r → IsFree r e.at (e.at + rounded e.len) → Takes r e m → GivesBack m e s → s ≡ r
taken_and_back r m s e tidy free takes back = same_room s r back.tidy tidy (back.same_limit ∙ takes.same_limit) (λ b. (
  λ u. let v = (back.used b).0 u in elim ((takes.used b).0 v.0) [ inl w ↦ w | inr w ↦ absurd (elim v.1 [ inl l ↦ omega (arith, l, w.0) | inr h ↦ omega (arith, h, w.1) ]) ],
  λ u. (back.used b).1 ((takes.used b).1 (inl u), ⊎_elim (λ (low : b < e.at). inl low) (λ (high : e.at ≤ b). ⊎_elim (λ (inside : b < e.at + rounded e.len). absurd (free b high inside u)) (λ (past : e.at + rounded e.len ≤ b). inr past) (cases_lt b (e.at + rounded e.len))) (cases_lt b e.at)),
))

-- what is taken stays so while others come and go
pub stays_taken : (r s : Room) (e f : Extent) → Takes r e s → IsTaken r f → IsTaken s f
stays_taken r s e f takes taken = elim taken [ inl none ↦ inl none | inr t ↦ inr (t.0, λ b inside. (takes.used b).1 (inl (t.1 b inside))) ]

pub left_taken : (r s : Room) (e f : Extent) → GivesBack r e s → Apart e f → IsTaken r f → IsTaken s f
left_taken r s e f back apart taken = elim taken [ inl none ↦ inl none | inr t ↦ inr (t.0, λ b inside. (back.used b).1 (t.1 b inside, elim apart [ inl l ↦ inr (omega (arith, l, inside.0)) | inr m ↦ inl (omega (arith, m, inside.1)) ])) ]

-- after a run the bytes in use are those that its changes leave
pub used_after : (changes : List Change) (r s : Room) (before : ℕ → Type 0) → ((b : ℕ) → IsUsed r b ↔ before b) → Runs r changes s → (b : ℕ) → IsUsed s b ↔ IsUsedAfter before changes b
used_after [] r s before same run b = subst (λ x. IsUsed x b ↔ before b) run (same b)
used_after (took e ∷ more) r s before same run b = used_after more run.0 s (λ n. before n ⊎ Covers e n) (λ n. (λ u. elim ((run.2.used n).0 u) [ inl v ↦ inl ((same n).0 v) | inr v ↦ inr v ], λ u. (run.2.used n).1 (elim u [ inl v ↦ inl ((same n).1 v) | inr v ↦ inr v ]))) run.3 b
used_after (returned e ∷ more) r s before same run b = used_after more run.0 s (λ n. before n × IsClearOf e n) (λ n. (λ u. let v = (run.2.used n).0 u in ((same n).0 v.0, v.1), λ u. (run.2.used n).1 ((same n).1 u.0, u.1))) run.3 b

-- and the room is tidy and has the same limit
tidy_after : (changes : List Change) (r s : Room) → IsTidy r → Runs r changes s → IsTidy s × (s.limit ≡ r.limit)
tidy_after [] r s tidy run = subst (λ x. IsTidy x × (x.limit ≡ r.limit)) run (tidy, refl)
tidy_after (took e ∷ more) r s tidy run = let rest = tidy_after more run.0 s run.2.tidy run.3 in (rest.0, rest.1 ∙ run.2.same_limit)
tidy_after (returned e ∷ more) r s tidy run = let rest = tidy_after more run.0 s run.2.tidy run.3 in (rest.0, rest.1 ∙ run.2.same_limit)

pub one_run : (changes : List Change) (r s t : Room) → IsTidy r → Runs r changes s → Runs r changes t → s ≡ t
one_run changes r s t tidy run also =
    let left = tidy_after changes r s tidy run in
    let right = tidy_after changes r t tidy also in
    let used = used_after changes r s (IsUsed r) (λ b. (λ u. u, λ u. u)) run in
    let too = used_after changes r t (IsUsed r) (λ b. (λ u. u, λ u. u)) also in
    same_room s t left.0 right.0 (left.1 ∙ sym right.1) (λ b. (λ u. (too b).1 ((used b).0 u), λ u. (used b).1 ((too b).0 u)))

pub after_run : (changes : List Change) (r s : Room) → Runs r changes s → (b : ℕ) → IsUsed s b ↔ IsUsedAfter (IsUsed r) changes b
after_run changes r s run b = used_after changes r s (IsUsed r) (λ n. (λ u. u, λ u. u)) run b

-- one of a list is its first, or one of the others
any_first : {X : Type 0} (P : X → Type 0) (x : X) (xs : List X) → Any P (x ∷ xs) ↔ (P x ⊎ Any P xs)
any_first {X = X} P x xs = (λ a. parts a.0 a.1 a.2 a.3 a.4, λ u. elim u [ inl p ↦ (0, x, omega arith, refl, p) | inr a ↦ (suc a.0, a.1, omega (arith, a.2), a.3, a.4) ]) where
  parts : (k : ℕ) (y : X) → k < length (x ∷ xs) → get_or (x ∷ xs) k y ≡ y → P y → P x ⊎ Any P xs
  parts zero y inside is p = inl (subst P (sym is) p)
  parts (suc k) y inside is p = inr (k, y, omega arith, is, p)

pub one_more : (limit : ℕ) (used : List Extent) (r s : Room) (e : Extent) → IsRoomOf limit used r → Takes r e s → IsRoomOf limit (e ∷ used) s
one_more limit used r s e of takes = record {
  bytes = λ b. let first = any_first (λ f. Covers f b) e used in (
    λ u. first.1 (elim ((takes.used b).0 u) [ inl v ↦ inr ((of.bytes b).0 v) | inr v ↦ inl v ]),
    λ u. (takes.used b).1 (elim (first.0 u) [ inl v ↦ inr v | inr v ↦ inl ((of.bytes b).1 v) ]),
  );
  of_limit = takes.same_limit ∙ of.of_limit;
  tidy = takes.tidy;
}

-- a byte of one that is apart from e is none of e
clear_of : (e : Extent) (used : List Extent) (b : ℕ) → All (Apart e) used → Any (λ f. Covers f b) used → IsClearOf e b
clear_of e used b apart a = let pair = subst (Apart e) a.3 (apart a.0 a.1 a.2) in elim pair [ inl l ↦ inr (omega (arith, l, a.4)) | inr m ↦ inl (omega (arith, m, a.4)) ]

pub one_less : (limit : ℕ) (used : List Extent) (r s : Room) (e : Extent) → IsRoomOf limit (e ∷ used) r → All (Apart e) used → GivesBack r e s → IsRoomOf limit used s
one_less limit used r s e of apart back = record {
  bytes = λ b. let first = any_first (λ f. Covers f b) e used in (
    λ u. let v = (back.used b).0 u in elim (first.0 ((of.bytes b).0 v.0)) [ inl w ↦ absurd (elim v.1 [ inl l ↦ omega (arith, l, w) | inr m ↦ omega (arith, m, w) ]) | inr w ↦ w ],
    λ u. (back.used b).1 ((of.bytes b).1 (first.1 (inr u)), clear_of e used b apart u),
  );
  of_limit = back.same_limit ∙ of.of_limit;
  tidy = back.tidy;
}

-- each of the extents that are in use is taken
pub all_taken : (limit : ℕ) (used : List Extent) (r : Room) → All (IsPlaced limit) used → IsRoomOf limit used r → All (IsTaken r) used
all_taken limit used r placed of k d inside = inr ((placed k d inside).whole, λ b covers. (of.bytes b).1 (k, get_or used k d, inside, get_or_default used k (get_or used k d) d inside, covers))
