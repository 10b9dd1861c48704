-- What the rooms of contents are after each change.
use Rattle.std.proofs.Common.{◌≡◌, ◌⊎◌, inl, inr, ℕ, ◌+◌, ◌≤◌, ◌<◌, List, [], ◌∷◌, ◌++◌, get_or, flat_map, Option, Some, None, IfSome, All, AllPairs, Contains, refl, sym, ap, ◌∙◌, subst, arith}
use Rattle.std.proofs.lemmas.Bool.{cases_eq}
use Rattle.std.proofs.lemmas.Option.{none-some}
use Rattle.std.proofs.lemmas.List.Elements.{All-cons, All-weaker, Contains-append_right}
use Rattle.std.proofs.lemmas.List.Kept.{AllPairs-cons}
use Rattle.b2_base.specs.declared.extent.Extent.{Extent}
use Rattle.extent_space.specs.Room.{Apart, Covers, GivesBack, IsClearOf, IsUsed, Takes, rounded}
use Rattle.blob_extents.specs.Uses.{IsInUse, Uses}
use Rattle.stored_contents.specs.declared.contents.Contents.{Contents}
use Rattle.stored_contents.specs.declared.incoming.Incoming.{Incoming}
use Rattle.stored_contents.specs.Room.{IsRoomWith, IsComingIn, IsIn, IsStaged, AreApart, extent_of, incoming_at, live, pins_of, times}
use Rattle.stored_contents.proofs.Updates.{SetsUpload, each_upload}

pub apart_sym : (e f : Extent) → Apart e f → Apart f e
apart_sym e f (inl before) = inr before
apart_sym e f (inr after) = inl after

pub are_apart_sym : (a b : Option Incoming) → AreApart a b → AreApart b a
are_apart_sym None None apart = tt
are_apart_sym None (Some j) apart = tt
are_apart_sym (Some i) None apart = tt
are_apart_sym (Some i) (Some j) apart = apart_sym (extent_of i) (extent_of j) apart

-- the upload of a number, in the area
pub staged_at : (t : Contents) (owned loose : List Extent) (c : ℕ) (i : Incoming) → incoming_at t c ≡ Some i → IsRoomWith t owned loose → IsStaged t.blobs (live owned t) (extent_of i)
staged_at t owned loose c i is room = subst (λ o. IfSome o (λ j. IsStaged t.blobs (live owned t) (extent_of j))) is (room.staged c)

same_upload : (i j : Incoming) → Some i ≡ Some j → i ≡ j
same_upload i j is = cc

-- ---- what is in use

-- the same but for the bytes that nobody holds
record IsLaid (t : Contents) (owned loose : List Extent) : Type 0 where
  pub in_use : All (IsInUse t.blobs) (live owned t)
  pub apart : AllPairs Apart (live owned t)
  pub staged : (c : ℕ) → IfSome (incoming_at t c) (λ i. IsStaged t.blobs (live owned t) (extent_of i))
  pub staged_apart : (a b : ℕ) → (a ≡ b → ⊥) → AreApart (incoming_at t a) (incoming_at t b)
  pub pinned : All (Contains (live owned t)) t.blobs.pinned
  pub pins : (e : Extent) → times e t.blobs.pinned ≡ times e (loose ++ flat_map pins_of t.outgoing.items)

abbrev Holds : Contents → List Extent → ℕ → Type 0
Holds t owned b = IsIn (live owned t) b ⊎ IsComingIn t b

room_from : (t : Contents) (owned loose : List Extent) → IsLaid t owned loose → ((b : ℕ) → IsUsed t.blobs.room b → Holds t owned b) → IsRoomWith t owned loose
room_from t owned loose laid no_more = record {
  in_use = laid.in_use;
  apart = laid.apart;
  staged = laid.staged;
  staged_apart = laid.staged_apart;
  no_more = no_more;
  pinned = laid.pinned;
  pins = laid.pins;
}

-- a byte is not held by both
pub not_both : (e : Extent) (b : ℕ) → Covers e b → IsClearOf e b → ⊥
not_both e b covers (inl before) = omega (arith, covers.0, before)
not_both e b covers (inr after) = omega (arith, covers.1, after)

-- ---- uploads change, and nothing else of the lists

-- the upload of one number becomes this one, and what is pinned, released and read stays
pub record OnlyUpload (old new : Contents) (c : ℕ) (w : Option Incoming) : Type 0 where
  pub set : SetsUpload old new c w
  pub pinned : new.blobs.pinned ≡ old.blobs.pinned
  pub released : new.blobs.released ≡ old.blobs.released
  pub outgoing : new.outgoing.items ≡ old.outgoing.items

module _ (old new : Contents) (owned loose : List Extent) (c : ℕ) (w : Option Incoming) where
  same_live : OnlyUpload old new c w → live owned new ≡ live owned old
  same_live only = ap (λ l. owned ++ l) only.released

  laid_set : OnlyUpload old new c w → IsRoomWith old owned loose
      → All (IsInUse new.blobs) (live owned old)
      → ((q : ℕ) → (c ≡ q → ⊥) → IfSome (incoming_at old q) (λ j. IsInUse new.blobs (extent_of j)))
      → IfSome w (λ i. IsStaged new.blobs (live owned old) (extent_of i))
      → ((q : ℕ) → (c ≡ q → ⊥) → AreApart w (incoming_at old q))
      → IsLaid new owned loose
  laid_set only room used still here here_apart = record {
    in_use = subst (All (IsInUse new.blobs)) (sym (same_live only)) used;
    apart = subst (AllPairs Apart) (sym (same_live only)) room.apart;
    staged = each_upload old new c w (λ q o. IfSome o (λ i. IsStaged new.blobs (live owned new) (extent_of i))) only.set
        (subst (λ l. IfSome w (λ i. IsStaged new.blobs l (extent_of i))) (sym (same_live only)) here)
        (λ q apart. still_staged (incoming_at old q) (room.staged q) (still q apart));
    staged_apart = λ a b. pair a b;
    pinned = subst (λ l. All (Contains l) new.blobs.pinned) (sym (same_live only)) (subst (All (Contains (live owned old))) (sym only.pinned) room.pinned);
    pins = λ e. ap (times e) only.pinned ∙ room.pins e ∙ ap (λ o. times e (loose ++ flat_map pins_of o)) (sym only.outgoing);
  }
    where
      still_staged : (o : Option Incoming) → IfSome o (λ i. IsStaged old.blobs (live owned old) (extent_of i)) → IfSome o (λ j. IsInUse new.blobs (extent_of j)) → IfSome o (λ i. IsStaged new.blobs (live owned new) (extent_of i))
      still_staged None staged used = tt
      still_staged (Some i) staged used = record { in_use = used; apart = subst (All (Apart (extent_of i))) (sym (same_live only)) staged.apart }

      pair : (a b : ℕ) → (a ≡ b → ⊥) → AreApart (incoming_at new a) (incoming_at new b)
      pair a b differ = each_upload old new c w (λ q o. (q ≡ b → ⊥) → AreApart o (incoming_at new b)) only.set
          (λ other. each_upload old new c w (λ q o. (c ≡ q → ⊥) → AreApart w o) only.set (λ same. absurd (same refl)) (λ q apart not. here_apart q apart) b other)
          (λ p from other. each_upload old new c w (λ q o. (p ≡ q → ⊥) → AreApart (incoming_at old p) o) only.set
          (λ not. are_apart_sym w (incoming_at old p) (here_apart p from))
          (λ q apart not. room.staged_apart p q not) b other)
          a differ

-- a byte is held still, where none of the upload was
module _ (old new : Contents) (owned : List Extent) (c : ℕ) (w : Option Incoming) (only : OnlyUpload old new c w) (b : ℕ) where
  holds_still : ((i : Incoming) → incoming_at old c ≡ Some i → Covers (extent_of i) b → Holds new owned b) → Holds old owned b → Holds new owned b
  holds_still here (inl whole) = inl (whole.0, subst (λ l. Contains l whole.0) (sym (same_live old new owned [] c w only)) whole.1, whole.2)
  holds_still here (inr coming) = by_number (cases_eq c coming.0)
    where
      by_number : (c ≡ coming.0) ⊎ (c ≡ coming.0 → ⊥) → Holds new owned b
      by_number (inl same) = here coming.1 (subst (λ q. incoming_at old q ≡ Some coming.1) (sym same) coming.2) coming.3
      by_number (inr apart) = inr (coming.0, coming.1, only.set.others coming.0 apart ∙ coming.2, coming.3)

-- an upload goes, and the room stays as it is
module _ (old new : Contents) (owned loose : List Extent) (c : ℕ) where
  laid_none : OnlyUpload old new c None → new.blobs ≡ old.blobs → IsRoomWith old owned loose → IsLaid new owned loose
  laid_none only same room = laid_set old new owned loose c None only room (subst (λ u. All (IsInUse u) (live owned old)) (sym same) room.in_use) (λ q not. still (incoming_at old q) (room.staged q)) tt (λ q not. tt)
    where
      still : (o : Option Incoming) → IfSome o (λ j. IsStaged old.blobs (live owned old) (extent_of j)) → IfSome o (λ j. IsInUse new.blobs (extent_of j))
      still None used = tt
      still (Some j) used = subst (λ u. IsInUse u (extent_of j)) (sym same) used.in_use

module _ (old new : Contents) (owned loose : List Extent) (c : ℕ) where
  -- there was none
  pub room_none : OnlyUpload old new c None → new.blobs ≡ old.blobs → incoming_at old c ≡ None → IsRoomWith old owned loose → IsRoomWith new owned loose
  room_none only same none room = room_from new owned loose (laid_none old new owned loose c only same room)
      (λ b used. holds_still old new owned c None only b (λ i is covers. absurd (none-some i (sym none ∙ is)))
      (room.no_more b (subst (λ (u : Uses). IsUsed u.room b) same used)))

  -- the upload of the number goes, and the bytes in use are those of before but for its own
  pub room_lost : (i : Incoming) → OnlyUpload old new c None → incoming_at old c ≡ Some i → GivesBack old.blobs.room (extent_of i) new.blobs.room → ((e : Extent) → Apart (extent_of i) e → IsInUse old.blobs e → IsInUse new.blobs e) → IsRoomWith old owned loose → IsRoomWith new owned loose
  room_lost i only is back others room = room_from new owned loose
      (laid_set old new owned loose c None only room in_use (λ q apart. still (incoming_at old q) (beside q apart) (room.staged q)) tt (λ q apart. tt))
      (λ b used. let left = (back.used b).0 used in
      holds_still old new owned c None only b
      (λ j there covers. absurd (not_both (extent_of i) b (subst (λ (k : Incoming). Covers (extent_of k) b) (same_upload j i (sym there ∙ is)) covers) left.1))
      (room.no_more b left.0))
    where
      staged : IsStaged old.blobs (live owned old) (extent_of i)
      staged = staged_at old owned loose c i is room

      in_use : All (IsInUse new.blobs) (live owned old)
      in_use k d lt = others (get_or (live owned old) k d) (staged.apart k d lt) (room.in_use k d lt)

      beside : (q : ℕ) → (c ≡ q → ⊥) → AreApart (Some i) (incoming_at old q)
      beside q apart = subst (λ o. AreApart o (incoming_at old q)) is (room.staged_apart c q apart)

      still : (o : Option Incoming) → AreApart (Some i) o → IfSome o (λ j. IsStaged old.blobs (live owned old) (extent_of j)) → IfSome o (λ j. IsInUse new.blobs (extent_of j))
      still None apart used = tt
      still (Some j) apart used = others (extent_of j) apart used.in_use

  -- room is taken for an upload
  pub room_begun : (i : Incoming) → OnlyUpload old new c (Some i) → incoming_at old c ≡ None → Takes old.blobs.room (extent_of i) new.blobs.room → IsInUse new.blobs (extent_of i) → ((e : Extent) → IsInUse old.blobs e → Apart (extent_of i) e) → ((e : Extent) → IsInUse old.blobs e → IsInUse new.blobs e) → IsRoomWith old owned loose → IsRoomWith new owned loose
  room_begun i only none takes used apart others room = room_from new owned loose (laid_set old new owned loose c (Some i) only room
      (All-weaker (IsInUse old.blobs) (IsInUse new.blobs) others (live owned old) room.in_use)
      (λ q not. still (incoming_at old q) (room.staged q))
      (record { in_use = used; apart = All-weaker (IsInUse old.blobs) (Apart (extent_of i)) apart (live owned old) room.in_use })
      (λ q not. beside (incoming_at old q) (room.staged q)))
      (λ b now. held b ((takes.used b).0 now))
    where
      held : (b : ℕ) → IsUsed old.blobs.room b ⊎ (((extent_of i).at ≤ b) × (b < (extent_of i).at + rounded (extent_of i).len)) → Holds new owned b
      held b (inl before) = holds_still old new owned c (Some i) only b (λ j is covers. absurd (none-some j (sym none ∙ is))) (room.no_more b before)
      held b (inr inside) = inr (c, i, only.set.here, inside)

      still : (o : Option Incoming) → IfSome o (λ j. IsStaged old.blobs (live owned old) (extent_of j)) → IfSome o (λ j. IsInUse new.blobs (extent_of j))
      still None used = tt
      still (Some j) used = others (extent_of j) used.in_use

      beside : (o : Option Incoming) → IfSome o (λ j. IsStaged old.blobs (live owned old) (extent_of j)) → AreApart (Some i) o
      beside None used = tt
      beside (Some j) used = apart (extent_of j) used.in_use

  -- bytes come of an upload, in its extent
  pub room_came : (i j : Incoming) → OnlyUpload old new c (Some j) → new.blobs ≡ old.blobs → incoming_at old c ≡ Some i → extent_of j ≡ extent_of i → IsRoomWith old owned loose → IsRoomWith new owned loose
  room_came i j only same is place room = room_from new owned loose (laid_set old new owned loose c (Some j) only room
      (subst (λ u. All (IsInUse u) (live owned old)) (sym same) room.in_use)
      (λ q not. still (incoming_at old q) (room.staged q))
      (subst (IsStaged new.blobs (live owned old)) (sym place) (subst (λ u. IsStaged u (live owned old) (extent_of i)) (sym same) staged))
      (λ q not. beside (incoming_at old q) (subst (λ o. AreApart o (incoming_at old q)) is (room.staged_apart c q not))))
      (λ b used. holds_still old new owned c (Some j) only b
      (λ k there covers. inr (c, j, only.set.here, subst (λ e. Covers e b) (ap extent_of (same_upload k i (sym there ∙ is)) ∙ sym place) covers))
      (room.no_more b (subst (λ (u : Uses). IsUsed u.room b) same used)))
    where
      staged : IsStaged old.blobs (live owned old) (extent_of i)
      staged = staged_at old owned loose c i is room

      still : (o : Option Incoming) → IfSome o (λ j. IsStaged old.blobs (live owned old) (extent_of j)) → IfSome o (λ j. IsInUse new.blobs (extent_of j))
      still None used = tt
      still (Some j) used = subst (λ u. IsInUse u (extent_of j)) (sym same) used.in_use

      beside : (o : Option Incoming) → AreApart (Some i) o → AreApart (Some j) o
      beside None apart = tt
      beside (Some k) apart = subst (λ e. Apart e (extent_of k)) (sym place) apart

  -- the content of an upload is owned
  pub room_sealed : (i : Incoming) → OnlyUpload old new c None → new.blobs ≡ old.blobs → incoming_at old c ≡ Some i → IsRoomWith old owned loose → IsRoomWith new (extent_of i ∷ owned) loose
  room_sealed i only same is room = record {
    in_use = All-cons (IsInUse new.blobs) (extent_of i) (live owned new) (subst (λ u. IsInUse u (extent_of i)) (sym same) staged.in_use) without.in_use;
    apart = AllPairs-cons Apart (extent_of i) (live owned new) staged.apart without.apart;
    staged = λ q. wider q (incoming_at new q) (without.staged q) (beside q);
    staged_apart = without.staged_apart;
    no_more = λ b used. held b (holds (room.no_more b (subst (λ (u : Uses). IsUsed u.room b) same used)));
    pinned = All-weaker (Contains (live owned new)) (Contains (extent_of i ∷ live owned new)) (λ e has. Contains-append_right (extent_of i ∷ []) (live owned new) e has) new.blobs.pinned without.pinned;
    pins = without.pins;
  }
    where
      old_staged : IsStaged old.blobs (live owned old) (extent_of i)
      old_staged = staged_at old owned loose c i is room

      staged : IsStaged old.blobs (live owned new) (extent_of i)
      staged = subst (λ l. IsStaged old.blobs l (extent_of i)) (ap (λ l. owned ++ l) (sym only.released)) old_staged

      without : IsLaid new owned loose
      without = laid_none old new owned loose c only same room

      -- a byte of what was whole, of the upload, or of another one
      held : (b : ℕ) → Holds new owned b ⊎ Covers (extent_of i) b → Holds new (extent_of i ∷ owned) b
      held b (inl (inl whole)) = inl (whole.0, Contains-append_right (extent_of i ∷ []) (live owned new) whole.0 whole.1, whole.2)
      held b (inl (inr coming)) = inr coming
      held b (inr covers) = inl (extent_of i, (0, omega arith, refl), covers)

      holds : {b : ℕ} → Holds old owned b → Holds new owned b ⊎ Covers (extent_of i) b
      holds {b} (inl whole) = inl (inl (whole.0, subst (λ l. Contains l whole.0) (sym (same_live old new owned [] c None only)) whole.1, whole.2))
      holds {b} (inr coming) = by_number (cases_eq c coming.0)
        where
          by_number : (c ≡ coming.0) ⊎ (c ≡ coming.0 → ⊥) → Holds new owned b ⊎ Covers (extent_of i) b
          by_number (inl same_number) =
              inr (subst (λ (k : Incoming). Covers (extent_of k) b) (same_upload coming.1 i (sym (subst (λ q. incoming_at old q ≡ Some coming.1) (sym same_number) coming.2) ∙ is)) coming.3)
          by_number (inr apart) = inl (inr (coming.0, coming.1, only.set.others coming.0 apart ∙ coming.2, coming.3))

      beside : (q : ℕ) → AreApart (incoming_at new q) (Some i)
      beside = each_upload old new c None (λ q o. AreApart o (Some i)) only.set tt (λ q not. are_apart_sym (Some i) (incoming_at old q) (subst (λ o. AreApart o (incoming_at old q)) is (room.staged_apart c q not)))

      wider : (q : ℕ) (o : Option Incoming) → IfSome o (λ j. IsStaged new.blobs (live owned new) (extent_of j)) → AreApart o (Some i) → IfSome o (λ j. IsStaged new.blobs (extent_of i ∷ live owned new) (extent_of j))
      wider q None used apart = tt
      wider q (Some j) used apart = record { in_use = used.in_use; apart = All-cons (Apart (extent_of j)) (extent_of i) (live owned new) apart used.apart }
