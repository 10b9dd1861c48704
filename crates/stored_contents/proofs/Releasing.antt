-- The owner of a content gives it up.
use Rattle.std.proofs.Common.{◌≡◌, ◌==◌, ◌⊎◌, inl, inr, ℕ, suc, ◌+◌, ◌<◌, List, [], ◌∷◌, ◌++◌, length, get_or, drop, find, Option, Some, None, IfSome, All, Contains, Vec, Global, nat_cmp, refl, sym, ap, ◌∙◌, subst, arith}
use Rattle.std.specs.List.{AllPairs, flat_map}
use Rattle.std.specs.BTreeMap.{get}
use Rattle.std.proofs.lemmas.List.{append_assoc, drop_more}
use Rattle.std.proofs.lemmas.List.Elements.{All-head, All-tail, All-push, All-contains, All-contains_itself, Contains-append_cases, Contains-append_left, Contains-append_right}
use Rattle.std.proofs.lemmas.List.Quantifiers.{all_pairs_push}
use Rattle.b2_base.specs.declared.extent.Extent.{Extent}
use Rattle.disk_model.specs.State.{DiskState}
use Rattle.extent_space.specs.Room.{Apart, Covers, GivesBack, IsClearOf, IsUsed}
use Rattle.blob_extents.specs.Bytes.{IsSafe}
use Rattle.blob_extents.specs.Uses.{Uses, IsInUse}
use Rattle.blob_extents.proofs.Places.{in_use_still}
use Rattle.stored_contents.specs.declared.contents.Contents.{Contents}
use Rattle.stored_contents.specs.declared.incoming.Incoming.{Incoming}
use Rattle.stored_contents.specs.declared.outgoing.Outgoing.{Outgoing}
use Rattle.stored_contents.specs.Held.{Holding, IsHeld, IsComing, read_by}
use Rattle.stored_contents.specs.Room.{AreApart, IsRoom, IsRoomWith, IsComingIn, IsIn, IsStaged, extent_of, incoming_at, live, pins_of, times}
use Rattle.stored_contents.specs.Changes.{Releases}
use Rattle.stored_contents.proofs.Counts.{is_there}
use Rattle.stored_contents.proofs.Rooms.{apart_sym, not_both}

-- ---- the first of a list goes to its end, or leaves it

module _ {X : Type 0} (e : X) (xs ys : List X) where
  abbrev pub Leaves : Type 0
  Leaves = (ys ≡ xs) ⊎ (ys ≡ xs ++ e ∷ [])

  pub all_after : (P : X → Type 0) → Leaves → All P (e ∷ xs) → All P ys
  all_after P (inl gone) all = subst (All P) (sym gone) (All-tail P e xs all)
  all_after P (inr last) all = subst (All P) (sym last) (All-push P xs e (All-tail P e xs all) (All-head P e xs all))

  pub beside : (R : X → X → Type 0) → AllPairs R (e ∷ xs) → All (R e) xs
  beside R pairs k d lt = pairs 0 (suc k) d (omega arith) (omega arith)

  pub pairs_after : (R : X → X → Type 0) → ((x y : X) → R x y → R y x) → Leaves → AllPairs R (e ∷ xs) → AllPairs R ys
  pairs_after R turned how pairs = by how
    where
      left : AllPairs R xs
      left i j d lt within = pairs (suc i) (suc j) d (omega arith) (omega arith)

      by : Leaves → AllPairs R ys
      by (inl gone) = subst (AllPairs R) (sym gone) left
      by (inr last) = subst (AllPairs R) (sym last) (all_pairs_push R xs e left (λ k d lt. turned e (get_or xs k d) (beside R pairs k d lt)))

-- ---- the room

pub releases : (e : Extent) (old new : Uses) → new.pinned ≡ old.pinned → ((f : Extent) → Apart e f → IsInUse old f → IsInUse new f)
    → (Contains old.pinned e → (new.room ≡ old.room) × (new.released ≡ old.released ++ e ∷ []))
    → ((Contains old.pinned e → ⊥) → GivesBack old.room e new.room × (new.released ≡ old.released))
    → Releases e old new
releases e old new pinned others held back = record { pinned = pinned; others = others; how = by (is_there e old.pinned) }
  where
    by : Contains old.pinned e ⊎ (Contains old.pinned e → ⊥) → ((Contains old.pinned e → ⊥) × GivesBack old.room e new.room × (new.released ≡ old.released)) ⊎ ((new.room ≡ old.room) × (new.released ≡ old.released ++ e ∷ []))
    by (inl there) = inr (held there)
    by (inr absent) = inl (absent, (back absent).0, (back absent).1)

-- as the call on the room tells it
pub releases_at : (e f : Extent) (old new : Uses) → f ≡ e → new.pinned ≡ old.pinned → ((g : Extent) → Apart f g → IsInUse old g → IsInUse new g)
    → (Contains old.pinned f → (new.room ≡ old.room) × (new.released ≡ old.released ++ f ∷ []))
    → ((Contains old.pinned f → ⊥) → GivesBack old.room f new.room × (new.released ≡ old.released))
    → Releases e old new
releases_at e f old new is pinned others held back = subst (λ x. Releases x old new) is (releases f old new pinned others held back)

module _ (old new : Contents) (owned : List Extent) (e : Extent) (gives : Releases e old.blobs new.blobs) where
  abbrev others_of : List Extent
  others_of = owned ++ old.blobs.released

  live_after : Leaves e others_of (live owned new)
  live_after = by gives.how
    where
      by : ((Contains old.blobs.pinned e → ⊥) × GivesBack old.blobs.room e new.blobs.room × (new.blobs.released ≡ old.blobs.released)) ⊎ ((new.blobs.room ≡ old.blobs.room) × (new.blobs.released ≡ old.blobs.released ++ e ∷ [])) → Leaves e others_of (live owned new)
      by (inl gone) = inl (ap (λ l. owned ++ l) gone.2)
      by (inr stays) = inr (ap (λ l. owned ++ l) stays.1 ∙ sym (append_assoc owned old.blobs.released (e ∷ [])))

  in_use_after : All (IsInUse old.blobs) (e ∷ others_of) → AllPairs Apart (e ∷ others_of) → All (IsInUse new.blobs) (live owned new)
  in_use_after used apart = by gives.how
    where
      left : All (IsInUse new.blobs) others_of
      left k d lt = gives.others (get_or others_of k d) (beside e others_of others_of Apart apart k d lt) (All-tail (IsInUse old.blobs) e others_of used k d lt)

      by : ((Contains old.blobs.pinned e → ⊥) × GivesBack old.blobs.room e new.blobs.room × (new.blobs.released ≡ old.blobs.released)) ⊎ ((new.blobs.room ≡ old.blobs.room) × (new.blobs.released ≡ old.blobs.released ++ e ∷ [])) → All (IsInUse new.blobs) (live owned new)
      by (inl gone) = subst (All (IsInUse new.blobs)) (sym (ap (λ l. owned ++ l) gone.2)) left
      by (inr stays) =
          subst (All (IsInUse new.blobs)) (sym (ap (λ l. owned ++ l) stays.1 ∙ sym (append_assoc owned old.blobs.released (e ∷ []))))
          (All-push (IsInUse new.blobs) others_of e left (in_use_still old.blobs new.blobs e stays.0 (All-head (IsInUse old.blobs) e others_of used)))

  cases : (x : Extent) → Contains (e ∷ others_of) x → (e ≡ x) ⊎ Contains others_of x
  cases x has = of (Contains-append_cases (e ∷ []) others_of x has)
    where
      of : Contains (e ∷ []) x ⊎ Contains others_of x → (e ≡ x) ⊎ Contains others_of x
      of (inl it) = inl (All-contains (λ y. e ≡ y) (e ∷ []) x (All-push (λ y. e ≡ y) [] e (λ k d lt. absurd (omega arith)) refl) it)
      of (inr other) = inr other

  -- a byte in use was so before, and whose it was it still is
  used_after : (b : ℕ) → IsUsed new.blobs.room b → IsUsed old.blobs.room b × (IsIn (e ∷ others_of) b → IsIn (live owned new) b)
  used_after b used = by gives.how
    where
      by : ((Contains old.blobs.pinned e → ⊥) × GivesBack old.blobs.room e new.blobs.room × (new.blobs.released ≡ old.blobs.released)) ⊎ ((new.blobs.room ≡ old.blobs.room) × (new.blobs.released ≡ old.blobs.released ++ e ∷ []))
          → IsUsed old.blobs.room b × (IsIn (e ∷ others_of) b → IsIn (live owned new) b)
      by (inl gone) = (left.0, λ is. (is.0, subst (λ l. Contains l is.0) (sym (ap (λ l. owned ++ l) gone.2)) (other is.0 is.2 (cases is.0 is.1)), is.2))
        where
          left : IsUsed old.blobs.room b × IsClearOf e b
          left = (gone.1.used b).0 used

          other : (x : Extent) → Covers x b → (e ≡ x) ⊎ Contains others_of x → Contains others_of x
          other x covers (inl it) = absurd (not_both e b (subst (λ y. Covers y b) (sym it) covers) left.1)
          other x covers (inr has) = has
      by (inr stays) = (
        subst (λ r. IsUsed r b) stays.0 used,
        λ is.
            (is.0, subst (λ l. Contains l is.0) (sym (ap (λ l. owned ++ l) stays.1 ∙ sym (append_assoc owned old.blobs.released (e ∷ [])))) (in_either is.0 (cases is.0 is.1)), is.2),
      )
        where
          in_either : (x : Extent) → (e ≡ x) ⊎ Contains others_of x → Contains (others_of ++ e ∷ []) x
          in_either x (inl it) = subst (Contains (others_of ++ e ∷ [])) it (Contains-append_right others_of (e ∷ []) e (0, omega arith, refl))
          in_either x (inr other) = Contains-append_left others_of (e ∷ []) x other

  pinned_after : All (Contains (e ∷ others_of)) old.blobs.pinned → All (Contains (live owned new)) new.blobs.pinned
  pinned_after whole = subst (All (Contains (live owned new))) (sym gives.pinned) (λ k d lt. by gives.how (get_or old.blobs.pinned k d) (All-contains_itself old.blobs.pinned k d lt) (whole k d lt))
    where
      by : ((Contains old.blobs.pinned e → ⊥) × GivesBack old.blobs.room e new.blobs.room × (new.blobs.released ≡ old.blobs.released)) ⊎ ((new.blobs.room ≡ old.blobs.room) × (new.blobs.released ≡ old.blobs.released ++ e ∷ []))
          → (x : Extent) → Contains old.blobs.pinned x → Contains (e ∷ others_of) x → Contains (live owned new) x
      by (inl gone) x pin has = subst (λ l. Contains l x) (sym (ap (λ l. owned ++ l) gone.2)) (no_pin (cases x has))
        where
          no_pin : (e ≡ x) ⊎ Contains others_of x → Contains others_of x
          no_pin (inl it) = absurd (gone.0 (subst (Contains old.blobs.pinned) (sym it) pin))
          no_pin (inr other) = other
      by (inr stays) x pin has =
          subst (λ l. Contains l x) (sym (ap (λ l. owned ++ l) stays.1 ∙ sym (append_assoc owned old.blobs.released (e ∷ [])))) (in_either (cases x has))
        where
          in_either : (e ≡ x) ⊎ Contains others_of x → Contains (others_of ++ e ∷ []) x
          in_either (inl it) = subst (Contains (others_of ++ e ∷ [])) it (Contains-append_right others_of (e ∷ []) e (0, omega arith, refl))
          in_either (inr other) = Contains-append_left others_of (e ∷ []) x other

  pub room_released : (loose : List Extent) → new.incoming ≡ old.incoming → new.outgoing ≡ old.outgoing → IsRoomWith old (e ∷ owned) loose → IsRoomWith new owned loose
  room_released loose uploads readers room = record {
    in_use = in_use_after room.in_use room.apart;
    apart = pairs_after e others_of (live owned new) Apart apart_sym live_after room.apart;
    staged = λ q. subst (λ o. IfSome o (λ i. IsStaged new.blobs (live owned new) (extent_of i))) (ap (λ m. get nat_cmp m q) (sym uploads)) (still (incoming_at old q) (room.staged q));
    staged_apart = λ a b not. subst (λ m. AreApart (get nat_cmp m a) (get nat_cmp m b)) (sym uploads) (room.staged_apart a b not);
    no_more = λ b used. let was = used_after b used in held b was.1 (room.no_more b was.0);
    pinned = pinned_after room.pinned;
    pins = λ x. ap (times x) gives.pinned ∙ room.pins x ∙ ap (λ (os : Vec Outgoing Global). times x (loose ++ flat_map pins_of os.items)) (sym readers);
  }
    where
      held : (b : ℕ) → (IsIn (e ∷ others_of) b → IsIn (live owned new) b) → IsIn (e ∷ others_of) b ⊎ IsComingIn old b → IsIn (live owned new) b ⊎ IsComingIn new b
      held b whole (inl was) = inl (whole was)
      held b whole (inr coming) = inr (coming.0, coming.1, ap (λ m. get nat_cmp m coming.0) uploads ∙ coming.2, coming.3)

      still : (o : Option Incoming) → IfSome o (λ i. IsStaged old.blobs (e ∷ others_of) (extent_of i)) → IfSome o (λ i. IsStaged new.blobs (live owned new) (extent_of i))
      still None staged = tt
      still (Some i) staged = record {
        in_use = gives.others (extent_of i) (apart_sym (extent_of i) e (All-head (Apart (extent_of i)) e others_of staged.apart)) staged.in_use;
        apart = all_after e others_of (live owned new) (Apart (extent_of i)) live_after staged.apart;
      }

  pub held_released : (d : DiskState) (h : Holding) → h.owned ≡ e ∷ owned → new.incoming ≡ old.incoming → new.outgoing ≡ old.outgoing → IsHeld old d h → IsHeld new d (record h { owned = owned })
  held_released d h is uploads readers held = record {
    room = room_released [] uploads readers (subst (IsRoom old) is held.room);
    image = held.image;
    given = held.given;
    sizes = held.sizes;
    safe = all_after e others_of (live owned new) (λ x. IsSafe d x (h.meaning x)) live_after (subst (λ l. All (λ x. IsSafe d x (h.meaning x)) (l ++ old.blobs.released)) is held.safe);
    uploads = λ q. subst (λ m. IsComing d (get nat_cmp m q) (h.came q)) (sym uploads) (held.uploads q);
    readers = λ q. held.readers q ∙ ap (λ (os : Vec Outgoing Global). read_by h.meaning (find (λ o. o.reader == q) os.items)) (sym readers);
  }

-- ---- the next of several

module _ (old new : Contents) (freed rest : List Extent) (i : ℕ) (d : Extent) (within : i < length freed)
    (gives : IsInUse old.blobs (get_or freed i d) → Releases (get_or freed i d) old.blobs new.blobs)
    (uploads : new.incoming ≡ old.incoming) (readers : new.outgoing ≡ old.outgoing) where
  abbrev left_over : List Extent
  left_over = drop (i + 1) freed ++ rest

  next : drop i freed ++ rest ≡ get_or freed i d ∷ left_over
  next = ap (λ l. l ++ rest) (drop_more freed i d within)

  released : IsRoom old (get_or freed i d ∷ left_over) → Releases (get_or freed i d) old.blobs new.blobs
  released room = gives (All-head (IsInUse old.blobs) (get_or freed i d) (left_over ++ old.blobs.released) room.in_use)

  pub room_next : IsRoom old (drop i freed ++ rest) → IsRoom new left_over
  room_next room =
      let here : IsRoom old (get_or freed i d ∷ left_over) = subst (IsRoom old) next room in
      room_released old new left_over (get_or freed i d) (released here) [] uploads readers here

  pub held_next : (k : DiskState) (h : Holding) → IsHeld old k (record h { owned = drop i freed ++ rest }) → IsHeld new k (record h { owned = left_over })
  held_next k h held =
      held_released old new left_over (get_or freed i d) (released (subst (IsRoom old) next held.room)) k (record h { owned = drop i freed ++ rest }) next uploads readers held
