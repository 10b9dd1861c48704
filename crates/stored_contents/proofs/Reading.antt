-- What the room and the holding are while readers come and go.
use Rattle.std.proofs.Common.{◌≡◌, ◌⊎◌, inl, inr, ℕ, ◌+◌, ◌-◌, ◌<◌, ◌==◌, if◌then◌else◌, Option, Some, None, IfSome, List, [], ◌∷◌, ◌++◌, length, get_or, flat_map, map, take, drop, Vec, Global, All, AllPairs, Contains, refl, sym, ap, subst, ◌∙◌, arith}
use Rattle.std.specs.Prelude.{Result, IfOk}
use Rattle.std.specs.List.{remove}
use Rattle.std.proofs.Math.Seq.{take-nil, drop-nil}
use Rattle.std.specs.Map.{lookup}
use Rattle.std.specs.BTreeMap.{BTreeMap, is_at}
use Rattle.std.specs.Ordering.{nat_cmp}
use Rattle.std.proofs.lemmas.Bool.{cases_eq, eq-eqb, ne_eqb}
use Rattle.std.specs.Option.{option_to_list}
use Rattle.std.proofs.lemmas.List.{append-nil, length_push, get_or_push, map_push}
use Rattle.std.proofs.lemmas.List.Concat.{flat_map-append}
use Rattle.std.proofs.lemmas.List.Elements.{All-append, All-contains, All-contains_itself, All-push, All-weaker, Contains-append_left, Contains-append_right, Contains-get_or}
use Rattle.b2_base.specs.declared.extent.Extent.{Extent}
use Rattle.disk_model.specs.State.{DiskState}
use Rattle.extent_space.specs.Room.{Apart, IsUsed}
use Rattle.blob_extents.specs.Bytes.{IsSafe}
use Rattle.blob_extents.specs.declared.states.Pin.{Pin}
use Rattle.blob_extents.specs.States.{pin_extent}
use Rattle.blob_extents.specs.Uses.{Uses, IsInUse, TakesOut}
use Rattle.blob_extents.proofs.Places.{in_use_still}
use Rattle.stored_contents.specs.declared.contents.Contents.{Contents}
use Rattle.stored_contents.specs.declared.incoming.Incoming.{Incoming}
use Rattle.stored_contents.specs.declared.outgoing.Outgoing.{Outgoing}
use Rattle.stored_contents.specs.Held.{Coming, Holding, IsHeld, IsComing, read_by, with_read}
use Rattle.stored_contents.specs.Reads.{IsRead, outgoing_at}
use Rattle.stored_contents.specs.Room.{IsRoom, IsRoomWith, IsComingIn, IsIn, IsStaged, AreApart, extent_of, incoming_at, live, pins_of, times}
use Rattle.stored_contents.proofs.Counts.{times_both, times_around, times_pieces, some_there, there_some}
use Rattle.stored_contents.proofs.Lists.{in_pieces, found_there}
use Rattle.stored_contents.proofs.OnlyRead.{safe_still}
use Rattle.stored_contents.specs.Changes.{Unpins}
use Rattle.stored_contents.proofs.Unpins.{in_use_after, apart_after, all_after, other_after, pinned_after, used_after}

pub same_incoming : (old new : Contents) → new.incoming.entries ≡ old.incoming.entries → (q : ℕ) → incoming_at new q ≡ incoming_at old q
same_incoming old new same q = ap (at q) same
  where
    at : ℕ → List (ℕ × Incoming) → Option Incoming
    at q es = lookup (is_at (nat_cmp q)) es

abbrev pub entries_of : BTreeMap ℕ Incoming → List (ℕ × Incoming)
entries_of m = m.entries

abbrev pub items_of : Vec Outgoing Global → List Outgoing
items_of v = v.items

-- ---- the room

-- no upload changes, and what is apart from all stays in use
room_by : (old new : Contents) (owned before after : List Extent) → IsRoomWith old owned before
    → new.incoming.entries ≡ old.incoming.entries
    → All (IsInUse new.blobs) (live owned new)
    → AllPairs Apart (live owned new)
    → ((f : Extent) → All (Apart f) (live owned old) → IsInUse old.blobs f → IsInUse new.blobs f)
    → ((f : Extent) → All (Apart f) (live owned old) → All (Apart f) (live owned new))
    → ((b : ℕ) → IsUsed new.blobs.room b → IsUsed old.blobs.room b × (IsIn (live owned old) b → IsIn (live owned new) b))
    → All (Contains (live owned new)) new.blobs.pinned
    → ((e : Extent) → times e new.blobs.pinned ≡ times e (after ++ flat_map pins_of new.outgoing.items))
    → IsRoomWith new owned after
room_by old new owned before after room same in_use apart others others_apart no_more pinned pins = record {
  in_use = in_use;
  apart = apart;
  staged = λ q. subst (λ o. IfSome o (λ i. IsStaged new.blobs (live owned new) (extent_of i))) (sym (same_incoming old new same q)) (still (incoming_at old q) (room.staged q));
  staged_apart = λ a b not. subst (λ o. AreApart o (incoming_at new b)) (sym (same_incoming old new same a)) (subst (AreApart (incoming_at old a)) (sym (same_incoming old new same b)) (room.staged_apart a b not));
  no_more = λ b used. let was = no_more b used in held b was.1 (room.no_more b was.0);
  pinned = pinned;
  pins = pins;
}
  where
    held : (b : ℕ) → (IsIn (live owned old) b → IsIn (live owned new) b) → IsIn (live owned old) b ⊎ IsComingIn old b → IsIn (live owned new) b ⊎ IsComingIn new b
    held b whole (inl was) = inl (whole was)
    held b whole (inr coming) = inr (coming.0, coming.1, same_incoming old new same coming.0 ∙ coming.2, coming.3)

    still : (o : Option Incoming) → IfSome o (λ i. IsStaged old.blobs (live owned old) (extent_of i)) → IfSome o (λ i. IsStaged new.blobs (live owned new) (extent_of i))
    still None staged = tt
    still (Some i) staged = record { in_use = others (extent_of i) staged.apart staged.in_use; apart = others_apart (extent_of i) staged.apart }

-- a pin ends, which is loose
pub room_unpinned : (old new : Contents) (owned before after : List Extent) (e : Extent)
    → Unpins e old.blobs new.blobs → TakesOut e old.blobs.pinned new.blobs.pinned
    → ((f : Extent) → Apart e f → IsInUse old.blobs f → IsInUse new.blobs f)
    → new.incoming.entries ≡ old.incoming.entries → new.outgoing.items ≡ old.outgoing.items
    → before ≡ after ++ e ∷ []
    → IsRoomWith old owned before → IsRoomWith new owned after
room_unpinned old new owned before after e unpins out others same read loose room =
    room_by old new owned before after room same
    (in_use_after owned e old.blobs new.blobs unpins others room.apart room.in_use)
    (apart_after owned e old.blobs new.blobs unpins room.apart)
    (λ f apart in_use. other_after owned e f old.blobs new.blobs unpins others apart in_use)
    (λ f apart. all_after (Apart f) owned e old.blobs new.blobs unpins apart)
    (used_after owned e old.blobs new.blobs unpins)
    (pinned_after owned e old.blobs new.blobs unpins out room.pinned)
    counted
  where
    counted : (x : Extent) → times x new.blobs.pinned ≡ times x (after ++ flat_map pins_of new.outgoing.items)
    counted x =
        let pieces = flat_map pins_of old.outgoing.items in
        let one : times x old.blobs.pinned ≡ times x (e ∷ []) + times x new.blobs.pinned =
        times_around x old.blobs.pinned out.0 e out.1
        ∙ ap (λ y. times x (y ∷ []) + times x (remove old.blobs.pinned out.0)) out.2
        ∙ ap (λ l. times x (e ∷ []) + times x l) (sym out.3) in
        let all : times x old.blobs.pinned ≡ times x before + times x pieces = room.pins x ∙ times_both x before pieces in
        let split : times x before ≡ times x after + times x (e ∷ []) = ap (times x) loose ∙ times_both x after (e ∷ []) in
        let left : times x new.blobs.pinned ≡ times x after + times x pieces = omega (arith, one, all, split) in
        left ∙ sym (times_both x after pieces) ∙ ap (λ o. times x (after ++ flat_map pins_of o)) (sym read)

-- what is loose is pinned, and in use
pub loose_there : (t : Contents) (owned before after : List Extent) (e : Extent) → before ≡ after ++ e ∷ [] → IsRoomWith t owned before → Contains t.blobs.pinned e
loose_there t owned before after e is room =
    let pieces = flat_map pins_of t.outgoing.items in
    let some = there_some e before (subst (λ l. Contains l e) (sym is) (length after, last_within, last_there)) in
    some_there e t.blobs.pinned (omega (arith, room.pins e, times_both e before pieces, some))
  where
    last_within : length after < length (after ++ e ∷ [])
    last_within = omega (arith, length_push after e)

    last_there : get_or (after ++ e ∷ []) (length after) e ≡ e
    last_there = get_or_push after e e (length after) refl

pub pinned_in_use : (t : Contents) (owned loose : List Extent) (e : Extent) → IsRoomWith t owned loose → Contains t.blobs.pinned e → IsInUse t.blobs e
pinned_in_use t owned loose e room has =
    All-contains (IsInUse t.blobs) (live owned t) e room.in_use (All-contains (Contains (live owned t)) t.blobs.pinned e room.pinned has)

-- the room stays as it is
stays_so : (old new : Contents) (owned before after : List Extent) → IsRoomWith old owned before
    → new.blobs.room ≡ old.blobs.room → new.blobs.released ≡ old.blobs.released
    → new.incoming.entries ≡ old.incoming.entries
    → All (Contains (live owned old)) new.blobs.pinned
    → ((e : Extent) → times e new.blobs.pinned ≡ times e (after ++ flat_map pins_of new.outgoing.items))
    → IsRoomWith new owned after
stays_so old new owned before after room same_room released same pinned pins =
    let same_live : live owned new ≡ live owned old = ap (λ l. owned ++ l) released in
    room_by old new owned before after room same
    (subst (All (IsInUse new.blobs)) (sym same_live) (λ k d lt. in_use_still old.blobs new.blobs _ same_room (room.in_use k d lt)))
    (subst (AllPairs Apart) (sym same_live) room.apart)
    (λ f apart in_use. in_use_still old.blobs new.blobs f same_room in_use)
    (λ f apart. subst (All (Apart f)) (sym same_live) apart)
    (λ b used. (subst (λ r. IsUsed r b) same_room used, λ is. (is.0, subst (λ l. Contains l is.0) (sym same_live) is.1, is.2)))
    (subst (λ l. All (Contains l) new.blobs.pinned) (sym same_live) pinned)
    pins

-- an owned content is pinned
pub room_pinned : (old new : Contents) (owned before : List Extent) (e : Extent) → Contains owned e
    → new.blobs.pinned ≡ old.blobs.pinned ++ e ∷ [] → new.blobs.room ≡ old.blobs.room → new.blobs.released ≡ old.blobs.released
    → new.incoming.entries ≡ old.incoming.entries → new.outgoing.items ≡ old.outgoing.items
    → IsRoomWith old owned before → IsRoomWith new owned (before ++ e ∷ [])
room_pinned old new owned before e has more same_room released same read room =
    stays_so old new owned before (before ++ e ∷ []) room same_room released same
    (subst (All (Contains (live owned old))) (sym more) (All-push (Contains (live owned old)) old.blobs.pinned e room.pinned (Contains-append_left owned old.blobs.released e has)))
    counted
  where
    counted : (x : Extent) → times x new.blobs.pinned ≡ times x (before ++ e ∷ [] ++ flat_map pins_of new.outgoing.items)
    counted x =
        let pieces = flat_map pins_of old.outgoing.items in
        let one : times x new.blobs.pinned ≡ times x old.blobs.pinned + times x (e ∷ []) = ap (times x) more ∙ times_both x old.blobs.pinned (e ∷ []) in
        let all : times x old.blobs.pinned ≡ times x before + times x pieces = room.pins x ∙ times_both x before pieces in
        let both : times x (before ++ e ∷ [] ++ pieces) ≡ times x before + times x (e ∷ []) + times x pieces = times_both x (before ++ e ∷ []) pieces ∙ ap (λ n. n + times x pieces) (times_both x before (e ∷ [])) in
        let now : times x new.blobs.pinned ≡ times x (before ++ e ∷ [] ++ pieces) = omega (arith, one, all, both) in
        now ∙ ap (λ o. times x (before ++ e ∷ [] ++ flat_map pins_of o)) (sym read)

-- a reader comes, whose pins were loose
pub room_read : (old new : Contents) (owned loose : List Extent) (o : Outgoing) → loose ≡ pins_of o
    → new.blobs ≡ old.blobs → new.incoming.entries ≡ old.incoming.entries → new.outgoing.items ≡ old.outgoing.items ++ o ∷ []
    → IsRoomWith old owned loose → IsRoom new owned
room_read old new owned loose o is same_blobs same more room =
    stays_so old new owned loose [] room (ap (λ (u : Uses). u.room) same_blobs) (ap (λ (u : Uses). u.released) same_blobs) same
    (subst (All (Contains (live owned old))) (sym (ap (λ (u : Uses). u.pinned) same_blobs)) room.pinned)
    counted
  where
    counted : (x : Extent) → times x new.blobs.pinned ≡ times x (flat_map pins_of new.outgoing.items)
    counted x =
        let pieces = flat_map pins_of old.outgoing.items in
        let all : times x old.blobs.pinned ≡ times x (pins_of o) + times x pieces = room.pins x ∙ ap (λ l. times x (l ++ pieces)) is ∙ times_both x (pins_of o) pieces in
        let last : times x (flat_map pins_of (o ∷ [])) ≡ times x (pins_of o) = ap (times x) (append-nil (pins_of o)) in
        let both : times x (flat_map pins_of (old.outgoing.items ++ o ∷ [])) ≡ times x pieces + times x (flat_map pins_of (o ∷ [])) =
        ap (times x) (flat_map-append pins_of old.outgoing.items (o ∷ [])) ∙ times_both x pieces (flat_map pins_of (o ∷ [])) in
        let now : times x old.blobs.pinned ≡ times x (flat_map pins_of (old.outgoing.items ++ o ∷ [])) = omega (arith, all, last, both) in
        ap (λ (u : Uses). times x u.pinned) same_blobs ∙ now ∙ ap (λ l. times x (flat_map pins_of l)) (sym more)

-- a reader goes, and its pins are loose
pub room_unread : (old new : Contents) (owned : List Extent) (i : ℕ) (o : Outgoing) → i < length old.outgoing.items → o ≡ get_or old.outgoing.items i o
    → new.blobs ≡ old.blobs → new.incoming.entries ≡ old.incoming.entries → new.outgoing.items ≡ remove old.outgoing.items i
    → IsRoom old owned → IsRoomWith new owned (pins_of o)
room_unread old new owned i o within here same_blobs same less room =
    stays_so old new owned [] (pins_of o) room (ap (λ (u : Uses). u.room) same_blobs) (ap (λ (u : Uses). u.released) same_blobs) same
    (subst (All (Contains (live owned old))) (sym (ap (λ (u : Uses). u.pinned) same_blobs)) room.pinned)
    counted
  where
    counted : (x : Extent) → times x new.blobs.pinned ≡ times x (pins_of o ++ flat_map pins_of new.outgoing.items)
    counted x =
        let left = flat_map pins_of (remove old.outgoing.items i) in
        ap (λ (u : Uses). times x u.pinned) same_blobs
        ∙ room.pins x
        ∙ times_pieces pins_of x old.outgoing.items i o within
        ∙ ap (λ y. times x (pins_of y) + times x left) (sym here)
        ∙ sym (times_both x (pins_of o) left)
        ∙ ap (λ l. times x (pins_of o ++ flat_map pins_of l)) (sym less)

-- ---- what is held

-- each whole content that is left was one before
pub live_left : (owned : List Extent) (old new : Contents) → All (Contains old.blobs.released) new.blobs.released → All (Contains (live owned old)) (live owned new)
live_left owned old new within = All-append (Contains (live owned old)) owned new.blobs.released
    (All-weaker (Contains owned) (Contains (live owned old)) (λ e has. Contains-append_left owned old.blobs.released e has) owned (All-contains_itself owned))
    (All-weaker (Contains old.blobs.released) (Contains (live owned old)) (λ e has. Contains-append_right owned old.blobs.released e has) new.blobs.released within)

-- what is read for the reader of one number changes
pub held_read : (old new : Contents) (d : DiskState) (h : Holding) (c : ℕ) (bytes : List ℕ) → IsHeld old d h → IsRoom new h.owned
    → All (Contains old.blobs.released) new.blobs.released
    → new.incoming.entries ≡ old.incoming.entries
    → ((q : ℕ) → (c ≡ q → ⊥) → outgoing_at new q ≡ outgoing_at old q)
    → bytes ≡ read_by h.meaning (outgoing_at new c)
    → IsHeld new d (record h { read = with_read h.read c bytes })
held_read old new d h c bytes held room within same others here = record {
  room = room;
  image = held.image;
  given = held.given;
  sizes = held.sizes;
  safe = λ k e lt. All-contains (λ x. IsSafe d x (h.meaning x)) (live h.owned old) _ held.safe (live_left h.owned old new within k e lt);
  uploads = λ q. subst (λ o. IsComing d o (h.came q)) (sym (same_incoming old new same q)) (held.uploads q);
  readers = λ q. by_case q (cases_eq c q);
}
  where
    by_case : (q : ℕ) → (c ≡ q) ⊎ (c ≡ q → ⊥) → with_read h.read c bytes q ≡ read_by h.meaning (outgoing_at new q)
    by_case q (inl is) = ap (λ b. if b then bytes else h.read q) (eq-eqb c q is) ∙ here ∙ ap (λ n. read_by h.meaning (outgoing_at new n)) is
    by_case q (inr not) = ap (λ b. if b then bytes else h.read q) (ne_eqb c q not) ∙ held.readers q ∙ ap (read_by h.meaning) (sym (others q not))

-- the disk is read
pub held_on : (t : Contents) (old new : DiskState) (h : Holding) → IsRead old new → IsHeld t old h → IsHeld t new h
held_on t old new h read held = record {
  room = held.room;
  image = held.image;
  given = read.reads held.image held.given;
  sizes = held.sizes;
  safe = λ k e lt. safe_still old new _ _ read (held.safe k e lt);
  uploads = λ q. came (incoming_at t q) (h.came q) (held.uploads q);
  readers = held.readers;
}
  where
    came : (i : Option Incoming) (a : Option Coming) → IsComing old i a → IsComing new i a
    came None a none = none
    came (Some i) None none = none
    came (Some i) (Some a) is = record {
      len = is.len;
      reads = record { image = is.reads.image; given = read.reads is.reads.image is.reads.given; here = is.reads.here };
      hashed = is.hashed;
      rest = is.rest;
    }

-- the contents that a reader looks at are whole
pub read_safe : (t : Contents) (d : DiskState) (h : Holding) (c : ℕ) (o : Outgoing) → IsHeld t d h → outgoing_at t c ≡ Some o → All (λ e. IsSafe d e (h.meaning e)) (pins_of o)
read_safe t d h c o held is = λ k e lt.
    let x = get_or (pins_of o) k e in
    let in_all : Contains (flat_map pins_of t.outgoing.items) x = in_pieces pins_of t.outgoing.items o x (found_there (λ r. r.reader == c) t.outgoing.items o is) (Contains-get_or (pins_of o) k e lt) in
    let pinned = some_there x t.blobs.pinned (subst (λ n. 0 < n) (sym (held.room.pins x)) (there_some x (flat_map pins_of t.outgoing.items) in_all)) in
    All-contains (λ y. IsSafe d y (h.meaning y)) (live h.owned t) x held.safe (All-contains (Contains (live h.owned t)) t.blobs.pinned x held.room.pinned pinned)

-- ---- pins one by one

-- the last pin of a vector
pub last_pin : (before after : List Pin) (p : Pin) (o : Option Pin) → before ≡ after ++ option_to_list o → o ≡ Some p → map pin_extent before ≡ map pin_extent after ++ pin_extent p ∷ []
last_pin before after p o is some = ap (map pin_extent) (is ∙ ap (λ x. after ++ option_to_list x) some) ∙ map_push pin_extent after p

-- none is left
pub no_pin : (before after : List Pin) (n : ℕ) (o : Option Pin) → before ≡ after ++ option_to_list o → o ≡ None → after ≡ take (n - 1) before → n ≡ 0 → map pin_extent before ≡ []
no_pin before after n o is none rest empty =
    let all : take (n - 1) before ≡ [] = ap (λ k. take (k - 1) before) empty in
    ap (map pin_extent) (is ∙ ap (λ x. after ++ option_to_list x) none ∙ append-nil after ∙ rest ∙ all)

pub within_both : (a b c : List Extent) → All (Contains a) b → All (Contains b) c → All (Contains a) c
within_both a b c first second = λ k e lt. All-contains (Contains a) b _ first (second k e lt)

-- ---- what a reader gets

-- nothing of nothing
pub nothing_of : (most at : ℕ) (bytes : List ℕ) → bytes ≡ [] → take most (drop at bytes) ≡ []
nothing_of most at bytes none = ap (λ l. take most (drop at l)) none ∙ ap (take most) (drop-nil at) ∙ take-nil most

module _ {F : Type 0} (these those : List ℕ) (r : Result (Vec ℕ Global) F) (most at : ℕ) (same : these ≡ those) where
  pub read_as : IfOk r (λ bytes. bytes.items ≡ take most (drop at these)) → IfOk r (λ bytes. bytes.items ≡ take most (drop at those))
  read_as got = subst (λ l. IfOk r (λ bytes. bytes.items ≡ take most (drop at l))) same got

  pub counted_as : IfOk r (λ bytes. length bytes.items ≡ length (take most (drop at these))) → IfOk r (λ bytes. length bytes.items ≡ length (take most (drop at those)))
  counted_as got = subst (λ l. IfOk r (λ bytes. length bytes.items ≡ length (take most (drop at l)))) same got
