-- The content of an upload is owned from now on.
use Rattle.std.proofs.Common.{◌≡◌, inl, inr, ◌==◌, ◌≤◌, ℕ, nat_eq, Bool, true, false, cond, List, [], ◌∷◌, ◌++◌, length, take, drop, find, Option, Some, None, All, Contains, refl, sym, ap, ◌∙◌, subst, arith, length-take}
use Rattle.std.specs.List.{flat_map}
use Rattle.std.specs.Map.{update}
use Rattle.std.proofs.lemmas.Bool.{leb-true}
use Rattle.std.proofs.lemmas.List.{nil_from_length}
use Rattle.std.proofs.lemmas.List.Elements.{All-cons, All-head, All-tail, All-contains, All-contains_itself, Contains-append_left, Contains-append_right}
use Rattle.sha1.specs.Sha1.{sha1}
use Rattle.b2_base.specs.declared.extent.Extent.{Extent}
use Rattle.disk_model.specs.State.{DiskState, Rests}
use Rattle.extent_space.specs.Room.{Apart}
use Rattle.blob_extents.specs.Bytes.{IsSafe, ReadsAt}
use Rattle.blob_extents.specs.States.{HasHashed}
use Rattle.blob_extents.proofs.WhatIsRead.{safe_rests}
use Rattle.stored_contents.specs.declared.contents.Contents.{Contents}
use Rattle.stored_contents.specs.declared.incoming.Incoming.{Incoming}
use Rattle.stored_contents.specs.declared.outgoing.Outgoing.{Outgoing}
use Rattle.stored_contents.specs.declared.uploads.Whole.{Whole}
use Rattle.stored_contents.specs.Held.{Coming, Holding, IsHeld, IsComing, IsIncoming, is_all, read_by}
use Rattle.stored_contents.specs.Room.{IsRoom, IsRoomWith, extent_of, incoming_at, live, pins_of}
use Rattle.stored_contents.specs.Sealed.{HasSealed, IsSealed}
use Rattle.stored_contents.proofs.Updates.{each_upload, updated_here, updated_other}
use Rattle.stored_contents.proofs.Rooms.{OnlyUpload, staged_at}
use Rattle.stored_contents.proofs.Counts.{same, itself, no_other, there_some, some_there}
use Rattle.stored_contents.proofs.Lists.{found_there, in_pieces}

-- ---- what extents stand for

abbrev pub with_content : Extent → List ℕ → (Extent → List ℕ) → Extent → List ℕ
with_content e content meaning x = cond (same e x) content (meaning x)

pub with_here : (e : Extent) (content : List ℕ) (meaning : Extent → List ℕ) → with_content e content meaning e ≡ content
with_here e content meaning = ap (λ b. cond b content (meaning e)) (itself e)

-- an extent that is apart from itself has no bytes
nothing : (e x : Extent) → x.at ≡ e.at → x.len ≡ e.len → Apart e x → e.len ≡ 0
nothing e x at len (inl before) = omega (arith, at, len, before)
nothing e x at len (inr after) = omega (arith, at, len, after)

module _ (e : Extent) (content : List ℕ) (meaning : Extent → List ℕ) (sizes : (x : Extent) → length (meaning x) ≡ x.len) (size : length content ≡ e.len) where
  pub with_size : (x : Extent) → length (with_content e content meaning x) ≡ x.len
  with_size x = by (same e x) refl
    where
      by : (b : Bool) → same e x ≡ b → length (cond b content (meaning x)) ≡ x.len
      by true is = size ∙ ap (λ y. y.len) (sym (no_other e x is))
      by false is = sizes x

  -- another one, or one of no bytes
  pub with_other : (x : Extent) → Apart e x → with_content e content meaning x ≡ meaning x
  with_other x apart = by (same e x) refl
    where
      by : (b : Bool) → same e x ≡ b → cond b content (meaning x) ≡ meaning x
      by true is =
          let it = no_other e x is in
          let at : x.at ≡ e.at = ap (λ y. y.at) it in
          let len : x.len ≡ e.len = ap (λ y. y.len) it in
          let none : e.len ≡ 0 = nothing e x at len apart in
          nil_from_length content (size ∙ none) ∙ sym (nil_from_length (meaning x) (sizes x ∙ len ∙ none))
      by false is = refl

-- ---- readers

-- the extent of a pin is of a whole content
pub pinned_live : (t : Contents) (owned loose : List Extent) (e : Extent) → IsRoomWith t owned loose → Contains (flat_map pins_of t.outgoing.items) e → Contains (live owned t) e
pinned_live t owned loose e room has =
    let all = flat_map pins_of t.outgoing.items in
    let some = there_some e (loose ++ all) (Contains-append_right loose all e has) in
    All-contains (Contains (live owned t)) t.blobs.pinned e room.pinned (some_there e t.blobs.pinned (omega (arith, some, room.pins e)))

same_joined : (f g : Extent → List ℕ) (xs : List Extent) → All (λ e. f e ≡ g e) xs → flat_map f xs ≡ flat_map g xs
same_joined f g [] same = refl
same_joined f g (x ∷ xs) same =
    ap (λ l. l ++ flat_map f xs) (All-head (λ e. f e ≡ g e) x xs same) ∙ ap (λ l. g x ++ l) (same_joined f g xs (All-tail (λ e. f e ≡ g e) x xs same))

pub same_read : (f g : Extent → List ℕ) (os : List Outgoing) (p : Outgoing → Bool) → ((e : Extent) → Contains (flat_map pins_of os) e → f e ≡ g e) → read_by f (find p os) ≡ read_by g (find p os)
same_read f g os p same = by (find p os) refl
  where
    by : (o : Option Outgoing) → find p os ≡ o → read_by f o ≡ read_by g o
    by None is = refl
    by (Some o) is = ap (λ l. take o.len (drop o.at l)) (same_joined f g (pins_of o)
        (λ k d lt. let has = All-contains_itself (pins_of o) k d lt in same _ (in_pieces pins_of os o _ (found_there p os o is) has)))

-- ---- all

-- what came of another upload, where nothing was written
pub coming_rests : (d e : DiskState) (o : Option Incoming) (a : Option Coming) → Rests d e → IsComing d o a → IsComing e o a
coming_rests d e None a rests came = came
coming_rests d e (Some i) None rests came = absurd came
coming_rests d e (Some i) (Some a) rests came = record {
  len = came.len;
  reads = record { image = came.reads.image; given = rests.reads came.reads.image came.reads.given; here = came.reads.here };
  hashed = came.hashed;
  rest = came.rest;
}

module _ (old new : Contents) (c : ℕ) (i : Incoming) (d e : DiskState) (h : Holding) (w : Whole)
    (only : OnlyUpload old new c None) (is : incoming_at old c ≡ Some i) (room : IsRoom new (w.extent ∷ h.owned)) (whole : is_all (Some i) ≡ true)
    (place : w.extent ≡ extent_of i) (rest : w.rest.items ≡ i.rest.items)
    (digest : (m : List ℕ) → HasHashed i.staging m → w.digest ≡ sha1 m)
    (safe : (m : List ℕ) → HasHashed i.staging m → ReadsAt d (extent_of i) m → IsSafe e (extent_of i) m)
    (rests : Rests d e) (held : IsHeld old d h) where
  module _ (a : Coming) (came : IsIncoming d i a) where
    enough : a.len ≤ length a.bytes
    enough = omega (arith, came.len, came.hashed.count, length-take a.len a.bytes, leb-true (extent_of i).len i.staging.filled whole)

    abbrev content : List ℕ
    content = take a.len a.bytes

    size : length content ≡ w.extent.len
    size = omega (arith, length-take a.len a.bytes, enough, came.len, ap (λ x. x.len) place)

    abbrev g : Extent → List ℕ
    g = with_content w.extent content h.meaning

    apart : All (Apart w.extent) (live h.owned old)
    apart = subst (λ x. All (Apart x) (live h.owned old)) (sym place) (staged_at old h.owned [] c i is held.room).apart

    agrees : (x : Extent) → Contains (live h.owned old) x → h.meaning x ≡ g x
    agrees x has = sym (with_other w.extent content h.meaning held.sizes size x (All-contains (Apart w.extent) (live h.owned old) x apart has))

    abbrev k : Holding
    k = record { owned = w.extent ∷ h.owned; meaning = g; came = update nat_eq h.came c None; read = h.read }

    held_k : IsHeld new e k
    held_k = record {
      room = room;
      image = held.image;
      given = rests.reads held.image held.given;
      sizes = with_size w.extent content h.meaning held.sizes size;
      safe = All-cons (λ x. IsSafe e x (g x)) w.extent (live h.owned new)
          (subst (IsSafe e w.extent) (sym (with_here w.extent content h.meaning)) (subst (λ x. IsSafe e x content) (sym place) (safe content came.hashed came.reads)))
          (subst (λ l. All (λ x. IsSafe e x (g x)) (h.owned ++ l)) (sym only.released) still);
      uploads = each_upload old new c None (λ q o. IsComing e o (update nat_eq h.came c None q)) only.set (updated_here h.came c None)
          (λ q other. subst (IsComing e (incoming_at old q)) (sym (updated_other h.came c None q other)) (coming_rests d e (incoming_at old q) (h.came q) rests (held.uploads q)));
      readers = λ q. held.readers q
          ∙ same_read h.meaning g old.outgoing.items (λ o. o.reader == q) (λ x has. agrees x (pinned_live old h.owned [] x held.room has))
          ∙ ap (λ os. read_by g (find (λ o. o.reader == q) os)) (sym only.outgoing);
    }
      where
        still : All (λ x. IsSafe e x (g x)) (live h.owned old)
        still n x lt = let has = All-contains_itself (live h.owned old) n x lt in
            subst (IsSafe e _) (agrees _ has) (safe_rests d e _ (h.meaning _) rests (held.safe n x lt))

    has_sealed : HasSealed h c a w k
    has_sealed = record {
      all = enough;
      stored = record {
        owned = refl;
        agrees = λ n x lt. agrees _ (Contains-append_left h.owned old.blobs.released _ (All-contains_itself h.owned n x lt));
        content_is = with_here w.extent content h.meaning;
        digest = digest content came.hashed;
      };
      rest = rest ∙ came.rest;
      came = refl;
      read = refl;
    }

  sealed : (a : Option Coming) → IsComing d (Some i) a → IsSealed new e h c a (Some w)
  sealed None came = absurd came
  sealed (Some a) came = (k a came, has_sealed a came, held_k a came)

  pub is_sealed : IsSealed new e h c (h.came c) (Some w)
  is_sealed = sealed (h.came c) (subst (λ o. IsComing d o (h.came c)) is (held.uploads c))
