-- The order in which owned extents are named does not matter.
use Rattle.std.proofs.Common.{◌≡◌, ◌≢◌, ◌⊎◌, inl, inr, ℕ, ◌<◌, ◌≤◌, List, length, get_or, swap, Option, Some, None, IfSome, AllPairs, Contains, refl, sym, ap, subst, ◌∙◌, arith}
use Rattle.std.specs.List.Sorted.{IsPermutation}
use Rattle.std.proofs.lemmas.Bool.{cases_eq, cases_lt}
use Rattle.std.proofs.lemmas.List.Edits.{Swapped, swapped_from_swap, length-swap}
use Rattle.std.proofs.lemmas.List.Elements.{All-weaker}
use Rattle.std.proofs.lemmas.List.Sorted.{All-permutation, Contains-permutation, IsPermutation-append_left, IsPermutation-keeps}
use Rattle.b2_base.specs.declared.extent.Extent.{Extent}
use Rattle.disk_model.specs.State.{DiskState}
use Rattle.extent_space.specs.Room.{Apart}
use Rattle.blob_extents.specs.Bytes.{IsSafe}
use Rattle.blob_extents.specs.Uses.{IsInUse}
use Rattle.stored_contents.specs.declared.contents.Contents.{Contents}
use Rattle.stored_contents.specs.declared.incoming.Incoming.{Incoming}
use Rattle.stored_contents.specs.Held.{Holding, IsHeld}
use Rattle.stored_contents.specs.Room.{IsComingIn, IsIn, IsRoom, IsStaged, extent_of, incoming_at, live}
use Rattle.stored_contents.proofs.Rooms.{apart_sym}

-- where a swap of a and b took what stands at m from
abbrev From : ℕ → ℕ → ℕ → ℕ → Type 0
From a b m k = ((m ≡ a) × (k ≡ b)) ⊎ (((m ≡ b) × (k ≡ a)) ⊎ ((m ≢ a) × (m ≢ b) × (k ≡ m)))

origin : {X : Type 0} (f g : ℕ → X) (a b m : ℕ) → Swapped f g a b → (m ≡ a) ⊎ (m ≢ a) → (m ≡ b) ⊎ (m ≢ b) → (k : ℕ) × From a b m k × (g m ≡ f k)
origin f g a b m s (inl e) y = (b, inl (e, refl), ap g e ∙ s.0)
origin f g a b m s (inr n) (inl e) = (a, inr (inl (e, refl)), ap g e ∙ s.1)
origin f g a b m s (inr n) (inr o) = (m, inr (inr (n, o, refl)), s.2 m n o)

-- what holds of each two of a list, either way round
module _ {X : Type 0} (R : X → X → Type 0) (turned : (x y : X) → R x y → R y x) where
  either : (xs : List X) (i j : ℕ) (d : X) → AllPairs R xs → i < length xs → j < length xs → i ≢ j → (i < j) ⊎ (j ≤ i) → R (get_or xs i d) (get_or xs j d)
  either xs i j d pairs p q differ (inl before) = pairs i j d before q
  either xs i j d pairs p q differ (inr after) = turned (get_or xs j d) (get_or xs i d) (pairs j i d (omega (arith, after, differ)) p)

  pairs_swapped : (xs : List X) (a b : ℕ) → a < length xs → b < length xs → AllPairs R xs → AllPairs R (swap xs a b)
  pairs_swapped xs a b p q pairs i j d less within =
      let len = length-swap xs a b in
      let s = swapped_from_swap xs (swap xs a b) a b d p q refl in
      let x = origin (λ k. get_or xs k d) (λ k. get_or (swap xs a b) k d) a b i s (cases_eq i a) (cases_eq i b) in
      let y = origin (λ k. get_or xs k d) (λ k. get_or (swap xs a b) k d) a b j s (cases_eq j a) (cases_eq j b) in
      let first : x.0 < length xs = omega (arith, x.1, len, less, within, p, q) in
      let second : y.0 < length xs = omega (arith, y.1, len, within, p, q) in
      let differ : x.0 ≢ y.0 = λ same. omega (arith, same, x.1, y.1, less) in
      subst (λ u. R u (get_or (swap xs a b) j d)) (sym x.2)
      (subst (λ v. R (get_or xs x.0 d) v) (sym y.2) (either xs x.0 y.0 d pairs first second differ (cases_lt x.0 y.0)))

  pub pairs_in_order : (xs ys : List X) → IsPermutation xs ys → AllPairs R xs → AllPairs R ys
  pairs_in_order xs ys moved pairs = IsPermutation-keeps xs (AllPairs R) pairs pairs_swapped ys moved

module _ (t : Contents) (owned other : List Extent) (moved : IsPermutation owned other) where
  live_moved : IsPermutation (live owned t) (live other t)
  live_moved = IsPermutation-append_left t.blobs.released owned other moved

  still_staged : (o : Option Incoming) → IfSome o (λ i. IsStaged t.blobs (live owned t) (extent_of i)) → IfSome o (λ i. IsStaged t.blobs (live other t) (extent_of i))
  still_staged None staged = tt
  still_staged (Some i) staged = record { in_use = staged.in_use; apart = All-permutation (Apart (extent_of i)) (live owned t) (live other t) live_moved staged.apart }

  still_held : (b : ℕ) → IsIn (live owned t) b ⊎ IsComingIn t b → IsIn (live other t) b ⊎ IsComingIn t b
  still_held b (inl whole) = inl (whole.0, Contains-permutation (live owned t) (live other t) whole.0 live_moved whole.1, whole.2)
  still_held b (inr coming) = inr coming

  pub room_in_order : IsRoom t owned → IsRoom t other
  room_in_order room = record {
    in_use = All-permutation (IsInUse t.blobs) (live owned t) (live other t) live_moved room.in_use;
    apart = pairs_in_order Apart apart_sym (live owned t) (live other t) live_moved room.apart;
    staged = λ c. still_staged (incoming_at t c) (room.staged c);
    staged_apart = room.staged_apart;
    no_more = λ b used. still_held b (room.no_more b used);
    pinned = All-weaker (Contains (live owned t)) (Contains (live other t)) (λ e has. Contains-permutation (live owned t) (live other t) e live_moved has) t.blobs.pinned room.pinned;
    pins = room.pins;
  }

pub held_in_order : (t : Contents) (d : DiskState) (h : Holding) (other : List Extent) → IsPermutation h.owned other → IsHeld t d h → IsHeld t d (record h { owned = other })
held_in_order t d h other moved held = record {
  room = room_in_order t h.owned other moved held.room;
  image = held.image;
  given = held.given;
  sizes = held.sizes;
  safe = All-permutation (λ e. IsSafe d e (h.meaning e)) (live h.owned t) (live other t) (live_moved t h.owned other moved) held.safe;
  uploads = held.uploads;
  readers = held.readers;
}
