-- Bytes come of an upload: what of them goes to its extent, what to memory, and what else they change.
use Rattle.std.proofs.Common.{◌≡◌, ◌⊎◌, inl, inr, ◌+◌, ◌-◌, ◌≤◌, ◌<◌, ℕ, nat_eq, min, List, [], ◌++◌, length, take, drop, get_or, Option, Some, None, sym, ap, ◌∙◌, subst, arith, length-take}
use Rattle.std.specs.Map.{update}
use Rattle.std.proofs.Math.Seq.{take-append-add, drop-append-add}
use Rattle.std.proofs.lemmas.Bool.{cases_lt}
use Rattle.std.proofs.lemmas.List.{take-append-le, drop-append-le, take_min, drop_min, take_all, drop_all, append-nil}
use Rattle.std.proofs.lemmas.List.Elements.{All-contains, Contains-append_left}
use Rattle.b2_base.specs.declared.extent.Extent.{Extent}
use Rattle.disk_model.specs.State.{DiskState, Changes, ReadsAfter}
use Rattle.extent_space.specs.Room.{Apart}
use Rattle.blob_extents.specs.Bytes.{IsSafe, ReadsAt, StaysOutside}
use Rattle.blob_extents.specs.States.{HasHashed}
use Rattle.stored_contents.specs.declared.contents.Contents.{Contents}
use Rattle.stored_contents.specs.declared.incoming.Incoming.{Incoming}
use Rattle.stored_contents.specs.Held.{Coming, Holding, IsHeld, IsComing, IsIncoming, Spares, with_bytes}
use Rattle.stored_contents.specs.Room.{IsRoom, IsStaged, AreApart, extent_of, incoming_at, live}
use Rattle.stored_contents.proofs.Rooms.{OnlyUpload, staged_at}
use Rattle.stored_contents.proofs.Spared.{spares_step}
use Rattle.stored_contents.proofs.Holdings.{held_set}

-- ---- the first n bytes of m ++ b, where some of them are those of m

module _ (n : ℕ) (m b : List ℕ) where
  pub first_more : take n (m ++ b) ≡ take n m ++ take (n - length m) b
  first_more = by_case (cases_lt (length m) n)
    where
      by_case : (length m < n) ⊎ (n ≤ length m) → take n (m ++ b) ≡ take n m ++ take (n - length m) b
      by_case (inl more) =
          let whole : length m + (n - length m) ≡ n = omega (arith, more) in
          ap (λ k. take k (m ++ b)) (sym whole) ∙ take-append-add m b (n - length m) ∙ ap (λ l. l ++ take (n - length m) b) (sym (take_all n m (omega (arith, more))))
      by_case (inr enough) =
          let none : n - length m ≡ 0 = omega (arith, enough) in
          take-append-le n m b enough ∙ sym (append-nil (take n m)) ∙ ap (λ k. take n m ++ take k b) (sym none)

  pub rest_more : drop n (m ++ b) ≡ drop n m ++ drop (n - length m) b
  rest_more = by_case (cases_lt (length m) n)
    where
      by_case : (length m < n) ⊎ (n ≤ length m) → drop n (m ++ b) ≡ drop n m ++ drop (n - length m) b
      by_case (inl more) =
          let whole : length m + (n - length m) ≡ n = omega (arith, more) in
          ap (λ k. drop k (m ++ b)) (sym whole) ∙ drop-append-add m b (n - length m) ∙ ap (λ l. l ++ drop (n - length m) b) (sym (drop_all n m (omega (arith, more))))
      by_case (inr enough) =
          let none : n - length m ≡ 0 = omega (arith, enough) in
          drop-append-le n m b enough ∙ ap (λ k. drop n m ++ drop k b) (sym none)

  -- so many of b as there is room for behind what came
  module _ (filled fits : ℕ) (count : length (take n m) ≡ filled) (fit : fits ≡ min (n - filled) (length b)) where
    left : n - filled ≡ n - length m
    left = omega (arith, count, length-take n m)

    pub first_fits : take n m ++ take fits b ≡ take n (m ++ b)
    first_fits = ap (λ k. take n m ++ take k b) (fit ∙ ap (λ k. min k (length b)) left) ∙ ap (λ l. take n m ++ l) (take_min (n - length m) b) ∙ sym first_more

    pub rest_fits : drop n m ++ drop fits b ≡ drop n (m ++ b)
    rest_fits = ap (λ k. drop n m ++ drop k b) (fit ∙ ap (λ k. min k (length b)) left) ∙ ap (λ l. drop n m ++ l) (drop_min (n - length m) b) ∙ sym rest_more

-- what came, once more bytes have
pub came_after : (d e : DiskState) (i j : Incoming) (a : Coming) (bytes content behind : List ℕ) (missing fits : ℕ)
    → missing ≡ (extent_of i).len - i.staging.filled → fits ≡ min missing (length bytes) → content ≡ take fits bytes → behind ≡ drop fits bytes
    → extent_of j ≡ extent_of i
    → ((m : List ℕ) → HasHashed i.staging m → HasHashed j.staging (m ++ content))
    → ((m : List ℕ) → HasHashed i.staging m → ReadsAt d (extent_of i) m → ReadsAt e (extent_of i) (m ++ content))
    → j.rest.items ≡ i.rest.items ++ behind
    → IsIncoming d i a → IsIncoming e j (record a { bytes = a.bytes ++ bytes })
came_after d e i j a bytes content behind missing fits room fit front back place hashed reads rest came = record {
  len = ap (λ x. x.len) place ∙ came.len;
  reads = subst (λ x. ReadsAt e x (take a.len (a.bytes ++ bytes))) (sym place) (subst (ReadsAt e (extent_of i)) whole (reads (take a.len a.bytes) came.hashed came.reads));
  hashed = subst (HasHashed j.staging) whole (hashed (take a.len a.bytes) came.hashed);
  rest = rest ∙ ap (λ l. l ++ behind) came.rest ∙ ap (λ l. drop a.len a.bytes ++ l) back ∙ rest_fits a.len a.bytes bytes i.staging.filled fits came.hashed.count fitting;
}
  where
    fitting : fits ≡ min (a.len - i.staging.filled) (length bytes)
    fitting = fit ∙ ap (λ k. min k (length bytes)) (room ∙ ap (λ k. k - i.staging.filled) came.len)

    whole : take a.len a.bytes ++ content ≡ take a.len (a.bytes ++ bytes)
    whole = ap (λ l. take a.len a.bytes ++ l) front ∙ first_fits a.len a.bytes bytes i.staging.filled fits came.hashed.count fitting

pub coming_more : (d e : DiskState) (i j : Incoming) (bytes : List ℕ) → ((a : Coming) → IsIncoming d i a → IsIncoming e j (record a { bytes = a.bytes ++ bytes })) → (a : Option Coming) → IsComing d (Some i) a → IsComing e (Some j) (with_bytes bytes a)
coming_more d e i j bytes more None came = absurd came
coming_more d e i j bytes more (Some a) came = more a came

pub coming_none : (d : DiskState) (bytes : List ℕ) (o : Option Incoming) (a : Option Coming) → o ≡ None → IsComing d o a → with_bytes bytes a ≡ None
coming_none d bytes o a none came = ap (with_bytes bytes) (subst (λ o. IsComing d o a) none came)

-- ---- what else is on the disk

module _ (d e : DiskState) (i : Incoming) where
  -- what came of an upload beside
  pub coming_still : (o : Option Incoming) (a : Option Coming) → ((x : Extent) (m : List ℕ) → Apart (extent_of i) x → length m ≤ x.len → ReadsAt d x m → ReadsAt e x m) → AreApart (Some i) o → IsComing d o a → IsComing e o a
  coming_still None a others apart came = came
  coming_still (Some j) None others apart came = absurd came
  coming_still (Some j) (Some a) others apart came = record {
    len = came.len;
    reads = others (extent_of j) (take a.len a.bytes) apart (omega (arith, came.len, length-take a.len a.bytes)) came.reads;
    hashed = came.hashed;
    rest = came.rest;
  }

  pub spares_upload : (t : Contents) (owned : List Extent) (c : ℕ) → incoming_at t c ≡ Some i → IsRoom t owned → Changes (StaysOutside (extent_of i)) d e → ReadsAfter (StaysOutside (extent_of i)) d e → ((x : Extent) (m : List ℕ) → Apart (extent_of i) x → IsSafe d x m → IsSafe e x m) → Spares owned d e
  spares_upload t owned c is room changes reads others = spares_step owned d e
      (record { crash = λ image left. let from = changes.crash image left in (from.0, from.1, from.2.others); time = changes.time })
      (λ image given. let to = reads image given in (to.0, to.1, to.2.others))
      (λ x m has. others x m (All-contains (Apart (extent_of i)) (live owned t) x (staged_at t owned [] c i is room).apart (Contains-append_left owned t.blobs.released x has)))

-- bytes of the upload came, with the disk from d to e
module _ (old new : Contents) (c : ℕ) (i j : Incoming) (d e : DiskState) (h : Holding) (bytes : List ℕ) where
  pub held_more : OnlyUpload old new c (Some j) → IsRoom new h.owned → incoming_at old c ≡ Some i
      → ((a : Coming) → IsIncoming d i a → IsIncoming e j (record a { bytes = a.bytes ++ bytes }))
      → ReadsAfter (StaysOutside (extent_of i)) d e
      → ((x : Extent) (m : List ℕ) → Apart (extent_of i) x → IsSafe d x m → IsSafe e x m)
      → ((x : Extent) (m : List ℕ) → Apart (extent_of i) x → length m ≤ x.len → ReadsAt d x m → ReadsAt e x m)
      → IsHeld old d h → IsHeld new e (record h { came = update nat_eq h.came c (with_bytes bytes (h.came c)) })
  held_more only room is more reads others others_read held =
      let to = reads held.image held.given in
      let staged : IsStaged old.blobs (live h.owned old) (extent_of i) = staged_at old h.owned [] c i is held.room in
      held_set old new c (Some j) d e h (with_bytes bytes (h.came c)) only room to.0 to.1
      (λ k x lt. others (get_or (live h.owned old) k x) (h.meaning (get_or (live h.owned old) k x)) (staged.apart k x lt) (held.safe k x lt))
      (coming_more d e i j bytes more (h.came c) (subst (λ o. IsComing d o (h.came c)) is (held.uploads c)))
      (λ q apart. coming_still d e i (incoming_at old q) (h.came q) others_read (subst (λ o. AreApart o (incoming_at old q)) is (held.room.staged_apart c q apart)) (held.uploads q))
      held
