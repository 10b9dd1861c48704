-- What stays in an extent while another is written.
use Rattle.std.proofs.Common.{◌≡◌, ◌⊎◌, inl, inr, ℕ, ◌+◌, ◌-◌, ◌≤◌, ◌<◌, min, List, ◌++◌, length, take, drop, replicate, refl, sym, ap, ◌∙◌, arith, length-take, length-drop}
use Rattle.std.specs.Prelude.{Result, Ok, Err, true, false, OnOk, OnErr}
use Rattle.std.specs.Result.{is_err}
use Rattle.std.proofs.lemmas.List.{take-take, drop-drop, drop-take, drop_all, take_at, drop-append-le, append-nil, append_assoc, length-append, length-replicate, take_min, nil_from_length}
use Rattle.std.proofs.lemmas.Bool.{cases_lt}
use Rattle.b2_base.specs.declared.extent.Extent.{Extent}
use Rattle.disk_model.specs.declared.area.Area.TheVariants.{Blobs}
use Rattle.disk_model.specs.declared.area.DiskImage.{DiskImage}
use Rattle.disk_model.specs.Steps.{Torn, TornIn, written}
use Rattle.disk_model.specs.Image.{put_in}
use Rattle.disk_model.proofs.InAreas.{torn_in}
use Rattle.disk_model.specs.State.{DiskState, Changes, ReadsAfter, NowReads, Gives}
use Rattle.disk_model.proofs.Tears.{torn_elsewhere}
use Rattle.extent_space.specs.Room.{Apart, rounded}
use Rattle.blob_extents.specs.Bytes.{StandsAt, ReadsAt, IsSafe, StaysOutside}

-- a range inside another
pub torn_wider : (at n from len : ℕ) (old new : List ℕ) → from ≤ at → at + n ≤ from + len → Torn at n old new → Torn from len old new
torn_wider at n from len old new first last torn = record {
  before =
      sym (take-take (min from (length old)) (min at (length old)) new (omega arith))
      ∙ ap (take (min from (length old))) torn.before
      ∙ take-take (min from (length old)) at old (omega arith)
      ∙ take_min from old;
  after = at_end new ∙ ap (drop ((from + len) - (at + n))) torn.after ∙ sym (at_end old);
  no_shorter = torn.no_shorter;
  no_longer = omega (arith, torn.no_longer);
}
  where
    at_end : (l : List ℕ) → drop (from + len) l ≡ drop ((from + len) - (at + n)) (drop (at + n) l)
    at_end l = let whole : (at + n) + ((from + len) - (at + n)) ≡ from + len = omega arith in sym (drop-drop ((from + len) - (at + n)) (at + n) l ∙ ap (λ k. drop k l) whole)

pub rounds_up : (n : ℕ) → n ≤ rounded n
rounds_up n = omega arith

-- bytes at the front of an extent lie inside the area
inside : (i : DiskImage) (e : Extent) (m : List ℕ) → StandsAt i e m → (length m ≡ 0) ⊎ (e.at + length m ≤ length i.blobs)
inside i e m stands = by_case (cases_lt 0 (length m))
  where
    by_case : (0 < length m) ⊎ (length m ≤ 0) → (length m ≡ 0) ⊎ (e.at + length m ≤ length i.blobs)
    by_case (inl some) = inr (omega (arith, ap length stands, length-take (length m) (drop e.at i.blobs), length-drop e.at i.blobs))
    by_case (inr none) = inl (omega arith)

-- a write in one extent leaves the bytes in another
pub stands_still : (e f : Extent) (m : List ℕ) (old new : DiskImage) → Apart e f → length m ≤ f.len → StaysOutside e old new → StandsAt old f m → StandsAt new f m
stands_still e f m old new apart le step stands = by_case (inside old f m stands)
  where
    away : Apart e f → (f.at + length m ≤ e.at) ⊎ (e.at + e.len ≤ f.at)
    away (inl before) = inr (omega (arith, before, rounds_up e.len))
    away (inr after) = inl (omega (arith, after, le, rounds_up f.len))

    by_case : (length m ≡ 0) ⊎ (f.at + length m ≤ length old.blobs) → StandsAt new f m
    by_case (inl none) = nothing m none (drop f.at new.blobs)
      where
        nothing : (m : List ℕ) → length m ≡ 0 → (l : List ℕ) → take (length m) l ≡ m
        nothing m none l = take_none m none l
          where
            take_none : (m : List ℕ) → length m ≡ 0 → (l : List ℕ) → take (length m) l ≡ m
            take_none m none l = ap (λ k. take k l) none ∙ sym (nil_from_length m none)
    by_case (inr within) = torn_elsewhere e.at e.len old.blobs new.blobs step.here f.at (length m) within (away apart) ∙ stands

pub safe_still : (old new : DiskState) (e f : Extent) (m : List ℕ) → Apart e f → Changes (StaysOutside e) old new → IsSafe old f m → IsSafe new f m
safe_still old new e f m apart changes safe = record {
  long = safe.long;
  each = λ i left. let from = changes.crash i left in stands_still e f m from.0 i apart (omega (arith, safe.long)) from.2 (safe.each from.0 from.1);
}

pub reads_still : (old new : DiskState) (e f : Extent) (m : List ℕ) → Apart e f → length m ≤ f.len → ReadsAfter (StaysOutside e) old new → ReadsAt old f m → ReadsAt new f m
reads_still old new e f m apart le after reads =
    let to = after reads.image reads.given in
    record { image = to.0; given = to.1; here = stands_still e f m reads.image to.0 apart le to.2 reads.here }

-- a range inside an extent
changes_wider : (old new : DiskState) (e : Extent) (at n : ℕ) → e.at ≤ at → at + n ≤ e.at + e.len → Changes (TornIn Blobs at n) old new → Changes (StaysOutside e) old new
changes_wider old new e at n first last changes = record {
  crash = λ c left. let from = changes.crash c left in (from.0, from.1, record { here = torn_wider at n e.at e.len from.0.blobs c.blobs first last from.2.here; others = from.2.others });
  time = changes.time;
}

after_wider : (old new : DiskState) (e : Extent) (at n : ℕ) → e.at ≤ at → at + n ≤ e.at + e.len → ReadsAfter (TornIn Blobs at n) old new → ReadsAfter (StaysOutside e) old new
after_wider old new e at n first last after m reads =
    let to = after m reads in
    (to.0, to.1, record { here = torn_wider at n e.at e.len m.blobs to.0.blobs first last to.2.here; others = to.2.others })

-- a piece written after so many bytes of an extent
module _ (old new : DiskState) (e : Extent) (filled : ℕ) (piece : List ℕ) (room : filled + length piece ≤ e.len) where
  pub push_changes : Changes (TornIn Blobs (e.at + filled) (length piece)) old new → Changes (StaysOutside e) old new
  push_changes = changes_wider old new e (e.at + filled) (length piece) (omega arith) (omega (arith, room))

  pub push_after : ReadsAfter (TornIn Blobs (e.at + filled) (length piece)) old new → ReadsAfter (StaysOutside e) old new
  push_after = after_wider old new e (e.at + filled) (length piece) (omega arith) (omega (arith, room))

  pub push_wrote : NowReads Blobs (written 0 (e.at + filled) piece) old new → ReadsAfter (StaysOutside e) old new
  push_wrote holds = push_after (λ m reads. (_, holds m reads, torn_in Blobs (e.at + filled) piece m))

  pub push_came : NowReads Blobs (written 0 (e.at + filled) piece) old new → (m : List ℕ) → length m ≡ filled → ReadsAt old e m → ReadsAt new e (m ++ piece)
  push_came holds m count reads = record {
    image = put_in Blobs (written 0 (e.at + filled) piece reads.image.blobs) reads.image;
    given = holds reads.image reads.given;
    here = came (inside reads.image e m reads.here);
  }
    where
      l : List ℕ
      l = reads.image.blobs

      gap : List ℕ
      gap = replicate (e.at + filled - length l) 0

      front : List ℕ
      front = take (e.at + filled) l ++ gap

      rest : List ℕ
      rest = drop (e.at + filled + length piece) l

      long : length front ≡ e.at + filled
      long = omega (arith, length-append (take (e.at + filled) l) gap, length-replicate {A = ℕ} (e.at + filled - length l) 0, length-take (e.at + filled) l)

      ahead : (length m ≡ 0) ⊎ (e.at + length m ≤ length l) → drop e.at front ≡ m
      ahead (inl none) = drop_all e.at front (omega (arith, long, none, count)) ∙ sym (nil_from_length m none)
      ahead (inr within) =
          let no_gap : e.at + filled - length l ≡ 0 = omega (arith, within, count) in
          ap (λ k. drop e.at (take (e.at + filled) l ++ replicate k 0)) no_gap
          ∙ ap (drop e.at) (append-nil (take (e.at + filled) l))
          ∙ drop-take e.at filled l
          ∙ ap (λ k. take k (drop e.at l)) (sym count)
          ∙ reads.here

      came : (length m ≡ 0) ⊎ (e.at + length m ≤ length l) → take (length (m ++ piece)) (drop e.at (front ++ piece ++ rest)) ≡ m ++ piece
      came case =
          ap (λ w. take (length (m ++ piece)) (drop e.at w)) (append_assoc front piece rest)
          ∙ ap (take (length (m ++ piece))) (drop-append-le e.at front (piece ++ rest) (omega (arith, long)))
          ∙ ap (λ w. take (length (m ++ piece)) (w ++ (piece ++ rest))) (ahead case)
          ∙ ap (take (length (m ++ piece))) (sym (append_assoc m piece rest))
          ∙ take_at (m ++ piece) rest (length (m ++ piece)) refl

-- a look gives the bytes of the content
pub pinned_bytes : (d : DiskState) (e : Extent) (m : List ℕ) (at n : ℕ) (buf : List ℕ) → n ≡ length buf → at + n ≤ e.len → IsSafe d e m → (i : DiskImage) → d.reads i → Gives Blobs (e.at + at) buf d → buf ≡ take n (drop at m)
pinned_bytes d e m at n buf size le safe i reads gives =
    let k = length m - at in
    let x = drop e.at i.blobs in
    let whole : at + k ≡ length m = omega (arith, safe.long, le) in
    let stands : take (length m) x ≡ m = safe.each i (d.read_left i reads) in
    gives i reads
    ∙ ap (λ j. take j (drop (e.at + at) i.blobs)) (sym size)
    ∙ ap (take n) (sym (drop-drop at e.at i.blobs))
    ∙ sym (take-take n k (drop at x) (omega (arith, safe.long, le)))
    ∙ ap (take n) (sym (drop-take at k x))
    ∙ ap (λ j. take n (drop at (take j x))) whole
    ∙ ap (λ w. take n (drop at w)) stands

-- what is told of an outcome, where the code asked which it is
pub told_err : {T E : Type 0} (r : Result T E) (P : Type 0) → true ≡ is_err r → OnErr r P → P
told_err (Ok x) P test told = absurd (cc)
told_err (Err e) P test told = told

pub told_ok : {T E : Type 0} (r : Result T E) (P : Type 0) → false ≡ is_err r → OnOk r P → P
told_ok (Ok x) P test told = told
told_ok (Err e) P test told = absurd (cc)
