-- What contents are held after a change of their uploads.
use Rattle.std.proofs.Common.{◌≡◌, ◌==◌, ℕ, nat_eq, [], ◌++◌, find, Option, Result, Ok, Err, All, refl, sym, ap, ◌∙◌, subst}
use Rattle.std.specs.Map.{update}
use Rattle.std.proofs.Math.Seq.{take-nil, drop-nil}
use Rattle.b2_base.specs.Failure.{IfFault}
use Rattle.b2_base.specs.declared.failure.Or.{Or}
use Rattle.b2_base.specs.declared.failure.Or.TheVariants as or
use Rattle.disk_model.specs.declared.area.DiskImage.{DiskImage}
use Rattle.disk_model.specs.State.{DiskState}
use Rattle.blob_extents.specs.Bytes.{IsSafe, ReadsAt}
use Rattle.blob_extents.specs.States.{HasHashed}
use Rattle.stored_contents.specs.declared.contents.Contents.{Contents}
use Rattle.stored_contents.specs.declared.incoming.Incoming.{Incoming}
use Rattle.stored_contents.specs.Held.{Coming, Holding, IsHeld, IsComing, IsIncoming, read_by}
use Rattle.stored_contents.specs.Room.{IsRoom, extent_of, incoming_at, live}
use Rattle.stored_contents.proofs.Updates.{each_upload, updated_here, updated_other}
use Rattle.stored_contents.proofs.Rooms.{OnlyUpload}

module _ (old new : Contents) (c : ℕ) (w : Option Incoming) (d e : DiskState) (h : Holding) where
  -- the upload of one number becomes this one, and this came of it
  pub held_set : (a : Option Coming) → OnlyUpload old new c w → IsRoom new h.owned
      → (i : DiskImage) → e.reads i
      → All (λ x. IsSafe e x (h.meaning x)) (live h.owned old)
      → IsComing e w a
      → ((q : ℕ) → (c ≡ q → ⊥) → IsComing e (incoming_at old q) (h.came q))
      → IsHeld old d h → IsHeld new e (record h { came = update nat_eq h.came c a })
  held_set a only room i given safe here others held = record {
    room = room;
    image = i;
    given = given;
    sizes = held.sizes;
    safe = subst (λ l. All (λ x. IsSafe e x (h.meaning x)) (h.owned ++ l)) (sym only.released) safe;
    uploads = each_upload old new c w (λ q o. IsComing e o (update nat_eq h.came c a q)) only.set
        (subst (IsComing e w) (sym (updated_here h.came c a)) here)
        (λ q apart. subst (IsComing e (incoming_at old q)) (sym (updated_other h.came c a q apart)) (others q apart));
    readers = λ q. held.readers q ∙ ap (λ os. read_by h.meaning (find (λ o. o.reader == q) os)) (sym only.outgoing);
  }

-- the disk is not touched
module _ (old new : Contents) (c : ℕ) (w : Option Incoming) (d : DiskState) (h : Holding) where
  pub held_still : (a : Option Coming) → OnlyUpload old new c w → IsRoom new h.owned → IsComing d w a
      → IsHeld old d h → IsHeld new d (record h { came = update nat_eq h.came c a })
  held_still a only room here held = held_set old new c w d d h a only room held.image held.given held.safe here (λ q apart. held.uploads q) held

-- the same came of each
pub held_came : (t : Contents) (d : DiskState) (h : Holding) (came : ℕ → Option Coming) → ((q : ℕ) → came q ≡ h.came q) → IsHeld t d h → IsHeld t d (record h { came = came })
held_came t d h came same held = record {
  room = held.room;
  image = held.image;
  given = held.given;
  sizes = held.sizes;
  safe = held.safe;
  uploads = λ q. subst (IsComing d (incoming_at t q)) (sym (same q)) (held.uploads q);
  readers = held.readers;
}

-- nothing came yet
pub none_came : (d : DiskState) (i : Incoming) (len : ℕ) → (image : DiskImage) → d.reads image → (extent_of i).len ≡ len → HasHashed i.staging [] → i.rest.items ≡ [] → IsIncoming d i (record { len = len; bytes = [] })
none_came d i len image given long hashed rest = record {
  len = long;
  reads = subst (ReadsAt d (extent_of i)) (sym (take-nil len)) (record { image = image; given = given; here = refl });
  hashed = subst (HasHashed i.staging) (sym (take-nil len)) hashed;
  rest = rest ∙ sym (drop-nil len);
}

-- whatever the fault
pub at_fault : {T F : Type 0} (r : Result T (Or F)) (P : Type 0) → P → IfFault r (λ f. P)
at_fault (Ok x) P is = tt
at_fault (Err or.Memory) P is = tt
at_fault (Err (or.Fault f)) P is = is
