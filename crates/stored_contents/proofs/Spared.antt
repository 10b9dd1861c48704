-- What a run of calls on contents leaves of all else.
use Rattle.std.proofs.Common.{ℕ, List, Contains, ◌∙◌}
use Rattle.b2_base.specs.declared.extent.Extent.{Extent}
use Rattle.disk_model.specs.declared.area.Area.TheVariants.{Blobs}
use Rattle.disk_model.specs.declared.area.DiskImage.{DiskImage}
use Rattle.disk_model.specs.Image.{SameBut}
use Rattle.disk_model.specs.State.{DiskState, Changes, ReadsAfter, Rests}
use Rattle.disk_model.proofs.InAreas.{SameBut-refl}
use Rattle.disk_model.proofs.Moments.{goes_on, joins, now_has, rested, started, weakens}
use Rattle.blob_extents.specs.Bytes.{IsSafe}
use Rattle.blob_extents.proofs.WhatIsRead.{safe_rests}
use Rattle.stored_contents.specs.Held.{IsSpared, Spares}
use Rattle.stored_contents.specs.Reads.{IsRead}
use Rattle.stored_contents.proofs.OnlyRead.{safe_still}

same_twice : (a b c : DiskImage) → SameBut Blobs a b → SameBut Blobs b c → SameBut Blobs a c
same_twice a b c first second area other = second area other ∙ first area other

spared_now : (owned : List Extent) (d : DiskState) (c : DiskImage) → d.may_leave c → IsSpared owned d c
spared_now owned d c is = record { others = (c, is, SameBut-refl Blobs c); stands = λ e m has safe. safe.each c is }

-- no call at all
pub spares_none : (owned : List Extent) (d : DiskState) → Spares owned d d
spares_none owned d = record {
  left = started d (IsSpared owned d) (spared_now owned d);
  reads = λ m is. (m, is, SameBut-refl Blobs m);
  safe = λ e m has safe. safe;
}

-- one write
pub spares_step : (owned : List Extent) (old new : DiskState) → Changes (SameBut Blobs) old new → ReadsAfter (SameBut Blobs) old new
    → ((e : Extent) (m : List ℕ) → Contains owned e → IsSafe old e m → IsSafe new e m) → Spares owned old new
spares_step owned old new changes reads safe = record {
  left = goes_on old old new (IsSpared owned old) (started old (IsSpared owned old) (spared_now owned old)) changes.time
      (λ c is. record { others = changes.crash c is; stands = λ e m has was. (safe e m has was).each c is });
  reads = reads;
  safe = safe;
}

-- nothing changes but the time
pub spares_rests : (owned : List Extent) (old new : DiskState) → Rests old new → Spares owned old new
spares_rests owned old new rests = record {
  left = rested old old new (IsSpared owned old) (started old (IsSpared owned old) (spared_now owned old)) rests;
  reads = λ m is. (m, rests.reads m is, SameBut-refl Blobs m);
  safe = λ e m has safe. safe_rests old new e m rests safe;
}

-- reads alone
pub spares_read : (owned : List Extent) (old new : DiskState) → IsRead old new → Spares owned old new
spares_read owned old new read = record {
  left = weakens old new (λ c. old.may_leave c) (IsSpared owned old) read.left (spared_now owned old);
  reads = λ m is. (m, read.reads m is, SameBut-refl Blobs m);
  safe = λ e m has safe. safe_still old new e m read safe;
}

-- a whole run more
pub spares_more : (owned : List Extent) (old mid new : DiskState) → Spares owned old mid → Spares owned mid new → Spares owned old new
spares_more owned old mid new first second = record {
  left = joins old mid new (IsSpared owned old) first.left (weakens mid new (IsSpared owned mid) (IsSpared owned old) second.left both);
  reads = λ m is. let one = first.reads m is in let two = second.reads one.0 one.1 in (two.0, two.1, same_twice m one.0 two.0 one.2 two.2);
  safe = λ e m has safe. second.safe e m has (first.safe e m has safe);
}
  where
    both : (c : DiskImage) → IsSpared owned mid c → IsSpared owned old c
    both c is =
        let before = now_has old mid (IsSpared owned old) first.left is.others.0 is.others.1 in
        record {
          others = (before.others.0, before.others.1, same_twice before.others.0 is.others.0 c before.others.2 is.others.2);
          stands = λ e m has safe. is.stands e m has (first.safe e m has safe);
        }

pub spares_read_more : (owned : List Extent) (old mid new : DiskState) → Spares owned old mid → IsRead mid new → Spares owned old new
spares_read_more owned old mid new first read = spares_more owned old mid new first (spares_read owned mid new read)

pub spares_rest_more : (owned : List Extent) (old mid new : DiskState) → Spares owned old mid → Rests mid new → Spares owned old new
spares_rest_more owned old mid new first rests = spares_more owned old mid new first (spares_rests owned mid new rests)
