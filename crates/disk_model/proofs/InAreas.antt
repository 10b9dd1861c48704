-- Images and their areas.
use Rattle.std.proofs.Common.{◌≡◌, ℕ, List, length, refl, sym, ap, subst, ◌∙◌}
use Rattle.disk_model.specs.declared.area.Area.{Area}
use Rattle.disk_model.specs.declared.area.Area.TheVariants.{Log0, Log1, Blobs}
use Rattle.disk_model.specs.declared.area.DiskImage.{DiskImage}
use Rattle.disk_model.specs.Image.{bytes_of, put_in, SameBut}
use Rattle.disk_model.specs.Steps.{written, resized, Torn, Resized, TornIn, ResizedIn}
use Rattle.disk_model.specs.Whole.{torn_written, cut_resized}
use Rattle.disk_model.proofs.Tears.{torn_not, cut_not}

pub bytes_of-put_in : (a : Area) (bytes : List ℕ) (m : DiskImage) → bytes_of a (put_in a bytes m) ≡ bytes
bytes_of-put_in Log0 bytes m = refl
bytes_of-put_in Log1 bytes m = refl
bytes_of-put_in Blobs bytes m = refl

pub put_in-others : (a : Area) (bytes : List ℕ) (m : DiskImage) → SameBut a m (put_in a bytes m)
put_in-others Log0 bytes m Log0 other = absurd (other refl)
put_in-others Log0 bytes m Log1 other = refl
put_in-others Log0 bytes m Blobs other = refl
put_in-others Log1 bytes m Log0 other = refl
put_in-others Log1 bytes m Log1 other = absurd (other refl)
put_in-others Log1 bytes m Blobs other = refl
put_in-others Blobs bytes m Log0 other = refl
put_in-others Blobs bytes m Log1 other = refl
put_in-others Blobs bytes m Blobs other = absurd (other refl)

abbrev image : List ℕ → List ℕ → List ℕ → DiskImage
image log0 log1 blobs = record { log0 = log0; log1 = log1; blobs = blobs }

-- images are equal by their areas
pub same_images : (m n : DiskImage) → ((a : Area) → bytes_of a m ≡ bytes_of a n) → m ≡ n
same_images m n same =
    ap (λ l. image l m.log1 m.blobs) (same Log0) ∙ ap (λ l. image n.log0 l m.blobs) (same Log1) ∙ ap (λ l. image n.log0 n.log1 l) (same Blobs)

pub SameBut-refl : (a : Area) (m : DiskImage) → SameBut a m m
SameBut-refl a m b other = refl

-- a step of one area, whole, is one that a crash may cut short
pub torn_in : (a : Area) (at : ℕ) (piece : List ℕ) (m : DiskImage) → TornIn a at (length piece) m (put_in a (written 0 at piece (bytes_of a m)) m)
torn_in a at piece m = record {
  here = subst (λ l. Torn at (length piece) (bytes_of a m) l) (sym (bytes_of-put_in a _ m)) (torn_written 0 at piece (bytes_of a m));
  others = put_in-others a _ m;
}

pub resized_in : (a : Area) (len : ℕ) (m : DiskImage) → ResizedIn a len m (put_in a (resized 0 len (bytes_of a m)) m)
resized_in a len m = record {
  here = subst (λ l. Resized len (bytes_of a m) l) (sym (bytes_of-put_in a _ m)) (cut_resized 0 len (bytes_of a m));
  others = put_in-others a _ m;
}

-- a step that was not made
pub torn_in-not : (a : Area) (at n : ℕ) (m : DiskImage) → TornIn a at n m m
torn_in-not a at n m = record { here = torn_not at n (bytes_of a m); others = SameBut-refl a m }

pub resized_in-not : (a : Area) (len : ℕ) (m : DiskImage) → ResizedIn a len m m
resized_in-not a len m = record { here = cut_not len (bytes_of a m); others = SameBut-refl a m }
