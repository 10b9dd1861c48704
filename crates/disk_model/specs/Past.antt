-- A disk that keeps what was done to it, and so tells what a crash may leave now and might have left before.
use Rattle.std.specs.Prelude.{◌≡◌, ℕ, ◌≤◌, List, [], ◌∷◌, length, take}
use Rattle.std.proofs.Common.{refl, sym, subst, ◌∙◌, arith}
use Rattle.std.proofs.lemmas.List.{take_all}
use Rattle.disk_model.specs.declared.area.Area.TheVariants.{Log0, Log1, Blobs}
use Rattle.disk_model.specs.declared.area.DiskImage.{DiskImage}
use Rattle.disk_model.specs.declared.changes.Change.{Change}
use Rattle.disk_model.specs.declared.changes.Change.TheVariants.{Write, Cut, Sync}
use Rattle.disk_model.specs.declared.changes.Done.{Done}
use Rattle.disk_model.specs.State.{DiskState}
use Rattle.disk_model.specs.Changes.{read_after, MayHold, changes_in, image_after, MayBe}
use Rattle.disk_model.specs.Whole.{torn_written, cut_resized}

-- a crash may leave what a read gives
pub read_may_be : (changes : List Change) → MayHold changes (read_after changes)
read_may_be [] = refl
read_may_be (Write at piece ∷ earlier) = (read_after earlier, read_may_be earlier, torn_written 0 at piece (read_after earlier))
read_may_be (Cut len ∷ earlier) = (read_after earlier, read_may_be earlier, cut_resized 0 len (read_after earlier))
read_may_be (Sync ∷ earlier) = refl

pub image_may_be : (done : List Done) → MayBe done (image_after done)
image_may_be done Log0 = read_may_be (changes_in Log0 done)
image_may_be done Log1 = read_may_be (changes_in Log1 done)
image_may_be done Blobs = read_may_be (changes_in Blobs done)

-- a crash just after the first k changes might have left this image, for some k from t on
abbrev pub MightHaveBeen : List Done → ℕ → DiskImage → Type 0
MightHaveBeen done t c = (k : ℕ) × (t ≤ k) × (k ≤ length done) × MayBe (take k done) c

pub counts : (done : List Done) (t : ℕ) (c : DiskImage) → t ≤ length done → MayBe done c → MightHaveBeen done t c
counts done t c le now = (length done, le, omega arith, subst (λ l. MayBe l c) (sym (take_all (length done) done (omega arith))) now)

pub none_later : (done : List Done) (c : DiskImage) → MightHaveBeen done (length done) c → MayBe done c
none_later done c left = subst (λ l. MayBe l c) (take_all left.0 done left.1) left.3

-- a moment is the number of changes so far
abbrev pub past_state : List Done → DiskState
past_state done = record {
  reads = λ m. m ≡ image_after done;
  may_leave = MayBe done;
  moment = length done;
  left_since = MightHaveBeen done;
  remembers = Unit {0};
  one_image = λ m n is also. is ∙ sym also;
  read_left = λ m is. subst (MayBe done) (sym is) (image_may_be done);
  counts_now = counts done;
  only_now = none_later done;
}
