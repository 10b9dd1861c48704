-- What a disk tells, and how its calls change it.
use Rattle.std.specs.Prelude.{◌≡◌, ◌⊎◌, ℕ, ◌≤◌, List, length, take, drop}
use Rattle.disk_model.specs.declared.area.Area.{Area}
use Rattle.disk_model.specs.declared.area.DiskImage.{DiskImage}
use Rattle.disk_model.specs.Image.{bytes_of, put_in}

-- What a disk tells of itself. A real disk tells nothing: no image is read of it, and none is named that it may leave.
pub record DiskState : Type 1 where
  -- a read gives the bytes of this image
  pub reads : DiskImage → Type 0
  -- a crash now may leave this image
  pub may_leave : DiskImage → Type 0
  -- the moment, as a number that doesn't fall
  pub moment : ℕ
  -- a crash at some moment from that one on might have left this image
  pub left_since : ℕ → DiskImage → Type 0
  -- it tells of earlier moments, and not of the present one alone
  pub remembers : Type 0
  -- what is read is one image, and a crash now may leave it
  pub one_image : (m n : DiskImage) → reads m → reads n → m ≡ n
  pub read_left : (m : DiskImage) → reads m → may_leave m
  -- the present moment is one of those since an earlier one, and since itself there is no other
  pub counts_now : (t : ℕ) (c : DiskImage) → t ≤ moment → may_leave c → left_since t c
  pub only_now : (c : DiskImage) → left_since moment c → may_leave c

-- Time goes on: a crash since t might have left what it might have left before, or what it may leave now.
pub record Elapses (old new : DiskState) : Type 0 where
  pub later : old.moment ≤ new.moment
  pub nothing_else : (t : ℕ) (c : DiskImage) → t ≤ old.moment → new.left_since t c → old.left_since t c ⊎ new.may_leave c
  pub keeps : new.remembers → (t : ℕ) (c : DiskImage) → t ≤ old.moment → old.left_since t c → new.left_since t c

-- Nothing changes but the time.
pub record Rests (old new : DiskState) : Type 0 where
  pub reads : (m : DiskImage) → old.reads m → new.reads m
  pub crash : (c : DiskImage) → new.may_leave c → old.may_leave c
  pub time : Elapses old new

-- an image that might have been left before, after this step
abbrev pub After : DiskState → (DiskImage → DiskImage → Type 0) → DiskImage → Type 0
After old step c = (d : DiskImage) × old.may_leave d × step d c

-- What a crash may leave is what it might have left before, after this step.
pub record Changes (step : DiskImage → DiskImage → Type 0) (old new : DiskState) : Type 0 where
  pub crash : (c : DiskImage) → new.may_leave c → After old step c
  pub time : Elapses old new

-- a read gives what it gave before, with these bytes in this area
abbrev pub NowReads : Area → (List ℕ → List ℕ) → DiskState → DiskState → Type 0
NowReads a change old new = (m : DiskImage) → old.reads m → new.reads (put_in a (change (bytes_of a m)) m)

-- a read gives what it gave before, after this step
abbrev pub ReadsAfter : (DiskImage → DiskImage → Type 0) → DiskState → DiskState → Type 0
ReadsAfter step old new = (m : DiskImage) → old.reads m → (n : DiskImage) × new.reads n × step m n

-- an area is so long
abbrev pub HasLength : Area → ℕ → DiskState → Type 0
HasLength a n s = (m : DiskImage) → s.reads m → n ≡ length (bytes_of a m)

-- the bytes stand at this place of an area
abbrev pub Gives : Area → ℕ → List ℕ → DiskState → Type 0
Gives a at bytes s = (m : DiskImage) → s.reads m → bytes ≡ take (length bytes) (drop at (bytes_of a m))

-- every crash leaves these bytes in an area
abbrev pub OnlyIn : Area → List ℕ → DiskState → Type 0
OnlyIn a bytes s = (c : DiskImage) → s.may_leave c → bytes_of a c ≡ bytes

-- every crash leaves in an area what a read gave there before, changed so
abbrev pub IsStable : Area → (List ℕ → List ℕ) → DiskState → DiskState → Type 0
IsStable a change old new = (m : DiskImage) → old.reads m → OnlyIn a (change (bytes_of a m)) new

-- A crash at any moment since old leaves an image that has P.
pub record LeavesOnly (old new : DiskState) (P : DiskImage → Type 0) : Type 0 where
  pub later : old.moment ≤ new.moment
  pub each : (c : DiskImage) → new.left_since old.moment c → P c
  -- for a run that began earlier
  pub before : (t : ℕ) (c : DiskImage) → t ≤ old.moment → new.left_since t c → old.left_since t c ⊎ P c
