-- What a write and a cut make of an area, and what a crash in the midst of them may leave there.
use Rattle.std.specs.Prelude.{◌≡◌, ℕ, ◌+◌, ◌-◌, ◌≤◌, min, max, List, ◌++◌, length, take, drop, replicate}
use Rattle.disk_model.specs.declared.area.Area.{Area}
use Rattle.disk_model.specs.declared.area.DiskImage.{DiskImage}
use Rattle.disk_model.specs.Image.{bytes_of, SameBut}

-- old with a piece written at a place; a gap before it is filled
abbrev pub written : ℕ → ℕ → List ℕ → List ℕ → List ℕ
written fill at piece old = take at old ++ replicate (at - length old) fill ++ piece ++ drop (at + length piece) old

-- old with another length; what it adds is filled
abbrev pub resized : ℕ → ℕ → List ℕ → List ℕ
resized fill len old = take len old ++ replicate (len - length old) fill

-- After a write of n bytes that a crash cuts short: any bytes in the range and past the old end, some length between
-- the old one and the new one, and the other bytes as they were.
pub record Torn (at n : ℕ) (old new : List ℕ) : Type 0 where
  pub before : take (min at (length old)) new ≡ take at old
  pub after : drop (at + n) new ≡ drop (at + n) old
  pub no_shorter : length old ≤ length new
  pub no_longer : length new ≤ max (length old) (at + n)

-- After a cut that a crash cuts short: some length between the old one and the new one, any bytes past the old end,
-- and the other bytes as they were.
pub record Resized (len : ℕ) (old new : List ℕ) : Type 0 where
  pub same : take (length old) new ≡ take (length new) old
  pub no_shorter : min (length old) len ≤ length new
  pub no_longer : length new ≤ max (length old) len

-- the same in one area of an image, the other areas as they were
pub record TornIn (a : Area) (at n : ℕ) (old new : DiskImage) : Type 0 where
  pub here : Torn at n (bytes_of a old) (bytes_of a new)
  pub others : SameBut a old new

pub record ResizedIn (a : Area) (len : ℕ) (old new : DiskImage) : Type 0 where
  pub here : Resized len (bytes_of a old) (bytes_of a new)
  pub others : SameBut a old new
