-- What is read on a connection.
use Rattle.std.specs.Prelude.{◌==◌, ℕ, List, find, replicate, Option}
use Rattle.b2_base.specs.declared.extent.Extent.{Extent}
use Rattle.disk_model.specs.declared.area.DiskImage.{DiskImage}
use Rattle.disk_model.specs.State.{DiskState, LeavesOnly}
use Rattle.stored_contents.specs.declared.contents.Contents.{Contents}
use Rattle.stored_contents.specs.declared.outgoing.Outgoing.{Outgoing}

-- the content that is read by the reader of this number
abbrev pub outgoing_at : Contents → ℕ → Option Outgoing
outgoing_at t c = find (λ o. o.reader == c) t.outgoing.items

-- a content of zeros, which has the length of the extent
abbrev pub zeros_of : Extent → List ℕ
zeros_of e = replicate e.len 0

-- The disk is only read: a read gives what it gave before, and a crash at any moment leaves what it might have left.
pub record IsRead (old new : DiskState) : Type 0 where
  pub reads : (m : DiskImage) → old.reads m → new.reads m
  pub left : LeavesOnly old new (λ c. old.may_leave c)
