-- What the contents of a store are, to those above it.
use Rattle.std.specs.Prelude.{◌≡◌, ◌+◌, ◌==◌, nat_eq, nat_le, ℕ, if◌then◌else◌, Bool, false, List, [], ◌++◌, find, length, take, drop, Option, Some, None, option_map, All, Contains}
use Rattle.std.specs.List.{flat_map}
use Rattle.b2_base.specs.declared.extent.Extent.{Extent}
use Rattle.disk_model.specs.declared.area.DiskImage.{DiskImage}
use Rattle.disk_model.specs.declared.area.Area.TheVariants.{Blobs}
use Rattle.disk_model.specs.Image.{SameBut}
use Rattle.disk_model.specs.State.{DiskState, After, LeavesOnly, ReadsAfter}
use Rattle.blob_extents.specs.Bytes.{IsSafe, ReadsAt, StandsAt}
use Rattle.blob_extents.specs.States.{HasHashed, staging_filled}
use Rattle.stored_contents.specs.declared.contents.Contents.{Contents}
use Rattle.stored_contents.specs.declared.incoming.Incoming.{Incoming}
use Rattle.stored_contents.specs.declared.outgoing.Outgoing.{Outgoing}
use Rattle.stored_contents.specs.Room.{IsRoom, extent_of, incoming_at, live, pins_of}

-- an upload: how long its content is to be, and the bytes that came, those behind the content among them
pub record Coming : Type 0 where
  pub len : ℕ
  pub bytes : List ℕ

-- The extents that are owned, what bytes an extent stands for, what came of the upload of each number, and what is
-- read for the reader of each.
pub record Holding : Type 0 where
  pub owned : List Extent
  pub meaning : Extent → List ℕ
  pub came : ℕ → Option Coming
  pub read : ℕ → List ℕ

abbrev pub none_held : (Extent → List ℕ) → Holding
none_held meaning = record { owned = []; meaning = meaning; came = λ c. None; read = λ c. [] }

-- more bytes of an upload, where there is one
abbrev pub with_bytes : List ℕ → Option Coming → Option Coming
with_bytes bytes came = option_map (λ (a : Coming). record a { bytes = a.bytes ++ bytes }) came

-- how many bytes of it came
abbrev pub came_length : Option Coming → ℕ
came_length None = 0
came_length (Some a) = length a.bytes

-- ---- uploads

-- how many bytes came, in the extent and in memory
abbrev pub came_count : Incoming → ℕ
came_count i = staging_filled i.staging + length i.rest.items

-- all bytes of the content have come
abbrev pub is_all : Option Incoming → Bool
is_all None = false
is_all (Some i) = nat_le (extent_of i).len (staging_filled i.staging)

-- the bytes of the content so far are read in its extent and hashed, and the others are in memory
pub record IsIncoming (d : DiskState) (i : Incoming) (a : Coming) : Type 0 where
  pub len : (extent_of i).len ≡ a.len
  pub reads : ReadsAt d (extent_of i) (take a.len a.bytes)
  pub hashed : HasHashed i.staging (take a.len a.bytes)
  pub rest : i.rest.items ≡ drop a.len a.bytes

-- there is none, or it came so
abbrev pub IsComing : DiskState → Option Incoming → Option Coming → Type 0
IsComing d None a = a ≡ None
IsComing d (Some i) None = ⊥
IsComing d (Some i) (Some a) = IsIncoming d i a

-- ---- readers

-- the bytes that a reader gets
abbrev pub bytes_of : (Extent → List ℕ) → Outgoing → List ℕ
bytes_of meaning o = take o.len (drop o.at (flat_map meaning (pins_of o)))

abbrev pub read_by : (Extent → List ℕ) → Option Outgoing → List ℕ
read_by meaning None = []
read_by meaning (Some o) = bytes_of meaning o

-- a reader gets these bytes, and each other one what it got
abbrev pub with_read : (ℕ → List ℕ) → ℕ → List ℕ → ℕ → List ℕ
with_read read c bytes d = if nat_eq c d then bytes else read d

-- ---- all

-- The contents and the disk are these: each extent stands for bytes of its length, which are safe where its content
-- is whole.
pub record IsHeld (t : Contents) (d : DiskState) (h : Holding) : Type 0 where
  pub room : IsRoom t h.owned
  pub image : DiskImage
  pub given : d.reads image
  pub sizes : (e : Extent) → length (h.meaning e) ≡ e.len
  pub safe : All (λ e. IsSafe d e (h.meaning e)) (live h.owned t)
  pub uploads : (c : ℕ) → IsComing d (incoming_at t c) (h.came c)
  pub readers : (c : ℕ) → h.read c ≡ read_by h.meaning (find (λ o. o.reader == c) t.outgoing.items)

-- ---- the disk, whatever comes of a call

-- an image that might have been left but for its contents, where what was safe in an owned extent stands
pub record IsSpared (owned : List Extent) (old : DiskState) (c : DiskImage) : Type 0 where
  pub others : After old (SameBut Blobs) c
  pub stands : (e : Extent) (m : List ℕ) → Contains owned e → IsSafe old e m → StandsAt c e m

-- No other area changes, what is safe in an owned extent stays safe, and a crash at any moment leaves both so.
pub record Spares (owned : List Extent) (old new : DiskState) : Type 0 where
  pub left : LeavesOnly old new (IsSpared owned old)
  pub reads : ReadsAfter (SameBut Blobs) old new
  pub safe : (e : Extent) (m : List ℕ) → Contains owned e → IsSafe old e m → IsSafe new e m
