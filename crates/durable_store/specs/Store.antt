-- What a store is, to those above it: the version machine over bytes.
use Rattle.std.specs.Prelude.{◌≡◌, ◌<◌, ℕ, List, [], Option, Some, None}
use Rattle.b2_types.specs.declared.key.Flight.{Flight}
use Rattle.disk_model.specs.State.{DiskState}
use Rattle.b2_model.specs.Contents.{state_by}
use Rattle.b2_model.specs.State.{State}
use Rattle.b2_model.specs.UploadSteps.{flight_of}
use Rattle.b2_model.specs.Run.{Progress, Step, of_bytes, step}
use Rattle.stored_contents.specs.Held.{Coming, Holding}
use Rattle.durable_store.specs.Lengths.{content_length}
use Rattle.durable_store.specs.Owned.{IsKept}
use Rattle.durable_store.specs.declared.store.Store.{Store}

-- what came of the upload of each connection, and what is read on each
abbrev pub Came : Type 0
Came = ℕ → Option (List ℕ)

abbrev pub Read : Type 0
Read = ℕ → List ℕ

abbrev pub none_came : Came
none_came c = None

abbrev pub none_read : Read
none_read c = []

-- a number of a connection
abbrev pub IsConn : ℕ → Type 0
IsConn c = c < 4294967296

-- what came of the upload that is under way: as the contents hold it, and to those above
abbrev pub IsUnderWay : Option Flight → Option Coming → Option (List ℕ) → Type 0
IsUnderWay None a came = came ≡ None
IsUnderWay (Some f) a came = (b : Coming) × (a ≡ Some b) × (b.len ≡ content_length f.upload) × (came ≡ Some b.bytes)

-- The store and the disk are the machine over bytes at this state, and this came of uploads and is read.
pub record IsStore (s : Store) (d : DiskState) (M : State (List ℕ)) (came : Came) (read : Read) : Type 0 where
  pub holding : Holding
  pub kept : IsKept s d holding
  pub state : M ≡ state_by holding.meaning s.core
  pub uploads : (c : ℕ) → IsConn c → IsUnderWay (flight_of s.core c) (holding.came c) (came c)
  pub readers : (c : ℕ) → IsConn c → read c ≡ holding.read c

-- it is the machine after the step
abbrev pub IsAfter : Store → DiskState → Progress (List ℕ) → Step (List ℕ) → Came → Read → Type 0
IsAfter s d P made came read = IsStore s d (step of_bytes P made).state came read
