-- What begins of uploads come to, and the bytes that came.
use Rattle.std.specs.Prelude.{◌≡◌, nat_eq, ℕ, List, [], ◌++◌, Option, Some, None, option_map}
use Rattle.std.specs.Map.{update}
use Rattle.b2_types.specs.declared.fault.Fault.{Fault}
use Rattle.b2_types.specs.declared.upload.UploadCall.{UploadCall}
use Rattle.disk_model.specs.State.{DiskState}
use Rattle.b2_model.specs.Run.{Progress, begins, answer_to, of_bytes, refusal_of}
use Rattle.durable_store.specs.Store.{Came, IsAfter, Read}
use Rattle.durable_store.specs.declared.store.Store.{Store}

-- more bytes of an upload, where one is under way
abbrev pub with_more : List ℕ → Option (List ℕ) → Option (List ℕ)
with_more bytes came = option_map (λ (m : List ℕ). m ++ bytes) came

-- what came after an upload was to begin: where one was under way it stays, and one that is refused never is
abbrev pub begun_on : Option (List ℕ) → Option Fault → Option (List ℕ)
begun_on (Some old) fault = Some old
begun_on None (Some fault) = None
begun_on None None = Some []

-- The machine begins the upload, or refuses it so.
pub record IsBegun (s : Store) (d : DiskState) (P : Progress (List ℕ)) (reading c : ℕ) (token : Option (List ℕ)) (u : UploadCall) (came : Came) (read : Read) (fault : Option Fault) : Type 0 where
  pub answers : answer_to of_bytes P (begins reading c token u) ≡ refusal_of fault
  pub after : IsAfter s d P (begins reading c token u) (update nat_eq came c (begun_on (came c) fault)) read
