-- A content that is stored.
use Rattle.std.specs.Prelude.{◌≡◌, ◌≤◌, ◌<◌, ℕ, nat_eq, List, [], ◌∷◌, length, take, drop, Option, Some, None, All}
use Rattle.std.specs.Map.{update}
use Rattle.sha1.specs.Sha1.{sha1}
use Rattle.disk_model.specs.State.{DiskState}
use Rattle.stored_contents.specs.declared.contents.Contents.{Contents}
use Rattle.stored_contents.specs.declared.uploads.Whole.{Whole}
use Rattle.stored_contents.specs.Held.{Coming, Holding, IsHeld, with_read}

-- It is owned besides, its extent stands for its bytes, and those that were owned stand for what they stood for.
pub record HasStored (h : Holding) (content : List ℕ) (w : Whole) (k : Holding) : Type 0 where
  pub owned : k.owned ≡ w.extent ∷ h.owned
  pub agrees : All (λ e. h.meaning e ≡ k.meaning e) h.owned
  pub content_is : k.meaning w.extent ≡ content
  pub digest : w.digest ≡ sha1 content

-- an upload that came whole
pub record HasSealed (h : Holding) (c : ℕ) (a : Coming) (w : Whole) (k : Holding) : Type 0 where
  pub all : a.len ≤ length a.bytes
  pub stored : HasStored h (take a.len a.bytes) w k
  pub rest : w.rest.items ≡ drop a.len a.bytes
  pub came : k.came ≡ update nat_eq h.came c None
  pub read : k.read ≡ h.read

-- nothing changes where there is no upload, or not all of its content came
abbrev pub IsSealed : Contents → DiskState → Holding → ℕ → Option Coming → Option Whole → Type 0
IsSealed t d h c None w = (w ≡ None) × IsHeld t d h
IsSealed t d h c (Some a) None = (length a.bytes < a.len) × IsHeld t d h
IsSealed t d h c (Some a) (Some w) = (k : Holding) × HasSealed h c a w k × IsHeld t d k

-- a copy, which comes and is read under a number of its own
pub record HasCopied (h : Holding) (number : ℕ) (content : List ℕ) (w : Whole) (k : Holding) : Type 0 where
  pub stored : HasStored h content w k
  pub came : k.came ≡ update nat_eq h.came number None
  pub read : k.read ≡ with_read h.read number []

-- there is none where the pieces have fewer bytes than are to be copied
abbrev pub IsCopied : Contents → DiskState → Holding → ℕ → List ℕ → Option Whole → Type 0
IsCopied t d h number content None = ⊥
IsCopied t d h number content (Some w) = (k : Holding) × HasCopied h number content w k × IsHeld t d k
