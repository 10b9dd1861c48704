-- The contents that the versions of a store's state own.
use Rattle.std.specs.Prelude.{◌≡◌, List, [], ◌++◌}
use Rattle.b2_base.specs.declared.extent.Extent.{Extent}
use Rattle.b2_model.specs.State.{State}
use Rattle.disk_model.specs.State.{DiskState}
use Rattle.contents_agree.specs.ContentsOf.{contents_of}
use Rattle.stored_contents.specs.Held.{Holding, IsHeld}
use Rattle.durable_store.specs.declared.store.Store.{Store}

-- the same uploads, readers and meanings, where these are owned besides what a state's versions own
abbrev pub owning_with : List Extent → State Extent → Holding → Holding
owning_with others M h = record h { owned = others ++ contents_of M }

abbrev pub owning : State Extent → Holding → Holding
owning M h = owning_with [] M h

-- the contents hold so, and the state's versions own what is owned
pub record IsKept (s : Store) (d : DiskState) (h : Holding) : Type 0 where
  pub held : IsHeld s.contents d h
  pub owned : h.owned ≡ contents_of s.core

-- what is held is what was held before, but for what the state owns, whatever is owned besides
abbrev pub Keeps : DiskState → Store → Store → Type 0
Keeps d s u = (h : Holding) (others : List Extent) → h.owned ≡ others ++ contents_of s.core → IsHeld s.contents d h → IsHeld u.contents d (owning_with others u.core h)
