-- What becomes of the room where an extent is given up, and where a look at one ends.
use Rattle.std.specs.Prelude.{◌≡◌, ◌⊎◌, ◌<◌, ℕ, [], ◌∷◌, ◌++◌, length, Contains}
use Rattle.std.proofs.Common.{get_or}
use Rattle.std.specs.List.{remove}
use Rattle.b2_base.specs.declared.extent.Extent.{Extent}
use Rattle.extent_space.specs.Room.{Apart, GivesBack}
use Rattle.blob_extents.specs.Uses.{IsInUse, TakesOut, Uses}

-- the extent goes back at once where no pin holds it, else with its last one
pub record Releases (e : Extent) (old new : Uses) : Type 0 where
  pub pinned : new.pinned ≡ old.pinned
  pub others : (f : Extent) → Apart e f → IsInUse old f → IsInUse new f
  pub how : ((Contains old.pinned e → ⊥) × GivesBack old.room e new.room × (new.released ≡ old.released)) ⊎ ((new.room ≡ old.room) × (new.released ≡ old.released ++ e ∷ []))

-- the extent of a look went, where no other is on it
pub record Goes (e : Extent) (old new : Uses) : Type 0 where
  pub place : ℕ
  pub within : place < length old.released
  pub here : get_or old.released place e ≡ e
  pub left : new.released ≡ remove old.released place
  pub last : Contains new.pinned e → ⊥
  pub back : GivesBack old.room e new.room

-- nothing went, or the extent of the look did
abbrev pub Unpins : Extent → Uses → Uses → Type 0
Unpins e old new = ((new.room ≡ old.room) × (new.released ≡ old.released)) ⊎ Goes e old new

pub record EndsLook (e : Extent) (old new : Uses) : Type 0 where
  pub pinned : TakesOut e old.pinned new.pinned
  pub others : (f : Extent) → Apart e f → IsInUse old f → IsInUse new f
  pub went : Unpins e old new
