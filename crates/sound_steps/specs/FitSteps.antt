-- What is asked of steps, and what an accepted call writes.
use Rattle.std.specs.Prelude.{◌≡◌, ⊤, true, false, [], Option, Some, None, unwrap_or}
use Rattle.b2_types.specs.declared.call.Call.{Call}
use Rattle.b2_types.specs.declared.call.Call.TheVariants as call
use Rattle.b2_types.specs.declared.record.ChangeOf.{ChangeOf}
use Rattle.b2_model.specs.State.{State}
use Rattle.b2_types.specs.LifecycleRules.{are_rules}
use Rattle.b2_model.specs.Stored.{applies_change, is_snap_state}
use Rattle.b2_model.specs.Run.{Step, asks}
use Rattle.sound_states.specs.Sound.{IsFitChange}

-- the lifecycle rules that a call gives are such as a bucket may have
abbrev pub IsFitCall : Call → Type 0
IsFitCall (call.CreateBucket c) = are_rules (unwrap_or c.rules []) ≡ true
IsFitCall (call.UpdateBucket c) = are_rules (unwrap_or c.rules []) ≡ true
IsFitCall other = ⊤

abbrev pub IsFitStep : {C : Type 0} → Step C → Type 0
IsFitStep (asks reading token c) = IsFitCall c
IsFitStep other = ⊤

-- ---- what an accepted call writes

-- the change applies to the state, is such as a record may tell, and is not the numbers of a snapshot
abbrev pub Applies : {C : Type 0} → State C → Option (ChangeOf C) → Type 0
Applies M None = ⊤
Applies M (Some ch) = (applies_change M ch ≡ true) × IsFitChange ch × (is_snap_state ch ≡ false)
