-- A version that is found has the number by which it is looked for.
use Rattle.std.proofs.Common.{◌≡◌, ◌==◌, ◌&&◌, Some, find}
use Rattle.b2_base.specs.declared.extent.Extent.{Extent}
use Rattle.b2_types.specs.declared.record.VersionId.{VersionId}
use Rattle.b2_types.specs.declared.version.VersionOf.{VersionOf}
use Rattle.sound_states.specs.Sound.{IsGiven}
use Rattle.sound_states.proofs.Tests.{both_hold, equal_numbers}
use Rattle.sound_states.proofs.Found.{found_has}
use Rattle.core_state.specs.declared.parts.Parts.{Parts}
use Rattle.core_state.specs.View.{IsWhole}

pub same_number : (p : Parts) (id : VersionId) (v : VersionOf Extent) → IsWhole p → find (λ w. w.bucket == id.bucket && w.num == id.num) p.versions ≡ Some v → v.num ≡ id.num
same_number p id v whole found =
    let has = found_has (λ (w : VersionOf Extent). w.bucket == id.bucket && w.num == id.num) (λ w. IsGiven p.next_version w.num) p.versions v whole.sound.versions.given found in
    equal_numbers v.num id.num (both_hold (v.bucket == id.bucket) (v.num == id.num) has.0).1
