-- The extents that records give up.
use Rattle.std.specs.Prelude.{◌≡◌, List, [], ◌++◌, Option, Some, None, option_and_then}
use Rattle.std.specs.List.Sorted.{IsPermutation}
use Rattle.b2_types.specs.declared.record.ChangeOf.{ChangeOf}
use Rattle.b2_types.specs.declared.record.ChangeOf.TheVariants as change
use Rattle.b2_types.specs.declared.record.VersionId.{VersionId}
use Rattle.b2_types.specs.declared.version.VersionOf.{VersionOf}
use Rattle.b2_model.specs.Policy.{items}
use Rattle.b2_model.specs.Rows.{version_at}
use Rattle.b2_model.specs.State.{State}
use Rattle.contents_agree.specs.ContentsOf.{contents_in, contents_of}
use Rattle.core_state.specs.GivenUp.{part_content}

-- what a version holds, where there is one
abbrev pub held : {C : Type 0} → Option (VersionOf C) → List C
held None = []
held (Some v) = contents_in v

-- what the version of this number holds
abbrev pub held_at : {C : Type 0} → VersionId → State C → List C
held_at id M = held (version_at M id.bucket id.num)

-- what one state holds beside these is what another holds beside those, in some order
abbrev pub Conserves : {C : Type 0} → List C → State C → List C → State C → Type 0
Conserves before M after N = IsPermutation (before ++ contents_of M) (after ++ contents_of N)

-- What a change gives up that leads from one state to another: what the version holds that goes, or the part that
-- another takes the place of. A pass gives up what the versions hold that go, in some order: what stood before is
-- what stands after and what was given up.
abbrev pub AreGivenUp : {C : Type 0} → ChangeOf C → State C → State C → List C → Type 0
AreGivenUp change.Pass M N freed = Conserves [] M freed N
AreGivenUp (change.PartPut id n content m digest) M N freed = freed ≡ items (option_and_then (part_content n) (version_at M id.bucket id.num))
AreGivenUp (change.Cancel id) M N freed = freed ≡ held_at id M
AreGivenUp (change.VersionDrop id) M N freed = freed ≡ held_at id M
AreGivenUp other M N freed = freed ≡ []
