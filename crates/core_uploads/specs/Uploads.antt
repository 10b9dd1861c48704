-- What begins and ends of uploads come to on a state, as the version machine has it.
use Rattle.std.specs.Prelude.{◌≡◌, ⊤, ℕ, List, [], ◌∷◌, Option, Some, None}
use Rattle.b2_base.specs.declared.extent.Extent.{Extent}
use Rattle.b2_types.specs.declared.fault.Fault.{Fault}
use Rattle.b2_types.specs.declared.key.Flight.{Flight}
use Rattle.b2_types.specs.declared.kinds.Action.TheVariants as action
use Rattle.b2_types.specs.declared.record.ChangeOf.{ChangeOf}
use Rattle.b2_types.specs.declared.record.ChangeOf.TheVariants as change
use Rattle.b2_types.specs.declared.version.VersionOf.{VersionOf}
use Rattle.b2_model.specs.Body.{Body}
use Rattle.b2_model.specs.State.{State}
use Rattle.b2_model.specs.UploadSteps.{Begun, end, without_flight}
use Rattle.b2_model.specs.Version.{version_from}
use Rattle.sound_states.specs.Sound.{IsSound}
use Rattle.sound_steps.specs.FitSteps.{Applies}
use Rattle.contents_agree.specs.ContentsOf.{brought}
use Rattle.new_versions.specs.Decided.{extent_len}
use Rattle.core_decisions.specs.declared.decision.Decision.{Decision}
use Rattle.core_decisions.specs.declared.decision.Decision.TheVariants as decision
use Rattle.core_decisions.specs.Decided.{outcome}

-- the state after a begin, and the refusal
abbrev pub begun : State Extent → Option Fault → Begun Extent
begun M fault = record { state = M; fault = fault }

-- What is written applies to the state, and is such as a record may tell, where the state is sound. It brings the
-- content of the body and no other.
abbrev pub IsEndWritable : State Extent → Body Extent → Decision → Type 0
IsEndWritable N body (decision.Reply told) = ⊤
IsEndWritable N body (decision.Write r told) = (IsSound N → Applies N (Some r.change)) × (brought r.change ≡ body.content ∷ [])

-- the machine ends the upload just so, on the state without it, and draws no random word
unfoldable pub IsEnd : State Extent → ℕ → Flight → Body Extent → Decision → Type 0
IsEnd M t f body d =
    IsEndWritable (without_flight M t f.conn) body d × ((words : List ℕ) → end extent_len M t f body words ≡ outcome (without_flight M t f.conn) t words d)

-- the version that an upload's record makes at this moment
abbrev pub version_in : ℕ → ChangeOf Extent → Option (VersionOf Extent)
version_in t (change.Upload v content m digest) = Some (version_from t action.Upload (content ∷ []) m digest v)
version_in t other = None
