-- What a copy comes to: before its bytes are copied, and where a copy of them makes these bytes.
use Rattle.std.specs.Prelude.{◌≡◌, ⊤, ℕ, List, [], ◌∷◌, Option, Some, None}
use Rattle.b2_base.specs.declared.extent.Extent.{Extent}
use Rattle.b2_types.specs.declared.call.Call.{Call}
use Rattle.b2_types.specs.declared.call.ByteRange.{ByteRange}
use Rattle.b2_types.specs.declared.record.VersionId.{VersionId}
use Rattle.b2_types.specs.declared.version.VersionOf.{VersionOf}
use Rattle.b2_model.specs.Ask.{ask, refusals_of}
use Rattle.b2_model.specs.AskCopies.{copied_span, copy_body}
use Rattle.b2_model.specs.Checks.{first_fault}
use Rattle.b2_model.specs.Rows.{version_at}
use Rattle.b2_model.specs.State.{State}
use Rattle.contents_agree.specs.ContentsOf.{brought}
use Rattle.new_versions.specs.Decided.{extent_len}
use Rattle.copy_calls.specs.Copied.{IsBody}
use Rattle.copy_calls.specs.declared.file.CopiedBytes.{CopiedBytes}
use Rattle.core_decisions.specs.declared.decision.Decision.{Decision}
use Rattle.core_decisions.specs.declared.decision.Decision.TheVariants as decision
use Rattle.core_decisions.specs.Decided.{Copies, IsWritable, at_extents, outcome}
use Rattle.core_copies.specs.declared.plan.CopyPlan.{CopyPlan}

-- no rule refuses the call, whatever a copy makes
unfoldable pub IsAllowed : State Extent → ℕ → Option (List ℕ) → Call → Type 0
IsAllowed M t token c = (copy : Copies) (words : List ℕ) → first_fault (refusals_of (at_extents copy) M t words token c) ≡ None

-- the plan has the content of the source and the bytes of the range
pub record IsPlanOf (M : State Extent) (source : VersionId) (range : Option ByteRange) (plan : CopyPlan) : Type 0 where
  pub version : VersionOf Extent
  pub stands : version_at M source.bucket source.num ≡ Some version
  pub content : plan.content ≡ version.content
  pub span : plan.span ≡ copied_span extent_len version range

-- a copy of the bytes of the range makes these bytes
abbrev pub Makes : Copies → State Extent → VersionId → Option ByteRange → CopiedBytes → Type 0
Makes copy M source range bytes = (version : VersionOf Extent) → version_at M source.bucket source.num ≡ Some version → IsBody bytes (copy_body (at_extents copy) version range)

-- what is written brings the copy's content and no other
abbrev pub BringsCopy : CopiedBytes → Decision → Type 0
BringsCopy bytes (decision.Reply told) = ⊤
BringsCopy bytes (decision.Write r told) = brought r.change ≡ bytes.content ∷ []

-- the machine does and answers just so where a copy makes these bytes, and draws no random word
unfoldable pub IsCopyDecision : State Extent → ℕ → Option (List ℕ) → Call → VersionId → Option ByteRange → CopiedBytes → Decision → Type 0
IsCopyDecision M t token c source range bytes d =
    IsWritable M c d × BringsCopy bytes d × ((copy : Copies) (words : List ℕ) → Makes copy M source range bytes → ask (at_extents copy) M t words token c ≡ outcome M t words d)
