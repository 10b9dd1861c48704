-- The policy on calls, and that what they name stands.
use Rattle.std.specs.Prelude.{ℕ, true, List, [], ◌∷◌, ◌++◌, Option, Some, None}
use Rattle.std.specs.List.{list_any}
use Rattle.std.specs.Option.{is_none}
use Rattle.b2_base.specs.declared.extent.Extent.{Extent}
use Rattle.rule_table.specs.declared.fault.FaultKind.{FaultKind}
use Rattle.rule_table.specs.declared.fault.FaultKind.TheVariants.{NoBucket}
use Rattle.rule_table.specs.declared.cap.Cap.{Cap}
use Rattle.rule_table.specs.declared.call.CallName.{CallName}
use Rattle.b2_types.specs.Need.{need}
use Rattle.b2_types.specs.Naming.{Named}
use Rattle.b2_model.specs.Checks.{Check, check}
use Rattle.b2_model.specs.State.{State, bucket_at}
use Rattle.b2_model.specs.Policy.{Caller, Judged, policy_rules}

-- a call of this name with these fields, which need these capabilities besides
abbrev pub judged_on : CallName → List Cap → Named → Judged
judged_on name more fields = record { row = need name; caps = (need name).caps ++ more; fields = fields }

-- that what is named stands
abbrev pub standing : {X : Type 0} → FaultKind → Option X → List Check
standing kind None = check kind true ∷ []
standing kind (Some x) = []

-- that each of these buckets stands
abbrev pub all_stand : State Extent → List ℕ → List Check
all_stand M buckets = check NoBucket (list_any (λ n. is_none (bucket_at M n)) buckets) ∷ []

-- the rules of the policy, before whose last stands that what is named is there
abbrev pub rules_on : State Extent → ℕ → Judged → Caller → List Check → List Check
rules_on M t j who exists = policy_rules M t j (λ g. true) who exists

-- what is looked up beside a bucket that need not stand
abbrev pub absent_beside : {X : Type 0} → FaultKind → FaultKind → Option X → FaultKind
absent_beside kind other None = kind
absent_beside kind other (Some x) = other

-- two things, where both stand
abbrev pub both : {X Y : Type 0} → Option X → Option Y → Option (X × Y)
both None y = None
both (Some x) None = None
both (Some x) (Some y) = Some (x, y)
