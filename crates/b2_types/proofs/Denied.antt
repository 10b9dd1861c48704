-- Each rule and the kind of fault that names it.
use Rattle.std.proofs.Common.{◌≡◌, ◌∙◌, Option, Some, None, refl, sym, ap}
use Rattle.rule_table.specs.declared.fault.FaultKind.{FaultKind}
use Rattle.rule_table.specs.declared.fault.FaultKind.TheVariants as kind
use Rattle.b2_types.specs.declared.denial.Denial.{Denial}
use Rattle.b2_types.specs.declared.denial.Denial.TheVariants as rule
use Rattle.b2_types.specs.Denied.{kind_of}
use Rattle.b2_types.specs.FaultTable.{rule_of}

pub back : (rule : Denial) → rule_of (kind_of rule) ≡ Some rule
back rule.P1 = refl
back other = refl

-- the kind that names the rule, or the given one where there is no rule
abbrev kind_or : FaultKind → Option Denial → FaultKind
kind_or k None = k
kind_or k (Some rule) = kind_of rule

same_kind : (k : FaultKind) → kind_or k (rule_of k) ≡ k
same_kind kind.P1 = refl
same_kind other = refl

pub alone : (k : FaultKind) (rule : Denial) → rule_of k ≡ Some rule → k ≡ kind_of rule
alone k rule is = sym (same_kind k) ∙ ap (kind_or k) is
