-- What is answered where rules are judged.
use Rattle.std.specs.Prelude.{Option, Some, None, Result, Ok, Err}
use Rattle.rule_table.specs.declared.fault.FaultKind.{FaultKind}
use Rattle.rule_table.specs.declared.fault.FaultKind.TheVariants as kind
use Rattle.b2_types.specs.declared.denial.Denial.{Denial}
use Rattle.b2_types.specs.declared.denial.Denial.TheVariants as rule
use Rattle.b2_types.specs.declared.fault.Fault.{Fault}
use Rattle.b2_types.specs.Fault.{plain}

-- the kind of fault that names the rule
abbrev pub kind_of : Denial → FaultKind
kind_of rule.P1 = kind.P1
kind_of rule.P2 = kind.P2
kind_of rule.P3 = kind.P3
kind_of rule.P4 = kind.P4
kind_of rule.P5 = kind.P5
kind_of rule.P6 = kind.P6
kind_of rule.P7 = kind.P7
kind_of rule.P8 = kind.P8
kind_of rule.P9 = kind.P9
kind_of rule.P10 = kind.P10
kind_of rule.P11 = kind.P11
kind_of rule.P12 = kind.P12
kind_of rule.P13 = kind.P13
kind_of rule.P14 = kind.P14

-- the fault of an answer: none where all rules hold
abbrev pub denied : {T : Type 0} → Result T Denial → Option Fault
denied (Ok x) = None
denied (Err rule) = Some (plain (kind_of rule))
