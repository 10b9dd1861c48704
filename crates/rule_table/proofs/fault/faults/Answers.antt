use Rattle.std.proofs.Common.{refl, arith}
use Rattle.rule_table.specs.FaultKind.{fault_order, fault_names}
use Rattle.rule_table.proofs.Filled.{full_order, apart_rule}
use Rattle.rule_table.proofs.fault.faults.Goals as goal

pub new-requires : goal.new-requires
new-requires c = (omega arith, (refl, (full_order fault_order, apart_rule fault_names refl)))
