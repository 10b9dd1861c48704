use Rattle.std.proofs.Common.{refl, arith}
use Rattle.rule_table.specs.Cap.{cap_order, cap_names}
use Rattle.rule_table.proofs.Filled.{full_order, apart_rule}
use Rattle.rule_table.proofs.cap.caps.Goals as goal

pub new-requires : goal.new-requires
new-requires c = (omega arith, (refl, (full_order cap_order, apart_rule cap_names refl)))
