use Rattle.std.proofs.Common.{refl, arith}
use Rattle.rule_table.specs.CallName.{call_order, call_names}
use Rattle.rule_table.proofs.Filled.{full_order, apart_rule}
use Rattle.rule_table.proofs.call.calls.Goals as goal

pub new-requires : goal.new-requires
new-requires c = (omega arith, (refl, (full_order call_order, apart_rule call_names refl)))
