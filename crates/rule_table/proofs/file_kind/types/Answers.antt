use Rattle.std.proofs.Common.{refl, arith}
use Rattle.rule_table.specs.FileKind.{kind_order, kind_names}
use Rattle.rule_table.proofs.Filled.{full_order, apart_rule}
use Rattle.rule_table.proofs.file_kind.types.Goals as goal

pub new-requires : goal.new-requires
new-requires c = (omega arith, (refl, (full_order kind_order, apart_rule kind_names refl)))
