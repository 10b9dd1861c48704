use Rattle.std.proofs.Common.{sym}
use Rattle.core_records.proofs.Rules.{no_rules}
use Rattle.core_records.proofs.applying.are_rules.Goals as goal

pub returns-in-Err : goal.returns-in-Err
returns-in-Err c = sym (no_rules c.args.rules.now c.in-Err.field-0 c.in-Err.ensures)
