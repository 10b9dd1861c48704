use Rattle.std.proofs.Common.{Some, option_copied, ap, ◌∙◌}
use Rattle.b2_types.specs.Fault.{plain}
use Rattle.policy_rules.specs.Asked.{caller}
use Rattle.core_uploads.proofs.Begins.{bad_begins}
use Rattle.core_uploads.proofs.begin.bad_fault.Goals as goal

pub returns-in-Err : goal.returns-in-Err
returns-in-Err c =
    ap Some c.plain.ensures
    ∙ bad_begins c.args.core.now c.args.t (option_copied c.args.token) c.args.bad (caller c.asker_of-asker.result) (Some (plain c.in-Err.kind)) c.asker_of-asker.ensures c.in-Err.ensures
