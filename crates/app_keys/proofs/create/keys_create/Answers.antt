use Rattle.std.proofs.Common.{Result, Ok, Err}
use Rattle.b2_base.specs.declared.failure.Or.{Or}
use Rattle.b2_base.specs.declared.failure.Or.TheVariants as or
use Rattle.b2_base.specs.Failure.{UnlessFault}
use Rattle.app_keys.proofs.create.keys_create.Goals as goal

in_any_case : {T F : Type 0} (r : Result T (Or F)) (P : Type 0) → P → UnlessFault r P
in_any_case (Ok x) P holds = holds
in_any_case (Err or.Memory) P holds = holds
in_any_case (Err (or.Fault f)) P holds = tt

pub returns-in_err-made-clause-passed : goal.returns-in_err-made-clause-passed
returns-in_err-made-clause-passed g c = in_any_case c.from_residual.result _ (λ M words is. c.in_default.ensures M c.args.t words is)
