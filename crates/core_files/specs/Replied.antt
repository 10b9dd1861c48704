-- What is replied where a plan writes nothing.
use Rattle.std.specs.Prelude.{Option, Some, None}
use Rattle.b2_base.specs.declared.extent.Extent.{Extent}
use Rattle.b2_types.specs.declared.answer.AnswerOf.{AnswerOf}
use Rattle.b2_types.specs.declared.answer.AnswerOf.TheVariants as answer
use Rattle.b2_types.specs.declared.fault.Fault.{Fault}
use Rattle.b2_model.specs.Checks.{first_fault}
use Rattle.b2_model.specs.Plan.{Plan}
use Rattle.core_decisions.specs.declared.decision.Decision.{Decision}
use Rattle.core_decisions.specs.declared.decision.Decision.TheVariants as decision

abbrev pub or_refusal : Option Fault → AnswerOf Extent → AnswerOf Extent
or_refusal None told = told
or_refusal (Some fault) told = answer.Refused fault

-- the first of its own rules that fails, or what it answers
abbrev pub replied : Plan Extent → Decision
replied p = decision.Reply (or_refusal (first_fault p.own) p.answer)
