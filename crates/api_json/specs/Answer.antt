-- The body of JSON of an answer.
use Rattle.std.specs.Prelude.{Option, Some, None}
use Rattle.serde_json.specs.Data.{Data}
use Rattle.b2_types.specs.declared.answer.AnswerOf.{AnswerOf}
use Rattle.b2_types.specs.declared.answer.AnswerOf.TheVariants as answer
use Rattle.wire_forms.specs.Body.{body_of, refusal_json}

-- a content has none
abbrev pub answer_json : {C : Type 0} → AnswerOf C → Option Data
answer_json (answer.Json shown) = Some (body_of shown)
answer_json (answer.Content c) = None
answer_json (answer.Refused fault) = Some (refusal_json fault)
