-- What is sent of an answer.
use Rattle.std.specs.Prelude.{ℕ, List, []}
use Rattle.serde_json.specs.Written.{compact_text}
use Rattle.b2_types.specs.declared.answer.AnswerOf.{AnswerOf}
use Rattle.b2_types.specs.declared.answer.AnswerOf.TheVariants as answer
use Rattle.wire_forms.specs.Body.{body_of, refusal_json}
use Rattle.worked_rows.specs.Store.{Bytes}

-- the text of its body of JSON
abbrev pub body : AnswerOf Bytes → List ℕ
body (answer.Json shown) = compact_text (body_of shown)
body (answer.Refused fault) = compact_text (refusal_json fault)
body (answer.Content c) = []
