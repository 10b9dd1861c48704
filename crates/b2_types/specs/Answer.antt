-- The status of the reply to an answer, and what a refusal tells (RFC 9110, section 15; the B2 reference,
-- "Error handling").
use Rattle.std.specs.Prelude.{ℕ, ◌+◌, ◌<◌, ◌≤◌, List, [], Option, Some, None}
use Rattle.b2_types.specs.declared.denial.Denial.{Denial}
use Rattle.b2_types.specs.declared.answer.AnswerOf.{AnswerOf}
use Rattle.b2_types.specs.declared.answer.AnswerOf.TheVariants as answer
use Rattle.b2_types.specs.declared.answer.Span.{Span}
use Rattle.b2_types.specs.FaultTable.{Status, ok, partial_content, fault_entry, rule_of}

-- 206 where a range is sent
abbrev pub range_status : Option Span → Status
range_status None = ok
range_status (Some span) = partial_content

abbrev pub status_line : {C : Type 0} → AnswerOf C → Status
status_line (answer.Json shown) = ok
status_line (answer.Content c) = range_status c.range
status_line (answer.Refused fault) = (fault_entry fault.kind).status

abbrev pub answer_status : {C : Type 0} → AnswerOf C → ℕ
answer_status a = (status_line a).number

abbrev pub answer_reason : {C : Type 0} → AnswerOf C → List ℕ
answer_reason a = (status_line a).reason

-- empty where nothing is refused
abbrev pub answer_code : {C : Type 0} → AnswerOf C → List ℕ
answer_code (answer.Json shown) = []
answer_code (answer.Content c) = []
answer_code (answer.Refused fault) = (fault_entry fault.kind).code

abbrev pub answer_rule : {C : Type 0} → AnswerOf C → Option Denial
answer_rule (answer.Json shown) = None
answer_rule (answer.Content c) = None
answer_rule (answer.Refused fault) = rule_of fault.kind

-- a range has a byte, and lies in a content of this length
abbrev pub IsSpanIn : ℕ → Option Span → Type 0
IsSpanIn length None = Unit {0}
IsSpanIn length (Some span) = (0 < span.len) × (span.at + span.len ≤ length)

-- what is sent of a content is the whole, or a range of it that has a byte
abbrev pub IsSendable : {C : Type 0} → AnswerOf C → Type 0
IsSendable (answer.Json shown) = Unit {0}
IsSendable (answer.Content c) = IsSpanIn c.file.length c.range
IsSendable (answer.Refused fault) = Unit {0}
