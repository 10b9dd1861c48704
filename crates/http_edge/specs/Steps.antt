-- For the steps that read a head.
use Rattle.std.specs.Prelude.{◌≡◌, ℕ, List}
use Rattle.httparse.specs.Spans.{span_bytes}
use Rattle.httparse.specs.declared.spans.HeaderSpan.{HeaderSpan}
use Rattle.http_header.specs.Token.{IsToken, AllPass, is_value_byte}
use Rattle.rule_table.specs.declared.fault.FaultKind.{FaultKind}
use Rattle.b2_types.specs.declared.fault.Fault.{Fault}
use Rattle.b2_types.specs.Fault.{plain}

-- at this place are a name and a value
abbrev pub IsClean : List ℕ → HeaderSpan → Type 0
IsClean bytes span = IsToken (span_bytes bytes span.name) × AllPass is_value_byte (span_bytes bytes span.value)

-- a fault of such a kind, which tells nothing more
abbrev pub IsFaultOf : (FaultKind → Type 0) → Fault → Type 0
IsFaultOf is fault = (fault ≡ plain fault.kind) × is fault.kind
