-- Retentions that may be absent (the B2 reference, "Object Lock").
use Rattle.std.specs.Prelude.{ℕ, List, Option, Some, None, Result, Ok, Err}
use Rattle.b2_types.specs.declared.fault.Fault.{Fault}
use Rattle.b2_types.specs.declared.kinds.Retention.{Retention}
use Rattle.field_kinds.specs.Reader.{Reader, optional}
use Rattle.field_kinds.specs.Kinds.{retention}

abbrev pub joined : Result (Option (Option Retention)) Fault → Result (Option Retention) Fault
joined (Err f) = Err f
joined (Ok None) = Ok None
joined (Ok (Some r)) = Ok r

-- a retention that may be absent, which is none
unfoldable pub kept : List ℕ → Reader (Option Retention)
kept key d = joined (optional key retention d)
