-- Tokens that uploads leave.
use Rattle.std.specs.Prelude.{Option, Some, None}
use Rattle.b2_types.specs.declared.key.Flight.{Flight}
use Rattle.auth_grants.specs.Tokens.{Tokens, with_flight}

-- the tokens when the upload leaves its own
abbrev pub left_by : Option Flight → Tokens → Tokens
left_by None T = T
left_by (Some f) T = with_flight f.token None T
