-- When a connection ends with its reply.
use Rattle.std.specs.Prelude.{Bool, false, not, Option, Some, None}
use Rattle.conn_talk.specs.declared.pending.Pending.{Pending}

-- the reply was sent whole, and its connection is closed with it
abbrev pub closes : {B : Type 0} → Option (Pending B) → Bool
closes None = false
closes (Some p) = not p.stay
