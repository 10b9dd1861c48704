-- The table of connections is in order: each that is open has what came of it.
use Rattle.std.specs.Prelude.{ℕ, Option}
use Rattle.conn_talk.specs.Talk.{Talk}
use Rattle.conn_table.specs.declared.table.Conns.{Conns}
use Rattle.conn_table.specs.Table.{IsTalk}

abbrev pub IsSound : {B : Type 0} → Conns B → Type 0
IsSound {B = B} t = (c : ℕ) → (a : Option (Talk B)) × IsTalk t c a
