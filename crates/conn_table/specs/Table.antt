-- The connections of the table, each as the talk that it is.
use Rattle.std.specs.Prelude.{◌≡◌, ◌≢◌, ℕ, ◌+◌, length, Option, Some, None, option_and_then, MatchOption, ⊤}
use Rattle.std.specs.Ordering.{nat_cmp}
use Rattle.std.specs.BTreeMap.{get, btree_map_len}
use Rattle.conn_talk.specs.declared.pending.Pending.{Pending}
use Rattle.conn_talk.specs.Talk.{Talk, IsPending, shown_as}
use Rattle.conn_table.specs.declared.conn.Conn.{Conn}
use Rattle.conn_table.specs.declared.table.Conns.{Conns}
use Rattle.conn_table.specs.Heads.{head_size}
use Rattle.conn_table.specs.Incoming.{IsReading, IsWaiting}

pub record IsAnswered {B : Type 0} (a : Talk B) (p : Pending B) (k : Conn B) : Type 0 where
  pub incoming : IsWaiting a.before a.told k.incoming
  pub reply_is : k.reply ≡ Some (shown_as a.told p)
  pub pending : IsPending p

pub record IsUnanswered {B : Type 0} (a : Talk B) (k : Conn B) : Type 0 where
  pub incoming : IsReading a.before a.got a.told k.incoming
  pub reply_is : k.reply ≡ None

abbrev pub IsConn : {B : Type 0} → Talk B → Conn B → Type 0
IsConn a k = MatchOption a.reply (IsUnanswered a k) (λ p. IsAnswered a p k)

-- ---- the table

abbrev pub conn_at : {B : Type 0} → Conns B → ℕ → Option (Conn B)
conn_at t c = get nat_cmp t.conns c

-- how many connections are open
abbrev pub count_of : {B : Type 0} → Conns B → ℕ
count_of t = btree_map_len t.conns

abbrev pub IsIn : {B : Type 0} → Option (Talk B) → Option (Conn B) → Type 0
IsIn None None = ⊤
IsIn None (Some k) = ⊥
IsIn (Some a) None = ⊥
IsIn (Some a) (Some k) = IsConn a k

-- the connection of this number is this talk, or isn't open
abbrev pub IsTalk : {B : Type 0} → Conns B → ℕ → Option (Talk B) → Type 0
IsTalk t c a = IsIn a (conn_at t c)

-- what is to be sent
abbrev pub pending_at : {B : Type 0} → Conns B → ℕ → Option (Pending B)
pending_at {B = B} t c = option_and_then (λ (k : Conn B). k.reply) (conn_at t c)

-- how many bytes a connection keeps as they came: of a head, of the body of a call or after a request
abbrev pub kept_of : {B : Type 0} → Option (Conn B) → ℕ
kept_of None = 0
kept_of (Some k) = length k.incoming.bytes.items

abbrev pub kept_at : {B : Type 0} → Conns B → ℕ → ℕ
kept_at t c = kept_of (conn_at t c)

-- and in all: a head that was read is kept in its parts
abbrev pub held_of : {B : Type 0} → Option (Conn B) → ℕ
held_of None = 0
held_of (Some k) = length k.incoming.bytes.items + head_size k.incoming.head

abbrev pub held_at : {B : Type 0} → Conns B → ℕ → ℕ
held_at t c = held_of (conn_at t c)

-- all other connections stay as they are
abbrev pub KeepsOthers : {B : Type 0} → ℕ → Conns B → Conns B → Type 0
KeepsOthers c old new = (d : ℕ) → d ≢ c → conn_at new d ≡ conn_at old d
