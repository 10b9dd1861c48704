-- A talk is one request of a connection, from its first byte to the end of its reply; the connection goes on
-- with the next one where the request stays.
use Rattle.std.specs.Prelude.{◌≡◌, ◌<◌, ◌+◌, ◌^◌, ◌==◌, ℕ, Bool, false, ◌&&◌, List, [], ◌++◌, length, Option, Some, None, option_map, MatchOption, if◌then◌else◌}
use Rattle.std.specs.Option.{is_none}
use Rattle.conn_talk.specs.declared.act.Act.{Act}
use Rattle.conn_talk.specs.declared.pending.Pending.{Pending}
use Rattle.conn_talk.specs.Asked.{Asked, nothing, IsAsked, stay_of, is_begun, rest_of, goes_on, with_more}
use Rattle.conn_talk.specs.Acts.{acts_after}

pub record Talk (B : Type 0) : Type 0 where
  -- the requests that stood before it on its connection
  pub before : ℕ
  -- the joined bytes that came of it, up to its answer
  pub got : List ℕ
  -- what they ask for, as far as acts told it
  pub told : Asked
  -- its reply, as it was answered, with what was sent of it
  pub reply : Option (Pending B)

-- the first request of a connection
abbrev pub first_talk : {B : Type 0} → Talk B
first_talk = record { before = 0; got = []; told = nothing; reply = None }

-- the next one: the bytes that were held have come, and nothing is told of them
abbrev pub next_talk : {B : Type 0} → Talk B → Talk B
next_talk a = record { before = a.before + 1; got = rest_of a.told; told = nothing; reply = None }

-- the reply, after which the connection stays open only where the request goes on
abbrev pub shown_as : {B : Type 0} → Asked → Pending B → Pending B
shown_as told p = record p { stay = p.stay && goes_on told }

abbrev pub shown : {B : Type 0} → Talk B → Option (Pending B)
shown a = option_map (shown_as a.told) a.reply

abbrev pub size_of : {B : Type 0} → Pending B → ℕ
size_of p = length p.text + p.len

-- a reply that is still to be sent, or its end
pub record IsPending {B : Type 0} (p : Pending B) : Type 0 where
  pub left : p.sent < size_of p
  pub small : size_of p < 2 ^ 64

-- a piece comes: its bytes are read on, or while a reply is pending they stand after the request
abbrev pub TakesPiece : {B : Type 0} → Talk B → List ℕ → List Act → Talk B → Type 0
TakesPiece a bytes acts b =
    MatchOption a.reply
    ((new : Asked) × IsAsked a.before (a.got ++ bytes) new × (acts ≡ acts_after a.told new) × (b ≡ record a { got = a.got ++ bytes; told = new }))
    (λ _. (acts ≡ []) × (b ≡ record a { told = with_more a.told bytes }))

-- so many bytes more are sent of the reply
abbrev pub with_sent : {B : Type 0} → ℕ → Pending B → Pending B
with_sent n p = record p { sent = p.sent + n }

abbrev pub is_whole : {B : Type 0} → Pending B → Bool
is_whole p = p.sent == size_of p

-- a reply that was sent whole is handed back
abbrev pub given_back : {B : Type 0} → Talk B → Pending B → Option (Pending B)
given_back a p = if is_whole p then Some (shown_as a.told p) else None

-- and the next request comes, or the connection is closed
abbrev pub talk_after : {B : Type 0} → Talk B → Pending B → Option (Talk B)
talk_after a p = if is_whole p then (if (shown_as a.told p).stay then Some (next_talk a) else None) else Some (record a { reply = Some p })

-- its request was told, and its client asks for another one after it
abbrev pub asks_stay : {B : Type 0} → Option (Talk B) → Bool
asks_stay None = false
asks_stay (Some a) = stay_of a.told

-- an upload began on it, and has no answer
abbrev pub is_uploading : {B : Type 0} → Option (Talk B) → Bool
is_uploading None = false
is_uploading (Some a) = is_begun a.told && is_none a.reply
