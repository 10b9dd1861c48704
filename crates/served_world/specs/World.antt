-- What a server is to do for a list of events: a world that goes on event by event.
use Rattle.std.specs.Prelude.{◌≡◌, ◌+◌, ◌-◌, ◌==◌, ℕ, nat_eq, nat_lt, Bool, true, false, not, ◌&&◌, List, [], ◌∷◌, ◌++◌, length, take, drop, Option, Some, None, option_map, MatchOption, if◌then◌else◌}
use Rattle.std.specs.Map.{update}
use Rattle.outside_traits.specs.declared.link.Event.{Event}
use Rattle.outside_traits.specs.declared.link.Event.TheVariants as event
use Rattle.outside_traits.specs.declared.link.SentPiece.{SentPiece}
use Rattle.outside_traits.specs.Links.{front_sent}
use Rattle.b2_model.specs.State.{State}
use Rattle.b2_model.specs.Run.{Step, loses, Progress, step, of_bytes}
use Rattle.conn_talk.specs.declared.pending.Pending.{Pending}
use Rattle.conn_talk.specs.Asked.{Asked, IsAsked, with_more}
use Rattle.conn_talk.specs.Talk.{Talk, first_talk, next_talk, shown_as, size_of, with_sent, is_whole, is_uploading}
use Rattle.served_world.specs.Replies.{Reads, Reply, stays, text_of, Outcome, Makes}

-- an event, the clock's reading at it, and how many bytes the link takes of what is sent at it: None where it
-- finds the connection lost. A send that the link fails at is no turn: it ends the run.
pub record Turn : Type 0 where
  pub event : Event
  pub reading : ℕ
  pub took : Option ℕ

-- a connection: its name, which is its place among all that were opened; its request and the reply that is
-- pending; and all bytes that came and that were sent on it
pub record Conn : Type 0 where
  pub name : ℕ
  pub talk : Talk (List ℕ)
  pub came : List ℕ
  pub sent : List ℕ

-- a connection that was closed or lost, and its number
pub record Ended : Type 0 where
  pub number : ℕ
  pub conn : Conn

-- a request that was answered: its connection, how many requests of it stood before, its bytes and the reply
pub record Answered : Type 0 where
  pub name : ℕ
  pub number : ℕ
  pub before : ℕ
  pub got : List ℕ
  pub reply : Reply

pub record World : Type 0 where
  pub machine : Progress (List ℕ)
  -- its steps so far, in order
  pub steps : List (Step (List ℕ))
  -- the requests that came whole, or whose form or begin was refused, in the order in which that was
  pub answered : List Answered
  -- the number of each connection that was opened, in order
  pub opened : List ℕ
  -- the open ones by their numbers, and how many they are
  pub conns : ℕ → Option Conn
  pub count : ℕ
  -- the other ones
  pub ended : List Ended
  -- what the link took
  pub sends : List SentPiece

-- the machine before its first step
abbrev pub at_start : State (List ℕ) → List ℕ → Progress (List ℕ)
at_start M words = record { state = M; words = words; answers = [] }

abbrev pub start : State (List ℕ) → List ℕ → World
start M words = record {
  machine = at_start M words;
  steps = [];
  answered = [];
  opened = [];
  conns = λ c. None;
  count = 0;
  ended = [];
  sends = [];
}

abbrev pub with_conn : World → ℕ → Option Conn → World
with_conn w c k = record w { conns = update nat_eq w.conns c k }

-- ---- Open

-- the most connections that are open at once
abbrev pub most_open : ℕ
most_open = 32

-- what the link has of a send of nothing, after which the connection is closed
abbrev pub closing : ℕ → Option ℕ → List SentPiece
closing c None = []
closing c (Some n) = front_sent c [] true n ∷ []

abbrev pub new_conn : ℕ → Conn
new_conn name = record { name = name; talk = first_talk; came = []; sent = [] }

abbrev pub opened : World → ℕ → Option ℕ → World
opened w c took =
    if nat_lt w.count most_open
    then record (with_conn w c (Some (new_conn (length w.opened)))) { opened = w.opened ++ c ∷ []; count = w.count + 1 }
    else record w { sends = w.sends ++ closing c took }

-- ---- Piece

-- the reply before any of it is sent
abbrev pub pending_of : Reply → Pending (List ℕ)
pending_of r = record { text = text_of r; body = None; len = 0; sent = 0; stay = stays r }

abbrev pub answered_of : Conn → ℕ → List ℕ → Option Reply → List Answered
answered_of k c got None = []
answered_of k c got (Some r) = record { name = k.name; number = c; before = k.talk.before; got = got; reply = r } ∷ []

abbrev pub nothing_made : World → Outcome
nothing_made w = record { machine = w.machine; steps = w.steps; reply = None }

-- these bytes came of its request, which asks for this now, and this was made
abbrev pub conn_read : Conn → List ℕ → Asked → Outcome → Conn
conn_read k bytes new o = record k {
  talk = record k.talk { got = k.talk.got ++ bytes; told = new; reply = option_map pending_of o.reply };
  came = k.came ++ bytes;
}

-- they came behind a reply that is pending: they are held, or do nothing
abbrev pub conn_held : Conn → List ℕ → Conn
conn_held k bytes = record k { talk = record k.talk { told = with_more k.talk.told bytes }; came = k.came ++ bytes }

abbrev pub after_piece : World → ℕ → Conn → List ℕ → Asked → Outcome → World
after_piece w c k bytes new o = record (with_conn w c (Some (conn_read k bytes new o))) {
  machine = o.machine;
  steps = o.steps;
  answered = w.answered ++ answered_of k c (k.talk.got ++ bytes) o.reply;
}

-- bytes come of a request that has no reply, or behind a reply that is pending
abbrev pub IsPiece : Reads → ℕ → World → ℕ → Conn → List ℕ → World → Type 0
IsPiece R reading w c k bytes v =
    MatchOption k.talk.reply
    ((new : Asked) × (o : Outcome) × IsAsked k.talk.before (k.talk.got ++ bytes) new × Makes R reading c k.talk.told new (nothing_made w) o
    × (v ≡ after_piece w c k bytes new o))
    (λ _. v ≡ with_conn w c (Some (conn_held k bytes)))

-- ---- Gone

abbrev pub closed : World → ℕ → Conn → World
closed w c k = record (with_conn w c None) { count = w.count - 1; ended = w.ended ++ record { number = c; conn = k } ∷ [] }

-- an upload that is under way is lost
abbrev pub with_loss : ℕ → ℕ → Bool → World → World
with_loss reading c true w = record w { machine = step of_bytes w.machine (loses reading c); steps = w.steps ++ loses reading c ∷ [] }
with_loss reading c false w = w

abbrev pub gone : ℕ → World → ℕ → Conn → World
gone reading w c k = with_loss reading c (is_uploading (Some k.talk)) (closed w c k)

-- ---- Ready

-- the most bytes that the link is handed at once
abbrev pub most_handed : ℕ
most_handed = 65536

-- the next bytes of the reply
abbrev pub handed : Pending (List ℕ) → List ℕ
handed p = take most_handed (drop p.sent p.text)

-- the reply ends in them, and its connection is closed with it
abbrev pub is_last : Talk (List ℕ) → Pending (List ℕ) → Bool
is_last a p = (p.sent + length (handed p) == size_of p) && not (shown_as a.told p).stay

abbrev pub with_send : World → SentPiece → World
with_send w s = record w { sends = w.sends ++ s ∷ [] }

-- after these bytes of the reply were sent
abbrev pub conn_after : Conn → List ℕ → Pending (List ℕ) → Conn
conn_after k bytes p = record k { talk = record k.talk { reply = Some (with_sent (length bytes) p) }; sent = k.sent ++ bytes }

-- The reply was sent whole. Where its request stays, the bytes that were held are a piece of the next one, at the
-- same reading; else the connection is closed.
abbrev pub GoesOn : Reads → ℕ → World → ℕ → Conn → Bool → World → Type 0
GoesOn R reading w c k true v = IsPiece R reading w c (record k { talk = next_talk k.talk }) [] v
GoesOn R reading w c k false v = v ≡ closed w c k

abbrev pub IsAfterSend : Reads → ℕ → World → ℕ → Conn → Pending (List ℕ) → Bool → World → Type 0
IsAfterSend R reading w c k p true v = GoesOn R reading w c k (shown_as k.talk.told p).stay v
IsAfterSend R reading w c k p false v = v ≡ with_conn w c (Some k)

-- the link is handed the next bytes, and takes the first n, or finds the connection lost
abbrev pub IsSent : Reads → ℕ → World → ℕ → Conn → Pending (List ℕ) → Option ℕ → World → Type 0
IsSent R reading w c k p None v = v ≡ gone reading w c k
IsSent R reading w c k p (Some n) v =
    let bytes = take n (handed p) in
    IsAfterSend R reading (with_send w (front_sent c (handed p) (is_last k.talk p) n)) c (conn_after k bytes p) p (is_whole (with_sent (length bytes) p)) v

abbrev pub IsReady : Reads → ℕ → World → ℕ → Conn → Option ℕ → World → Type 0
IsReady R reading w c k took v = MatchOption k.talk.reply (v ≡ w) (λ p. IsSent R reading w c k p took v)

-- ---- an event

-- An Open of a connection that is open, and any other event of one that isn't, do nothing.
abbrev pub Happens : Reads → ℕ → Option ℕ → World → Event → World → Type 0
Happens R reading took w (event.Open c) v = MatchOption (w.conns c) (v ≡ opened w c took) (λ _. v ≡ w)
Happens R reading took w (event.Piece c bytes) v = MatchOption (w.conns c) (v ≡ w) (λ k. IsPiece R reading w c k bytes v)
Happens R reading took w (event.Ready c) v = MatchOption (w.conns c) (v ≡ w) (λ k. IsReady R reading w c k took v)
Happens R reading took w (event.Gone c) v = MatchOption (w.conns c) (v ≡ w) (λ k. v ≡ gone reading w c k)
Happens R reading took w event.Stop v = v ≡ w

-- the turns lead from one world to the other
abbrev pub Run : Reads → World → List Turn → World → Type 0
Run R w [] v = v ≡ w
Run R w (t ∷ turns) v = (m : World) × Happens R t.reading t.took w t.event m × Run R m turns v
