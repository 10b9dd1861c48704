-- A table of connections, what answers requests and what was sent, seen as a world.
use Rattle.std.specs.Prelude.{◌≡◌, ◌<◌, ◌+◌, ◌^◌, ◌==◌, ◌++◌, ◌∷◌, ◌&&◌, ℕ, not, List, [], Option, None, Some, option_map, unwrap_or, MatchOption, length}
use Rattle.outside_traits.specs.declared.link.Event.{Event}
use Rattle.outside_traits.specs.declared.link.Event.TheVariants as event
use Rattle.outside_traits.specs.declared.link.SentPiece.{SentPiece}
use Rattle.outside_traits.specs.declared.link.MemLink.{MemLink}
use Rattle.outside_traits.specs.Memory.{link_calls, link_gone}
use Rattle.outside_traits.specs.Links.{front_sent}
use Rattle.conn_talk.specs.declared.pending.Pending.{Pending}
use Rattle.conn_talk.specs.Talk.{Talk, first_talk, size_of}
use Rattle.conn_table.specs.declared.table.Conns.{Conns}
use Rattle.conn_table.specs.Table.{count_of, IsTalk, KeepsOthers}
use Rattle.served_world.specs.Replies.{Reads}
use Rattle.served_world.specs.World.{Conn, World, Happens, handed, gone, IsPiece}
use Rattle.request_acts.specs.Answering.{At, Upload, Uploads, Contents}
use Rattle.request_acts.specs.Doing.{joined, HasContent, Awaits}

-- a talk of the table, with the content that is read for it behind the text of its reply
abbrev pub seen : List ℕ → Talk (List ℕ) → Talk (List ℕ)
seen content a = record a { reply = option_map (joined content) a.reply }

-- no upload is under way while a reply is pending
abbrev pub IsIdle : Reads → Option Upload → Talk (List ℕ) → Type 0
IsIdle R up a = MatchOption a.reply (Awaits R a.before a.got up a.told) (λ p. up ≡ None)

-- the connection is in the table; this is its upload, and this is read for its reply
pub record IsKept (R : Reads) (t : Conns (List ℕ)) (c : ℕ) (up : Option Upload) (content : List ℕ) (k : Conn) : Type 0 where
  pub talk : Talk (List ℕ)
  pub is_talk : IsTalk t c (Some talk)
  pub seen_is : k.talk ≡ seen content talk
  pub idle : IsIdle R up talk
  pub content_is : HasContent content talk.reply

abbrev pub IsConnOf : Reads → Conns (List ℕ) → ℕ → Option Upload → List ℕ → Option Conn → Type 0
IsConnOf R t c up content None = IsTalk t c None × (up ≡ None) × (content ≡ [])
IsConnOf R t c up content (Some k) = IsKept R t c up content k

-- the table has the connections of the world; these are their uploads and the contents that are read for them
pub record IsTable (R : Reads) (ups : Uploads) (outs : Contents) (t : Conns (List ℕ)) (w : World) : Type 0 where
  pub each : (c : ℕ) → IsConnOf R t c (ups c) (outs c) (w.conns c)
  pub count : count_of t ≡ w.count

-- and the machine is where it is there
pub record IsWorld (R : Reads) (now : At) (t : Conns (List ℕ)) (w : World) : Type 0 where
  pub uploads : Uploads
  pub contents : Contents
  pub machine : now w.machine.state w.machine.words uploads contents
  pub table : IsTable R uploads contents t w

-- a reply that is still to be sent, or its end
pub record HasBounds (p : Pending (List ℕ)) : Type 0 where
  pub left : p.sent < size_of p
  pub small : size_of p < 2 ^ 64

-- the link was handed these bytes of the reply, which close its connection where it ends in them and does not stay
abbrev pub sent_of : ℕ → Pending (List ℕ) → List ℕ → SentPiece
sent_of c p bytes = front_sent c bytes ((p.sent + length bytes == size_of p) && not p.stay) (length bytes)

-- the link was handed the next bytes of the reply, which are so many
pub record IsHanded (c : ℕ) (p : Pending (List ℕ)) (n : ℕ) (before after : List SentPiece) : Type 0 where
  pub count : n ≡ length (handed p)
  pub grows : after ≡ before ++ sent_of c p (handed p) ∷ []

-- no call of the link is to fail, and no send to be lost: each send takes all its bytes
pub record IsWilling (link : MemLink) : Type 0 where
  pub fails : (link_calls link).fails.items ≡ []
  pub gone : link_gone link ≡ []

-- how many bytes are handed to the link on a connection that can take some
abbrev pub handed_on : Option Conn → ℕ
handed_on None = 0
handed_on (Some k) = unwrap_or (option_map (λ p. length (handed p)) k.talk.reply) 0

-- the link takes all that it is handed at the event
abbrev pub all_taken : World → Event → Option ℕ
all_taken w (event.Ready c) = Some (handed_on (w.conns c))
all_taken w other = Some 0

-- what is done without the link, of which no more is sent
abbrev pub Steps : Reads → At → Conns (List ℕ) → (World → World → Type 0) → At → Conns (List ℕ) → Type 0
Steps R was t does now u = (w : World) → IsWorld R was t w → (v : World) × does w v × IsWorld R now u v × (v.sends ≡ w.sends)

-- what the event makes of each world that it was, and of what was sent
abbrev pub Serves : Reads → ℕ → Event → At → Conns (List ℕ) → List SentPiece → At → Conns (List ℕ) → List SentPiece → Type 0
Serves R reading e was t before now u after =
    (w : World) → IsWorld R was t w → before ≡ w.sends → (v : World) × Happens R reading (all_taken w e) w e v × IsWorld R now u v × (after ≡ v.sends)

-- bytes come on a connection, which do nothing where it isn't open
abbrev pub Takes : Reads → ℕ → ℕ → List ℕ → World → World → Type 0
Takes R reading c bytes w v = MatchOption (w.conns c) (v ≡ w) (λ k. IsPiece R reading w c k bytes v)

-- it is lost
abbrev pub Loses : ℕ → ℕ → World → World → Type 0
Loses reading c w v = MatchOption (w.conns c) (v ≡ w) (λ k. v ≡ gone reading w c k)

-- a connection opened
pub record HasOpened (c : ℕ) (t u : Conns (List ℕ)) : Type 0 where
  pub talk : IsTalk u c (Some first_talk)
  pub others : KeepsOthers c t u
  pub count : count_of u ≡ count_of t + 1
