-- Events of connections, and what is sent on them.
use Rattle.std.specs.Prelude.{◌≡◌, ◌≤◌, ◌<◌, ℕ, Bool, ◌&&◌, ◌==◌, nat_eq, List, [], ◌∷◌, ◌++◌, length, take, drop, Option, None, Some, Result, Ok, Err, ⊤}
use Rattle.b2_base.specs.declared.failure.Or.{Or}
use Rattle.outside_traits.specs.declared.Failed.{Failed}
use Rattle.outside_traits.specs.declared.link.Event.{Event}
use Rattle.outside_traits.specs.declared.link.Event.TheVariants as event
use Rattle.outside_traits.specs.declared.link.Sent.{Sent}
use Rattle.outside_traits.specs.declared.link.Sent.TheVariants as sent
use Rattle.outside_traits.specs.declared.link.SentPiece.{SentPiece}
use Rattle.outside_traits.specs.Causes.{Rose}

-- how many bytes an event brings
abbrev pub bytes_in : Event → ℕ
bytes_in (event.Piece conn bytes) = length bytes
bytes_in other = 0

-- a piece has at most 65,536 bytes
abbrev pub IsShort : Event → Type 0
IsShort e = bytes_in e ≤ 65536

-- the first of the events to come, or Stop where there is none
abbrev pub first_event : List Event → Event
first_event [] = event.Stop
first_event (e ∷ es) = e

-- an event that is answered is the first to come, and is taken; an `Err` takes none
abbrev pub GivesEvent : Option (List Event) → Option (List Event) → Result Event (Or Failed) → Type 0
GivesEvent None new result = ⊤
GivesEvent (Some ahead) None result = ⊥
GivesEvent (Some ahead) (Some rest) (Ok e) = (e ≡ first_event ahead) × (rest ≡ drop 1 ahead)
GivesEvent (Some ahead) (Some rest) (Err why) = rest ≡ ahead

-- P of the number of bytes that went to the connection
abbrev pub IfSent : Sent → (ℕ → Type 0) → Type 0
IfSent (sent.Sent n) P = P n
IfSent other P = ⊤

-- the first n bytes as one send: the last one of its reply where all of a last text went
abbrev pub front_sent : ℕ → List ℕ → Bool → ℕ → SentPiece
front_sent conn bytes last n = record { conn = conn; bytes = take n bytes; last = last && nat_eq n (length bytes) }

-- what was sent grows by a front of the bytes, which isn't empty where they aren't; else it stays
abbrev pub Grows : ℕ → List ℕ → Bool → Option (List SentPiece) → Option (List SentPiece) → Sent → Type 0
Grows conn bytes last None new result = ⊤
Grows conn bytes last (Some old) None result = ⊥
Grows conn bytes last (Some old) (Some new) (sent.Sent n) = new ≡ old ++ front_sent conn bytes last n ∷ []
Grows conn bytes last (Some old) (Some new) other = new ≡ old

pub record SendsFront (conn : ℕ) (bytes : List ℕ) (last : Bool) (old new : Option (List SentPiece)) (result : Sent) : Type 0 where
  pub bound : IfSent result (λ n. n ≤ length bytes)
  pub some : IfSent result (λ n. 0 < length bytes → 0 < n)
  pub grows : Grows conn bytes last old new result

-- a connection was lost only where the losses rose, and a send failed only where the faults rose; else both
-- counts stay
abbrev pub HasSendCause : ℕ → ℕ → ℕ → ℕ → Sent → Type 0
HasSendCause faults more losses later (sent.Sent n) = (more ≡ faults) × (later ≡ losses)
HasSendCause faults more losses later sent.Gone = (more ≡ faults) × (losses ≤ later) × Rose losses later
HasSendCause faults more losses later sent.Failed = (faults ≤ more) × Rose faults more × (later ≡ losses)
