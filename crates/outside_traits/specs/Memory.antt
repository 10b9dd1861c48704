-- What the forms in memory hold.
use Rattle.std.specs.Prelude.{ℕ, List, drop, Contains}
use Rattle.outside_traits.specs.Causes.{raised}
use Rattle.outside_traits.specs.declared.calls.Calls.{Calls}
use Rattle.outside_traits.specs.declared.source.MemSource.{MemSource}
use Rattle.outside_traits.specs.declared.sink.MemSink.{MemSink}
use Rattle.outside_traits.specs.declared.link.Event.{Event}
use Rattle.outside_traits.specs.declared.link.SentPiece.{SentPiece}
use Rattle.outside_traits.specs.declared.link.MemLink.{MemLink}

-- the next call is one of those that are to fail
abbrev pub IsToFail : Calls → Type 0
IsToFail calls = Contains calls.fails.items (raised calls.made)

-- the bytes that a source has left
abbrev pub source_left : MemSource → List ℕ
source_left s = drop s.at s.bytes.items

-- the calls of a source
abbrev pub source_calls : MemSource → Calls
source_calls s = s.calls

-- the bytes that a sink took
abbrev pub sink_bytes : MemSink → List ℕ
sink_bytes s = s.bytes.items

-- the calls of a sink
abbrev pub sink_calls : MemSink → Calls
sink_calls s = s.calls

-- the events that a link is still to give
abbrev pub link_ahead : MemLink → List Event
link_ahead l = drop l.at l.events.items

-- what was sent on a link
abbrev pub link_sent : MemLink → List SentPiece
link_sent l = l.sent.items

-- the calls of a link
abbrev pub link_calls : MemLink → Calls
link_calls l = l.calls

-- the numbers of the sends that find their connection lost
abbrev pub link_gone : MemLink → List ℕ
link_gone l = l.gone.items

-- how many did
abbrev pub link_losses : MemLink → ℕ
link_losses l = l.losses

-- the next call is one of the sends that find their connection lost
abbrev pub IsToBeLost : MemLink → Type 0
IsToBeLost l = Contains l.gone.items (raised l.calls.made)
