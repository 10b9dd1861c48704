-- A run in which the link takes all that it is handed.
use Rattle.std.specs.Prelude.{◌≡◌, ℕ, List, [], ◌∷◌, map}
use Rattle.outside_traits.specs.declared.link.Event.{Event}
use Rattle.outside_traits.specs.declared.link.SentPiece.{SentPiece}
use Rattle.served_world.specs.Replies.{Reads}
use Rattle.served_world.specs.World.{Turn, World, Happens}
use Rattle.event_loop.specs.Serving.{all_taken}

abbrev pub RunsWhole : Reads → World → List Turn → World → Type 0
RunsWhole R w [] v = v ≡ w
RunsWhole R w (t ∷ turns) v = (m : World) × (t.took ≡ all_taken w t.event) × Happens R t.reading t.took w t.event m × RunsWhole R m turns v

-- the turns are these events, each at its reading
pub record AreTurns (turns : List Turn) (events : List Event) (readings : List ℕ) : Type 0 where
  pub events_are : map (λ t. t.event) turns ≡ events
  pub readings_are : map (λ t. t.reading) turns ≡ readings

-- from this world on, these events at these readings are a run, in which this is sent
abbrev pub HasRun : Reads → World → List Event → List ℕ → List SentPiece → Type 0
HasRun R w events readings sent = (turns : List Turn) × (v : World) × RunsWhole R w turns v × AreTurns turns events readings × (sent ≡ v.sends)
