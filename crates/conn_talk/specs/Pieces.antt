-- Pieces of a request that come one after the other, with no other event of their connection between them.
use Rattle.std.specs.Prelude.{◌≡◌, ℕ, List, [], ◌∷◌, ◌++◌}
use Rattle.conn_talk.specs.declared.act.Act.{Act}
use Rattle.conn_talk.specs.Asked.{Asked, IsAsked}
use Rattle.conn_talk.specs.Acts.{acts_after}

-- after these bytes, of which that was told, the pieces bring the acts, and in the end so much was told
abbrev pub AreRead : ℕ → List ℕ → Asked → List (List ℕ) → List Act → Asked → Type 0
AreRead before got told [] acts last = (acts ≡ []) × (last ≡ told)
AreRead before got told (piece ∷ pieces) acts last =
    (new : Asked) × (later : List Act) × IsAsked before (got ++ piece) new × (acts ≡ acts_after told new ++ later) × AreRead before (got ++ piece) new pieces later last
