-- The acts that bytes bring.
use Rattle.std.specs.Prelude.{ℕ, List, [], ◌∷◌, ◌++◌, length, drop, if◌then◌else◌}
use Rattle.b2_types.specs.Fault.{plain}
use Rattle.http_edge.specs.Length.{is_upload}
use Rattle.conn_talk.specs.declared.act.Act.{Act}
use Rattle.conn_talk.specs.declared.act.Act.TheVariants as act
use Rattle.conn_talk.specs.Asked.{Asked, nothing, refused, begun, complete}

-- bytes of the body of an upload, if there are any
abbrev pub body_acts : List ℕ → List Act
body_acts [] = []
body_acts (byte ∷ bytes) = act.Body (byte ∷ bytes) ∷ []

-- the acts of bytes that ask for this, if they come at once
abbrev pub acts_of : Asked → List Act
acts_of nothing = []
acts_of (refused kind) = act.Refuse (plain kind) ∷ []
acts_of (begun head came) = act.Begin head ∷ body_acts came
acts_of (complete head body rest) =
    if is_upload head.route.name then (act.Begin head ∷ body_acts body) ++ act.End ∷ [] else act.Whole head body ∷ []

-- the acts of bytes that come after others, which asked for that much already
abbrev pub acts_after : Asked → Asked → List Act
acts_after nothing new = acts_of new
acts_after (begun head came) (begun same body) = body_acts (drop (length came) body)
acts_after (begun head came) (complete same body rest) = body_acts (drop (length came) body) ++ act.End ∷ []
acts_after other new = []

-- bytes of a body in front of acts: two acts of a body that stand side by side are one
abbrev pub with_body_first : List ℕ → List Act → List Act
with_body_first bytes [] = act.Body bytes ∷ []
with_body_first bytes (act.Body more ∷ acts) = act.Body (bytes ++ more) ∷ acts
with_body_first bytes (other ∷ acts) = act.Body bytes ∷ other ∷ acts

-- acts, with the bytes of a body joined
abbrev pub joined : List Act → List Act
joined [] = []
joined (act.Body bytes ∷ acts) = with_body_first bytes (joined acts)
joined (other ∷ acts) = other ∷ joined acts
