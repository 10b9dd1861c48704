-- What the answer to a download sends of a content (the B2 reference, b2_download_file_by_id).
use Rattle.std.specs.Prelude.{◌≡◌, ℕ, ◌+◌, ◌≤◌, List, All, Contains, length, take, drop, flat_map, unwrap_or}
use Rattle.b2_types.specs.declared.answer.Span.{Span}
use Rattle.b2_types.specs.declared.answer.ContentOf.{ContentOf}
use Rattle.b2_types.specs.declared.answer.AnswerOf.TheVariants as answer
use Rattle.b2_model.specs.State.{State}
use Rattle.b2_model.specs.Ask.{Outcome, at_moment}
use Rattle.contents_agree.specs.ContentsOf.{contents_of}

-- each piece of the content is one of the state's contents
abbrev pub StandsIn : {C : Type 0} → State C → ContentOf C → Type 0
StandsIn M x = All (Contains (contents_of M)) x.content

-- which of its bytes are sent: those of the range, or all
abbrev pub span_sent : {C : Type 0} → ContentOf C → Span
span_sent x = unwrap_or x.range (record { at = 0; len = x.file.length })

-- they lie in a content of this length
abbrev pub LiesIn : ℕ → Span → Type 0
LiesIn length span = span.at + span.len ≤ length

-- the bytes that each of the state's contents stands for are as many as its size says
abbrev pub HaveSizes : {C : Type 0} → (C → ℕ) → (C → List ℕ) → State C → Type 0
HaveSizes size bytes M = All (λ c. length (bytes c) ≡ size c) (contents_of M)

-- the bytes that are sent, where pieces stand for these bytes
abbrev pub bytes_sent : {C : Type 0} → (C → List ℕ) → ContentOf C → List ℕ
bytes_sent bytes x = take (span_sent x).len (drop (span_sent x).at (flat_map bytes x.content))

-- the content is sent, and nothing else is done: the moment alone moves, and no word is drawn
abbrev pub sending : {C : Type 0} → State C → ℕ → List ℕ → ContentOf C → Outcome C
sending M t words x = record { state = at_moment M t; answer = answer.Content x; words = words }
