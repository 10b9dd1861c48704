-- The script of a workload.
use Rattle.std.specs.Prelude.{ℕ, zero, suc, ◌+◌, Bool, true, false, List, [], ◌∷◌, ◌++◌, length, map, filter}
use Rattle.outside_traits.specs.declared.link.Event.TheVariants as event
use Rattle.event_script.specs.Line.{Line, reading, random, opening, piece, ready, stop, says}
use Rattle.event_script.specs.declared.line.Said.{Said}
use Rattle.event_script.specs.declared.line.Said.TheVariants as said
use Rattle.workload.specs.Sequence.{next_number, drawn}
use Rattle.workload.specs.Requests.{authorize, create_bucket, get_upload_url, request}

-- a connection of this number on which these bytes come, and which then can take the reply
abbrev pub exchange : ℕ → List ℕ → List Line
exchange conn bytes = opening conn ∷ piece conn bytes ∷ ready conn ∷ []

-- the random words for two tokens; then the account is authorized, the bucket is made, and an upload URL is got
abbrev pub setup : List Line
setup =
    random 1 ∷ random 2 ∷ random 3 ∷ random 4
    ∷ (exchange 1 authorize ++ (exchange 2 create_bucket ++ exchange 3 get_upload_url))

-- the request of this number, at its own moment and on its own connection
abbrev pub turn : ℕ → ℕ → List Line
turn i x = reading i ∷ exchange (i + 3) (request i (drawn x))

-- so many requests, after this number of the sequence, of which so many came
abbrev pub turns_after : ℕ → ℕ → ℕ → List Line
turns_after x i zero = []
turns_after x i (suc n) = turn (i + 1) (next_number x) ++ turns_after (next_number x) (i + 1) n

-- the workload of this seed with so many requests
abbrev pub workload : ℕ → ℕ → List Line
workload seed n = setup ++ (turns_after seed 0 n ++ stop ∷ [])

-- a connection opens
abbrev pub is_open : Said → Bool
is_open (said.Happens (event.Open conn)) = true
is_open what = false

-- how many connections the lines open
abbrev pub opened_in : List Line → ℕ
opened_in lines = length (filter is_open (map says lines))
