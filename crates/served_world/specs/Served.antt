-- What holds of everything that a server sends and does, whatever the events were.
use Rattle.std.specs.Prelude.{◌≡◌, ℕ, ◌+◌, ◌==◌, filter, Bool, true, false, List, [], ◌∷◌, ◌++◌, Option, Some, None, MatchOption, if◌then◌else◌, ⊤}
use Rattle.std.specs.List.{flat_map, AllByRecursion}
use Rattle.outside_traits.specs.declared.link.SentPiece.{SentPiece}
use Rattle.b2_types.specs.declared.answer.AnswerOf.{AnswerOf}
use Rattle.b2_types.specs.declared.call.Call.{Call}
use Rattle.b2_types.specs.declared.upload.UploadCall.{UploadCall}
use Rattle.b2_model.specs.State.{State}
use Rattle.b2_model.specs.Body.{Body, body_of}
use Rattle.b2_model.specs.Run.{Step, asks, begins, ends, loses, passes, restarts, Progress, answer_to, step, run, of_bytes}
use Rattle.http_edge.specs.declared.head.Head.{Head}
use Rattle.http_edge.specs.Length.{is_upload}
use Rattle.conn_talk.specs.Asked.{Asked, nothing, refused, begun, complete, IsAsked, rest_of, with_more}
use Rattle.served_world.specs.Replies.{Reads, Reply, form, told, text_of}
use Rattle.served_world.specs.World.{Conn, Ended, Answered, World, at_start}

-- ---- replies

-- the step asks for the call that the whole request is
pub record IsCallOf (R : Reads) (r : Answered) (stay : Bool) (token : Option (List ℕ)) (call : Call) : Type 0 where
  pub head : Head
  pub body : List ℕ
  pub rest : List ℕ
  pub whole : IsAsked r.before r.got (complete head body rest)
  pub no_upload : is_upload head.route.name ≡ false
  pub read : R.call head body token call
  pub stays : stay ≡ head.request.stay

-- it ends the upload that the whole request is, with its body
pub record IsEndOf (R : Reads) (r : Answered) (stay : Bool) (c : ℕ) (end : Body (List ℕ)) : Type 0 where
  pub head : Head
  pub body : List ℕ
  pub rest : List ℕ
  pub token : Option (List ℕ)
  pub upload : UploadCall
  pub whole : IsAsked r.before r.got (complete head body rest)
  pub is_upload : is_upload head.route.name ≡ true
  pub read : R.upload head token upload
  pub body_is : end ≡ body_of upload body
  pub on : c ≡ r.number
  pub stays : stay ≡ head.request.stay

-- the bytes begin with this head
abbrev pub HasHead : Asked → Head → Type 0
HasHead nothing head = ⊥
HasHead (refused kind) head = ⊥
HasHead (begun first came) head = head ≡ first
HasHead (complete first body rest) head = head ≡ first

-- it begins the upload whose head came; its refusal closes the connection
pub record IsBeginOf (R : Reads) (r : Answered) (stay : Bool) (c : ℕ) (token : Option (List ℕ)) (u : UploadCall) : Type 0 where
  pub head : Head
  pub asked : Asked
  pub came : IsAsked r.before r.got asked
  pub has_head : HasHead asked head
  pub is_upload : is_upload head.route.name ≡ true
  pub read : R.upload head token u
  pub on : c ≡ r.number
  pub closes : stay ≡ false

-- the step is what the request asks for
abbrev pub IsStepFor : Reads → Answered → Bool → Step (List ℕ) → Type 0
IsStepFor R r stay (asks reading token call) = IsCallOf R r stay token call
IsStepFor R r stay (begins reading c token u) = IsBeginOf R r stay c token u
IsStepFor R r stay (ends reading c body) = IsEndOf R r stay c body
IsStepFor R r stay (loses reading c) = ⊥
IsStepFor R r stay (passes reading) = ⊥
IsStepFor R r stay (restarts reading) = ⊥

-- a step that the machine answers, and the answer
abbrev pub Exchange : Type 0
Exchange = Step (List ℕ) × AnswerOf (List ℕ)

abbrev pub exchange_of : Step (List ℕ) → Option (AnswerOf (List ℕ)) → List Exchange
exchange_of s None = []
exchange_of s (Some a) = (s, a) ∷ []

-- all steps that the machine answers, each with its answer, in order
abbrev pub exchanges : Progress (List ℕ) → List (Step (List ℕ)) → List Exchange
exchanges P [] = []
exchanges P (s ∷ steps) = exchange_of s (answer_to of_bytes P s) ++ exchanges (step of_bytes P s) steps

-- the reply is a refusal of the form, and of no step; or it is the answer to the one step
abbrev pub IsReplyTo : Reads → Answered → Reply → List Exchange → Type 0
IsReplyTo R r (form kind) mine = IsAsked r.before r.got (refused kind) × (mine ≡ [])
IsReplyTo R r (told answer stay) mine = (s : Step (List ℕ)) × IsStepFor R r stay s × (mine ≡ (s, answer) ∷ [])

-- The requests and the answered steps go together, one after the other: each step is one request's own.
abbrev pub AreReplies : Reads → List Answered → List Exchange → Type 0
AreReplies R [] all = all ≡ []
AreReplies R (r ∷ rs) all = (mine : List Exchange) × (more : List Exchange) × (all ≡ mine ++ more) × IsReplyTo R r r.reply mine × AreReplies R rs more

-- ---- the requests of a connection

abbrev pub requests_of : ℕ → List Answered → List Answered
requests_of name rs = filter (λ r. r.name == name) rs

-- The requests stand one after the other in the bytes, and so many stood before the first: each has its bytes at
-- the front, and the next one begins behind what they ask for.
abbrev pub AreCut : ℕ → List ℕ → List Answered → Type 0
AreCut before bytes [] = ⊤
AreCut before bytes (r ∷ rs) =
    (r.before ≡ before) × (asked : Asked) × (more : List ℕ) × IsAsked before r.got asked × (r.got ++ more ≡ bytes)
    × AreCut (before + 1) (rest_of (with_more asked more)) rs

-- ---- what is sent

-- the reply, where it is one of the connection of this name
abbrev pub reply_on : ℕ → Answered → List ℕ
reply_on name r = if r.name == name then text_of r.reply else []

-- the replies of a connection, joined
abbrev pub replies_on : ℕ → List Answered → List ℕ
replies_on name rs = flat_map (reply_on name) rs

abbrev pub IsFront : List ℕ → List ℕ → Type 0
IsFront xs ys = (rest : List ℕ) × (xs ++ rest ≡ ys)

-- what was sent on the connection is a front of its replies
abbrev pub SendsFront : List Answered → Conn → Type 0
SendsFront rs k = IsFront k.sent (replies_on k.name rs)

-- its requests are those of the bytes that came on it
abbrev pub AsksInOrder : List Answered → Conn → Type 0
AsksInOrder rs k = AreCut 0 k.came (requests_of k.name rs)

-- the statement, which knows nothing of events
pub record IsServed (R : Reads) (M : State (List ℕ)) (words : List ℕ) (w : World) : Type 0 where
  pub machine : w.machine ≡ run of_bytes M words w.steps
  pub replies : AreReplies R w.answered (exchanges (at_start M words) w.steps)
  pub sent : (c : ℕ) → MatchOption (w.conns c) ⊤ (SendsFront w.answered)
  pub sent_before : AllByRecursion (λ e. SendsFront w.answered e.conn) w.ended
  pub asked : (c : ℕ) → MatchOption (w.conns c) ⊤ (AsksInOrder w.answered)
  pub asked_before : AllByRecursion (λ e. AsksInOrder w.answered e.conn) w.ended

-- ---- what the link has

abbrev pub bytes_on : ℕ → SentPiece → List ℕ
bytes_on c s = if s.conn == c then s.bytes else []

abbrev pub ended_on : ℕ → Ended → List ℕ
ended_on c e = if e.number == c then e.conn.sent else []

abbrev pub now_on : Option Conn → List ℕ
now_on None = []
now_on (Some k) = k.sent

-- the link has of each number what was sent on its connections, one after the other
abbrev pub IsShown : World → Type 0
IsShown w = (c : ℕ) → flat_map (bytes_on c) w.sends ≡ flat_map (ended_on c) w.ended ++ now_on (w.conns c)
