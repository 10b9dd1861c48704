-- What answers requests: the version machine, one step a request, and two an upload.
use Rattle.std.specs.Prelude.{◌≡◌, ◌<◌, ◌^◌, ◌==◌, ℕ, nat_eq, Bool, true, false, List, [], ◌++◌, length, Option, None, Some, option_map, ⊤, if◌then◌else◌}
use Rattle.std.specs.Map.{update}
use Rattle.b2_types.specs.declared.call.Call.{Call}
use Rattle.b2_types.specs.declared.upload.UploadCall.{UploadCall}
use Rattle.b2_types.specs.declared.answer.AnswerOf.{AnswerOf}
use Rattle.b2_types.specs.declared.answer.AnswerOf.TheVariants as answer
use Rattle.b2_types.specs.Fault.{plain}
use Rattle.b2_model.specs.State.{State}
use Rattle.b2_model.specs.Body.{body_of}
use Rattle.b2_model.specs.Run.{Progress, Step, asks, begins, ends, step, answer_to, of_bytes}
use Rattle.call_paths.specs.Path.{IsRouted}
use Rattle.http_edge.specs.declared.head.Head.{Head}
use Rattle.http_edge.specs.Length.{is_upload}
use Rattle.http_edge.specs.Reply.{reply_of}
use Rattle.conn_talk.specs.declared.act.Act.{Act}
use Rattle.conn_talk.specs.declared.act.Act.TheVariants as act
use Rattle.conn_talk.specs.declared.pending.Pending.{Pending}
use Rattle.conn_talk.specs.Talk.{size_of}
use Rattle.served_world.specs.Replies.{Reads}
use Rattle.request_acts.specs.declared.replies.Reply.{Reply}

-- which call a request with this head and this body is, and which token it gives
abbrev pub ReadsCall : Type 1
ReadsCall = Head → List ℕ → Option (List ℕ) → Call → Type 0

-- which upload a request with this head is, and which token it gives
abbrev pub ReadsUpload : Type 1
ReadsUpload = Head → Option (List ℕ) → UploadCall → Type 0

abbrev pub reads : ReadsCall → ReadsUpload → Reads
reads call upload = record { call = call; upload = upload }

-- the request is for a call that is served
abbrev pub IsServedHead : Head → Type 0
IsServedHead head = IsRouted head.request.method head.request.path head.route

-- ---- the machine, the uploads under way and the contents that are read

-- an upload that began, what came of its body, and how long its head says that the body is
pub record Upload : Type 0 where
  pub call : UploadCall
  pub came : List ℕ
  pub length : ℕ

-- the upload of each connection
abbrev pub Uploads : Type 0
Uploads = ℕ → Option Upload

abbrev pub none_under_way : Uploads
none_under_way c = None

-- the content that is read for each connection: no byte where none is read
abbrev pub Contents : Type 0
Contents = ℕ → List ℕ

abbrev pub none_read : Contents
none_read c = []

-- this content is read for the connection from now on
abbrev pub with_content : Contents → ℕ → List ℕ → Contents
with_content outs c content d = if nat_eq c d then content else outs d

-- what answers is the machine at this state; these words are left, these uploads are under way, and these contents
-- are read
abbrev pub At : Type 1
At = State (List ℕ) → List ℕ → Uploads → Contents → Type 0

-- more of the body of the connection's upload came, where one is under way
abbrev pub with_bytes : List ℕ → Option Upload → Option Upload
with_bytes bytes up = option_map (λ (u : Upload). record u { came = u.came ++ bytes }) up

abbrev pub with_piece : Uploads → ℕ → List ℕ → Uploads
with_piece ups c bytes = update nat_eq ups c (with_bytes bytes (ups c))

-- the upload whose body came whole
abbrev pub whole_of : Option Upload → Option Upload
whole_of None = None
whole_of (Some u) = if length u.came == u.length then Some u else None

-- it is at the machine after the step, with these uploads and these contents
abbrev pub IsAfter : At → Progress (List ℕ) → Step (List ℕ) → Uploads → Contents → Type 0
IsAfter now P s ups outs = now (step of_bytes P s).state (step of_bytes P s).words ups outs

-- ---- answers

-- The reply is what the machine answers to the request: one step of its own. Behind its text stands the content
-- that is read for the connection from then on.
pub record IsAnswer (call : ReadsCall) (now : At) (ups : Uploads) (outs : Contents) (P : Progress (List ℕ)) (reading c : ℕ) (head : Head) (body : List ℕ) (reply : Reply) : Type 0 where
  pub token : Option (List ℕ)
  pub asked : Call
  pub told : AnswerOf (List ℕ)
  pub content : List ℕ
  pub read : call head body token asked
  pub answers : answer_to of_bytes P (asks reading token asked) ≡ Some told
  pub after : IsAfter now P (asks reading token asked) ups (with_content outs c content)
  pub len_is : reply.len ≡ length content
  pub text_is : reply.text ++ content ≡ reply_of told head.request.stay

-- the upload of a connection after one was to begin on it: one that was under way stays, and one that is refused
-- never is
abbrev pub begun_on : Option Upload → ℕ → UploadCall → Option (AnswerOf (List ℕ)) → Option Upload
begun_on (Some old) length u told = Some old
begun_on None length u (Some told) = None
begun_on None length u None = Some (record { call = u; came = []; length = length })

abbrev pub uploads_after : Uploads → ℕ → ℕ → UploadCall → Option (AnswerOf (List ℕ)) → Uploads
uploads_after ups c length u told = update nat_eq ups c (begun_on (ups c) length u told)

-- The machine begins the upload; where it refuses it, the text is the refusal, with which the connection closes.
pub record IsBegun (upload : ReadsUpload) (now : At) (ups : Uploads) (outs : Contents) (P : Progress (List ℕ)) (reading c : ℕ) (head : Head) (refused : Option (List ℕ)) : Type 0 where
  pub token : Option (List ℕ)
  pub call : UploadCall
  pub told : Option (AnswerOf (List ℕ))
  pub read : upload head token call
  pub answers : answer_to of_bytes P (begins reading c token call) ≡ told
  pub after : IsAfter now P (begins reading c token call) (uploads_after ups c head.request.length call told) outs
  pub text_is : refused ≡ option_map (λ a. reply_of a false) told

-- The machine ends the upload with the body that came, and the text is what it answers.
pub record IsEnded (now : At) (ups : Uploads) (outs : Contents) (P : Progress (List ℕ)) (reading c : ℕ) (stay : Bool) (text : Option (List ℕ)) (u : Upload) : Type 0 where
  pub told : AnswerOf (List ℕ)
  pub answers : answer_to of_bytes P (ends reading c (body_of u.call u.came)) ≡ Some told
  pub after : IsAfter now P (ends reading c (body_of u.call u.came)) (update nat_eq ups c None) outs
  pub text_is : text ≡ Some (reply_of told stay)

-- the answer sends no content
abbrev pub IsText : AnswerOf (List ℕ) → Type 0
IsText (answer.Json shown) = ⊤
IsText (answer.Content c) = ⊥
IsText (answer.Refused fault) = ⊤

-- ---- acts

-- an act is of a request that is served
abbrev pub IsServedAct : Act → Type 0
IsServedAct (act.Whole head body) = IsServedHead head
IsServedAct (act.Begin head) = IsServedHead head × (is_upload head.route.name ≡ true)
IsServedAct (act.Body bytes) = ⊤
IsServedAct act.End = ⊤
IsServedAct (act.Refuse fault) = fault ≡ plain fault.kind

-- a reply of which nothing was sent, with a content of this length behind its text
abbrev pub pending : List ℕ → ℕ → Bool → Pending (List ℕ)
pending text len stay = record { text = text; body = None; len = len; sent = 0; stay = stay }

pub record IsUnsent (p : Pending (List ℕ)) : Type 0 where
  pub some : 0 < length p.text
  pub none_sent : p.sent ≡ 0
  pub small : size_of p < 2 ^ 64
