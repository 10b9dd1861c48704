-- Downloads, ranges and hiding.
use Rattle.std.specs.Prelude.{ℕ, true, false, List, [], ◌∷◌, ◌++◌, Option, Some, None, codes}
use Rattle.rule_table.specs.declared.fault.FaultKind.TheVariants.{Wrong}
use Rattle.b2_types.specs.declared.kinds.TokenKind.TheVariants as token
use Rattle.b2_types.specs.declared.fault.Fault.{Fault}
use Rattle.b2_types.specs.declared.fault.Target.TheVariants.{Nothing}
use Rattle.b2_types.specs.declared.call.ByteRange.{ByteRange}
use Rattle.b2_types.specs.declared.call.Call.{Call}
use Rattle.b2_types.specs.declared.call.Call.TheVariants as call
use Rattle.rule_table.specs.declared.call.CallName.TheVariants as calls
use Rattle.b2_types.specs.declared.answer.AnswerOf.{AnswerOf}
use Rattle.b2_types.specs.declared.answer.AnswerOf.TheVariants as answer
use Rattle.b2_types.specs.declared.answer.Span.{Span}
use Rattle.b2_types.specs.Fault.{with_word}
use Rattle.b2_model.specs.State.{State}
use Rattle.b2_model.specs.Ask.{Outcome}
use Rattle.b2_model.specs.Version.{marker}
use Rattle.worked_rows.specs.Store.{Bytes, master, master_grant, bucket_of, photos_1, with_bucket, with_versions, upload_at, start_at, by_master, by_token, refusal}

-- `a.txt` is `abc`, `h` is hidden, `l` was started
abbrev pub holding : State Bytes
holding = with_versions (upload_at 1 1 (codes "a.txt") (codes "abc") ∷ upload_at 2 2 (codes "h") [] ∷ marker 1 3 (codes "h") 3 ∷ start_at 4 4 (codes "l") ∷ []) (with_bucket photos_1)

abbrev pub public : State Bytes
public = record holding { buckets = record photos_1 { public = true } ∷ []; grants = [] }

-- the range that is sent, where a content is
abbrev pub sent_range : AnswerOf Bytes → Option (Option Span)
sent_range (answer.Content c) = Some c.range
sent_range other = None

-- so many bytes from this place on
abbrev pub span : ℕ → ℕ → Option (Option Span)
span at len = Some (Some (record { at = at; len = len }))

abbrev pub by_name : List ℕ → Option ByteRange → Call
by_name name range = call.DownloadFileByName (record { bucket = codes "Photos-1"; name = name; range = range })

abbrev pub range_sent : Option ByteRange → Option (Option Span)
range_sent range = sent_range (by_master holding 1000 (by_name (codes "a.txt") range)).answer

abbrev pub fault_of : State Bytes → Option (List ℕ) → Call → Option Fault
fault_of M token c = refusal (by_token M 1000 token c).answer

-- a range of `a.txt`
abbrev pub range_refused : ByteRange → Option Fault
range_refused range = fault_of holding master (by_name (codes "a.txt") (Some range))

abbrev pub by_id : ℕ → Call
by_id file = call.DownloadFileById (record { bucket = 1; file = file; range = None })

abbrev pub hide : List ℕ → Outcome Bytes
hide name = by_master holding 1000 (call.HideFile (record { bucket = 1; name = name }))

abbrev pub bad_name : Fault
bad_name = with_word Wrong (codes "fileName")

-- a download path whose name doesn't read
abbrev pub bad_path : List ℕ → Call
bad_path bucket = call.Bad (record { name = calls.DownloadFileByName; target = Nothing; bucket = Some bucket; fault = bad_name })

-- a download token for names that begin with `a`
abbrev pub share_store : State Bytes
share_store = record holding { grants = holding.grants ++ record master_grant { text = codes "shared"; kind = token.Download; bucket = 1; prefix = codes "a" } ∷ [] }

abbrev pub share_token : Option (List ℕ)
share_token = Some (codes "shared")

abbrev pub share_refused : Call → Option Fault
share_refused c = fault_of share_store share_token c

abbrev pub other_bucket : Call
other_bucket = call.DownloadFileByName (record { bucket = codes "photos-2"; name = codes "a.txt"; range = None })

abbrev pub listing : Call
listing = call.ListFileNames (record { bucket = 1; start = None; max = None; prefix = Some (codes "a"); delimiter = None; start_file = None })

-- version 5 stands in bucket 2, which is private, beside the public bucket 1
abbrev pub two_buckets : State Bytes
two_buckets = record public {
  buckets = record photos_1 { public = true } ∷ bucket_of 2 (codes "photos-2") false ∷ [];
  versions = record (upload_at 1 5 (codes "b") (codes "b")) { bucket = 2 } ∷ [];
}
