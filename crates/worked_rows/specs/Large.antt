-- A large file from its parts.
use Rattle.std.specs.Prelude.{ℕ, List, [], ◌∷◌, Option, Some, None, codes, map}
use Rattle.b2_types.specs.declared.kinds.Mark.TheVariants as mark
use Rattle.b2_types.specs.declared.fault.Fault.{Fault}
use Rattle.b2_types.specs.declared.version.PartOf.{PartOf}
use Rattle.b2_types.specs.declared.version.VersionOf.{VersionOf}
use Rattle.b2_types.specs.declared.call.Call.TheVariants as call
use Rattle.b2_types.specs.declared.kinds.Mode.TheVariants.{Governance}
use Rattle.b2_types.specs.declared.kinds.Period.TheVariants.{Days}
use Rattle.b2_types.specs.declared.answer.AnswerOf.{AnswerOf}
use Rattle.b2_types.specs.declared.answer.AnswerOf.TheVariants as answer
use Rattle.b2_types.specs.declared.shown.Shown.TheVariants as shown
use Rattle.b2_model.specs.State.{State}
use Rattle.b2_model.specs.Version.{with_part}
use Rattle.b2_model.specs.Ask.{Outcome}
use Rattle.worked_rows.specs.Store.{Bytes, photos_1, lock_bucket, with_bucket, with_versions, start_at, upload_at, by_master, refusal}

-- ten bytes
abbrev pub ten : ℕ → Bytes
ten b = b ∷ b ∷ b ∷ b ∷ b ∷ b ∷ b ∷ b ∷ b ∷ b ∷ []

-- a part whose digest is told by one number
abbrev pub part : ℕ → Bytes → ℕ → PartOf Bytes
part number content digest = record { number = number; content = content; mark = mark.Verified; digest = digest ∷ []; stamp = 1500 }

-- a start with these parts
abbrev pub large : List (PartOf Bytes) → State Bytes
large parts = with_versions (record (start_at 1000 1 (codes "l")) { parts = parts } ∷ []) (with_bucket photos_1)

abbrev pub finished_with : State Bytes → List (List ℕ) → Outcome Bytes
finished_with M digests = by_master M 3000 (call.FinishLargeFile (record { bucket = 1; file = 1; digests = digests }))

abbrev pub fault_of : List (PartOf Bytes) → List (List ℕ) → Option Fault
fault_of parts digests = refusal (finished_with (large parts) digests).answer

-- a first part of one byte
abbrev pub small_first : Option Fault
small_first = fault_of (part 1 (97 ∷ []) 7 ∷ part 2 (ten 98) 8 ∷ []) ((7 ∷ []) ∷ (8 ∷ []) ∷ [])

abbrev pub first : PartOf Bytes
first = part 1 (ten 97) 7

abbrev pub last : PartOf Bytes
last = part 3 (ten 99) 9

-- part 2 is missing
abbrev pub with_gap : Option Fault
with_gap = fault_of (first ∷ last ∷ []) ((7 ∷ []) ∷ (9 ∷ []) ∷ [])

-- part 2 was sent and sent again
abbrev pub twice : VersionOf Bytes
twice = with_part (part 2 (ten 98) 8) (with_part (part 2 (ten 100) 5) (record (start_at 1000 1 (codes "l")) { parts = first ∷ last ∷ [] }))

abbrev pub complete : State Bytes
complete = with_versions (twice ∷ []) (with_bucket photos_1)

abbrev pub joined_file : Outcome Bytes
joined_file = finished_with complete ((7 ∷ []) ∷ (8 ∷ []) ∷ (9 ∷ []) ∷ [])

abbrev pub replaced_digest : Option Fault
replaced_digest = refusal (finished_with complete ((7 ∷ []) ∷ (5 ∷ []) ∷ (9 ∷ []) ∷ [])).answer

-- an upload is no large file
abbrev pub not_large : Option Fault
not_large = refusal (finished_with (with_versions (upload_at 1 1 (codes "l") (ten 97) ∷ []) (with_bucket photos_1)) []).answer

abbrev pub cancellation : Outcome Bytes
cancellation = by_master complete 3000 (call.CancelLargeFile (record { bucket = 1; file = 1 }))

-- the number alone names no file
abbrev pub other_bucket : Option Fault
other_bucket = refusal (by_master complete 3000 (call.CancelLargeFile (record { bucket = 2; file = 1 }))).answer

-- the parts that a listing shows: number and stamp
abbrev pub listed_parts : AnswerOf Bytes → List (ℕ × ℕ)
listed_parts (answer.Json (shown.Parts ps next)) = map (λ p. (p.number, p.stamp)) ps
listed_parts other = []

-- part 1 was sent at 1500 and again at 1700
abbrev pub sent_again : VersionOf Bytes
sent_again = with_part (record (part 1 (ten 98) 8) { stamp = 1700 }) (record (start_at 1000 1 (codes "l")) { parts = first ∷ [] })

abbrev pub parts_shown : List (ℕ × ℕ)
parts_shown = listed_parts (by_master (with_versions (sent_again ∷ []) (with_bucket photos_1)) 3000 (call.ListParts (record { bucket = 1; file = 1; start = None; max = None }))).answer

abbrev pub after_cancel : Option Fault
after_cancel = refusal (by_master cancellation.state 4000 (call.CancelLargeFile (record { bucket = 1; file = 1 }))).answer

-- the bucket has a default of one day of governance
abbrev pub by_default : Outcome Bytes
by_default = finished_with
    (with_versions (record (start_at 0 1 (codes "l")) { parts = first ∷ [] } ∷ []) (with_bucket (record lock_bucket { default = Some (record { mode = Governance; period = Days 1 }) })))
    ((7 ∷ []) ∷ [])
