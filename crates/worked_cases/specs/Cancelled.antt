-- Calls on a large file that was cancelled.
use Rattle.std.specs.Prelude.{List, [], ◌∷◌, Option, Some, None, codes, map, length}
use Rattle.b2_types.specs.declared.fault.Fault.{Fault}
use Rattle.b2_types.specs.declared.call.Call.{Call}
use Rattle.b2_types.specs.declared.call.Call.TheVariants as call
use Rattle.b2_types.specs.declared.upload.UploadCall.TheVariants as upload
use Rattle.b2_model.specs.State.{State}
use Rattle.b2_model.specs.UploadSteps.{begin, end}
use Rattle.worked_rows.specs.Store.{Bytes, words, id_in, master_grant, by_master, refusal}
use Rattle.worked_rows.specs.Uploads.{body_abc}
use Rattle.worked_rows.specs.Ends.{with_start, part_token, part_upload, part_flight}

-- the start 1, whose part URL was given and on which a part is under way, is cancelled
abbrev pub after_cancel : State Bytes
after_cancel =
    let M = record with_start { grants = master_grant ∷ with_start.grants; flights = part_flight ∷ [] } in
    (by_master M 3000 (call.CancelLargeFile (record { bucket = 1; file = 1 }))).state

abbrev pub later_calls : List Call
later_calls =
    call.GetUploadPartUrl (record { bucket = 1; file = 1 })
    ∷ call.ListParts (record { bucket = 1; file = 1; start = None; max = None })
    ∷ call.FinishLargeFile (record { bucket = 1; file = 1; digests = [] })
    ∷ call.CancelLargeFile (record { bucket = 1; file = 1 })
    ∷ call.GetFileInfo (record { bucket = 1; file = 1 })
    ∷ call.DownloadFileById (record { bucket = 1; file = 1; range = None })
    ∷ call.DeleteFileVersion (record { name = codes "l"; bucket = 1; file = 1; bypass = None })
    ∷ call.CopyPart (record { source = id_in 2; bucket = 1; file = 1; number = 1; range = None })
    ∷ []

abbrev pub refusals : List (Option Fault)
refusals = map (λ c. refusal (by_master after_cancel 4000 c).answer) later_calls

-- a part is begun on its URL
abbrev pub begin_refused : Option Fault
begin_refused = (begin after_cancel 4000 2 (Some part_token) (upload.Part (part_upload 1))).fault

-- the part that was under way ends
abbrev pub end_refused : Option Fault
end_refused = refusal (end length after_cancel 4000 part_flight (body_abc None) words).answer
