-- Files and parts that are shown.
use Rattle.std.specs.Prelude.{true, false, [], ◌∷◌, Option, Some, None, codes, length}
use Rattle.b2_types.specs.declared.kinds.Retention.{Retention}
use Rattle.b2_types.specs.declared.upload.DigestRule.{DigestRule}
use Rattle.b2_types.specs.declared.call.Call.TheVariants as call
use Rattle.b2_model.specs.Ask.{Outcome}
use Rattle.b2_model.specs.UploadSteps.{end}
use Rattle.worked_rows.specs.Store.{Bytes, words, photos_1, with_bucket, by_master, by_token}
use Rattle.worked_rows.specs.Uploads.{first as first_upload, upload_of, flight, body_abc}
use Rattle.worked_rows.specs.Large.{first, last, large, finished_with}
use Rattle.worked_rows.specs.Locked.{holding, governance, compliance}
use Rattle.worked_cases.specs.Types.{auto_type}
use Rattle.worked_cases.specs.Limits.{neighbours, info_of}

-- `a.txt` is uploaded, and its type is left to the store
abbrev pub upload : DigestRule → Outcome Bytes
upload digest = end length first_upload.state 2000 (flight (record (upload_of digest) { kind = auto_type })) (body_abc None) words

-- the information of a file, by a key that may read neither retentions nor holds
abbrev pub info_by_limited : Outcome Bytes
info_by_limited = by_token (neighbours true) 1000 (Some (codes "logs")) (info_of 1 1)

-- of one that is kept and held
abbrev pub info_of_held : Outcome Bytes
info_of_held = by_master (holding compliance true) 2000 (info_of 1 1)

abbrev pub large_start : Outcome Bytes
large_start =
    by_master (with_bucket photos_1) 3000
    (call.StartLargeFile (record { bucket = 1; name = codes "l.png"; kind = auto_type; info = Some ((codes "a", codes "1") ∷ []); retention = None; hold = None }))

-- part 2 is missing
abbrev pub finish_with_gap : Outcome Bytes
finish_with_gap = finished_with (large (first ∷ last ∷ [])) ((7 ∷ []) ∷ (9 ∷ []) ∷ [])

abbrev pub retention_to : Option Retention → Outcome Bytes
retention_to retention =
    by_master (holding governance false) 2000
    (call.UpdateFileRetention (record { name = codes "a"; bucket = 1; file = 1; retention = retention; bypass = Some true }))
