-- Object Lock: deletions and changes of retention.
use Rattle.std.specs.Prelude.{ℕ, Bool, true, false, List, [], ◌∷◌, ◌++◌, Option, Some, None, codes}
use Rattle.rule_table.specs.declared.cap.Cap.TheVariants.{DeleteFiles, WriteFileRetentions}
use Rattle.rule_table.specs.CapSet.{set_of}
use Rattle.b2_types.specs.declared.kinds.Mode.TheVariants.{Governance, Compliance}
use Rattle.b2_types.specs.declared.kinds.Retention.{Retention}
use Rattle.b2_types.specs.declared.fault.Fault.{Fault}
use Rattle.b2_types.specs.declared.key.Key.{Key}
use Rattle.b2_types.specs.declared.call.Call.TheVariants as call
use Rattle.b2_model.specs.State.{State}
use Rattle.b2_model.specs.Ask.{Outcome}
use Rattle.worked_rows.specs.Store.{Bytes, master_grant, lock_bucket, photos_1, with_bucket, with_versions, upload_at, by_master, by_token, refusal}

abbrev pub governance : Option Retention
governance = Some (record { mode = Governance; until = 9000 })

abbrev pub compliance : Option Retention
compliance = Some (record { mode = Compliance; until = 9000 })

-- key 1 may delete files and change retentions, and may not bypass governance
abbrev pub plain_key : Key
plain_key = record { num = 1; name = []; caps = set_of (DeleteFiles ∷ WriteFileRetentions ∷ []); buckets = []; prefix = []; end = None; hash = [] }

abbrev pub plain_token : Option (List ℕ)
plain_token = Some (codes "plain")

-- one file with this retention and hold
abbrev pub holding : Option Retention → Bool → State Bytes
holding retention hold =
    let M = with_versions (record (upload_at 1000 1 (codes "a") []) { retention = retention; hold = hold } ∷ []) (with_bucket lock_bucket) in
    record M { keys = M.keys ++ plain_key ∷ []; next_key = 2; grants = M.grants ++ record master_grant { text = codes "plain"; key = 1 } ∷ [] }

abbrev pub deleted_by : Option (List ℕ) → Option Bool → Option Retention → Bool → Outcome Bytes
deleted_by token bypass retention hold =
    by_token (holding retention hold) 2000 token (call.DeleteFileVersion (record { name = codes "a"; bucket = 1; file = 1; bypass = bypass }))

abbrev pub refused_by : Option (List ℕ) → Option Bool → Option Retention → Bool → Option Fault
refused_by token bypass retention hold = refusal (deleted_by token bypass retention hold).answer

-- the retention is changed from one to another
abbrev pub change_refused : Option Bool → Option Retention → Option Retention → Option Fault
change_refused bypass old new =
    refusal (by_token (holding old false) 2000 plain_token (call.UpdateFileRetention (record { name = codes "a"; bucket = 1; file = 1; retention = new; bypass = bypass }))).answer

abbrev pub until : ℕ → Option Retention
until t = Some (record { mode = Governance; until = t })

abbrev pub strict_until : ℕ → Option Retention
strict_until t = Some (record { mode = Compliance; until = t })

abbrev pub without_lock : Option Fault
without_lock =
    refusal (by_master (with_versions (upload_at 1000 1 (codes "a") [] ∷ []) (with_bucket photos_1)) 2000
    (call.UpdateFileLegalHold (record { name = codes "a"; bucket = 1; file = 1; hold = true }))).answer

abbrev pub other_name : Option Fault
other_name = refusal (by_master (holding None false) 2000 (call.DeleteFileVersion (record { name = codes "b"; bucket = 1; file = 1; bypass = None }))).answer
