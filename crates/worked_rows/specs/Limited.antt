-- A key that is limited to a bucket and a prefix, the life of a token, and a key that is deleted.
use Rattle.std.specs.Prelude.{ℕ, false, List, [], ◌∷◌, ◌++◌, Option, Some, None, codes, map}
use Rattle.rule_table.specs.CapSet.{set_of}
use Rattle.rule_table.specs.declared.cap.Cap.TheVariants.{ListFiles, ReadFiles}
use Rattle.b2_types.specs.declared.fault.Fault.{Fault}
use Rattle.b2_types.specs.declared.kinds.TokenKind.TheVariants as token
use Rattle.b2_types.specs.declared.kinds.ApiVersion.TheVariants.{V3}
use Rattle.b2_types.specs.declared.key.Key.{Key}
use Rattle.b2_types.specs.declared.key.Grant.{Grant}
use Rattle.b2_types.specs.declared.call.Call.{Call}
use Rattle.b2_types.specs.declared.call.Call.TheVariants as call
use Rattle.b2_model.specs.State.{State}
use Rattle.b2_model.specs.Ask.{Outcome}
use Rattle.b2_model.specs.Run.{asks, passes, run, of_bytes}
use Rattle.worked_rows.specs.Store.{Bytes, store, master, account, photos_1, with_bucket, with_versions, upload_at, by_master, by_token, refusal, master_grant}

-- key 1: bucket 1, the prefix `logs/`
abbrev pub limited_key : Key
limited_key = record { num = 1; name = codes "logs"; caps = set_of (ListFiles ∷ ReadFiles ∷ []); buckets = 1 ∷ []; prefix = codes "logs/"; end = Some 5000000; hash = [] }

abbrev pub limited_grant : Grant
limited_grant = record { text = codes "limited"; kind = token.Account; key = 1; bucket = 0; file = 0; prefix = []; end = 86400000 }

abbrev pub key_store : State Bytes
key_store =
    let M = with_versions (upload_at 1 1 (codes "logs/a") (codes "abc") ∷ []) (with_bucket photos_1) in
    record M { keys = M.keys ++ limited_key ∷ []; next_key = 2; grants = M.grants ++ limited_grant ∷ [] }

abbrev pub its_token : Option (List ℕ)
its_token = Some (codes "limited")

abbrev pub listing : ℕ → List ℕ → Call
listing bucket prefix = call.ListFileNames (record { bucket = bucket; start = None; max = None; prefix = Some prefix; delimiter = None; start_file = None })

-- what a call at a moment is refused for
abbrev pub refused_at : ℕ → Option (List ℕ) → Call → Option Fault
refused_at t token c = refusal (by_token key_store t token c).answer

abbrev pub download : List ℕ → List ℕ → Call
download bucket name = call.DownloadFileByName (record { bucket = bucket; name = name; range = None })

-- a download by the key
abbrev pub download_refused : List ℕ → List ℕ → Option Fault
download_refused bucket name = refused_at 1000 its_token (download bucket name)

abbrev pub create : Call
create = call.CreateBucket (record { account = account; name = codes "photos-2"; public = false; info = None; lock = None; rules = None })

abbrev pub list_keys : List ℕ → Call
list_keys account = call.ListKeys (record { version = V3; account = account; max = None; start = None })

-- ---- the life of a token

-- an account token that is made at 1000
abbrev pub made_at_1000 : State Bytes
made_at_1000 = record store { grants = record master_grant { end = 86401000 } ∷ [] }

abbrev pub used_at : ℕ → Option Fault
used_at t = refusal (by_master made_at_1000 t (list_keys account)).answer

-- the same after a pass
abbrev pub used_after_pass : ℕ → List (Option Fault)
used_after_pass t = map refusal (run of_bytes made_at_1000 [] (passes t ∷ asks t master (list_keys account) ∷ [])).answers

-- ---- a key that is deleted

abbrev pub key_deletion : Outcome Bytes
key_deletion = by_master key_store 2000 (call.DeleteKey (record { version = V3; key = codes "001a1b2c3d4e5f60000000001" }))

abbrev pub after_deletion : Option Fault
after_deletion = refusal (by_token key_deletion.state 3000 its_token (listing 1 (codes "logs/"))).answer
