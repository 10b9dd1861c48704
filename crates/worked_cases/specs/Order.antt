-- Calls that more than one rule refuses.
use Rattle.std.specs.Prelude.{ℕ, List, [], ◌∷◌, ◌++◌, Option, Some, None, codes}
use Rattle.rule_table.specs.CapSet.{set_of}
use Rattle.rule_table.specs.declared.cap.Cap.TheVariants.{ListBuckets, ListFiles, WriteFiles}
use Rattle.b2_types.specs.declared.kinds.TokenKind.TheVariants as token
use Rattle.b2_types.specs.declared.kinds.ApiVersion.TheVariants.{V3}
use Rattle.b2_types.specs.declared.fault.Fault.{Fault}
use Rattle.b2_types.specs.declared.key.Key.{Key}
use Rattle.b2_types.specs.declared.key.Grant.{Grant}
use Rattle.b2_types.specs.declared.call.Call.{Call}
use Rattle.b2_types.specs.declared.call.Call.TheVariants as call
use Rattle.b2_model.specs.State.{State}
use Rattle.worked_rows.specs.Store.{Bytes, master_grant, photos_1, with_bucket, by_token, refusal}

-- key 1 ends at 1000, and is limited to bucket 1 and the prefix `logs/`
abbrev pub short_key : Key
short_key = record { num = 1; name = []; caps = set_of (ListBuckets ∷ ListFiles ∷ WriteFiles ∷ []); buckets = 1 ∷ []; prefix = codes "logs/"; end = Some 1000; hash = [] }

-- a token of this text and key that ends at the moment
abbrev pub token_of : List ℕ → ℕ → ℕ → Grant
token_of text key end = record master_grant { text = text; key = key; end = end }

-- tokens of key 1 and of a key that is gone, and a download token
abbrev pub crowd : State Bytes
crowd =
    let M = with_bucket photos_1 in
    record M {
      keys = M.keys ++ short_key ∷ [];
      grants =
          token_of (codes "good") 1 9000
          ∷ token_of (codes "ended") 1 1000
          ∷ token_of (codes "gone") 9 1000
          ∷ record (token_of (codes "share") 1 1000) { kind = token.Download; bucket = 1 }
          ∷ record (token_of (codes "lost") 9 1000) { kind = token.Download; bucket = 1 }
          ∷ [];
    }

-- what is told first of a call with this token
abbrev pub fault_of : State Bytes → ℕ → Option (List ℕ) → Call → Option Fault
fault_of M t token c = refusal (by_token M t token c).answer

-- with the good token, before the key ends
abbrev pub fault_of_good : State Bytes → Call → Option Fault
fault_of_good M c = fault_of M 999 (Some (codes "good")) c

abbrev pub names_of : ℕ → List ℕ → Call
names_of bucket prefix = call.ListFileNames (record { bucket = bucket; start = None; max = None; prefix = Some prefix; delimiter = None; start_file = None })

abbrev pub names_of_first : Call
names_of_first = names_of 1 (codes "l")

-- the key lacks the capability, and the account is another
abbrev pub keys_of_other : Call
keys_of_other = call.ListKeys (record { version = V3; account = codes "000000000000"; max = None; start = None })

-- the account is another, and so is the bucket
abbrev pub buckets_of_other : Call
buckets_of_other = call.ListBuckets (record { account = codes "000000000000"; bucket = Some 2; name = None; types = None })

-- no version has the name
abbrev pub hide : List ℕ → Call
hide name = call.HideFile (record { bucket = 1; name = name })

abbrev pub without_buckets : State Bytes
without_buckets = record crowd { buckets = [] }
