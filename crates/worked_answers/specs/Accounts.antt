-- Accounts and keys that are shown.
use Rattle.std.specs.Prelude.{ℕ, List, [], ◌∷◌, ◌++◌, Option, Some, None, codes}
use Rattle.sha2.specs.Sha256.{sha256}
use Rattle.rule_table.specs.declared.cap.Cap.TheVariants.{ListFiles}
use Rattle.b2_types.specs.declared.bucket.Bucket.{Bucket}
use Rattle.b2_types.specs.declared.kinds.ApiVersion.{ApiVersion}
use Rattle.b2_types.specs.declared.kinds.ApiVersion.TheVariants.{V3, V4}
use Rattle.b2_types.specs.declared.key.Key.{Key}
use Rattle.b2_types.specs.declared.call.Call.TheVariants as call
use Rattle.b2_model.specs.Ask.{Outcome}
use Rattle.worked_rows.specs.Store.{Bytes, store, account, by_master, by_token}
use Rattle.worked_rows.specs.Keys.{key_store, maker, new_key}
use Rattle.worked_rows.specs.Limited.{limited_key, key_store as limit_store}
use Rattle.worked_cases.specs.Keys.{three_buckets}

-- the id of key 1
abbrev pub first_id : List ℕ
first_id = codes "001a1b2c3d4e5f60000000001"

-- the key of bucket 1 and the prefix `logs/`, with a secret
abbrev pub secret_key : Key
secret_key = record limited_key { hash = sha256 (codes "logs") }

-- it authorizes where these buckets stand
abbrev pub limit_account : ApiVersion → List Bucket → Outcome Bytes
limit_account version buckets =
    by_token (record limit_store { keys = store.keys ++ secret_key ∷ []; buckets = buckets }) 1000 None
    (call.AuthorizeAccount (record { version = version; credentials = Some (record { id = first_id; secret = codes "logs" }) }))

-- a key of bucket 1
abbrev pub bucket_key : Outcome Bytes
bucket_key = by_master key_store 1000 (call.CreateKey (record (new_key (ListFiles ∷ []) (Some (1 ∷ []))) { version = V4 }))

-- a key of no bucket
abbrev pub free_key : Outcome Bytes
free_key = by_master key_store 1000 (call.CreateKey (record (new_key (ListFiles ∷ []) None) { version = V4 }))

-- the key of the buckets 1 and 3 is deleted
abbrev pub key_of_two : ApiVersion → Outcome Bytes
key_of_two version = by_master three_buckets 1000 (call.DeleteKey (record { version = version; key = first_id }))

-- a page of one key of two
abbrev pub keys_from : Option (List ℕ) → Outcome Bytes
keys_from start =
    by_master (record key_store { keys = key_store.keys ++ record maker { num = 2 } ∷ [] }) 1000
    (call.ListKeys (record { version = V3; account = account; max = Some 1; start = start }))

abbrev pub second_id : List ℕ
second_id = codes "001a1b2c3d4e5f60000000002"
