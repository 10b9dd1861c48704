-- Keys of several buckets, and a key for one second.
use Rattle.std.specs.Prelude.{ℕ, true, List, [], ◌∷◌, ◌++◌, Option, Some, None, codes}
use Rattle.sha2.specs.Sha256.{sha256}
use Rattle.rule_table.specs.CapSet.{set_of}
use Rattle.rule_table.specs.declared.cap.Cap.TheVariants.{ListFiles, ListBuckets}
use Rattle.b2_types.specs.declared.kinds.ApiVersion.{ApiVersion}
use Rattle.b2_types.specs.declared.fault.Fault.{Fault}
use Rattle.b2_types.specs.declared.key.Key.{Key}
use Rattle.b2_types.specs.declared.call.Call.TheVariants as call
use Rattle.b2_types.specs.declared.answer.AnswerOf.{AnswerOf}
use Rattle.b2_types.specs.declared.answer.AnswerOf.TheVariants as answer
use Rattle.b2_types.specs.declared.shown.Shown.TheVariants as shown
use Rattle.b2_types.specs.KeyId.{key_id}
use Rattle.b2_model.specs.State.{State}
use Rattle.b2_model.specs.Ask.{Outcome}
use Rattle.worked_rows.specs.Store.{Bytes, account, master_grant, bucket_of, photos_1, with_bucket, by_token, refusal}
use Rattle.worked_rows.specs.Limited.{listing}
use Rattle.worked_rows.specs.Keys.{short, with_secret, secret_text}

-- key 1 is limited to the buckets 1 and 3
abbrev pub of_two : Key
of_two = record { num = 1; name = []; caps = set_of (ListFiles ∷ ListBuckets ∷ []); buckets = 1 ∷ 3 ∷ []; prefix = []; end = None; hash = sha256 (codes "two") }

abbrev pub three_buckets : State Bytes
three_buckets =
    let M = with_bucket photos_1 in
    record M {
      buckets = photos_1 ∷ bucket_of 2 (codes "photos-2") true ∷ bucket_of 3 (codes "photos-3") true ∷ [];
      next_bucket = 4;
      keys = M.keys ++ of_two ∷ [];
      next_key = 2;
      grants = M.grants ++ record master_grant { text = codes "two"; key = 1 } ∷ [];
    }

-- a listing by this key
abbrev pub listing_refused : ℕ → Option Fault
listing_refused bucket = refusal (by_token three_buckets 1000 (Some (codes "two")) (listing bucket [])).answer

abbrev pub authorize_under : ApiVersion → Outcome Bytes
authorize_under version =
    by_token three_buckets 1000 None (call.AuthorizeAccount (record { version = version; credentials = Some (record { id = codes "001a1b2c3d4e5f60000000001"; secret = codes "two" }) }))

-- ---- the key for one second that was made at 1000

-- the id of a new key
abbrev pub new_id : AnswerOf Bytes → Option (List ℕ)
new_id (answer.Json (shown.NewKey k)) = Some (key_id account k.key.num)
new_id other = None

abbrev pub refused_at : ℕ → Option Fault
refused_at t = refusal (by_token short.state t None (with_secret secret_text)).answer
