-- Calls on keys (the B2 reference, b2_authorize_account, b2_create_key, b2_delete_key, b2_list_keys).
use Rattle.std.specs.Prelude.{ℕ, Bool, false, not, ◌&&◌, ◌||◌, ◌==◌, ◌+◌, ◌*◌, nat_lt, List, [], ◌∷◌, ◌++◌, Option, Some, None, if◌then◌else◌, unwrap_or, option_map, option_and_then, length, drop, map, find, fold, codes, bytes_eq, slice_index}
use Rattle.std.specs.Option.{is_none}
use Rattle.std.specs.List.{list_any, list_all}
use Rattle.std.specs.Char.{digit_value}
use Rattle.sha2.specs.Sha256.{sha256}
use Rattle.b2_base.specs.Digits.{sixteen_digits}
use Rattle.rule_table.specs.Cap.{cap_order}
use Rattle.rule_table.specs.declared.cap.Cap.TheVariants.{ListKeys, WriteKeys, DeleteKeys, WriteBuckets, DeleteBuckets}
use Rattle.rule_table.specs.declared.cap_set.CapSet.{CapSet}
use Rattle.rule_table.specs.CapSet.{has}
use Rattle.rule_table.specs.declared.fault.FaultKind.TheVariants.{P2, NoBucket, NoKey, KeyCaps, KeyLimit, Master, Cap, ManyBuckets}
use Rattle.b2_types.specs.declared.kinds.TokenKind.TheVariants as token
use Rattle.b2_types.specs.declared.key.Key.{Key}
use Rattle.b2_types.specs.declared.key.Grant.{Grant}
use Rattle.b2_types.specs.declared.call.Authorize.{Authorize}
use Rattle.b2_types.specs.declared.call.CreateKey.{CreateKey}
use Rattle.b2_types.specs.declared.call.DeleteKey.{DeleteKey}
use Rattle.b2_types.specs.declared.call.ListKeys.{ListKeys as ListKeysCall}
use Rattle.b2_types.specs.declared.kinds.ApiVersion.{ApiVersion}
use Rattle.b2_types.specs.declared.kinds.ApiVersion.TheVariants as version
use Rattle.b2_types.specs.declared.answer.AnswerOf.TheVariants as answer
use Rattle.b2_types.specs.declared.record.ChangeOf.TheVariants as change
use Rattle.b2_types.specs.declared.shown.Shown.TheVariants as shown
use Rattle.b2_model.specs.Kinds.{day, later}
use Rattle.b2_model.specs.Checks.{Check, check, some_and}
use Rattle.b2_model.specs.State.{State, bucket_at}
use Rattle.b2_types.specs.KeyId.{key_id}
use Rattle.b2_model.specs.Lists.{is_empty}
use Rattle.b2_model.specs.Policy.{key_by}
use Rattle.b2_model.specs.Pages.{keys_page}
use Rattle.b2_model.specs.Shown.{shown_account, shown_key}
use Rattle.b2_model.specs.Plan.{Plan, shows, writes, grants, or_absent, no_serial, number_end, new_token}

-- a new account token of a key
abbrev pub account_grant : {C : Type 0} → State C → ℕ → List ℕ → Key → Grant
account_grant M t words k = record { text = new_token M words; kind = token.Account; key = k.num; bucket = 0; file = 0; prefix = []; end = later t day }

-- version 3 has one bucket of a key at most
abbrev pub many_buckets : ApiVersion → Key → Check
many_buckets version.V3 k = check ManyBuckets (nat_lt 1 (length k.buckets))
many_buckets version.V4 k = check ManyBuckets false

abbrev pub authorize_plan : {C : Type 0} → ApiVersion → State C → ℕ → List ℕ → Key → Plan C
authorize_plan v M t words k = grants
    (many_buckets v k ∷ no_serial M ∷ [])
    (account_grant M t words k)
    (shown.Account (shown_account v M k (new_token M words)))

abbrev pub authorize : {C : Type 0} → State C → ℕ → List ℕ → Authorize → Plan C
authorize M t words c = or_absent P2 (authorize_plan c.version M t words) (option_and_then (key_by M) c.credentials)

-- a key that is limited to a bucket doesn't get these
abbrev pub is_unlimited_cap : CapSet → Bool
is_unlimited_cap caps = list_any (has caps) (ListKeys ∷ WriteKeys ∷ DeleteKeys ∷ WriteBuckets ∷ DeleteBuckets ∷ [])

abbrev pub lies_in : CapSet → CapSet → Bool
lies_in caps of = list_all (λ c. not (has caps c) || has of c) cap_order

-- the secret's text: four words
abbrev pub secret_text : List ℕ → List ℕ
secret_text words =
    codes "K001" ++ sixteen_digits (slice_index words 0) ++ sixteen_digits (slice_index words 1) ++ sixteen_digits (slice_index words 2) ++ sixteen_digits (slice_index words 3)

abbrev pub new_key : {C : Type 0} → State C → ℕ → List ℕ → CreateKey → Key
new_key M t words c = record {
  num = M.next_key;
  name = c.name;
  caps = c.caps;
  buckets = unwrap_or c.buckets [];
  prefix = unwrap_or c.prefix [];
  end = option_map (λ seconds. later t (seconds * 1000)) c.duration;
  hash = sha256 (secret_text words);
}

abbrev pub create_key : {C : Type 0} → State C → Option Key → ℕ → List ℕ → CreateKey → Plan C
create_key M key t words c = record {
  exists = check NoBucket (list_any (λ n. is_none (bucket_at M n)) (unwrap_or c.buckets [])) ∷ [];
  own =
      check KeyCaps (some_and (λ k. not (lies_in c.caps k.caps)) key)
      ∷ check KeyLimit (not (is_empty (unwrap_or c.buckets [])) && is_unlimited_cap c.caps)
      ∷ check Cap (M.next_key == number_end)
      ∷ [];
  words = 4;
  grant = None;
  change = Some (change.KeyMake (new_key M t words c));
  answer = answer.Json (shown.NewKey (record { key = shown_key c.version M.settings (new_key M t words c); secret = secret_text words }));
}

-- the key of this id
abbrev pub key_of_id : {C : Type 0} → State C → List ℕ → Option Key
key_of_id M id = find (λ k. bytes_eq (key_id M.settings.account k.num) id) M.keys

abbrev pub drop_key : {C : Type 0} → ApiVersion → State C → Key → Plan C
drop_key v M k = writes (check Master (k.num == 0) ∷ []) (change.KeyDrop k.num) (shown.Key (shown_key v M.settings k))

abbrev pub delete_key : {C : Type 0} → State C → DeleteKey → Plan C
delete_key M c = or_absent NoKey (drop_key c.version M) (key_of_id M c.key)

-- the number of an id: 0 of an account's, else that of its last ten digits
abbrev pub key_number : List ℕ → ℕ
key_number id = if length id == 12 then 0 else fold (λ n digit. 16 * n + digit_value digit) 0 (drop 15 id)

abbrev pub list_keys : {C : Type 0} → State C → ListKeysCall → Plan C
list_keys M c =
    let page = keys_page M (unwrap_or (option_map key_number c.start) 0) c.max in
    shows [] (shown.Keys (map (shown_key c.version M.settings) page.rows) (option_map (λ k. key_id M.settings.account k.num) page.next))
