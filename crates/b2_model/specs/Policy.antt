-- The policy: ten rules in their order, and a denial is the first that fails (the B2 reference,
-- "Application keys" and "API calls").
use Rattle.std.specs.Prelude.{ℕ, Bool, not, ◌&&◌, ◌||◌, ◌==◌, nat_le, List, [], ◌∷◌, ◌++◌, Option, Some, None, bytes_eq, map, find, option_and_then, unwrap_or, option_map, if◌then◌else◌}
use Rattle.std.specs.Option.{is_none}
use Rattle.std.specs.List.{list_any, list_all, flat_map}
use Rattle.std.specs.Char.{to_ascii_lowercase}
use Rattle.sha2.specs.Sha256.{sha256}
use Rattle.rule_table.specs.declared.cap.Cap.{Cap}
use Rattle.rule_table.specs.CapSet.{has}
use Rattle.rule_table.specs.declared.fault.FaultKind.TheVariants.{P1, P2, P3, P4, P5, P6, P7, P8, P9, P10}
use Rattle.name_rules.specs.Folder.{begins_with}
use Rattle.b2_types.specs.declared.kinds.TokenKind.{TokenKind}
use Rattle.b2_types.specs.declared.bucket.Bucket.{Bucket}
use Rattle.b2_types.specs.declared.key.Key.{Key}
use Rattle.b2_types.specs.declared.key.Grant.{Grant}
use Rattle.b2_types.specs.declared.call.Call.{Call}
use Rattle.b2_types.specs.declared.call.Credentials.{Credentials}
use Rattle.b2_types.specs.declared.upload.UploadCall.{UploadCall}
use Rattle.b2_types.specs.declared.need_table.Thing.{Thing}
use Rattle.b2_types.specs.declared.need_table.Thing.TheVariants as thing
use Rattle.b2_types.specs.KeyId.{key_id}
use Rattle.b2_types.specs.Need.{Need, need, name_of, upload_name, needed_caps, upload_caps}
use Rattle.b2_types.specs.Naming.{Named, fields_of, upload_fields, Place, of_number, filtered, by_name, places}
use Rattle.b2_model.specs.Kinds.{token_place, is_download}
use Rattle.b2_model.specs.Checks.{Check, check, some_and}
use Rattle.b2_model.specs.Lists.{is_empty, is_among}
use Rattle.b2_model.specs.State.{State, key_at, bucket_at}
use Rattle.b2_model.specs.Rows.{version_at}
use Rattle.b2_model.specs.LiveGrant.{is_before_end, grant_at}

-- who asks: the grant of the token that was given, and its key
pub record Caller : Type 0 where
  pub token : Option (List ℕ)
  pub grant : Option Grant
  pub key : Option Key

abbrev pub caller_of : {C : Type 0} → State C → Option (List ℕ) → Caller
caller_of M token = record {
  token = token;
  grant = option_and_then (grant_at M) token;
  key = option_and_then (λ g. key_at M g.key) (option_and_then (grant_at M) token);
}

abbrev pub is_of_kinds : List TokenKind → Grant → Bool
is_of_kinds kinds g = list_any (λ kind. token_place kind == token_place g.kind) kinds

-- the token's rules, for a call that takes these kinds and this path
abbrev pub token_rules : ℕ → List TokenKind → (Grant → Bool) → Caller → List Check
token_rules t kinds fits who =
    check P1 (is_none who.token)
    ∷ check P2 (is_none who.grant)
    ∷ check P3 (some_and (λ g. not (is_of_kinds kinds g && fits g)) who.grant)
    ∷ check P4 (is_none who.key)
    ∷ check P5 (some_and (λ g. nat_le g.end t) who.grant)
    ∷ check P6 (some_and (λ k. not (is_before_end t k.end)) who.key)
    ∷ []

-- the key of this id, where its secret is this one; a secret is known by its SHA-256 (FIPS 180-4)
abbrev pub key_by : {C : Type 0} → State C → Credentials → Option Key
key_by M c = find (λ k. bytes_eq (key_id M.settings.account k.num) c.id && bytes_eq (sha256 c.secret) k.hash) M.keys

-- the rules of an authorize call, from the id and secret of its Basic value
abbrev pub authorize_rules : {C : Type 0} → State C → ℕ → Option Credentials → List Check
authorize_rules M t credentials =
    check P1 (is_none credentials)
    ∷ check P2 (is_none (option_and_then (key_by M) credentials))
    ∷ check P6 (some_and (λ k. not (is_before_end t k.end)) (option_and_then (key_by M) credentials))
    ∷ []

abbrev pub lacks : List Cap → Key → Bool
lacks caps key = not (list_all (λ c. has key.caps c) caps)

-- the caller's token is one for downloads
abbrev pub is_for_downloads : Caller → Bool
is_for_downloads who = some_and (λ g. is_download g.kind) who.grant

-- the buckets and the prefix that the caller is limited to: those of its key, or of a download token
abbrev pub limits : Caller → List ℕ
limits who = if is_for_downloads who then unwrap_or (option_map (λ g. g.bucket ∷ []) who.grant) [] else unwrap_or (option_map (λ k. k.buckets) who.key) []

abbrev pub prefix_limit : Caller → List ℕ
prefix_limit who = if is_for_downloads who then unwrap_or (option_map (λ g. g.prefix) who.grant) [] else unwrap_or (option_map (λ k. k.prefix) who.key) []

-- ---- the bucket that is named

-- equal without regard to case
abbrev pub is_same_name : List ℕ → List ℕ → Bool
is_same_name a b = bytes_eq (map to_ascii_lowercase a) (map to_ascii_lowercase b)

-- the bucket of this name, without regard to case
abbrev pub bucket_named : {C : Type 0} → State C → List ℕ → Option Bucket
bucket_named M name = find (λ b. is_same_name b.name name) M.buckets

-- one of these buckets stands and has this name
abbrev pub is_name_among : {C : Type 0} → State C → List ℕ → List ℕ → Bool
is_name_among M numbers name = list_any (λ n. some_and (λ b. is_same_name b.name name) (bucket_at M n)) numbers

-- the place is outside of these buckets
abbrev pub is_outside : {C : Type 0} → State C → List ℕ → Place → Bool
is_outside M numbers (of_number n) = not (is_among numbers n)
is_outside M numbers (filtered n name) =
    (is_none n && is_none name)
    || some_and (λ n. not (is_among numbers n)) n
    || some_and (λ name. not (is_name_among M numbers name)) name
is_outside M numbers (by_name name) = not (is_name_among M numbers name)

-- ---- what is judged of a call or an upload

-- its row of the table, the capabilities that it needs, and its fields
pub record Judged : Type 0 where
  pub row : Need
  pub caps : List Cap
  pub fields : Named

abbrev pub judged_call : Call → Judged
judged_call c = record { row = need (name_of c); caps = needed_caps c; fields = fields_of c }

abbrev pub judged_upload : UploadCall → Judged
judged_upload u = record { row = need (upload_name u); caps = upload_caps u; fields = upload_fields u }

-- the rules of the capabilities, the account and the buckets
abbrev pub call_rules : {C : Type 0} → State C → Judged → Caller → List Check
call_rules M j who =
    check P7 (not (is_for_downloads who) && some_and (lacks j.caps) who.key)
    ∷ check P8 (some_and (λ a. not (bytes_eq a M.settings.account)) j.fields.account)
    ∷ check P9 (not (is_empty (limits who)) && list_any (is_outside M (limits who)) (places j.row.things j.fields))
    ∷ []

-- the name of the version of these numbers
abbrev pub name_at : {C : Type 0} → State C → ℕ × ℕ → Option (List ℕ)
name_at M file = option_map (λ v. v.name) (version_at M file.0 file.1)

abbrev pub items : {X : Type 0} → Option X → List X
items None = []
items (Some x) = x ∷ []

-- the names of a thing: the one that is given, or that of the version of a file
abbrev pub names_at : {C : Type 0} → State C → Named → Thing → List (List ℕ)
names_at M n thing.Account = []
names_at M n thing.Bucket = []
names_at M n thing.SomeBucket = []
names_at M n thing.PathBucket = []
names_at M n thing.File = items (option_and_then (name_at M) n.file)
names_at M n thing.Source = items (option_and_then (name_at M) n.source)
names_at M n thing.Name = items n.name
names_at M n thing.Prefix = items n.prefix

-- the rule of the prefix
abbrev pub name_rule : {C : Type 0} → State C → Judged → Caller → List Check
name_rule M j who = check P10 (list_any (λ name. not (begins_with (prefix_limit who) name)) (flat_map (names_at M j.fields) j.row.things)) ∷ []

-- all ten, with the test that what is named stands in its place
abbrev pub policy_rules : {C : Type 0} → State C → ℕ → Judged → (Grant → Bool) → Caller → List Check → List Check
policy_rules M t j fits who exists =
    token_rules t j.row.tokens fits who ++ call_rules M j who ++ exists ++ name_rule M j who
