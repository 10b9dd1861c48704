-- Keys: their making, their deletion and their pages.
use Rattle.std.specs.Prelude.{ℕ, List, [], ◌∷◌, ◌++◌, Option, Some, None, codes, map}
use Rattle.rule_table.specs.declared.cap.Cap.{Cap}
use Rattle.rule_table.specs.declared.cap.Cap.TheVariants.{ListFiles, WriteKeys}
use Rattle.rule_table.specs.CapSet.{set_of}
use Rattle.b2_types.specs.declared.fault.Fault.{Fault}
use Rattle.b2_types.specs.declared.key.Key.{Key}
use Rattle.b2_types.specs.declared.kinds.ApiVersion.TheVariants.{V3}
use Rattle.b2_types.specs.declared.call.CreateKey.{CreateKey}
use Rattle.b2_types.specs.declared.call.Call.{Call}
use Rattle.b2_types.specs.declared.call.Call.TheVariants as call
use Rattle.b2_model.specs.State.{State}
use Rattle.b2_types.specs.declared.answer.AnswerOf.{AnswerOf}
use Rattle.b2_types.specs.declared.answer.AnswerOf.TheVariants as answer
use Rattle.b2_types.specs.declared.shown.Shown.TheVariants as shown
use Rattle.b2_model.specs.Ask.{Outcome, ask}
use Rattle.b2_model.specs.Run.{of_bytes}
use Rattle.b2_model.specs.Pages.{Page, keys_page}
use Rattle.worked_rows.specs.Store.{Bytes, master, account, master_grant, photos_1, with_bucket, by_master, by_token, refusal}

-- key 1 may make keys and list files
abbrev pub maker : Key
maker = record { num = 1; name = []; caps = set_of (WriteKeys ∷ ListFiles ∷ []); buckets = []; prefix = []; end = None; hash = [] }

abbrev pub key_store : State Bytes
key_store =
    let M = with_bucket photos_1 in
    record M { keys = M.keys ++ maker ∷ []; next_key = 2; grants = M.grants ++ record master_grant { text = codes "maker"; key = 1 } ∷ [] }

abbrev pub new_key : List Cap → Option (List ℕ) → CreateKey
new_key caps buckets = record { version = V3; account = account; caps = set_of caps; name = codes "k"; duration = Some 60; buckets = buckets; prefix = None }

abbrev pub made_by : Option (List ℕ) → List Cap → Option (List ℕ) → Outcome Bytes
made_by token caps buckets = by_token key_store 1000 token (call.CreateKey (new_key caps buckets))

abbrev pub key_of_maker : Outcome Bytes
key_of_maker = made_by (Some (codes "maker")) (ListFiles ∷ []) None

-- the end of the new key
abbrev pub ends_by : Option (List ℕ) → List (Option ℕ)
ends_by token = map (λ k. k.end) (made_by token (ListFiles ∷ []) None).state.keys

abbrev pub refused_to : Option (List ℕ) → List Cap → Option (List ℕ) → Option Fault
refused_to token caps buckets = refusal (made_by token caps buckets).answer

abbrev pub its_token : Option (List ℕ)
its_token = Some (codes "maker")

abbrev pub deletion_of : List ℕ → Option Fault
deletion_of id = refusal (by_master key_store 1000 (call.DeleteKey (record { version = V3; key = id }))).answer

-- a page of one key of two
abbrev pub page : Page Key
page = keys_page (record key_store { keys = maker ∷ record maker { num = 2 } ∷ [] }) 0 (Some 1)

-- ---- a key for one second, made with the words that are left after an authorize call

abbrev pub short : Outcome Bytes
short = ask of_bytes key_store 1000 (3 ∷ 4 ∷ 5 ∷ 6 ∷ []) master (call.CreateKey (record (new_key (ListFiles ∷ []) None) { duration = Some 1 }))

-- the secret of a new key
abbrev pub secret : AnswerOf Bytes → Option (List ℕ)
secret (answer.Json (shown.NewKey k)) = Some k.secret
secret other = None

abbrev pub with_secret : List ℕ → Call
with_secret text = call.AuthorizeAccount (record { version = V3; credentials = Some (record { id = codes "001a1b2c3d4e5f60000000002"; secret = text }) })

abbrev pub account_of : List ℕ → Outcome Bytes
account_of text = by_token short.state 1500 None (with_secret text)

abbrev pub secret_text : List ℕ
secret_text = codes "K0010000000000000003000000000000000400000000000000050000000000000006"

-- the second is over
abbrev pub too_late : Option Fault
too_late = refusal (by_token short.state 2000 None (with_secret secret_text)).answer
