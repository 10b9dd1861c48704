-- What the version machine makes of an authorize call, in a store that gave tokens and did nothing else.
use Rattle.std.proofs.Common.{◌≡◌, ℕ, ◌-◌, ◌^◌, ◌==◌, Bool, true, false, ◌&&◌, not, List, [], ◌∷◌, ◌++◌, find, drop, Option, Some, None, bytes_eq, refl, sym, ap, ◌∙◌, subst}
use Rattle.std.specs.Cmp.Lexicographic.{bytes_decides}
use Rattle.std.specs.Option.{is_none}
use Rattle.sha2.specs.Sha256.{sha256}
use Rattle.b2_base.specs.declared.settings.Settings.{Settings}
use Rattle.rule_table.specs.declared.fault.FaultKind.{FaultKind}
use Rattle.rule_table.specs.declared.fault.FaultKind.TheVariants as kind
use Rattle.b2_types.specs.declared.kinds.ApiVersion.{ApiVersion}
use Rattle.b2_types.specs.declared.kinds.ApiVersion.TheVariants as version
use Rattle.b2_types.specs.declared.key.Grant.{Grant}
use Rattle.b2_types.specs.declared.call.Credentials.{Credentials}
use Rattle.b2_types.specs.declared.call.Authorize.{Authorize}
use Rattle.b2_types.specs.declared.call.Call.{Call}
use Rattle.b2_types.specs.declared.call.Call.TheVariants.{AuthorizeAccount}
use Rattle.b2_types.specs.declared.shown.Shown.TheVariants as shown
use Rattle.b2_types.specs.declared.answer.AnswerOf.TheVariants as answer
use Rattle.b2_types.specs.Fault.{plain}
use Rattle.b2_model.specs.Checks.{check, first_fault, some_and}
use Rattle.b2_model.specs.State.{State}
use Rattle.b2_model.specs.LiveGrant.{is_before_end}
use Rattle.b2_model.specs.Plan.{Plan, grants, or_absent, no_serial, new_token}
use Rattle.b2_model.specs.AskKeys.{many_buckets, account_grant}
use Rattle.b2_model.specs.Changes.{master_key}
use Rattle.b2_model.specs.Shown.{shown_account}
use Rattle.b2_model.specs.Ask.{Outcome, outcome_or_refusal, ask, at_moment, with_grant}
use Rattle.b2_model.specs.Run.{of_bytes}
use Rattle.b2_server.specs.Store.{given_store, master_account}

-- what is made of a call without a token
unfoldable pub asked : State (List ℕ) → ℕ → List ℕ → Call → Outcome (List ℕ)
asked M t words c = ask of_bytes M t words None c

-- a refusal, and what the master key is given
abbrev pub refusal : State (List ℕ) → ℕ → List ℕ → FaultKind → Outcome (List ℕ)
refusal M t words kind = record { state = at_moment M t; answer = answer.Refused (plain kind); words = words }

abbrev pub giving : State (List ℕ) → ApiVersion → ℕ → List ℕ → Outcome (List ℕ)
giving M v t words = record {
  state = with_grant (Some (account_grant M t words (master_key M.settings))) (at_moment M t);
  answer = answer.Json (shown.Account (master_account v M.settings (new_token M words)));
  words = drop 2 words;
}

-- what is made of it, where the master key's test and that of the serials come out so
abbrev plan_if : State (List ℕ) → ApiVersion → ℕ → List ℕ → Bool → Bool → Plan (List ℕ)
plan_if M v t words found full =
    or_absent kind.P2 (λ k. grants (many_buckets v k ∷ check kind.Cap full ∷ []) (account_grant M t words k) (shown.Account (shown_account v M k (new_token M words)))) (find (λ k. found) (master_key M.settings ∷ []))

abbrev outcome_if : State (List ℕ) → ApiVersion → ℕ → List ℕ → Bool → Bool → Outcome (List ℕ)
outcome_if M v t words found full =
    let key = find (λ k. found) (master_key M.settings ∷ []) in
    let p = plan_if M v t words found full in
    outcome_or_refusal M t words p (first_fault (
    (check kind.P1 false ∷ check kind.P2 (is_none key) ∷ check kind.P6 (some_and (λ k. not (is_before_end t k.end)) key) ∷ []) ++ p.own))

both_true : (a b : Bool) → a ≡ true → b ≡ true → (a && b) ≡ true
both_true a b is_a is_b = rw (is_a, is_b) refl

not_both : (a b : Bool) → (a ≡ true → b ≡ true → ⊥) → (a && b) ≡ false
not_both true true wrong = absurd (wrong refl refl)
not_both true false wrong = refl
not_both false b wrong = refl

-- the calls of both versions
abbrev call_of : ApiVersion → Option Credentials → Authorize
call_of v credentials = record { version = v; credentials = credentials }

as_call : (call : Authorize) (credentials : Option Credentials) → call.credentials ≡ credentials → call_of call.version credentials ≡ call
as_call call credentials is = λ i. record { version = call.version; credentials = sym is i }

-- ---- by how the tests come out

given_if : (v : ApiVersion) (S : Settings) (now kept pass_day serial : ℕ) (given : List Grant) (t : ℕ) (words : List ℕ)
    → outcome_if (given_store S now kept pass_day serial given) v t words true false ≡ giving (given_store S now kept pass_day serial given) v t words
given_if version.V3 S now kept pass_day serial given t words = refl
given_if version.V4 S now kept pass_day serial given t words = refl

full_if : (v : ApiVersion) (S : Settings) (now kept pass_day serial : ℕ) (given : List Grant) (t : ℕ) (words : List ℕ)
    → outcome_if (given_store S now kept pass_day serial given) v t words true true ≡ refusal (given_store S now kept pass_day serial given) t words kind.Cap
full_if version.V3 S now kept pass_day serial given t words = refl
full_if version.V4 S now kept pass_day serial given t words = refl

other_if : (v : ApiVersion) (S : Settings) (now kept pass_day serial : ℕ) (given : List Grant) (t : ℕ) (words : List ℕ) (full : Bool)
    → outcome_if (given_store S now kept pass_day serial given) v t words false full ≡ refusal (given_store S now kept pass_day serial given) t words kind.P2
other_if v S now kept pass_day serial given t words full = refl

none_if : (v : ApiVersion) (S : Settings) (now kept pass_day serial : ℕ) (given : List Grant) (t : ℕ) (words : List ℕ)
    → asked (given_store S now kept pass_day serial given) t words (AuthorizeAccount (call_of v None)) ≡ refusal (given_store S now kept pass_day serial given) t words kind.P1
unfolding asked
none_if v S now kept pass_day serial given t words = refl

by_tests : (v : ApiVersion) (S : Settings) (now kept pass_day serial : ℕ) (given : List Grant) (t : ℕ) (words : List ℕ) (c : Credentials)
    → asked (given_store S now kept pass_day serial given) t words (AuthorizeAccount (call_of v (Some c)))
    ≡ outcome_if (given_store S now kept pass_day serial given) v t words (bytes_eq S.account c.id && bytes_eq (sha256 c.secret) S.secret_hash) (serial == 2 ^ 64 - 1)
unfolding asked
by_tests v S now kept pass_day serial given t words c = refl

-- ---- by the call's credentials

own_test : (S : Settings) (c : Credentials) → c.id ≡ S.account → sha256 c.secret ≡ S.secret_hash → (bytes_eq S.account c.id && bytes_eq (sha256 c.secret) S.secret_hash) ≡ true
own_test S c own hash = both_true (bytes_eq S.account c.id) (bytes_eq (sha256 c.secret) S.secret_hash) ((bytes_decides S.account c.id).1 (sym own)) ((bytes_decides (sha256 c.secret) S.secret_hash).1 hash)

other_test : (S : Settings) (c : Credentials) → ((c.id ≡ S.account) × (sha256 c.secret ≡ S.secret_hash) → ⊥) → (bytes_eq S.account c.id && bytes_eq (sha256 c.secret) S.secret_hash) ≡ false
other_test S c wrong =
    not_both (bytes_eq S.account c.id) (bytes_eq (sha256 c.secret) S.secret_hash)
    (λ own hash. wrong (sym ((bytes_decides S.account c.id).0 own), (bytes_decides (sha256 c.secret) S.secret_hash).0 hash))

-- a state that gave tokens alone, and what its settings and serial are
pub record Gave (M : State (List ℕ)) (S : Settings) : Type 0 where
  pub now : ℕ
  pub kept : ℕ
  pub pass_day : ℕ
  pub serial : ℕ
  pub given : List Grant
  pub is : M ≡ given_store S now kept pass_day serial given

pub asks_none : (M : State (List ℕ)) (S : Settings) (t : ℕ) (words : List ℕ) (call : Authorize) → Gave M S → call.credentials ≡ None → asked M t words (AuthorizeAccount call) ≡ refusal M t words kind.P1
asks_none M S t words call gave none =
    let P : State (List ℕ) → Type 0 = λ N. asked N t words (AuthorizeAccount (call_of call.version None)) ≡ refusal N t words kind.P1 in
    let Q : Authorize → Type 0 = λ a. asked M t words (AuthorizeAccount a) ≡ refusal M t words kind.P1 in
    subst Q (as_call call None none) (subst P (sym gave.is) (none_if call.version S gave.now gave.kept gave.pass_day gave.serial gave.given t words))

pub asks_other : (M : State (List ℕ)) (S : Settings) (t : ℕ) (words : List ℕ) (call : Authorize) (c : Credentials) → Gave M S → call.credentials ≡ Some c → ((c.id ≡ S.account) × (sha256 c.secret ≡ S.secret_hash) → ⊥)
    → asked M t words (AuthorizeAccount call) ≡ refusal M t words kind.P2
asks_other M S t words call c gave some wrong =
    let P : State (List ℕ) → Type 0 = λ N. asked N t words (AuthorizeAccount (call_of call.version (Some c))) ≡ refusal N t words kind.P2 in
    let Q : Authorize → Type 0 = λ a. asked M t words (AuthorizeAccount a) ≡ refusal M t words kind.P2 in
    let full = gave.serial == 2 ^ 64 - 1 in
    let N : State (List ℕ) = given_store S gave.now gave.kept gave.pass_day gave.serial gave.given in
    subst Q (as_call call (Some c) some) (subst P (sym gave.is)
    (by_tests call.version S gave.now gave.kept gave.pass_day gave.serial gave.given t words c
    ∙ ap (λ (b : Bool). outcome_if N call.version t words b full) (other_test S c wrong)
    ∙ other_if call.version S gave.now gave.kept gave.pass_day gave.serial gave.given t words full))

-- what is made of the master key's call, where the test of the serials comes out so
own_if : (M : State (List ℕ)) (S : Settings) (t : ℕ) (words : List ℕ) (call : Authorize) (c : Credentials) (full : Bool) (o : State (List ℕ) → Outcome (List ℕ)) (gave : Gave M S) → call.credentials ≡ Some c → c.id ≡ S.account → sha256 c.secret ≡ S.secret_hash
    → (no_serial M).fails ≡ full
    → outcome_if (given_store S gave.now gave.kept gave.pass_day gave.serial gave.given) call.version t words true full ≡ o (given_store S gave.now gave.kept gave.pass_day gave.serial gave.given)
    → asked M t words (AuthorizeAccount call) ≡ o M
own_if M S t words call c full o gave some own hash is_full makes =
    let P : State (List ℕ) → Type 0 = λ N. asked N t words (AuthorizeAccount (call_of call.version (Some c))) ≡ o N in
    let Q : Authorize → Type 0 = λ a. asked M t words (AuthorizeAccount a) ≡ o M in
    let N : State (List ℕ) = given_store S gave.now gave.kept gave.pass_day gave.serial gave.given in
    let serials : (gave.serial == 2 ^ 64 - 1) ≡ full = ap (λ (X : State (List ℕ)). (no_serial X).fails) (sym gave.is) ∙ is_full in
    subst Q (as_call call (Some c) some) (subst P (sym gave.is)
    (by_tests call.version S gave.now gave.kept gave.pass_day gave.serial gave.given t words c
    ∙ (λ i. outcome_if N call.version t words (own_test S c own hash i) (serials i))
    ∙ makes))

pub asks_full : (M : State (List ℕ)) (S : Settings) (t : ℕ) (words : List ℕ) (call : Authorize) (c : Credentials) → Gave M S → call.credentials ≡ Some c → c.id ≡ S.account → sha256 c.secret ≡ S.secret_hash → (no_serial M).fails ≡ true
    → asked M t words (AuthorizeAccount call) ≡ refusal M t words kind.Cap
asks_full M S t words call c gave some own hash full =
    own_if M S t words call c true (λ N. refusal N t words kind.Cap) gave some own hash full (full_if call.version S gave.now gave.kept gave.pass_day gave.serial gave.given t words)

pub asks_own : (M : State (List ℕ)) (S : Settings) (t : ℕ) (words : List ℕ) (call : Authorize) (c : Credentials) → Gave M S → call.credentials ≡ Some c → c.id ≡ S.account → sha256 c.secret ≡ S.secret_hash → (no_serial M).fails ≡ false
    → asked M t words (AuthorizeAccount call) ≡ giving M call.version t words
asks_own M S t words call c gave some own hash free =
    own_if M S t words call c false (λ N. giving N call.version t words) gave some own hash free (given_if call.version S gave.now gave.kept gave.pass_day gave.serial gave.given t words)
