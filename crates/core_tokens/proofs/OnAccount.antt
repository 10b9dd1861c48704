-- What an authorize call comes to.
use Rattle.std.proofs.Common.{◌≡◌, ℕ, ◌<◌, ◌&&◌, List, [], ◌∷◌, ◌++◌, Option, Some, None, IsSome, option_and_then, bytes_eq, refl, sym, ap, subst, ◌∙◌, append_assoc}
use Rattle.std.proofs.lemmas.Bool.{false≢true}
use Rattle.std.proofs.lemmas.Option.{none-some}
use Rattle.sha2.specs.Sha256.{sha256}
use Rattle.b2_base.specs.declared.extent.Extent.{Extent}
use Rattle.rule_table.specs.declared.fault.FaultKind.TheVariants.{P2}
use Rattle.b2_types.specs.KeyId.{key_id}
use Rattle.b2_types.specs.declared.call.Authorize.{Authorize}
use Rattle.b2_types.specs.declared.call.Call.TheVariants as call
use Rattle.b2_types.specs.declared.call.Credentials.{Credentials}
use Rattle.b2_types.specs.declared.fault.Fault.{Fault}
use Rattle.b2_types.specs.declared.key.Key.{Key}
use Rattle.b2_types.specs.declared.kinds.ApiVersion.{ApiVersion}
use Rattle.b2_types.specs.declared.kinds.TokenKind.TheVariants as kind
use Rattle.b2_types.specs.declared.shown.Shown.TheVariants as shown
use Rattle.b2_model.specs.AskKeys.{authorize_plan, many_buckets}
use Rattle.b2_model.specs.Checks.{Check, first_fault, or_else}
use Rattle.b2_model.specs.Plan.{Plan, grants, new_token, no_serial, or_absent}
use Rattle.b2_model.specs.Policy.{authorize_rules, key_by}
use Rattle.b2_model.specs.Shown.{shown_account}
use Rattle.b2_model.specs.State.{State}
use Rattle.auth_grants.specs.declared.grants.Terms.{Terms}
use Rattle.sound_states.specs.Sound.{IsSound}
use Rattle.sound_states.proofs.Found.{found_has}
use Rattle.core_policy.proofs.Order.{by_next, then_next}
use Rattle.core_state.specs.GivenTokens.{MayHave, grant_of}
use Rattle.core_decisions.proofs.Drawn.{Ruled}
use Rattle.core_tokens.specs.Accounts.{key_rules, rules_but_serial}
use Rattle.core_tokens.specs.Giving.{IsGiving, day_terms}
use Rattle.core_tokens.proofs.Giving.{gives_if}

-- ---- its rules

abbrev pub serial_rules : State Extent → Option Key → List Check
serial_rules M None = []
serial_rules M (Some k) = no_serial M ∷ []

pub own_is : (v : ApiVersion) (M : State Extent) (t : ℕ) (words : List ℕ) (o : Option Key) → (or_absent P2 (authorize_plan v M t words) o).own ≡ key_rules v o ++ serial_rules M o
own_is v M t words None = refl
own_is v M t words (Some k) = refl

abbrev pub account_rules : (M : State Extent) (t : ℕ) (token : Option (List ℕ)) (q : Authorize) → Ruled M t token (call.AuthorizeAccount q)
account_rules M t token q = record {
  first = λ who. rules_but_serial M t q;
  own = λ copy words. serial_rules M (option_and_then (key_by M) q.credentials);
  is = λ copy words.
      let o = option_and_then (key_by M) q.credentials in
      ap (λ own. authorize_rules M t q.credentials ++ own) (own_is q.version M t words o) ∙ sym (append_assoc (authorize_rules M t q.credentials) (key_rules q.version o) (serial_rules M o));
}

-- ---- its token

neither : (x y : Option Fault) → None ≡ or_else x y → (None ≡ x) × (None ≡ y)
neither None y is = (refl, is)
neither (Some f) y is = absurd (none-some f is)

both_pass : (xs ys : List Check) → None ≡ first_fault (xs ++ ys) → (None ≡ first_fault xs) × (None ≡ first_fault ys)
both_pass xs ys none = neither (first_fault xs) (first_fault ys) (none ∙ then_next xs ys)

pub gives_account : (M : State Extent) (t : ℕ) (token : Option (List ℕ)) (q : Authorize) (k : Key) (terms : Terms) → option_and_then (key_by M) q.credentials ≡ Some k → None ≡ first_fault (rules_but_serial M t q)
    → terms ≡ day_terms t kind.Account k.num 0 0 → IsGiving M t token (call.AuthorizeAccount q) terms (λ text. shown.Account (shown_account q.version M k text))
gives_account M t token q k terms found passes is =
    let both = both_pass (authorize_rules M t q.credentials) (key_rules q.version (option_and_then (key_by M) q.credentials)) passes in
    let own = many_buckets q.version k ∷ [] in
    gives_if M t token (call.AuthorizeAccount q) terms (λ text. shown.Account (shown_account q.version M k text)) own (both.1 ∙ ap (λ o. first_fault (key_rules q.version o)) found) (λ copy words.
    let plan = ap (or_absent P2 (authorize_plan q.version M t words)) found in (
      plan ∙ ap (λ (T : Terms). grants (own ++ no_serial M ∷ []) (grant_of (new_token M words) T) (shown.Account (shown_account q.version M k (new_token M words)))) (sym is),
      sym (by_next (authorize_rules M t q.credentials) (or_absent P2 (authorize_plan q.version M t words) (option_and_then (key_by M) q.credentials)).own both.0) ∙ ap (λ (p : Plan Extent). first_fault p.own) plan,
    ))

known : (M : State Extent) (o : Option Credentials) (k : Key) → IsSound M → option_and_then (key_by M) o ≡ Some k → k.num < M.next_key
known M None k sound is = absurd (none-some k is)
known M (Some q) k sound is =
    (found_has (λ (k : Key). bytes_eq (key_id M.settings.account k.num) q.id && bytes_eq (sha256 q.secret) k.hash) (λ (k : Key). k.num < M.next_key) M.keys k sound.keys.given is).1

pub may_have_account : (M : State Extent) (t : ℕ) (q : Authorize) (k : Key) (terms : Terms) → IsSound M → option_and_then (key_by M) q.credentials ≡ Some k → terms ≡ day_terms t kind.Account k.num 0 0 → MayHave M terms
may_have_account M t q k terms sound found is = subst (MayHave M) (sym is) (record { key = known M q.credentials k sound found; names = λ text. (refl, refl, refl) })

pub some_of : {X : Type 0} (o : Option X) → IsSome o → (x : X) × (o ≡ Some x)
some_of None some = absurd (false≢true some)
some_of (Some x) some = (x, refl)
