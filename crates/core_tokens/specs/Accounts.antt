-- What an authorize call comes to.
use Rattle.std.specs.Prelude.{◌≡◌, ℕ, [], ◌∷◌, ◌++◌, List, Option, Some, None, option_and_then}
use Rattle.b2_base.specs.declared.extent.Extent.{Extent}
use Rattle.b2_types.specs.declared.call.Authorize.{Authorize}
use Rattle.b2_types.specs.declared.call.Call.TheVariants as call
use Rattle.b2_types.specs.declared.key.Key.{Key}
use Rattle.b2_types.specs.declared.kinds.ApiVersion.{ApiVersion}
use Rattle.b2_types.specs.declared.shown.Shown.TheVariants as shown
use Rattle.b2_model.specs.AskKeys.{many_buckets}
use Rattle.b2_model.specs.Checks.{Check}
use Rattle.b2_model.specs.Policy.{authorize_rules, key_by}
use Rattle.b2_model.specs.Shown.{shown_account}
use Rattle.b2_model.specs.State.{State}
use Rattle.auth_grants.specs.declared.grants.Terms.{Terms}
use Rattle.core_tokens.specs.Giving.{IsGiving}

-- the key's own rules, but for the want of a serial
abbrev pub key_rules : ApiVersion → Option Key → List Check
key_rules version None = []
key_rules version (Some k) = many_buckets version k ∷ []

abbrev pub rules_but_serial : State Extent → ℕ → Authorize → List Check
rules_but_serial M t c = authorize_rules M t c.credentials ++ key_rules c.version (option_and_then (key_by M) c.credentials)

-- a token is given for the key of the credentials, whatever token the call was made with
pub record GivesAccount (M : State Extent) (t : ℕ) (c : Authorize) (terms : Terms) : Type 0 where
  pub key : Key
  pub found : option_and_then (key_by M) c.credentials ≡ Some key
  pub gives : (token : Option (List ℕ)) → IsGiving M t token (call.AuthorizeAccount c) terms (λ text. shown.Account (shown_account c.version M key text))
