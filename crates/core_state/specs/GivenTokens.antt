-- A token that is given on the state in memory.
use Rattle.std.specs.Prelude.{◌≡◌, ◌<◌, ℕ, true, false, List, Option, Some, None}
use Rattle.b2_base.specs.declared.extent.Extent.{Extent}
use Rattle.b2_types.specs.declared.key.Grant.{Grant}
use Rattle.b2_model.specs.State.{State}
use Rattle.b2_model.specs.LiveGrant.{token_of}
use Rattle.b2_model.specs.Plan.{no_serial}
use Rattle.b2_model.specs.Stored.{numbers_of}
use Rattle.b2_model.specs.Ask.{at_moment, with_grant}
use Rattle.sound_states.specs.Sound.{Names}
use Rattle.auth_grants.specs.declared.grants.Terms.{Terms}
use Rattle.auth_grants.specs.Tokens.{GiveTwo, new_held}

-- the grant of the token of this text
abbrev pub grant_of : List ℕ → Terms → Grant
grant_of text terms = (new_held text terms).grant

-- what tokens may be given for: the numbers of the key and of what is named were given
pub record MayHave (M : State Extent) (terms : Terms) : Type 0 where
  pub key : terms.key < M.next_key
  pub names : (text : List ℕ) → Names (numbers_of M) terms.kind (grant_of text terms)

-- the state at the moment, with the token of this text besides
abbrev pub with_token : State Extent → ℕ → List ℕ → Terms → State Extent
with_token M t text terms = with_grant (Some (grant_of text terms)) (at_moment M t)

-- the token of this text was given, under the next serial and with two words
pub record HasGiven (M : State Extent) (t : ℕ) (terms : Terms) (ahead left : Option (List ℕ)) (N : State Extent) (text : List ℕ) : Type 0 where
  pub serial : (no_serial M).fails ≡ false
  pub first : ℕ
  pub second : ℕ
  pub words : GiveTwo ahead first second left
  pub text_is : text ≡ token_of M first second
  pub state : N ≡ with_token M t text terms

-- no token was given: the last serial was
pub record HasNone (M : State Extent) (t : ℕ) (ahead left : Option (List ℕ)) (N : State Extent) : Type 0 where
  pub serial : (no_serial M).fails ≡ true
  pub undrawn : left ≡ ahead
  pub state : N ≡ at_moment M t

abbrev pub GivesToken : State Extent → ℕ → Terms → Option (List ℕ) → Option (List ℕ) → State Extent → Option (List ℕ) → Type 0
GivesToken M t terms ahead left N None = HasNone M t ahead left N
GivesToken M t terms ahead left N (Some text) = HasGiven M t terms ahead left N text
