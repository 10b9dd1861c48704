-- The tokens that a server gave since it was opened, and the state of the machine that has them.
use Rattle.std.specs.Prelude.{◌≡◌, ◌==◌, ◌<◌, ◌≤◌, ◌^◌, ◌+◌, All, ℕ, Bool, not, ◌&&◌, nat_le, List, [], ◌∷◌, ◌++◌, Option, Some, None, if◌then◌else◌, map, find, take, drop, option_map, option_and_then, bytes_eq, slice_index, ⊤}
use Rattle.std.specs.Option.{is_none}
use Rattle.std.specs.Ordering.{nat_cmp}
use Rattle.std.specs.Map.{keys_of}
use Rattle.std.specs.List.Sorted.{IsStrictlySortedBy}
use Rattle.b2_base.specs.Digits.{sixteen_digits}
use Rattle.b2_types.specs.declared.key.Flight.{Flight}
use Rattle.b2_types.specs.declared.key.Grant.{Grant}
use Rattle.b2_model.specs.State.{State}
use Rattle.b2_model.specs.Kinds.{day}
use Rattle.b2_model.specs.LiveGrant.{token_text}
use Rattle.auth_grants.specs.declared.held.Held.{Held}
use Rattle.auth_grants.specs.declared.grants.Terms.{Terms}

-- how many tokens were given, and those that are kept, in the order in which they were given
pub record Tokens : Type 0 where
  pub serial : ℕ
  pub held : List Held

abbrev pub tokens : ℕ → List Held → Tokens
tokens serial held = record { serial = serial; held = held }

abbrev pub grants_of : List Held → List Grant
grants_of held = map (λ h. h.grant) held

-- the token of this text
abbrev pub held_in : List Held → List ℕ → Option Held
held_in held text = find (λ h. bytes_eq h.grant.text text) held

-- the tokens with another upload, or none, under way on that of this text
abbrev pub with_conn : List ℕ → Option ℕ → Held → Held
with_conn text conn h = if bytes_eq h.grant.text text then record h { flight = conn } else h

abbrev pub with_flight_in : List ℕ → Option ℕ → List Held → List Held
with_flight_in text conn held = map (with_conn text conn) held

-- the connection of the upload that is under way on the token of this text
abbrev pub flight_at : Tokens → List ℕ → Option ℕ
flight_at T text = option_and_then (λ h. h.flight) (held_in T.held text)

abbrev pub with_flight : List ℕ → Option ℕ → Tokens → Tokens
with_flight text conn T = tokens T.serial (with_flight_in text conn T.held)

abbrev pub no_tokens : Tokens
no_tokens = tokens 0 []

-- ---- a token that is given

abbrev pub new_held : List ℕ → Terms → Held
new_held text terms = record {
  grant = record {
    text = text;
    kind = terms.kind;
    key = terms.key;
    bucket = terms.bucket;
    file = terms.file;
    prefix = terms.prefix;
    end = terms.end;
  };
  flight = None;
}

-- the new token stands after the others
abbrev pub with_token : Held → Tokens → Tokens
with_token h T = tokens (T.serial + 1) (T.held ++ h ∷ [])

-- of the words ahead, where they are told, the first two were drawn, and these are left
abbrev pub GiveTwo : Option (List ℕ) → ℕ → ℕ → Option (List ℕ) → Type 0
GiveTwo None first second left = ⊤
GiveTwo (Some ahead) first second None = ⊥
GiveTwo (Some ahead) first second (Some rest) = (first ≡ slice_index ahead 0) × (second ≡ slice_index ahead 1) × (rest ≡ drop 2 ahead)

-- the token of this text was given for the terms, under the next serial, with two words
pub record IsGiven (boot : ℕ) (terms : Terms) (T U : Tokens) (ahead left : Option (List ℕ)) (text : List ℕ) : Type 0 where
  pub first : ℕ
  pub second : ℕ
  pub words : GiveTwo ahead first second left
  pub text_is : text ≡ token_text boot (T.serial + 1) first second
  pub tokens : U ≡ with_token (new_held text terms) T

-- ---- the state of the machine that has these tokens

-- the connection of the upload that is under way on the token
abbrev pub flight_on : {C : Type 0} → State C → List ℕ → Option ℕ
flight_on M text = option_map (λ f. f.conn) (find (λ f. bytes_eq f.token text) M.flights)

abbrev pub held_of : {C : Type 0} → State C → Grant → Held
held_of M g = record { grant = g; flight = flight_on M g.text }

abbrev pub tokens_of : {C : Type 0} → State C → Tokens
tokens_of M = tokens M.serial (map (held_of M) M.grants)

-- ---- tokens by their serials

-- the digits of the serial in a token's text
abbrev pub serial_digits : List ℕ → List ℕ
serial_digits text = take 16 (drop 11 text)

-- a token stands under the serial that its text tells
abbrev pub IsUnderSerial : ℕ × Held → Type 0
IsUnderSerial e = (serial_digits e.1.grant.text ≡ sixteen_digits e.0) × (e.0 < 2 ^ 64)

pub record AreBySerial (entries : List (ℕ × Held)) : Type 0 where
  pub ordered : IsStrictlySortedBy nat_cmp (keys_of entries)
  pub under : All IsUnderSerial entries

-- a token is kept while an upload is under way on it, and for a day after its end
abbrev pub is_kept : ℕ → Held → Bool
is_kept t h = not (is_none h.flight && nat_le (h.grant.end + day) t)

-- the tokens of a server that gave so many
pub record AreGiven (serial : ℕ) (entries : List (ℕ × Held)) : Type 0 where
  pub by_serial : AreBySerial entries
  pub given : All (λ k. k ≤ serial) (keys_of entries)

-- the uploads of the connection are those on the token
abbrev pub AreOnToken : ℕ → List ℕ → List Flight → Type 0
AreOnToken conn text flights = All (λ f. (f.conn == conn) ≡ bytes_eq f.token text) flights
