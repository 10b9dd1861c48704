-- A token that is given.
use Rattle.std.proofs.Common.{◌≡◌, ℕ, ◌+◌, ◌-◌, ◌^◌, ◌==◌, true, false, List, [], ◌∷◌, ◌++◌, map, drop, slice_index, Some, refl, sym, ap, ◌∙◌}
use Rattle.std.proofs.lemmas.List.{map-append}
use Rattle.b2_base.specs.declared.extent.Extent.{Extent}
use Rattle.outside_traits.specs.Lists.{words_ahead}
use Rattle.b2_types.specs.declared.key.Grant.{Grant}
use Rattle.b2_types.specs.declared.kinds.TokenKind.TheVariants as kind
use Rattle.b2_model.specs.State.{State}
use Rattle.b2_model.specs.Kinds.{day, later}
use Rattle.b2_model.specs.LiveGrant.{token_text}
use Rattle.b2_model.specs.Plan.{new_token, no_serial}
use Rattle.b2_model.specs.AskKeys.{account_grant}
use Rattle.b2_model.specs.Changes.{master_key}
use Rattle.auth_grants.specs.Tokens.{Tokens, tokens, new_held, with_token, IsGiven}
use Rattle.auth_grants.specs.declared.held.Held.{Held}
use Rattle.auth_grants.specs.declared.grants.Terms.{Terms}
use Rattle.b2_server.specs.Store.{given_store, idle, IsAt, granted, account_terms, IsGranted}
use Rattle.b2_server.specs.declared.store.FirstStore.{FirstStore}
use Rattle.b2_server.proofs.Begun.{held_as}

-- whether a serial is left
pub serial_is : (s : FirstStore) (M : State (List ℕ)) (words : List ℕ) → IsAt s M words → (no_serial M).fails ≡ (s.tokens.serial == 2 ^ 64 - 1)
serial_is s M words at = ap (λ (N : State (List ℕ)). (no_serial N).fails) at.state

abbrev with_one : State (List ℕ) → Grant → State (List ℕ)
with_one M g = record M { grants = M.grants ++ g ∷ []; serial = M.serial + 1 }

granted_is : (M : State (List ℕ)) (t : ℕ) (words : List ℕ) → granted M t words ≡ with_one M (account_grant M t words (master_key M.settings))
unfolding granted
granted_is M t words = refl

abbrev grant_of : List ℕ → ℕ → Grant
grant_of text t = record { text = text; kind = kind.Account; key = 0; bucket = 0; file = 0; prefix = []; end = later t day }

-- the next token's text
text_at : (s : FirstStore) (M : State (List ℕ)) (words : List ℕ) → IsAt s M words
    → new_token M words ≡ token_text 1 (s.tokens.serial + 1) (slice_index (words_ahead s.words) 0) (slice_index (words_ahead s.words) 1)
text_at s M words at = λ i. new_token (at.state i) (at.left i)

pub text_given : (s : FirstStore) (M : State (List ℕ)) (words text : List ℕ) (first second : ℕ) → IsAt s M words → text ≡ token_text 1 (s.tokens.serial + 1) first second
    → first ≡ slice_index (words_ahead s.words) 0 → second ≡ slice_index (words_ahead s.words) 1 → text ≡ new_token M words
text_given s M words text first second at is is_first is_second =
    is ∙ (λ i. token_text 1 (s.tokens.serial + 1) (is_first i) (is_second i)) ∙ sym (text_at s M words at)

held_more : (T U : Tokens) (terms : Terms) (t : ℕ) (text other : List ℕ) (grants : List Grant) → T ≡ tokens T.serial (map idle grants) → terms ≡ account_terms t → text ≡ other
    → U ≡ with_token (new_held text terms) T → U ≡ tokens (T.serial + 1) (map idle (grants ++ grant_of other t ∷ []))
held_more T U terms t text other grants held is_terms is_text new =
    new
    ∙ (λ i. with_token (new_held (is_text i) (is_terms i)) T)
    ∙ ap (λ (hs : List Held). tokens (T.serial + 1) (hs ++ idle (grant_of other t) ∷ [])) (ap (λ (X : Tokens). X.held) held)
    ∙ ap (tokens (T.serial + 1)) (sym (map-append idle grants (grant_of other t ∷ [])))

pub gives_token : (s u : FirstStore) (M : State (List ℕ)) (words text : List ℕ) (terms : Terms) (t : ℕ) → terms ≡ account_terms t → IsGiven 1 terms s.tokens u.tokens (Some (words_ahead s.words)) (Some (words_ahead u.words)) text
    → ((N : State Extent) → N.serial ≡ s.tokens.serial → (no_serial N).fails ≡ false)
    → u.settings ≡ s.settings → u.moment ≡ s.moment → u.pass_day ≡ s.pass_day → IsAt s M words → IsGranted t M words text u
gives_token s u M words text terms t is_terms given free settings moment pass_day at =
    let text_is = text_given s M words text given.first given.second at given.text_is given.words.0 given.words.1 in
    let g = account_grant M t words (master_key M.settings) in
    let new = held_more s.tokens u.tokens terms t text (new_token M words) at.grants at.held is_terms text_is given.tokens in
    let serial = ap (λ (T : Tokens). T.serial) new in
    record {
      text_is = text_is;
      left = serial_is s M words at ∙ free (given_store s.settings 0 0 0 s.tokens.serial []) refl;
      at = record {
        kept = at.kept;
        grants = at.grants ++ g ∷ [];
        state = granted_is M t words ∙ ap (λ (N : State (List ℕ)). with_one N g) at.state
            ∙ held_as s.settings u.settings s.moment u.moment at.kept s.pass_day u.pass_day (s.tokens.serial + 1) u.tokens.serial (at.grants ++ g ∷ []) (sym settings) (sym moment) (sym pass_day) (sym serial);
        held = new ∙ ap (λ (n : ℕ). tokens n (map idle (at.grants ++ g ∷ []))) (sym serial);
        left = ap (drop 2) at.left ∙ sym given.words.2;
      };
    }

pub no_more : (s : FirstStore) (M : State (List ℕ)) (words : List ℕ) → ((N : State Extent) → N.serial ≡ s.tokens.serial → (no_serial N).fails ≡ true) → IsAt s M words → (no_serial M).fails ≡ true
no_more s M words full at = serial_is s M words at ∙ full (given_store s.settings 0 0 0 s.tokens.serial []) refl
