-- A step begins: the store is at its moment, after the pass of its day.
use Rattle.std.proofs.Common.{◌≡◌, ℕ, ◌+◌, ◌/◌, nat_lt, nat_le, cond, Bool, true, false, not, List, map, filter, sym, ap, ◌∙◌, subst}
use Rattle.b2_base.specs.declared.extent.Extent.{Extent}
use Rattle.b2_base.specs.declared.settings.Settings.{Settings}
use Rattle.outside_traits.specs.Lists.{words_ahead}
use Rattle.b2_types.specs.declared.key.Grant.{Grant}
use Rattle.b2_model.specs.State.{State}
use Rattle.b2_model.specs.Kinds.{day}
use Rattle.b2_model.specs.Pass.{without_old_grants}
use Rattle.b2_model.specs.Ask.{at_moment}
use Rattle.b2_model.specs.Run.{with_pass}
use Rattle.auth_grants.specs.Tokens.{Tokens, tokens, tokens_of}
use Rattle.b2_server.specs.Store.{given_store, idle, IsAt, begun_at}
use Rattle.b2_server.specs.declared.store.FirstStore.{FirstStore}

-- the tokens that a pass keeps
abbrev swept : ℕ → List Grant → List Grant
swept t grants = filter (λ g. not (nat_le (g.end + day) t)) grants

-- the machine's state by what the store holds
pub held_as : (a b : Settings) (now later kept : ℕ) (pass_day today serial count : ℕ) (grants : List Grant) → a ≡ b → now ≡ later → pass_day ≡ today → serial ≡ count
    → given_store {C = List ℕ} a now kept pass_day serial grants ≡ given_store b later kept today count grants
held_as a b now later kept pass_day today serial count grants settings moment days serials = λ i. given_store (settings i) (moment i) kept (days i) (serials i) grants

-- ---- on a store that gave tokens alone

day_passed : (S : Settings) (now kept pass_day serial t : ℕ) (grants : List Grant) → nat_lt pass_day (t / day) ≡ true
    → begun_at (given_store S now kept pass_day serial grants) t ≡ given_store S t t (t / day) serial (swept t grants)
unfolding begun_at
day_passed S now kept pass_day serial t grants is =
    let M : State (List ℕ) = given_store S now kept pass_day serial grants in
    ap (λ (b : Bool). at_moment (cond b (with_pass M t) M) t) is

same_day : (S : Settings) (now kept pass_day serial t : ℕ) (grants : List Grant) → nat_lt pass_day (t / day) ≡ false
    → begun_at (given_store S now kept pass_day serial grants) t ≡ given_store S t kept pass_day serial grants
unfolding begun_at
same_day S now kept pass_day serial t grants is =
    let M : State (List ℕ) = given_store S now kept pass_day serial grants in
    ap (λ (b : Bool). at_moment (cond b (with_pass M t) M) t) is

-- a sweep of the tokens is that of the machine's pass
swept_tokens : (S : Settings) (T U : Tokens) (t : ℕ) (grants : List Grant) → T ≡ tokens T.serial (map idle grants) → ((M : State Extent) → T ≡ tokens_of M → U ≡ tokens_of (without_old_grants t M))
    → U ≡ tokens T.serial (map idle (swept t grants))
swept_tokens S T U t grants held sweeps = sweeps (given_store S 0 0 0 T.serial grants) held

-- ---- the store

pub begun_same : (s u : FirstStore) (M : State (List ℕ)) (words : List ℕ) (t : ℕ) → u.settings ≡ s.settings → u.moment ≡ t → u.pass_day ≡ s.pass_day → u.tokens ≡ s.tokens → u.words ≡ s.words
    → nat_lt s.pass_day (t / day) ≡ false → IsAt s M words → IsAt u (begun_at M t) words
begun_same s u M words t settings moment pass_day tokens_same words_same today at =
    let serial = ap (λ (T : Tokens). T.serial) tokens_same in
    let P : Tokens → Type 0 = λ T. T ≡ tokens T.serial (map idle at.grants) in
    record {
      kept = at.kept;
      grants = at.grants;
      state = ap (λ (N : State (List ℕ)). begun_at N t) at.state
          ∙ same_day s.settings s.moment at.kept s.pass_day s.tokens.serial t at.grants today
          ∙ held_as s.settings u.settings t u.moment at.kept s.pass_day u.pass_day s.tokens.serial u.tokens.serial at.grants (sym settings) (sym moment) (sym pass_day) (sym serial);
      held = subst P (sym tokens_same) at.held;
      left = at.left ∙ ap words_ahead (sym words_same);
    }

pub begun_later : (s u : FirstStore) (M : State (List ℕ)) (words : List ℕ) (t : ℕ) → u.settings ≡ s.settings → u.moment ≡ t → u.pass_day ≡ t / day → u.words ≡ s.words
    → ((N : State Extent) → s.tokens ≡ tokens_of N → u.tokens ≡ tokens_of (without_old_grants t N))
    → nat_lt s.pass_day (t / day) ≡ true → IsAt s M words → IsAt u (begun_at M t) words
begun_later s u M words t settings moment pass_day words_same sweeps later at =
    let new = swept_tokens s.settings s.tokens u.tokens t at.grants at.held sweeps in
    let serial = ap (λ (T : Tokens). T.serial) new in
    record {
      kept = t;
      grants = swept t at.grants;
      state = ap (λ (N : State (List ℕ)). begun_at N t) at.state
          ∙ day_passed s.settings s.moment at.kept s.pass_day s.tokens.serial t at.grants later
          ∙ held_as s.settings u.settings t u.moment t (t / day) u.pass_day s.tokens.serial u.tokens.serial (swept t at.grants) (sym settings) (sym moment) (sym pass_day) (sym serial);
      held = new ∙ ap (λ (n : ℕ). tokens n (map idle (swept t at.grants))) (sym serial);
      left = at.left ∙ ap words_ahead (sym words_same);
    }
