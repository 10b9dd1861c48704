-- The state with one more token is whole.
use Rattle.std.proofs.Common.{◌≡◌, ℕ, ◌+◌, ◌<◌, ◌≤◌, ◌^◌, Bool, true, false, ◌++◌, List, [], ◌∷◌, All, Option, Some, None, find, map, option_map, bytes_eq, nat_cmp, Less, refl, sym, ap, subst, ◌∙◌, arith}
use Rattle.std.specs.Cmp.Lexicographic.{slice_cmp, bytes_decides}
use Rattle.std.specs.Ordering.{is_eq}
use Rattle.std.proofs.lemmas.Bool.Decides.{nat_tests}
use Rattle.std.proofs.lemmas.List.{map-append}
use Rattle.std.proofs.lemmas.List.Elements.{All-head, All-tail}
use Rattle.std.proofs.lemmas.Map.Text.{is_eq-slice_cmp}
use Rattle.b2_base.specs.declared.extent.Extent.{Extent}
use Rattle.b2_base.specs.declared.numbers.TheConstants.{LAST_VERSION}
use Rattle.b2_base.specs.declared.settings.Settings.{Settings}
use Rattle.b2_types.specs.declared.key.Flight.{Flight}
use Rattle.b2_types.specs.declared.key.Grant.{Grant}
use Rattle.b2_types.specs.declared.record.Numbers.{Numbers}
use Rattle.b2_model.specs.LiveGrant.{token_of}
use Rattle.b2_model.specs.Plan.{no_serial}
use Rattle.b2_model.specs.State.{State}
use Rattle.b2_model.specs.Stored.{numbers_of}
use Rattle.sound_states.specs.Sound.{AreTokens, IsSound, IsToken, IsUnderWay}
use Rattle.sound_states.proofs.Found.{found_has}
use Rattle.sound_steps.proofs.NewTokens.{IsNew, granted}
use Rattle.sound_steps.proofs.Outcomes.{moved}
use Rattle.sound_steps.proofs.TokenOrder.{lower_text}
use Rattle.auth_grants.specs.declared.grants.Terms.{Terms}
use Rattle.auth_grants.specs.declared.held.Held.{Held}
use Rattle.auth_grants.specs.Tokens.{Tokens, flight_on, grants_of, held_of, new_held, tokens, tokens_of, with_token as with_held}
use Rattle.core_state.specs.declared.parts.Parts.{Parts}
use Rattle.core_state.specs.GivenTokens.{MayHave, grant_of, with_token}
use Rattle.core_state.specs.View.{IsWhole, state_of}
use Rattle.core_state.proofs.PassSteps.{WholeAs}

-- ---- no upload is under way on a new token

module _ (numbers : Numbers) (count : ℕ) (grants : List Grant) (g : Grant) (sound : AreTokens numbers count grants) (new : IsNew numbers count g) where
  -- its text is that of no other
  apart : (h : Grant) → IsToken numbers count h → bytes_eq h.text g.text ≡ false
  apart h is =
      let last = sound.last in
      let left = new.left in
      let given = is.given in
      let small : count + 1 < 2 ^ 64 = grind (arith, nat_tests, last, left) in
      let before = lower_text numbers.boot is.serial (count + 1) is.first is.second new.first new.second (omega (arith, given.1)) small in
      let lower : slice_cmp nat_cmp h.text g.text ≡ Less = rw (is.text, new.text) before in
      sym (is_eq-slice_cmp h.text g.text) ∙ ap is_eq lower

  free : (f : Flight) → IsUnderWay grants f → bytes_eq f.token g.text ≡ false
  free f is =
      let has = found_has (λ (h : Grant). bytes_eq h.text f.token) (IsToken numbers count) grants is.token sound.given is.there in
      let same : is.token.text ≡ f.token = (bytes_decides is.token.text f.token).0 has.0 in
      subst (λ text. bytes_eq text g.text ≡ false) same (apart is.token has.1)

  none_on : (flights : List Flight) → All (IsUnderWay grants) flights → find (λ f. bytes_eq f.token g.text) flights ≡ None
  none_on [] each = refl
  none_on (f ∷ flights) each = rw (free f (All-head (IsUnderWay grants) f flights each)) (none_on flights (All-tail (IsUnderWay grants) f flights each))

-- ---- the parts

whole_as : (p q : Parts) (N : State Extent) → IsWhole p → state_of q ≡ N → IsSound N → q.tokens ≡ tokens_of N → q.settings ≡ p.settings → WholeAs q N
whole_as p q N whole is sound tokens settings = record {
  whole = record {
    sound = subst IsSound (sym is) sound;
    tokens = tokens ∙ ap tokens_of (sym is);
    last = subst (λ (s : Settings). s.last_version ≤ LAST_VERSION) (sym settings) whole.last;
  };
  state = is;
}

abbrev held_on : Grant → Option ℕ → Held
held_on g conn = record { grant = g; flight = conn }

-- with one more token
pub given_one : (p q : Parts) (t : ℕ) (terms : Terms) (text : List ℕ) (first second : ℕ) (T : Tokens) → IsWhole p → p.now ≤ t → MayHave (state_of p) terms
    → (no_serial (state_of p)).fails ≡ false → text ≡ token_of (state_of p) first second → T ≡ with_held (new_held text terms) p.tokens → q ≡ record p { now = t; tokens = T }
    → WholeAs q (with_token (state_of p) t text terms)
given_one p q t terms text first second T whole later may left text_is tokens_are parts_are =
    let M = state_of p in
    let g = grant_of text terms in
    let N = with_token M t text terms in
    let new : IsNew (numbers_of M) M.serial g = record { first = first; second = second; text = text_is; left = left; key = may.key; names = may.names text } in
    let kept = whole.sound.moments in
    let sound : IsSound N = granted M t (Some g) None (moved M t (omega (arith, kept, later)) whole.sound) (new, refl) in
    let is : q ≡ record p { now = t; tokens = with_held (new_held text terms) p.tokens } = parts_are ∙ ap (λ (U : Tokens). record p { now = t; tokens = U }) tokens_are in
    let grants : grants_of (p.tokens.held ++ new_held text terms ∷ []) ≡ grants_of p.tokens.held ++ g ∷ [] = map-append (λ (h : Held). h.grant) p.tokens.held (new_held text terms ∷ []) in
    let state : state_of q ≡ N = ap state_of is ∙ ap (λ (gs : List Grant). record N { grants = gs }) grants in
    let alone : flight_on M text ≡ None = ap (option_map (λ (f : Flight). f.conn)) (none_on (numbers_of M) M.serial M.grants g whole.sound.tokens new M.flights whole.sound.flights.under_way) in
    let more : tokens_of N ≡ with_held (new_held text terms) (tokens_of M) =
    ap (tokens (M.serial + 1)) (map-append (held_of M) M.grants (g ∷ []) ∙ ap (λ (conn : Option ℕ). map (held_of M) M.grants ++ held_on g conn ∷ []) alone) in
    whole_as p q N whole state sound (ap (λ (x : Parts). x.tokens) is ∙ ap (with_held (new_held text terms)) whole.tokens ∙ sym more) (ap (λ (x : Parts). x.settings) is)
