-- The tokens and the state of the machine that has them.
use Rattle.std.proofs.Common.{◌≡◌, ℕ, ◌+◌, ◌<◌, ◌≤◌, ◌^◌, List, [], ◌∷◌, ◌++◌, map, filter, find, drop, true, false, Bool, not, ◌&&◌, nat_le, All, Option, Some, None, refl, sym, ap, ◌∙◌, subst, arith, bytes_eq, option_map}
use Rattle.std.specs.Option.{is_none}
use Rattle.std.specs.List.{list_all}
use Rattle.std.proofs.lemmas.List.{map-append}
use Rattle.std.proofs.lemmas.List.Elements.{All-append, All-cons, All-head, All-tail, All-filter}
use Rattle.std.specs.Ordering.{nat_cmp}
use Rattle.std.specs.BTreeMap.{insert_entry}
use Rattle.std.specs.Map.{keys_of, values_of}
use Rattle.std.specs.List.Sorted.{IsStrictlySortedBy}
use Rattle.b2_base.specs.declared.extent.Extent.{Extent}
use Rattle.b2_base.specs.Digits.{sixteen_digits}
use Rattle.b2_types.specs.declared.key.Grant.{Grant}
use Rattle.b2_types.specs.declared.key.Flight.{Flight}
use Rattle.b2_model.specs.State.{State}
use Rattle.b2_model.specs.Kinds.{day}
use Rattle.b2_model.specs.LiveGrant.{grant_at}
use Rattle.b2_model.specs.Pass.{is_idle, without_old_grants}
use Rattle.outside_traits.specs.Given.{GivesWord, first_or}
use Rattle.auth_grants.specs.declared.held.Held.{Held}
use Rattle.auth_grants.specs.Tokens.{Tokens, tokens, grants_of, held_in, with_flight_in, with_flight, held_of, tokens_of, with_token, GiveTwo, serial_digits, IsUnderSerial, AreBySerial, AreGiven, is_kept}
use Rattle.auth_grants.proofs.Serials.{put_last, values-filter}

-- ---- the grant of a text

found_step : (text : List ℕ) (h : Held) (hs : List Held) (r : Bool) → bytes_eq h.grant.text text ≡ r
    → find (λ g. bytes_eq g.text text) (grants_of hs) ≡ option_map (λ h. h.grant) (held_in hs text)
    → find (λ g. bytes_eq g.text text) (grants_of (h ∷ hs)) ≡ option_map (λ h. h.grant) (held_in (h ∷ hs) text)
found_step text h hs true is rest = rw is refl
found_step text h hs false is rest = rw is rest

grant_in : (text : List ℕ) (hs : List Held) → find (λ g. bytes_eq g.text text) (grants_of hs) ≡ option_map (λ h. h.grant) (held_in hs text)
grant_in text [] = refl
grant_in text (h ∷ hs) = found_step text h hs _ refl (grant_in text hs)

pub grant_found : (M : State Extent) (T : Tokens) (hs : List Held) (text : List ℕ) (found : Option Held) → T.held ≡ hs → M.grants ≡ grants_of T.held
    → found ≡ held_in hs text → option_map (λ h. h.grant) found ≡ grant_at M text
grant_found M T hs text found view has is =
    ap (option_map (λ h. h.grant)) is ∙ sym (grant_in text hs) ∙ ap (find (λ g. bytes_eq g.text text)) (sym (has ∙ ap grants_of view))

-- ---- a sweep

idle_step : (text : List ℕ) (f : Flight) (fs : List Flight) (r : Bool) → bytes_eq f.token text ≡ r
    → is_none (option_map (λ f. f.conn) (find (λ f. bytes_eq f.token text) fs)) ≡ list_all (λ f. not (bytes_eq f.token text)) fs
    → is_none (option_map (λ f. f.conn) (find (λ f. bytes_eq f.token text) (f ∷ fs))) ≡ list_all (λ f. not (bytes_eq f.token text)) (f ∷ fs)
idle_step text f fs true is rest = rw is refl
idle_step text f fs false is rest = rw is rest

-- no flight is found exactly where each is on another token
idle : (text : List ℕ) (fs : List Flight) → is_none (option_map (λ f. f.conn) (find (λ f. bytes_eq f.token text) fs)) ≡ list_all (λ f. not (bytes_eq f.token text)) fs
idle text [] = refl
idle text (f ∷ fs) = idle_step text f fs _ refl (idle text fs)

stays : State Extent → ℕ → Grant → Bool
stays M t g = not (is_idle M g.text && nat_le (g.end + day) t)

kept_of : (M : State Extent) (t : ℕ) (g : Grant) → is_kept t (held_of M g) ≡ not (is_idle M g.text && nat_le (g.end + day) t)
kept_of M t g = ap (λ b. not (b && nat_le (g.end + day) t)) (idle g.text M.flights)

kept_step : (M : State Extent) (t : ℕ) (g : Grant) (gs : List Grant) (r : Bool) → not (is_idle M g.text && nat_le (g.end + day) t) ≡ r
    → filter (is_kept t) (map (held_of M) gs) ≡ map (held_of M) (filter (λ g. not (is_idle M g.text && nat_le (g.end + day) t)) gs)
    → filter (is_kept t) (map (held_of M) (g ∷ gs)) ≡ map (held_of M) (filter (λ g. not (is_idle M g.text && nat_le (g.end + day) t)) (g ∷ gs))
kept_step M t g gs true is rest = rw (kept_of M t g, is) (ap (λ hs. held_of M g ∷ hs) rest)
kept_step M t g gs false is rest = rw (kept_of M t g, is) rest

kept_all : (M : State Extent) (t : ℕ) (gs : List Grant) → filter (is_kept t) (map (held_of M) gs) ≡ map (held_of M) (filter (λ g. not (is_idle M g.text && nat_le (g.end + day) t)) gs)
kept_all M t [] = refl
kept_all M t (g ∷ gs) = kept_step M t g gs _ refl (kept_all M t gs)

pub swept : (M : State Extent) (t serial : ℕ) (es fs : List (ℕ × Held)) → tokens serial (values_of es) ≡ tokens_of M → fs ≡ filter (λ e. is_kept t e.1) es
    → tokens serial (values_of fs) ≡ tokens_of (without_old_grants t M)
swept M t serial es fs view is =
    let held : values_of fs ≡ map (held_of M) (filter (λ g. not (is_idle M g.text && nat_le (g.end + day) t)) M.grants) =
    ap values_of is ∙ values-filter (is_kept t) es ∙ ap (filter (is_kept t)) (ap (λ T. T.held) view) ∙ kept_all M t M.grants in
    ap (λ n. tokens n (values_of fs)) (ap (λ T. T.serial) view) ∙ ap (tokens M.serial) held

keys_step : (P : ℕ → Type 0) (p : Held → Bool) (e : ℕ × Held) (es : List (ℕ × Held)) (r : Bool) → p e.1 ≡ r → P e.0 → All P (keys_of (filter (λ e. p e.1) es))
    → All P (keys_of (filter (λ e. p e.1) (e ∷ es)))
keys_step P p e es true is one rest = rw is (All-cons P e.0 (keys_of (filter (λ e. p e.1) es)) one rest)
keys_step P p e es false is one rest = rw is rest

keys_filter : (P : ℕ → Type 0) (p : Held → Bool) (es : List (ℕ × Held)) → All P (keys_of es) → All P (keys_of (filter (λ e. p e.1) es))
keys_filter P p [] all = all
keys_filter P p (e ∷ es) all =
    keys_step P p e es _ refl (All-head P e.0 (keys_of es) all) (keys_filter P p es (All-tail P e.0 (keys_of es) all))

pub given_swept : (t serial : ℕ) (es fs : List (ℕ × Held)) → AreGiven serial es → IsStrictlySortedBy nat_cmp (keys_of fs) → fs ≡ filter (λ e. is_kept t e.1) es
    → AreGiven serial fs
given_swept t serial es fs given ordered is = record {
  by_serial = record { ordered = ordered; under = subst (All IsUnderSerial) (sym is) (All-filter (λ e. is_kept t e.1) IsUnderSerial es given.by_serial.under) };
  given = subst (λ fs. All (λ k. k ≤ serial) (keys_of fs)) (sym is) (keys_filter (λ k. k ≤ serial) (is_kept t) es given.given);
}

-- ---- a new token

all_none : {X : Type 0} (P : X → Type 0) → All P []
all_none P i d within = absurd (omega (arith, within))

pub given_more : (serial : ℕ) (h : Held) (es fs : List (ℕ × Held)) → AreGiven serial es → serial + 1 < 2 ^ 64
    → serial_digits h.grant.text ≡ sixteen_digits (serial + 1) → IsStrictlySortedBy nat_cmp (keys_of fs) → fs ≡ insert_entry nat_cmp es (serial + 1) h
    → AreGiven (serial + 1) fs
given_more serial h es fs given small digits ordered is =
    let below : All (λ j. j < serial + 1) (keys_of es) = λ i d within. omega (arith, given.given i d within) in
    let last : fs ≡ es ++ (serial + 1, h) ∷ [] = is ∙ put_last (serial + 1) h es below in
    let up_to : All (λ k. k ≤ serial + 1) (keys_of es) = λ i d within. omega (arith, given.given i d within) in
    record {
      by_serial = record {
        ordered = ordered;
        under = subst (All IsUnderSerial) (sym last) (All-append IsUnderSerial es ((serial + 1, h) ∷ []) given.by_serial.under (All-cons IsUnderSerial (serial + 1, h) [] (digits, small) (all_none IsUnderSerial)));
      };
      given = subst (λ es. All (λ k. k ≤ serial + 1) (keys_of es)) (sym last)
          (subst (All (λ k. k ≤ serial + 1)) (sym (map-append (λ e. e.0) es ((serial + 1, h) ∷ [])))
          (All-append (λ k. k ≤ serial + 1) (keys_of es) ((serial + 1) ∷ []) up_to (All-cons (λ k. k ≤ serial + 1) (serial + 1) [] (omega arith) (all_none (λ k. k ≤ serial + 1)))));
    }

pub view_more : (serial : ℕ) (h : Held) (es fs : List (ℕ × Held)) → AreGiven serial es → fs ≡ insert_entry nat_cmp es (serial + 1) h
    → tokens (serial + 1) (values_of fs) ≡ with_token h (tokens serial (values_of es))
view_more serial h es fs given is =
    let below : All (λ j. j < serial + 1) (keys_of es) = λ i d within. omega (arith, given.given i d within) in
    ap (λ es. tokens (serial + 1) (values_of es)) (is ∙ put_last (serial + 1) h es below) ∙ ap (tokens (serial + 1)) (map-append (λ e. e.1) es ((serial + 1, h) ∷ []))

-- two words, one after the other
pub two_words : (a m l : Option (List ℕ)) (x y : ℕ) → GivesWord a x m → GivesWord m y l → GiveTwo a x y l
two_words None m l x y first second = tt
two_words (Some ahead) None l x y first second = absurd first
two_words (Some ahead) (Some mid) None x y first second = absurd second
two_words (Some []) (Some mid) (Some rest) x y first second = (first.0, second.0 ∙ ap (first_or 0) first.1, second.1 ∙ ap (drop 1) first.1)
two_words (Some (a ∷ [])) (Some mid) (Some rest) x y first second = (first.0, second.0 ∙ ap (first_or 0) first.1, second.1 ∙ ap (drop 1) first.1)
two_words (Some (a ∷ b ∷ bs)) (Some mid) (Some rest) x y first second = (first.0, second.0 ∙ ap (first_or 0) first.1, second.1 ∙ ap (drop 1) first.1)

-- ---- a write

pub given_set : (serial : ℕ) (es fs : List (ℕ × Held)) → AreGiven serial es → AreBySerial fs → keys_of fs ≡ keys_of es → AreGiven serial fs
given_set serial es fs given by same = record { by_serial = by; given = subst (All (λ k. k ≤ serial)) (sym same) given.given }

pub view_set : (T : Tokens) (serial : ℕ) (text : List ℕ) (conn : Option ℕ) (es fs : List (ℕ × Held)) → T ≡ tokens serial (values_of es)
    → values_of fs ≡ with_flight_in text conn (values_of es) → tokens serial (values_of fs) ≡ with_flight text conn T
view_set T serial text conn es fs view is = ap (tokens serial) is ∙ sym (ap (with_flight text conn) view)
