-- Tokens by their serials: the text of each tells the serial under which it stands.
use Rattle.std.proofs.Common.{◌≡◌, ◌≢◌, ℕ, ◌<◌, ◌^◌, List, [], ◌∷◌, ◌++◌, length, filter, take, true, false, Bool, All, Option, Some, None, Less, Equal, Greater, refl, sym, ap, ◌∙◌, subst, arith, bytes_eq, codes, append_assoc}
use Rattle.std.proofs.Common.{Ordering, IsSome, is_some, unwrap_or, true≢false, length-append, cond}
use Rattle.std.proofs.lemmas.Bool.Decides.{nat_tests}
use Rattle.std.proofs.lemmas.List.{take_at, drop_at, map-append}
use Rattle.std.proofs.lemmas.List.Elements.{All-head, All-tail, All-cons}
use Rattle.std.proofs.lemmas.Map.Lookups.{exact_unsigned}
use Rattle.std.proofs.lemmas.Map.Keys.{sorted_tail}
use Rattle.std.proofs.lemmas.Map.Views.{All-after_first}
use Rattle.std.specs.Cmp.Lexicographic.{bytes_decides}
use Rattle.std.specs.Ordering.{nat_cmp}
use Rattle.std.specs.BTreeMap.{is_at, insert_entry}
use Rattle.std.specs.Map.{keys_of, values_of, lookup, set_value}
use Rattle.std.specs.List.Sorted.{IsStrictlySortedBy}
use Rattle.b2_base.specs.Digits.{eight_digits, sixteen_digits}
use Rattle.b2_base.proofs.DigitsLemmas.{length-eight_digits, length-sixteen_digits, same_sixteen}
use Rattle.b2_model.specs.LiveGrant.{token_text}
use Rattle.auth_grants.specs.declared.held.Held.{Held}
use Rattle.auth_grants.specs.Tokens.{serial_digits, held_in, with_conn, with_flight_in, IsUnderSerial, AreBySerial}

some_none : (h : Held) → Some h ≡ None → ⊥
some_none h same = true≢false (ap is_some same)

same_some : {g h : Held} → Some g ≡ Some h → g ≡ h
same_some {g} {h} same = ap (λ o. unwrap_or o g) same

differ : (a b : List ℕ) (r : Bool) → bytes_eq a b ≡ r → a ≢ b → r ≡ false
differ a b true is other = absurd (other ((bytes_decides a b).0 is))
differ a b false is other = refl

-- ---- no token has the text

none_has : (text : List ℕ) (es : List (ℕ × Held)) → All (λ e. e.1.grant.text ≢ text) es → held_in (values_of es) text ≡ None
none_has text [] others = refl
none_has text (e ∷ es) others =
    rw (differ e.1.grant.text text _ refl (All-head (λ e. e.1.grant.text ≢ text) e es others)) (none_has text es (All-tail (λ e. e.1.grant.text ≢ text) e es others))

all_other : (text : List ℕ) (es : List (ℕ × Held)) → All IsUnderSerial es → ((n : ℕ) → n < 2 ^ 64 → serial_digits text ≢ sixteen_digits n)
    → All (λ e. e.1.grant.text ≢ text) es
all_other text es under none i d small same =
    none _ (under i d small).1 (ap serial_digits (sym same) ∙ (under i d small).0)

pub no_serial_in : (text : List ℕ) (es : List (ℕ × Held)) → All IsUnderSerial es → ((n : ℕ) → n < 2 ^ 64 → serial_digits text ≢ sixteen_digits n)
    → held_in (values_of es) text ≡ None
no_serial_in text es under none = none_has text es (all_other text es under none)

-- ---- the token under a serial

-- the token, if it has the text
abbrev pub if_text : List ℕ → Option Held → Option Held
if_text text None = None
if_text text (Some h) = cond (bytes_eq h.grant.text text) (Some h) None

none_under : (serial : ℕ) (es : List (ℕ × Held)) → All (λ k. nat_cmp serial k ≡ Less) (keys_of es) → lookup (is_at (nat_cmp serial)) es ≡ None
none_under serial [] above = refl
none_under serial (e ∷ es) above =
    rw (All-head (λ k. nat_cmp serial k ≡ Less) e.0 (keys_of es) above) (none_under serial es (All-tail (λ k. nat_cmp serial k ≡ Less) e.0 (keys_of es) above))

-- a list in order, without its first
order_tail : (e : ℕ × Held) (es : List (ℕ × Held)) → AreBySerial (e ∷ es) → AreBySerial es
order_tail e es by = record { ordered = sorted_tail nat_cmp e.0 (keys_of es) by.ordered; under = All-tail IsUnderSerial e es by.under }

-- no later one stands under the serial of the first
none_later : (serial : ℕ) (e : ℕ × Held) (es : List (ℕ × Held)) → AreBySerial (e ∷ es) → serial ≡ e.0 → lookup (is_at (nat_cmp serial)) es ≡ None
none_later serial e es by same =
    none_under serial es (subst (λ s. All (λ k. nat_cmp s k ≡ Less) (keys_of es)) (sym same) (All-after_first nat_cmp e.0 (keys_of es) by.ordered))

first_found : (serial : ℕ) (text : List ℕ) (e : ℕ × Held) (es : List (ℕ × Held)) (r : Bool) → bytes_eq e.1.grant.text text ≡ r
    → held_in (values_of es) text ≡ None → held_in (values_of (e ∷ es)) text ≡ if_text text (Some e.1)
first_found serial text e es true is none = rw is refl
first_found serial text e es false is none = rw is none

other_serial : (serial : ℕ) (text : List ℕ) (e : ℕ × Held) → IsUnderSerial e → serial < 2 ^ 64 → serial_digits text ≡ sixteen_digits serial → serial ≢ e.0
    → e.1.grant.text ≢ text
other_serial serial text e under small digits other same =
    other (same_sixteen serial e.0 small under.1 (sym digits ∙ ap serial_digits (sym same) ∙ under.0))

found_step : (serial : ℕ) (text : List ℕ) (e : ℕ × Held) (es : List (ℕ × Held)) (o : Ordering) → nat_cmp serial e.0 ≡ o → AreBySerial (e ∷ es) → serial < 2 ^ 64
    → serial_digits text ≡ sixteen_digits serial → held_in (values_of es) text ≡ if_text text (lookup (is_at (nat_cmp serial)) es)
    → held_in (values_of (e ∷ es)) text ≡ if_text text (lookup (is_at (nat_cmp serial)) (e ∷ es))
found_step serial text e es Equal is by small digits rest =
    let later = none_later serial e es by (exact_unsigned serial e.0 is) in
    rw is (first_found serial text e es _ refl (rest ∙ ap (if_text text) later))
found_step serial text e es Less is by small digits rest =
    let other : serial ≢ e.0 = λ same. grind (arith, nat_tests) in
    rw (is, differ e.1.grant.text text _ refl (other_serial serial text e (All-head IsUnderSerial e es by.under) small digits other)) rest
found_step serial text e es Greater is by small digits rest =
    let other : serial ≢ e.0 = λ same. grind (arith, nat_tests) in
    rw (is, differ e.1.grant.text text _ refl (other_serial serial text e (All-head IsUnderSerial e es by.under) small digits other)) rest

pub found : (serial : ℕ) (text : List ℕ) (es : List (ℕ × Held)) → AreBySerial es → serial < 2 ^ 64 → serial_digits text ≡ sixteen_digits serial
    → held_in (values_of es) text ≡ if_text text (lookup (is_at (nat_cmp serial)) es)
found serial text [] by small digits = refl
found serial text (e ∷ es) by small digits =
    found_step serial text e es _ refl by small digits (found serial text es (order_tail e es by) small digits)

-- ---- a write to the token of a text

set_none : (text : List ℕ) (conn : Option ℕ) (h : Held) (hs : List Held) (r : Bool) → bytes_eq h.grant.text text ≡ r → held_in (h ∷ hs) text ≡ None
    → (held_in hs text ≡ None → with_flight_in text conn hs ≡ hs) → with_flight_in text conn (h ∷ hs) ≡ h ∷ hs
set_none text conn h hs true is none rest = let some : Some h ≡ None = rw is at none in absurd (some_none h some)
set_none text conn h hs false is none rest = rw is (ap (λ xs. h ∷ xs) (rest (rw is at none)))

-- where none has it, nothing changes
pub unset : (text : List ℕ) (conn : Option ℕ) (hs : List Held) → held_in hs text ≡ None → with_flight_in text conn hs ≡ hs
unset text conn [] none = refl
unset text conn (h ∷ hs) none = set_none text conn h hs _ refl none (unset text conn hs)

has_text : (text : List ℕ) (h : Held) (r : Bool) → bytes_eq h.grant.text text ≡ r → IsSome (if_text text (Some h)) → r ≡ true
has_text text h true is some = refl
has_text text h false is some = rw is at some

set_step : (serial : ℕ) (text : List ℕ) (conn : Option ℕ) (h : Held) (e : ℕ × Held) (es : List (ℕ × Held)) (o : Ordering) → nat_cmp serial e.0 ≡ o
    → AreBySerial (e ∷ es) → serial < 2 ^ 64 → serial_digits text ≡ sixteen_digits serial → bytes_eq h.grant.text text ≡ true
    → lookup (is_at (nat_cmp serial)) (e ∷ es) ≡ Some h
    → (lookup (is_at (nat_cmp serial)) es ≡ Some h → values_of (set_value (is_at (nat_cmp serial)) es (record h { flight = conn })) ≡ with_flight_in text conn (values_of es))
    → values_of (set_value (is_at (nat_cmp serial)) (e ∷ es) (record h { flight = conn })) ≡ with_flight_in text conn (values_of (e ∷ es))
set_step serial text conn h e es Equal is by small digits has at rest =
    let same : e.1 ≡ h = same_some (rw is at at) in
    let none : held_in (values_of es) text ≡ None =
    found serial text es (order_tail e es by) small digits ∙ ap (if_text text) (none_later serial e es by (exact_unsigned serial e.0 is)) in
    let here : with_conn text conn e.1 ≡ record h { flight = conn } = rw (same, has) refl in
    rw (is, here, unset text conn (values_of es) none) refl
set_step serial text conn h e es Less is by small digits has at rest =
    let other : serial ≢ e.0 = λ same. grind (arith, nat_tests) in
    rw (is, differ e.1.grant.text text _ refl (other_serial serial text e (All-head IsUnderSerial e es by.under) small digits other))
    (ap (λ xs. e.1 ∷ xs) (rest (rw is at at)))
set_step serial text conn h e es Greater is by small digits has at rest =
    let other : serial ≢ e.0 = λ same. grind (arith, nat_tests) in
    rw (is, differ e.1.grant.text text _ refl (other_serial serial text e (All-head IsUnderSerial e es by.under) small digits other))
    (ap (λ xs. e.1 ∷ xs) (rest (rw is at at)))

set_at : (serial : ℕ) (text : List ℕ) (conn : Option ℕ) (h : Held) (es : List (ℕ × Held)) → AreBySerial es → serial < 2 ^ 64
    → serial_digits text ≡ sixteen_digits serial → bytes_eq h.grant.text text ≡ true → lookup (is_at (nat_cmp serial)) es ≡ Some h
    → values_of (set_value (is_at (nat_cmp serial)) es (record h { flight = conn })) ≡ with_flight_in text conn (values_of es)
set_at serial text conn h [] by small digits has at = refl
set_at serial text conn h (e ∷ es) by small digits has at =
    set_step serial text conn h e es _ refl by small digits has at (set_at serial text conn h es (order_tail e es by) small digits has)

-- the token that the serial of the text finds has the text, where one has it
pub set : (serial : ℕ) (text : List ℕ) (conn : Option ℕ) (h : Held) (es : List (ℕ × Held)) → AreBySerial es → serial < 2 ^ 64
    → serial_digits text ≡ sixteen_digits serial → IsSome (held_in (values_of es) text) → lookup (is_at (nat_cmp serial)) es ≡ Some h
    → values_of (set_value (is_at (nat_cmp serial)) es (record h { flight = conn })) ≡ with_flight_in text conn (values_of es)
set serial text conn h es by small digits some at =
    let found_it : IsSome (if_text text (Some h)) = subst IsSome (found serial text es by small digits ∙ ap (if_text text) at) some in
    set_at serial text conn h es by small digits (has_text text h _ refl found_it) at

under_step : (serial : ℕ) (h w : Held) (e : ℕ × Held) (es : List (ℕ × Held)) (o : Ordering) → nat_cmp serial e.0 ≡ o → All IsUnderSerial (e ∷ es)
    → w.grant ≡ h.grant → lookup (is_at (nat_cmp serial)) (e ∷ es) ≡ Some h
    → (lookup (is_at (nat_cmp serial)) es ≡ Some h → All IsUnderSerial (set_value (is_at (nat_cmp serial)) es w))
    → All IsUnderSerial (set_value (is_at (nat_cmp serial)) (e ∷ es) w)
under_step serial h w e es Equal is under grant at rest =
    let same : e.1 ≡ h = same_some (rw is at at) in
    let first = All-head IsUnderSerial e es under in
    let here : IsUnderSerial (e.0, w) = (ap (λ g. serial_digits g.text) grant ∙ ap (λ h. serial_digits h.grant.text) (sym same) ∙ first.0, first.1) in
    rw is (All-cons IsUnderSerial (e.0, w) es here (All-tail IsUnderSerial e es under))
under_step serial h w e es Less is under grant at rest =
    rw is (All-cons IsUnderSerial e (set_value (is_at (nat_cmp serial)) es w) (All-head IsUnderSerial e es under) (rest (rw is at at)))
under_step serial h w e es Greater is under grant at rest =
    rw is (All-cons IsUnderSerial e (set_value (is_at (nat_cmp serial)) es w) (All-head IsUnderSerial e es under) (rest (rw is at at)))

under_set : (serial : ℕ) (h w : Held) (es : List (ℕ × Held)) → All IsUnderSerial es → w.grant ≡ h.grant → lookup (is_at (nat_cmp serial)) es ≡ Some h
    → All IsUnderSerial (set_value (is_at (nat_cmp serial)) es w)
under_set serial h w [] under grant at = under
under_set serial h w (e ∷ es) under grant at =
    under_step serial h w e es _ refl under grant at (under_set serial h w es (All-tail IsUnderSerial e es under) grant)

-- a write that leaves the grant leaves the tokens by their serials
pub set_by : (serial : ℕ) (h w : Held) (es fs : List (ℕ × Held)) → AreBySerial es → lookup (is_at (nat_cmp serial)) es ≡ Some h → w.grant ≡ h.grant
    → fs ≡ set_value (is_at (nat_cmp serial)) es w → IsStrictlySortedBy nat_cmp (keys_of fs) → AreBySerial fs
set_by serial h w es fs by at grant is ordered = record {
  ordered = ordered;
  under = subst (All IsUnderSerial) (sym is) (under_set serial h w es by.under grant at);
}

-- ---- a new token

append_step : (k : ℕ) (h : Held) (e : ℕ × Held) (es : List (ℕ × Held)) → e.0 < k → insert_entry nat_cmp es k h ≡ es ++ (k, h) ∷ []
    → insert_entry nat_cmp (e ∷ es) k h ≡ (e ∷ es) ++ (k, h) ∷ []
append_step k h e es below rest =
    let after : nat_cmp k e.0 ≡ Greater = grind (arith, nat_tests) in
    rw after (ap (λ xs. e ∷ xs) rest)

-- a serial after all others stands at the end
pub put_last : (k : ℕ) (h : Held) (es : List (ℕ × Held)) → All (λ j. j < k) (keys_of es) → insert_entry nat_cmp es k h ≡ es ++ (k, h) ∷ []
put_last k h [] below = refl
put_last k h (e ∷ es) below =
    append_step k h e es (All-head (λ j. j < k) e.0 (keys_of es) below) (put_last k h es (All-tail (λ j. j < k) e.0 (keys_of es) below))

cut_text : (b s f w : List ℕ) → codes "3_" ++ b ++ 95 ∷ s ++ 95 ∷ f ++ 95 ∷ w ≡ codes "3_" ++ ((b ++ 95 ∷ []) ++ (s ++ (95 ∷ (f ++ 95 ∷ w))))
cut_text b s f w = simp append_assoc refl

serial_part : (b s rest : List ℕ) → length b ≡ 8 → length s ≡ 16 → serial_digits (codes "3_" ++ ((b ++ 95 ∷ []) ++ (s ++ rest))) ≡ s
serial_part b s rest b_len s_len =
    let len : length (b ++ 95 ∷ []) ≡ 9 = omega (arith, length-append b (95 ∷ []), b_len) in
    ap (take 16) (drop_at (b ++ 95 ∷ []) (s ++ rest) 9 len) ∙ take_at s rest 16 s_len

-- a token's text tells its serial
pub tells_serial : (boot serial first second : ℕ) → serial_digits (token_text boot serial first second) ≡ sixteen_digits serial
tells_serial boot serial first second =
    ap serial_digits (cut_text (eight_digits boot) (sixteen_digits serial) (sixteen_digits first) (sixteen_digits second))
    ∙ serial_part (eight_digits boot) (sixteen_digits serial) (95 ∷ (sixteen_digits first ++ 95 ∷ sixteen_digits second)) (length-eight_digits boot) (length-sixteen_digits serial)

-- ---- values and entries

pub values-append : (es fs : List (ℕ × Held)) → values_of (es ++ fs) ≡ values_of es ++ values_of fs
values-append es fs = map-append (λ e. e.1) es fs

filter_step : (p : Held → Bool) (e : ℕ × Held) (es : List (ℕ × Held)) (r : Bool) → p e.1 ≡ r → values_of (filter (λ e. p e.1) es) ≡ filter p (values_of es)
    → values_of (filter (λ e. p e.1) (e ∷ es)) ≡ filter p (values_of (e ∷ es))
filter_step p e es true is rest = rw is (ap (λ xs. e.1 ∷ xs) rest)
filter_step p e es false is rest = rw is rest

pub values-filter : (p : Held → Bool) (es : List (ℕ × Held)) → values_of (filter (λ e. p e.1) es) ≡ filter p (values_of es)
values-filter p [] = refl
values-filter p (e ∷ es) = filter_step p e es _ refl (values-filter p es)
