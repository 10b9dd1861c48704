-- The range of a text is the one that the grammar gives it.
use Rattle.std.proofs.Common.{◌≡◌, ◌≢◌, ℕ, ◌≤◌, inl, inr, length, List, [], ◌∷◌, ◌++◌, true, Option, Some, None, MatchOption, sym, ap, subst, ◌∙◌, refl}
use Rattle.std.specs.Prelude.{All, option_map, option_and_then, nat_le, ◌&&◌}
use Rattle.std.specs.Str.{all_ascii_digits}
use Rattle.std.specs.Char.{is_ascii_digit}
use Rattle.std.specs.Str.Parse.{digits_value}
use Rattle.std.proofs.lemmas.Bool.{cases_Bool, and_parts, false≢true, le-leb, leb-true}
use Rattle.std.proofs.lemmas.Option.{none-some}
use Rattle.std.proofs.lemmas.List.Elements.{All-cons, All-nil}
use Rattle.b2_base.specs.Decimal.{has_digits}
use Rattle.b2_types.specs.declared.call.ByteRange.{ByteRange}
use Rattle.b2_types.specs.declared.call.ByteRange.TheVariants.{Between, From, Last}
use Rattle.byte_ranges.specs.Ranges.{unit, IsNumber, IsRange, number, after, halves, in_order, range_at, range_of}
use Rattle.byte_ranges.proofs.Cut.{after_front, front_is, no_front, halves_at, no_halves, halves_is}

no_digit : (c : ℕ) → is_ascii_digit c ≡ true → c ≢ 45
no_digit c is same = false≢true (ap is_ascii_digit (sym same) ∙ is)

clean_digits : (text : List ℕ) → all_ascii_digits text ≡ true → All (λ b. b ≢ 45) text
clean_digits [] are = All-nil (λ b. b ≢ 45)
clean_digits (c ∷ cs) are =
    let parts = and_parts (is_ascii_digit c) (all_ascii_digits cs) are in
    All-cons (λ b. b ≢ 45) c cs (no_digit c parts.0) (clean_digits cs parts.1)

clean : (text : List ℕ) (n : ℕ) → IsNumber text n → All (λ b. b ≢ 45) text
clean text n is = clean_digits text (and_parts (nat_le 1 (length text) && nat_le (length text) 18) (all_ascii_digits text) is.0).1

number_some : (text : List ℕ) (n : ℕ) → IsNumber text n → number text ≡ Some n
number_some text n is = rw is.0 (ap Some (sym is.1))

number_is : (text : List ℕ) (n : ℕ) → number text ≡ Some n → IsNumber text n
number_is text n read = elim (cases_Bool (has_digits 18 text)) [
  | inl passes ↦ (let found = rw passes at read in (passes, (let same : n ≡ digits_value 10 text = cc found in same)))
  | inr fails ↦ (let none = rw fails at read in absurd (cc none))
]

-- ---- from the grammar

between_at : (first last : List ℕ) (a b : ℕ) → IsNumber first a → IsNumber last b → a ≤ b → range_at first last ≡ Some (Between a b)
between_at [] last a b start end order = absurd (false≢true start.0)
between_at (x ∷ xs) [] a b start end order = absurd (false≢true end.0)
between_at (x ∷ xs) (y ∷ ys) a b start end order = rw (number_some (x ∷ xs) a start, number_some (y ∷ ys) b end, le-leb a b order) refl

from_at : (first : List ℕ) (a : ℕ) → IsNumber first a → range_at first [] ≡ Some (From a)
from_at [] a start = absurd (false≢true start.0)
from_at (x ∷ xs) a start = rw (number_some (x ∷ xs) a start) refl

last_at : (last : List ℕ) (n : ℕ) → IsNumber last n → range_at [] last ≡ Some (Last n)
last_at last n end = rw (number_some last n end) refl

whole_by : (text first last : List ℕ) → text ≡ unit ++ (first ++ 45 ∷ last) → All (λ b. b ≢ 45) first → range_of text ≡ range_at first last
whole_by text first last is none =
    ap range_of is
    ∙ ap (λ o. option_and_then (λ rest. option_and_then (λ (p : List ℕ × List ℕ). range_at p.0 p.1) (halves rest)) o) (after_front unit (first ++ 45 ∷ last))
    ∙ ap (λ o. option_and_then (λ (p : List ℕ × List ℕ). range_at p.0 p.1) o) (halves_at first last none)

whole : (text first last : List ℕ) (r : ByteRange) → text ≡ unit ++ (first ++ 45 ∷ last) → All (λ b. b ≢ 45) first → range_at first last ≡ Some r → range_of text ≡ Some r
whole text first last r is none at = whole_by text first last is none ∙ at

pub told : (text : List ℕ) (r : ByteRange) → IsRange text r → range_of text ≡ Some r
told text (Between a b) is = whole text is.0 is.1 (Between a b) is.5 (clean is.0 a is.2) (between_at is.0 is.1 a b is.2 is.3 is.4)
told text (From a) is = whole text is.0 [] (From a) is.2 (clean is.0 a is.1) (from_at is.0 a is.1)
told text (Last n) is = whole text [] is.0 (Last n) is.2 (All-nil (λ b. b ≢ 45)) (last_at is.0 n is.1)

-- ---- to the grammar

last_is : (text last : List ℕ) (o : Option ℕ) (r : ByteRange) → text ≡ unit ++ (45 ∷ last) → number last ≡ o → option_map Last o ≡ Some r → IsRange text r
last_is text last None r is read found = absurd (cc found)
last_is text last (Some n) r is read found = subst (IsRange text) (let same : Last n ≡ r = cc found in same) (last, number_is last n read, is)

from_is : (text first : List ℕ) (o : Option ℕ) (r : ByteRange) → text ≡ unit ++ (first ++ 45 ∷ []) → number first ≡ o → option_map From o ≡ Some r → IsRange text r
from_is text first None r is read found = absurd (cc found)
from_is text first (Some a) r is read found = subst (IsRange text) (let same : From a ≡ r = cc found in same) (first, number_is first a read, is)

between_is : (text first last : List ℕ) (o q : Option ℕ) (r : ByteRange) → text ≡ unit ++ (first ++ 45 ∷ last) → number first ≡ o → number last ≡ q
    → option_and_then (λ a. option_and_then (in_order a) q) o ≡ Some r → IsRange text r
between_is text first last None q r is start end found = absurd (cc found)
between_is text first last (Some a) None r is start end found = absurd (cc found)
between_is text first last (Some a) (Some b) r is start end found = elim (cases_Bool (nat_le a b)) [
  | inl passes ↦ (
      let one = rw passes at found in
      subst (IsRange text) (let same : Between a b ≡ r = cc one in same) (first, last, number_is first a start, number_is last b end, leb-true a b passes, is))
  | inr fails ↦ (let none = rw fails at found in absurd (cc none))
]

at_is : (text first last : List ℕ) (r : ByteRange) → text ≡ unit ++ (first ++ 45 ∷ last) → range_at first last ≡ Some r → IsRange text r
at_is text [] last r is found = last_is text last (number last) r is refl found
at_is text (x ∷ xs) [] r is found = from_is text (x ∷ xs) (number (x ∷ xs)) r is refl found
at_is text (x ∷ xs) (y ∷ ys) r is found = between_is text (x ∷ xs) (y ∷ ys) (number (x ∷ xs)) (number (y ∷ ys)) r is refl refl found

halved_is : (text rest : List ℕ) (o : Option (List ℕ × List ℕ)) (r : ByteRange) → text ≡ unit ++ rest → halves rest ≡ o
    → option_and_then (λ (p : List ℕ × List ℕ). range_at p.0 p.1) o ≡ Some r → IsRange text r
halved_is text rest None r front is found = absurd (cc found)
halved_is text rest (Some p) r front is found = at_is text p.0 p.1 r (front ∙ ap (λ xs. unit ++ xs) (halves_is rest p.0 p.1 is)) found

whole_is : (text : List ℕ) (o : Option (List ℕ)) (r : ByteRange) → after unit text ≡ o
    → option_and_then (λ rest. option_and_then (λ (p : List ℕ × List ℕ). range_at p.0 p.1) (halves rest)) o ≡ Some r → IsRange text r
whole_is text None r is found = absurd (cc found)
whole_is text (Some rest) r is found = halved_is text rest (halves rest) r (front_is unit text rest is) refl found

pub matches : (text : List ℕ) (o : Option ByteRange) → o ≡ range_of text → MatchOption o ((r : ByteRange) → IsRange text r → ⊥) (IsRange text)
matches text None is = λ r range. none-some r (is ∙ told text r range)
matches text (Some r) is = whole_is text (after unit text) r refl (sym is)

-- ---- by the parts that are found

abbrev in_halves : Option (List ℕ × List ℕ) → Option ByteRange
in_halves o = option_and_then (λ (p : List ℕ × List ℕ). range_at p.0 p.1) o

abbrev in_rest : Option (List ℕ) → Option ByteRange
in_rest o = option_and_then (λ rest. in_halves (halves rest)) o

pub no_unit : (text : List ℕ) → ((rest : List ℕ) → text ≢ unit ++ rest) → None ≡ range_of text
no_unit text none = sym (ap in_rest (no_front unit text none))

pub no_hyphen : (text rest : List ℕ) → text ≡ unit ++ rest → All (λ b. b ≢ 45) rest → None ≡ range_of text
no_hyphen text rest is none = sym (ap range_of is ∙ ap in_rest (after_front unit rest) ∙ ap in_halves (no_halves rest none))

pub cut_in : (text rest first last : List ℕ) → text ≡ unit ++ rest → All (λ b. b ≢ 45) first × (rest ≡ first ++ 45 ∷ last) → range_at first last ≡ range_of text
cut_in text rest first last is cut = sym (whole_by text first last (is ∙ ap (λ xs. unit ++ xs) cut.1) cut.0)
