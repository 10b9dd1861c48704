-- The last byte of a kind in a text, and a place in a table of names.
use Rattle.std.proofs.Common.{◌≡◌, ℕ, ◌-◌, ◌+◌, ◌<◌, ◌≤◌, List, ◌++◌, length, map, get_or, take, drop, reverse, Bool, true, false, ◌==◌, [], Bor, find, slice_get, slice_index_or, Some, bytes_eq, refl, sym, ap, ◌∙◌, arith}
use Rattle.std.specs.List.{position_or_len}
use Rattle.std.specs.Char.{to_ascii_lowercase}
use Rattle.std.proofs.lemmas.List.{get_or-reverse, reverse-append, reverse-reverse, length-reverse, length-drop, take-append-drop, get_or-map, length-map, take_at}
use Rattle.std.proofs.lemmas.Option.{slice_get-get_or, get_or_from_slice_get}
use Rattle.std.proofs.lemmas.Bool.Decides.{nat_tests}
use Rattle.std.proofs.lemmas.Slice.Eq.{bytes_eq-Decides}
use Rattle.rule_table.specs.Rows.{texts}
use Rattle.rule_table.proofs.Rows.{texts_at}
use borrow.Author.Count.{below_more}
use Rattle.std.proofs.lemmas.List.Sums.{position_or_len_is}
use Rattle.std.proofs.lemmas.List.Folds.{find_at}
use Rattle.b2_model.specs.MediaTypes.{after_last}
use Rattle.rule_table.specs.declared.file_kind.FileKind.{FileKind}
use Rattle.rule_table.specs.declared.file_kind.FileKind.TheVariants.{Txt}
use Rattle.rule_table.specs.FileKind.{kind_order, kind_names, kind_place, kind_here}

-- ---- what stands after the last byte of a kind

last_place : (byte : ℕ) (text : List ℕ) (at : ℕ) → at ≤ length text → ((j : ℕ) → at ≤ j → j < length text → (get_or text j 0 == byte) ≡ false)
    → (0 < at → (get_or text (at - 1) 0 == byte) ≡ true) → position_or_len (λ b. b == byte) (reverse text) ≡ length text - at
last_place byte text at within none here = position_or_len_is (λ b. b == byte) (reverse text) (length text - at) 0
    (omega (arith, length-reverse text))
    (λ k low. ap (λ b. b == byte) (get_or-reverse text k 0 (omega (arith, low))) ∙ none (length text - 1 - k) (omega (arith, low, within)) (omega (arith, low)))
    (λ low.
    let some : 0 < at = omega (arith, low, length-reverse text, within) in
    let place : length text - 1 - (length text - at) ≡ at - 1 = omega (arith, some, within) in
    ap (λ b. b == byte) (get_or-reverse text (length text - at) 0 (omega (arith, some, within)) ∙ ap (λ j. get_or text j 0) place) ∙ here some)

front_of_reverse : (text : List ℕ) (at : ℕ) → at ≤ length text → reverse (take (length text - at) (reverse text)) ≡ drop at text
front_of_reverse text at within =
    let whole : reverse text ≡ reverse (drop at text) ++ reverse (take at text) = ap reverse (sym (take-append-drop at text)) ∙ reverse-append (take at text) (drop at text) in
    let len : length (reverse (drop at text)) ≡ length text - at = length-reverse (drop at text) ∙ length-drop at text in
    ap (λ xs. reverse (take (length text - at) xs)) whole ∙ ap reverse (take_at (reverse (drop at text)) (reverse (take at text)) (length text - at) len) ∙ reverse-reverse (drop at text)

pub last_at : (byte : ℕ) (text : List ℕ) (at : ℕ) → at ≤ length text → ((j : ℕ) → at ≤ j → j < length text → (get_or text j 0 == byte) ≡ false)
    → (0 < at → (get_or text (at - 1) 0 == byte) ≡ true) → drop at text ≡ after_last byte text
last_at byte text at within none here =
    sym (ap (λ n. reverse (take n (reverse text))) (last_place byte text at within none here) ∙ front_of_reverse text at within)

-- ---- a kind by its name

pub lower_names : map (map to_ascii_lowercase) kind_names ≡ kind_names
lower_names = refl

pub lower_name : (k : ℕ) → k < 16 → map to_ascii_lowercase (slice_index_or kind_names k []) ≡ slice_index_or kind_names k []
lower_name k within = sym (get_or-map (map to_ascii_lowercase) kind_names k [] [] within) ∙ ap (λ names. slice_index_or names k []) lower_names

kind_at : (k : ℕ) → k < 16 → kind_place (get_or kind_order k Txt) ≡ k
kind_at k within = kind_here k (get_or kind_order k Txt) (slice_get-get_or kind_order k Txt within)

-- the first place whose name this is, or the end
pub kind_found : (low : List ℕ) (at : ℕ) → at ≤ 16 → ((k : ℕ) → k < at → bytes_eq (slice_index_or kind_names k []) low ≡ false)
    → (at < 16 → bytes_eq (slice_index_or kind_names at []) low ≡ true)
    → find (λ k. bytes_eq (slice_index_or kind_names (kind_place k) []) low) kind_order ≡ slice_get kind_order at
kind_found low at within none here =
    let named : (k : FileKind) → Bool = λ k. bytes_eq (slice_index_or kind_names (kind_place k) []) low in
    find_at named kind_order ∙ ap (slice_get kind_order) (position_or_len_is named kind_order at Txt within
    (λ k below. ap (λ n. bytes_eq (slice_index_or kind_names n []) low) (kind_at k (omega (arith, below, within))) ∙ none k below)
    (λ below. ap (λ n. bytes_eq (slice_index_or kind_names n []) low) (kind_at at below) ∙ here below))

-- ---- the names of the table

false_of : (b : Bool) → (b ≡ true → ⊥) → b ≡ false
false_of false h = refl
false_of true h = absurd (h refl)

pub test_of : (x y : ℕ) → x ≡ y → (x == y) ≡ true
test_of x y same = grind (arith, nat_tests)

pub sixteen_names : (names : List (Bor (List ℕ))) → texts names ≡ kind_names → length names ≡ 16
sixteen_names names is = sym (length-map names (λ (name : Bor (List ℕ)). name.now)) ∙ ap length is

name_at : (names : List (Bor (List ℕ))) (i : ℕ) (d : Bor (List ℕ)) → texts names ≡ kind_names → i < length names → (slice_index_or names i d).now ≡ slice_index_or kind_names i []
name_at names i d is within = sym (get_or_from_slice_get kind_names i (slice_index_or names i d).now [] (sym (ap (λ ts. slice_get ts i) is) ∙ texts_at names i d within))

lower_at : (names : List (Bor (List ℕ))) (i : ℕ) (d : Bor (List ℕ)) → texts names ≡ kind_names → i < length names
    → map to_ascii_lowercase (slice_index_or names i d).now ≡ slice_index_or kind_names i []
lower_at names i d is within = ap (map to_ascii_lowercase) (name_at names i d is within) ∙ lower_name i (omega (arith, within, sixteen_names names is))

pub has_name : (names : List (Bor (List ℕ))) (i : ℕ) (d : Bor (List ℕ)) (bytes extension : List ℕ) → texts names ≡ kind_names → i < length names
    → bytes ≡ (slice_index_or names i d).now → map to_ascii_lowercase bytes ≡ map to_ascii_lowercase extension
    → bytes_eq (slice_index_or kind_names i []) (map to_ascii_lowercase extension) ≡ true
has_name names i d bytes extension is within at same =
    (bytes_eq-Decides (slice_index_or kind_names i []) (map to_ascii_lowercase extension)).1
    (sym (ap (map to_ascii_lowercase) at ∙ lower_at names i d is within) ∙ same)

pub has_other_name : (names : List (Bor (List ℕ))) (i : ℕ) (d : Bor (List ℕ)) (bytes extension : List ℕ) → texts names ≡ kind_names → i < length names
    → bytes ≡ (slice_index_or names i d).now → (map to_ascii_lowercase bytes ≡ map to_ascii_lowercase extension → ⊥)
    → bytes_eq (slice_index_or kind_names i []) (map to_ascii_lowercase extension) ≡ false
has_other_name names i d bytes extension is within at other =
    false_of (bytes_eq (slice_index_or kind_names i []) (map to_ascii_lowercase extension))
    (λ same. other (ap (map to_ascii_lowercase) at ∙ lower_at names i d is within ∙ (bytes_eq-Decides (slice_index_or kind_names i []) (map to_ascii_lowercase extension)).0 same))

pub none_more : (low : List ℕ) (at : ℕ) → ((k : ℕ) → k < at → bytes_eq (slice_index_or kind_names k []) low ≡ false)
    → bytes_eq (slice_index_or kind_names at []) low ≡ false → (k : ℕ) → k < at + 1 → bytes_eq (slice_index_or kind_names k []) low ≡ false
none_more low at before here = below_more (λ k. bytes_eq (slice_index_or kind_names k []) low ≡ false) at before here
