-- Pieces of bodies that are the same tell the same.
use Rattle.std.proofs.Common.{◌≡◌, inl, inr, ℕ, ◌<◌, ◌^◌, List, [], ◌∷◌, length, drop, get_or, Bool, true, false, Option, Some, None, map, sym, ap, ◌∙◌, refl, arith}
use Rattle.std.specs.Prelude.{All, option_map}
use Rattle.std.proofs.lemmas.Bool.{false≢true, cases_lt}
use Rattle.std.proofs.Math.Dec.{eqb-suc-zero}
use Rattle.std.proofs.lemmas.List.Elements.{All-head, All-tail}
use Rattle.serde_json.specs.Data.{Data, Num, unsigned, null, boolean, number, string, array, Items, no_items, item}
use Rattle.serde_json.specs.View.{items_of}
use Rattle.b2_base.specs.BucketId.{bucket_id}
use Rattle.b2_base.specs.FileId.{file_id}
use Rattle.b2_base.proofs.DigitsLemmas.{same_eight}
use Rattle.b2_base.proofs.IdLemmas.{one_version}
use Rattle.rule_table.proofs.Filled.{apart, apart_rule}
use Rattle.wire_forms.specs.Body.{amount, or_null, unless_empty, list_of}

-- what a value is as a text, a number or a flag
abbrev pub text : Data → List ℕ
text (string s) = s
text other = []

abbrev number_in : Num → ℕ
number_in (unsigned n) = n
number_in other = 0

abbrev pub count : Data → ℕ
count (number n) = number_in n
count other = 0

abbrev pub flag : Data → Bool
flag (boolean b) = b
flag other = false

abbrev pub is_null : Data → Bool
is_null null = true
is_null other = false

-- what tells a value tells one that may be absent
pub same_option : {X Y : Type 0} (json : X → Data) (f : X → Y) (P : X → Type 0) → ((x : X) → is_null (json x) ≡ false)
    → ((x y : X) → P x → P y → json x ≡ json y → f x ≡ f y) → (a b : Option X) → ((x : X) → a ≡ Some x → P x) → ((x : X) → b ≡ Some x → P x)
    → or_null json a ≡ or_null json b → option_map f a ≡ option_map f b
same_option json f P some tells None None first second same = refl
same_option json f P some tells None (Some y) first second same = absurd (false≢true (sym (some y) ∙ ap is_null (sym same)))
same_option json f P some tells (Some x) None first second same = absurd (false≢true (sym (some x) ∙ ap is_null same))
same_option json f P some tells (Some x) (Some y) first second same = ap Some (tells x y (first x refl) (second y refl) same)

abbrev pub items : Data → Items
items (array ds) = ds
items other = no_items

abbrev front : Items → Data
front no_items = null
front (item d ds) = d

abbrev rest : Items → Items
rest no_items = no_items
rest (item d ds) = ds

abbrev pub is_empty : Items → Bool
is_empty no_items = true
is_empty (item d ds) = false

same_items : {X Y : Type 0} (json : X → Data) (f : X → Y) (P : X → Type 0) → ((x y : X) → P x → P y → json x ≡ json y → f x ≡ f y)
    → (xs ys : List X) → All P xs → All P ys → items_of (map json xs) ≡ items_of (map json ys) → map f xs ≡ map f ys
same_items json f P tells [] [] first second same = refl
same_items json f P tells [] (y ∷ ys) first second same = absurd (false≢true (ap is_empty (sym same)))
same_items json f P tells (x ∷ xs) [] first second same = absurd (false≢true (ap is_empty same))
same_items json f P tells (x ∷ xs) (y ∷ ys) first second same =
    let head : f x ≡ f y = tells x y (All-head P x xs first) (All-head P y ys second) (ap front same) in
    let tail : map f xs ≡ map f ys = same_items json f P tells xs ys (All-tail P x xs first) (All-tail P y ys second) (ap rest same) in
    λ i. head i ∷ tail i

-- what tells an item tells a list of them
pub same_list : {X Y : Type 0} (json : X → Data) (f : X → Y) (P : X → Type 0) → ((x y : X) → P x → P y → json x ≡ json y → f x ≡ f y)
    → (xs ys : List X) → All P xs → All P ys → list_of json xs ≡ list_of json ys → map f xs ≡ map f ys
same_list json f P tells xs ys first second same = same_items json f P tells xs ys first second (ap items same)

pub same_bucket : (a b : ℕ) → a < 2 ^ 32 → b < 2 ^ 32 → bucket_id a ≡ bucket_id b → a ≡ b
same_bucket a b small_a small_b same = same_eight a b small_a small_b (ap (drop 16) same)

pub same_version : (b v c w : ℕ) → v < 2 ^ 53 → w < 2 ^ 53 → file_id b v ≡ file_id c w → v ≡ w
same_version b v c w small_v small_w same = one_version (file_id b v) b v c w (omega (arith, small_v)) (omega (arith, small_w)) refl same

-- ---- values that may be absent

pub same_some : {X : Type 0} (json : X → Data) → ((x : X) → is_null (json x) ≡ false) → (a b : Option X)
    → ((x y : X) → a ≡ Some x → b ≡ Some y → json x ≡ json y → x ≡ y) → or_null json a ≡ or_null json b → a ≡ b
same_some json some None None tells same = refl
same_some json some None (Some y) tells same = absurd (false≢true (sym (some y) ∙ ap is_null (sym same)))
same_some json some (Some x) None tells same = absurd (false≢true (sym (some x) ∙ ap is_null same))
same_some json some (Some x) (Some y) tells same = ap Some (tells x y refl refl same)

pub same_amount : (a b : Option ℕ) → or_null amount a ≡ or_null amount b → a ≡ b
same_amount a b same = same_some amount (λ n. refl) a b (λ x y is_x is_y both. ap count both) same

pub same_text : (a b : Option (List ℕ)) → or_null string a ≡ or_null string b → a ≡ b
same_text a b same = same_some string (λ t. refl) a b (λ x y is_x is_y both. ap text both) same

-- an empty text is null
told_text : (t : List ℕ) → text (unless_empty t) ≡ t
told_text [] = refl
told_text (x ∷ xs) = rw (eqb-suc-zero (length xs)) refl

pub same_prefix : (a b : List ℕ) → unless_empty a ≡ unless_empty b → a ≡ b
same_prefix a b same = sym (told_text a) ∙ ap text same ∙ told_text b

-- ---- lists

-- what has one body at each item has one body as a list
pub keeps_list : {X : Type 0} (json : X → Data) (f : X → X) → ((x : X) → json (f x) ≡ json x) → (xs : List X) → list_of json (map f xs) ≡ list_of json xs
keeps_list json f keeps xs = ap (λ ds. array (items_of ds)) (kept_map json f keeps xs)
  where
    kept_map : {X : Type 0} (json : X → Data) (f : X → X) → ((x : X) → json (f x) ≡ json x) → (xs : List X) → map json (map f xs) ≡ map json xs
    kept_map json f keeps [] = refl
    kept_map json f keeps (x ∷ xs) = λ i. keeps x i ∷ kept_map json f keeps xs i

-- texts that are all apart stand each at one place
pub one_place : (names : List (List ℕ)) → apart names ≡ true → (i j : ℕ) → i < length names → j < length names → get_or names i [] ≡ get_or names j [] → i ≡ j
one_place names all i j within_i within_j same = elim (cases_lt i j) [
  | inl before ↦ absurd (apart_rule names all i j [] before within_j same)
  | inr from ↦ elim (cases_lt j i) [
    | inl after ↦ absurd (apart_rule names all j i [] after within_i (sym same))
    | inr upto ↦ omega (arith, from, upto)
  ]
]
