-- The rows of a page and the one after them.
use Rattle.std.proofs.Common.{◌≡◌, ℕ, zero, suc, ◌+◌, ◌≤◌, List, [], ◌∷◌, Option, length, take, map, ap, ◌∙◌, refl, arith}
use Rattle.std.specs.Prelude.{option_map, slice_get}
use Rattle.std.proofs.lemmas.List.{length-take, take-map, take-take}
use Rattle.std.proofs.lemmas.Option.{slice_get-map}
use Rattle.b2_model.specs.Pages.{Page, Row, page_of}
use Rattle.listing_pages.specs.declared.page.PageRow.{PageRow}
use Rattle.listing_pages.specs.PageOf.{page_row, shown_page}

get_front : {X : Type 0} (n m : ℕ) (xs : List X) → m ≡ suc n → slice_get (take m xs) n ≡ slice_get xs n
get_front n zero xs is = absurd (omega (arith, is))
get_front n (suc m) [] is = refl
get_front zero (suc m) (x ∷ xs) is = refl
get_front (suc n) (suc m) (x ∷ xs) is = get_front n m xs (omega (arith, is))

two_parts : {X : Type 0} (a b : List X) (c d : Option X) → a ≡ b → c ≡ d → (let p : Page X = record { rows = a; next = c } in p) ≡ record { rows = b; next = d }
two_parts a b c d first second = let p : (let x : Page _ = record { rows = a; next = c } in x) ≡ record { rows = b; next = d } = rw (first, second) refl in p

-- the first rows of a listing are its page
pub paged : {C : Type 0} (n : ℕ) (all : List (Row C)) (items : List PageRow) → items ≡ take (n + 1) (map page_row all) → page_of n items ≡ shown_page (page_of n all)
paged n all items is = two_parts (take n items) (map page_row (take n all)) (slice_get items n) (option_map page_row (slice_get all n))
    (ap (take n) is ∙ take-take n (n + 1) (map page_row all) (omega arith) ∙ take-map page_row n all)
    (ap (λ l. slice_get l n) is ∙ get_front n (n + 1) (map page_row all) (omega arith) ∙ slice_get-map page_row all n)

pub few_taken : {X : Type 0} (n : ℕ) (items all : List X) → items ≡ take n all → length items ≤ n
few_taken n items all is = omega (arith, ap length is, length-take n all)

-- a page has all rows but one
pub one_less : (n : ℕ) (items : List PageRow) (page : Page PageRow) → length items ≤ n + 1 → page ≡ page_of n items → length items ≤ length page.rows + 1
one_less n items page few is = omega (arith, few, ap (λ p. length p.rows) is, length-take n items)

-- one row more than a page has tells the page
pub page_taken : {X : Type 0} (n : ℕ) (all items : List X) → items ≡ take (n + 1) all → page_of n items ≡ page_of n all
page_taken n all items is = two_parts (take n items) (take n all) (slice_get items n) (slice_get all n)
    (ap (take n) is ∙ take-take n (n + 1) all (omega arith))
    (ap (λ l. slice_get l n) is ∙ get_front n (n + 1) all (omega arith))

pub page_mapped : {X Y : Type 0} (f : X → Y) (n : ℕ) (xs : List X) → page_of n (map f xs) ≡ record { rows = map f (take n xs); next = option_map f (slice_get xs n) }
page_mapped f n xs = two_parts (take n (map f xs)) (map f (take n xs)) (slice_get (map f xs) n) (option_map f (slice_get xs n)) (take-map f n xs) (slice_get-map f xs n)
