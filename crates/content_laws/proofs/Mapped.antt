-- Lists under a map.
use Rattle.std.proofs.Common.{◌≡◌, ℕ, zero, suc, Bool, true, false, List, [], ◌∷◌, Some, map, filter, find, option_map, nat_lt, nat_le, if◌then◌else◌, refl, ap, ◌∙◌}
use Rattle.std.specs.Prelude.{slice_get}
use Rattle.std.specs.List.{list_any}
use Rattle.std.specs.List.{take-map}
use Rattle.b2_model.specs.Lists.{put_by}
use Rattle.b2_model.specs.Pages.{Page, page_of, page_from}

-- a choice under a function
pub if_under : {X Y : Type 0} (g : X → Y) (b : Bool) (x y : X) → (if b then g x else g y) ≡ g (if b then x else y)
if_under g true x y = refl
if_under g false x y = refl

module _ {X Y : Type 0} (g : X → Y) where
  pub find-map : (q : Y → Bool) (xs : List X) → find q (map g xs) ≡ option_map g (find (λ x. q (g x)) xs)
  find-map q [] = refl
  find-map q (x ∷ xs) = ap (λ rest. if q (g x) then Some (g x) else rest) (find-map q xs) ∙ if_under (option_map g) (q (g x)) (Some x) (find (λ x. q (g x)) xs)

  pub filter-map : (q : Y → Bool) (xs : List X) → filter q (map g xs) ≡ map g (filter (λ x. q (g x)) xs)
  filter-map q [] = refl
  filter-map q (x ∷ xs) =
      ap (λ rest. if q (g x) then g x ∷ rest else rest) (filter-map q xs) ∙ if_under (map g) (q (g x)) (x ∷ filter (λ x. q (g x)) xs) (filter (λ x. q (g x)) xs)

  pub any-map : (q : Y → Bool) (xs : List X) → list_any q (map g xs) ≡ list_any (λ x. q (g x)) xs
  any-map q [] = refl
  any-map q (x ∷ xs) = rw (any-map q xs) refl

  pub get-map : (xs : List X) (n : ℕ) → slice_get (map g xs) n ≡ option_map g (slice_get xs n)
  get-map [] n = refl
  get-map (x ∷ xs) zero = refl
  get-map (x ∷ xs) (suc n) = get-map xs n

  -- the page of mapped rows
  abbrev pub page_by : Page X → Page Y
  page_by page = record { rows = map g page.rows; next = option_map g page.next }

  pub page_of-map : (n : ℕ) (xs : List X) → page_of n (map g xs) ≡ page_by (page_of n xs)
  page_of-map n xs = rw (take-map g n xs, get-map xs n) refl

  pub put_by-map : (num : Y → ℕ) (x : X) (xs : List X) → put_by num (g x) (map g xs) ≡ map g (put_by (λ x. num (g x)) x xs)
  put_by-map num x [] = refl
  put_by-map num x (y ∷ ys) =
      ap (λ rest. if nat_lt (num (g x)) (num (g y)) then g x ∷ g y ∷ map g ys else g y ∷ rest) (put_by-map num x ys)
      ∙ if_under (map g) (nat_lt (num (g x)) (num (g y))) (x ∷ y ∷ ys) (y ∷ put_by (λ x. num (g x)) x ys)

  pub page_from-map : (num : Y → ℕ) (start n : ℕ) (xs : List X) → page_from num start n (map g xs) ≡ page_by (page_from (λ x. num (g x)) start n xs)
  page_from-map num start n xs =
      rw (filter-map (λ y. nat_le start (num y)) xs) (page_of-map n (filter (λ x. nat_le start (num (g x))) xs))
