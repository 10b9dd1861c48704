-- Keys from a number on, of keys that stand under their numbers.
use Rattle.std.proofs.Common.{◌≡◌, ℕ, ◌≤◌, ◌<◌, List, [], ◌∷◌, ◌++◌, length, map, filter, take, slice_get, Bool, true, false, not, ◌&&◌, ◌==◌, nat_le, max, All, Option, Some, None, cond, refl, sym, ap, ◌∙◌, arith, take_all, append-nil}
use Rattle.std.proofs.lemmas.Option.{slice_get_past}
use Rattle.std.proofs.lemmas.Bool.Decides.{nat_tests}
use Rattle.std.proofs.lemmas.List.{take_at, drop_at}
use Rattle.std.proofs.lemmas.List.Elements.{All-head, All-tail}
use Rattle.std.specs.Ordering.{nat_cmp, is_le}
use Rattle.std.specs.Map.{values_of}
use Rattle.b2_types.specs.declared.key.Key.{Key}
use Rattle.b2_model.specs.Pages.{Page, page_of}
use Rattle.app_keys.specs.Pages.{AreByNumber}

-- a key from the number on, other than the master key
from_number : (start num : ℕ) → (is_le (nat_cmp (max start 1) num) && true) ≡ (not (num == 0) && nat_le start num)
from_number start num = grind (arith, nat_tests)

rows_step : (start : ℕ) (e : ℕ × Key) (es : List (ℕ × Key)) (r s : Bool) → not (e.1.num == 0) ≡ r → nat_le start e.1.num ≡ s → e.0 ≡ e.1.num
    → values_of (filter (λ e. is_le (nat_cmp (max start 1) e.0) && true) es) ≡ filter (λ k. nat_le start k.num) (filter (λ k. not (k.num == 0)) (values_of es))
    → values_of (filter (λ e. is_le (nat_cmp (max start 1) e.0) && true) (e ∷ es)) ≡ filter (λ k. nat_le start k.num) (filter (λ k. not (k.num == 0)) (values_of (e ∷ es)))
rows_step start e es true true other from under rest = rw (under, from_number start e.1.num, other, from) (ap (λ ks. e.1 ∷ ks) rest)
rows_step start e es true false other from under rest = rw (under, from_number start e.1.num, other, from) rest
rows_step start e es false s other from under rest = rw (under, from_number start e.1.num, other) rest

pub rows_from : (start : ℕ) (es : List (ℕ × Key)) → AreByNumber es
    → values_of (filter (λ e. is_le (nat_cmp (max start 1) e.0) && true) es) ≡ filter (λ k. nat_le start k.num) (filter (λ k. not (k.num == 0)) (values_of es))
rows_from start [] under = refl
rows_from start (e ∷ es) under =
    rows_step start e es _ _ refl refl (All-head (λ e. e.0 ≡ e.1.num) e es under) (rows_from start es (All-tail (λ e. e.0 ≡ e.1.num) e es under))

abbrev as_page : List Key → Option Key → Page Key
as_page rows next = record { rows = rows; next = next }

-- all that there are, and none after them
pub last_page : (size : ℕ) (rows left all : List Key) → rows ++ left ≡ all → left ≡ [] → length rows ≤ size → as_page rows None ≡ page_of size all
last_page size rows left all is none few =
    let same : all ≡ rows = sym is ∙ ap (λ xs. rows ++ xs) none ∙ append-nil rows in
    ap (λ xs. as_page xs None) (sym (take_all size rows few)) ∙ ap (as_page (take size rows)) (sym (slice_get_past rows size few)) ∙ ap (page_of size) (sym same)

after_rows : (rows left : List Key) → slice_get (rows ++ left) (length rows) ≡ slice_get left 0
after_rows [] left = refl
after_rows (k ∷ rows) left = after_rows rows left

-- as many as were asked for, and the one after them
pub full_page : (size : ℕ) (rows left all : List Key) (next : Option Key) → rows ++ left ≡ all → length rows ≡ size → next ≡ slice_get left 0
    → as_page rows next ≡ page_of size all
full_page size rows left all next is len next_is =
    ap (λ xs. as_page xs next) (sym (take_at rows left size len)) ∙ ap (as_page (take size (rows ++ left))) (next_is ∙ sym (after_rows rows left) ∙ ap (slice_get (rows ++ left)) len)
    ∙ ap (page_of size) is

pub first_left : (left rest : List (ℕ × Key)) (n : ℕ) (key : Key) → left ≡ (n, key) ∷ rest → Some key ≡ slice_get (values_of left) 0
first_left left rest n key is = ap (λ es. slice_get (values_of es) 0) (sym is)
