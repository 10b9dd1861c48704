-- The listing order of what a test leaves is what the test leaves of the listing order.
use Rattle.std.proofs.Common.{◌≡◌, ℕ, nat_lt, Bool, true, false, List, [], ◌∷◌, filter, fold, if◌then◌else◌, refl, sym, ap, ◌∙◌, arith}
use Rattle.std.specs.Bool.{⊤}
use Rattle.std.specs.List.{AllByRecursion}
use Rattle.std.specs.declared.cmp.Ordering.{Ordering}
use Rattle.std.specs.declared.cmp.Ordering.TheVariants.{Less, Equal, Greater}
use Rattle.std.specs.Ordering.{nat_cmp, match_ordering, ordering_then, ordering_reverse, is_lt}
use Rattle.std.specs.Cmp.{IsTotalOrder, back_total, nat_cmp_total, on_total, then_total}
use Rattle.std.specs.Cmp.Lexicographic.{slice_cmp, nat_list_cmp_total}
use Rattle.std.proofs.lemmas.Cmp.{alike_right}
use Rattle.std.proofs.lemmas.Bool.{false≢true}
use Rattle.std.proofs.lemmas.Bool.Decides.{nat_tests}
use Rattle.b2_types.specs.declared.version.VersionOf.{VersionOf}
use Rattle.b2_model.specs.Rows.{is_before, put_row, listing_order}

as_ordering : (o : Ordering) (a b : ℕ) → match_ordering o true (nat_lt a b) false ≡ is_lt (ordering_then o (nat_cmp a b))
as_ordering Less a b = refl
as_ordering Equal a b = grind (arith, nat_tests)
as_ordering Greater a b = refl

less : (o : Ordering) → is_lt o ≡ true → o ≡ Less
less Less is = refl
less Equal is = absurd (false≢true is)
less Greater is = absurd (false≢true is)

module _ {C : Type 0} where
  -- ---- the order is total

  abbrev row_cmp : VersionOf C → VersionOf C → Ordering
  row_cmp v w = ordering_then (slice_cmp nat_cmp v.name w.name) (nat_cmp w.num v.num)

  row_total : IsTotalOrder row_cmp
  row_total = then_total (on_total (λ v. v.name) nat_list_cmp_total) (back_total (on_total (λ v. v.num) nat_cmp_total))

  before_is : (v w : VersionOf C) → is_before v w ≡ is_lt (row_cmp v w)
  before_is v w = as_ordering (slice_cmp nat_cmp v.name w.name) w.num v.num

  not_back : (v w : VersionOf C) → is_before v w ≡ true → is_before w v ≡ false
  not_back v w before =
      let first : row_cmp v w ≡ Less = less (row_cmp v w) (sym (before_is v w) ∙ before) in
      let back : row_cmp w v ≡ Greater = row_total.antisymm w v ∙ ap ordering_reverse first in
      before_is w v ∙ ap is_lt back

  past : (o : Ordering) (v w x : VersionOf C) → row_cmp x w ≡ o → row_cmp v w ≡ Less → is_lt o ≡ false → row_cmp v x ≡ Less
  past Less v w x is first none = absurd (false≢true (sym none))
  past Equal v w x is first none = alike_right row_total x w v is ∙ first
  past Greater v w x is first none = row_total.trans v w x first (row_total.antisymm w x ∙ ap ordering_reverse is)

  -- what comes before one comes before those that don't come before that one
  before_later : (v w x : VersionOf C) → is_before v w ≡ true → is_before x w ≡ false → is_before v x ≡ true
  before_later v w x before after =
      let first : row_cmp v w ≡ Less = less (row_cmp v w) (sym (before_is v w) ∙ before) in
      before_is v x ∙ ap is_lt (past (row_cmp x w) v w x refl first (sym (before_is x w) ∙ after))

  -- ---- rows in listing order

  -- none comes before one that stands before it
  abbrev InOrder : List (VersionOf C) → Type 0
  InOrder [] = ⊤
  InOrder (v ∷ vs) = AllByRecursion (λ w. is_before w v ≡ false) vs × InOrder vs

  all_before : (v w : VersionOf C) (ws : List (VersionOf C)) → is_before v w ≡ true → AllByRecursion (λ x. is_before x w ≡ false) ws → AllByRecursion (λ x. is_before v x ≡ true) ws
  all_before v w [] before each = tt
  all_before v w (x ∷ ws) before each = (before_later v w x before each.0, all_before v w ws before each.1)

  none_back : (v : VersionOf C) (ws : List (VersionOf C)) → AllByRecursion (λ x. is_before v x ≡ true) ws → AllByRecursion (λ x. is_before x v ≡ false) ws
  none_back v [] each = tt
  none_back v (w ∷ ws) each = (not_back v w each.0, none_back v ws each.1)

  put_each : (P : VersionOf C → Type 0) (v : VersionOf C) (ws : List (VersionOf C)) → P v → AllByRecursion P ws → AllByRecursion P (put_row v ws)
  put_each P v [] one each = (one, tt)
  put_each P v (w ∷ ws) one each = here (is_before v w) (put_each P v ws one each.1)
    where
      here : (b : Bool) → AllByRecursion P (put_row v ws) → AllByRecursion P (if b then v ∷ w ∷ ws else w ∷ put_row v ws)
      here true rest = (one, each)
      here false rest = (each.0, rest)

  put_in_order : (v : VersionOf C) (ws : List (VersionOf C)) → InOrder ws → InOrder (put_row v ws)
  put_in_order v [] order = (tt, tt)
  put_in_order v (w ∷ ws) order = here (is_before v w) refl (put_in_order v ws order.1)
    where
      here : (b : Bool) → is_before v w ≡ b → InOrder (put_row v ws) → InOrder (if b then v ∷ w ∷ ws else w ∷ put_row v ws)
      here true is rest = (none_back v (w ∷ ws) (is, all_before v w ws is order.0), order)
      here false is rest = (put_each (λ x. is_before x w ≡ false) v ws is order.0, rest)

  -- ---- under a test

  each_kept : (P : VersionOf C → Type 0) (q : VersionOf C → Bool) (ws : List (VersionOf C)) → AllByRecursion P ws → AllByRecursion P (filter q ws)
  each_kept P q [] each = tt
  each_kept P q (w ∷ ws) each = here (q w) (each_kept P q ws each.1)
    where
      here : (b : Bool) → AllByRecursion P (filter q ws) → AllByRecursion P (if b then w ∷ filter q ws else filter q ws)
      here true rest = (each.0, rest)
      here false rest = rest

  put_first : (v : VersionOf C) (ws : List (VersionOf C)) → AllByRecursion (λ x. is_before v x ≡ true) ws → put_row v ws ≡ v ∷ ws
  put_first v [] each = refl
  put_first v (w ∷ ws) each = rw each.0 refl

  put_under : (q : VersionOf C → Bool) (v : VersionOf C) (ws : List (VersionOf C)) → InOrder ws → (b : Bool) → q v ≡ b → filter q (put_row v ws) ≡ (if b then put_row v (filter q ws) else filter q ws)
  put_under q v [] order true is = rw is refl
  put_under q v [] order false is = rw is refl
  put_under q v (w ∷ ws) order b is = here (is_before v w) refl b is (put_under q v ws order.1 b is)
    where
      front : (c : Bool) → q v ≡ c → is_before v w ≡ true → (if c then v ∷ filter q (w ∷ ws) else filter q (w ∷ ws)) ≡ (if c then put_row v (filter q (w ∷ ws)) else filter q (w ∷ ws))
      front true at before = sym (put_first v (filter q (w ∷ ws)) (each_kept (λ x. is_before v x ≡ true) q (w ∷ ws) (before, all_before v w ws before order.0)))
      front false at before = refl

      back : (c d : Bool) → q v ≡ c → q w ≡ d → is_before v w ≡ false → filter q (put_row v ws) ≡ (if c then put_row v (filter q ws) else filter q ws)
          → (if d then w ∷ filter q (put_row v ws) else filter q (put_row v ws)) ≡ (if c then put_row v (if d then w ∷ filter q ws else filter q ws) else (if d then w ∷ filter q ws else filter q ws))
      back true true at keeps after rest = rw after (ap (λ xs. w ∷ xs) rest)
      back true false at keeps after rest = rest
      back false true at keeps after rest = ap (λ xs. w ∷ xs) rest
      back false false at keeps after rest = rest

      here : (a : Bool) → is_before v w ≡ a → (c : Bool) → q v ≡ c → filter q (put_row v ws) ≡ (if c then put_row v (filter q ws) else filter q ws)
          → filter q (if a then v ∷ w ∷ ws else w ∷ put_row v ws) ≡ (if c then put_row v (filter q (w ∷ ws)) else filter q (w ∷ ws))
      here true before c at rest = ap (λ keeps. if keeps then v ∷ filter q (w ∷ ws) else filter q (w ∷ ws)) at ∙ front c at before
      here false after c at rest = back c (q w) at refl after rest

  sorted_under : (q : VersionOf C → Bool) (vs sorted : List (VersionOf C)) → InOrder sorted → filter q (fold (λ ws v. put_row v ws) sorted vs) ≡ fold (λ ws v. put_row v ws) (filter q sorted) (filter q vs)
  sorted_under q [] sorted order = refl
  sorted_under q (v ∷ vs) sorted order =
      sorted_under q vs (put_row v sorted) (put_in_order v sorted order) ∙ here (q v) refl
    where
      here : (b : Bool) → q v ≡ b → fold (λ ws v. put_row v ws) (filter q (put_row v sorted)) (filter q vs) ≡ fold (λ ws v. put_row v ws) (filter q sorted) (if b then v ∷ filter q vs else filter q vs)
      here true is = ap (λ xs. fold (λ ws v. put_row v ws) xs (filter q vs)) (put_under q v sorted order true is)
      here false is = ap (λ xs. fold (λ ws v. put_row v ws) xs (filter q vs)) (put_under q v sorted order false is)

  pub rows_under : (q : VersionOf C → Bool) (vs : List (VersionOf C)) → filter q (listing_order vs) ≡ listing_order (filter q vs)
  rows_under q vs = sorted_under q vs [] tt
