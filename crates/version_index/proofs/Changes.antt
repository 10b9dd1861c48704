-- Rows that come and go.
use Rattle.std.proofs.Common.{◌≡◌, None, Some, true, false, List, [], ◌∷◌, sym, ap, ⊎_elim, refl, Less, Equal, Greater, is_lt, ◌≤◌}
use Rattle.std.specs.declared.cmp.Ordering.{Ordering}
use Rattle.std.specs.List.{AllByRecursion}
use Rattle.std.specs.Map.{keys_of, remove_entry}
use Rattle.std.specs.BTreeMap.{insert_entry}
use Rattle.std.proofs.lemmas.Bool.{cases_Bool}
use Rattle.std.proofs.lemmas.Map.Keys.{sorted_head, sorted_tail}
use Rattle.b2_base.specs.declared.numbers.TheConstants.{LAST_VERSION}
use Rattle.version_index.specs.declared.spot.Spot.{Spot}
use Rattle.version_index.specs.Rows.{AreAscending, AreInRange, is_spot, listing_cmp, placed, value_at, without}
use Rattle.version_index.proofs.Orders.{not_later}

module _ {V : Type 0} where
  -- at the place of the first row, or after it
  place : (o : Ordering) (s : Spot) (v : V) (r : Spot × V) (rs : List (Spot × V)) → listing_cmp s r.0 ≡ o → (value_at s rs ≡ None → insert_entry listing_cmp rs s v ≡ placed (s, v) rs) → value_at s (r ∷ rs) ≡ None → insert_entry listing_cmp (r ∷ rs) s v ≡ placed (s, v) (r ∷ rs)
  place Less s v r rs is rest free = rw is refl
  place Equal s v r rs is rest free = let found : Some r.1 ≡ None = rw is at free in cc
  place Greater s v r rs is rest free = rw is (ap (λ l. r ∷ l) (rest (rw is at free)))

  pub inserted : (s : Spot) (v : V) (rows : List (Spot × V)) → value_at s rows ≡ None → insert_entry listing_cmp rows s v ≡ placed (s, v) rows
  inserted s v [] free = refl
  inserted s v (r ∷ rs) free = place (listing_cmp s r.0) s v r rs refl (inserted s v rs) free

  -- the rows at other spots are all of those that stand later
  all_others : (s : Spot) (r : Spot × V) (rows : List (Spot × V)) → is_spot s r.0 ≡ true → AllByRecursion (λ t. listing_cmp r.0 t ≡ Less) (keys_of rows) → without s rows ≡ rows
  all_others s r [] here later = refl
  all_others s r (x ∷ xs) here later = rw (not_later s r.0 x.0 here later.0) (ap (λ l. x ∷ l) (all_others s r xs here later.1))

  pub removed : (s : Spot) (rows : List (Spot × V)) → AreAscending rows → remove_entry (is_spot s) rows ≡ without s rows
  removed s [] up = refl
  removed s (r ∷ rs) up = ⊎_elim
      (λ (here : is_spot s r.0 ≡ true). rw here (sym (all_others s r rs here (sorted_head listing_cmp r.0 (keys_of rs) up))))
      (λ (other : is_spot s r.0 ≡ false). rw other (ap (λ l. r ∷ l) (removed s rs (sorted_tail listing_cmp r.0 (keys_of rs) up))))
      (cases_Bool (is_spot s r.0))

  -- the range of the numbers through a change
  pub in_range_placed : (s : Spot) (v : V) (rows : List (Spot × V)) → s.num ≤ LAST_VERSION → AreInRange rows → AreInRange (placed (s, v) rows)
  in_range_placed s v [] here all = (here, tt)
  in_range_placed s v (r ∷ rs) here all = ⊎_elim
      (λ (first : is_lt (listing_cmp s r.0) ≡ true). rw first (here, all))
      (λ (later : is_lt (listing_cmp s r.0) ≡ false). rw later (all.0, in_range_placed s v rs here all.1))
      (cases_Bool (is_lt (listing_cmp s r.0)))

  pub in_range_without : (s : Spot) (rows : List (Spot × V)) → AreInRange rows → AreInRange (without s rows)
  in_range_without s [] all = all
  in_range_without s (r ∷ rs) all = ⊎_elim
      (λ (here : is_spot s r.0 ≡ true). rw here (in_range_without s rs all.1))
      (λ (other : is_spot s r.0 ≡ false). rw other (all.0, in_range_without s rs all.1))
      (cases_Bool (is_spot s r.0))
