-- The steps of a page of unfinished files: one for each start from a number on, up to the next row.
use Rattle.std.proofs.Common.{◌≡◌, ℕ, ◌+◌, ◌-◌, ◌<◌, ◌≤◌, ◌&&◌, nat_lt, nat_le, Bool, true, false, not, List, [], ◌∷◌, ◌++◌, Option, Some, length, filter, find, subst, sym, ap, ◌∙◌, ⊎_elim, refl, arith, append-nil}
use Rattle.std.specs.Option.{option_to_list}
use Rattle.std.specs.Prelude.{slice_get}
use Rattle.std.specs.List.{AllByRecursion}
use Rattle.std.proofs.lemmas.Bool.{and_from, and_parts, and_right, cases_Bool}
use Rattle.std.proofs.lemmas.Bool.Decides.{nat_tests}
use Rattle.std.proofs.lemmas.List.{length-append}
use Rattle.b2_base.specs.declared.numbers.TheConstants.{LAST_VERSION}
use Rattle.name_rules.specs.Folder.{begins_with}
use Rattle.b2_model.specs.Pages.{Page, page_of}
use Rattle.listing_pages.specs.declared.page.PageRow.{PageRow}
use Rattle.listing_pages.specs.Unfinished.{is_upto_next, number_of, start_row, starts_upto}
use Rattle.listing_pages.proofs.NameTurns.{fewer}
use Rattle.listing_pages.proofs.Numbered.{found_below, row_for}
use Rattle.listing_pages.proofs.Passed.{last_is, none_after, one_more}

-- from the start and not below the number that the listing has come to
abbrev pub seen : ℕ → ℕ → ℕ × List ℕ → Bool
seen start below p = nat_le start (number_of p) && not (nat_lt p.0 below)

every : {X : Type 0} (P : X → Type 0) → ((x : X) → P x) → (xs : List X) → AllByRecursion P xs
every P has [] = tt
every P has (x ∷ xs) = (has x, every P has xs)

-- how many steps a listing has taken at a number
pub record Looks (ps : List (ℕ × List ℕ)) (start size first steps below : ℕ) (items : List PageRow) : Type 0 where
  pub bound : below + start ≤ LAST_VERSION + 1
  pub some : steps ≤ first + length (filter (seen start below) ps)
  pub last : length items ≡ size + 1 → steps ≤ first + length (starts_upto start (slice_get items size) ps)

pub looks_begin : (ps : List (ℕ × List ℕ)) (start n size first : ℕ) → n ≤ LAST_VERSION → n ≡ start → Looks ps start size first first (LAST_VERSION - n + 1) []
looks_begin ps start n size first low is = record {
  bound = omega (arith, low, is);
  some = omega arith;
  last = λ full. absurd (omega (arith, full));
}

module _ (prefix : List ℕ) (ps : List (ℕ × List ℕ)) (start size first steps below : ℕ) (items : List PageRow) (looks : Looks ps start size first steps below items) where
  -- where no more is found
  pub looks_short : length items ≤ size → steps + 1 ≤ first + length (starts_upto start (slice_get items size) ps) + 1
  looks_short few =
      let all = fewer (seen start below) (λ p. nat_le start (number_of p) && true) ps (every (λ p. seen start below p ≡ true → (nat_le start (number_of p) && true) ≡ true) each ps) in
      subst (λ o. steps + 1 ≤ first + length (starts_upto start o ps) + 1) (sym (none_after items size few)) (omega (arith, looks.some, all))
    where
      each : (p : ℕ × List ℕ) → seen start below p ≡ true → (nat_le start (number_of p) && true) ≡ true
      each p is = and_from (nat_le start (number_of p)) true (and_parts (nat_le start (number_of p)) (not (nat_lt p.0 below)) is).0 refl

  pub looks_full : length items ≡ size + 1 → steps ≤ first + length (starts_upto start (slice_get items size) ps) + 1
  looks_full full = omega (arith, looks.last full)

  module _ (p : ℕ × List ℕ) (found : find (λ q. nat_lt q.0 below) ps ≡ Some p) (few : length items ≤ size) where
    low : p.0 < below
    low = found_below ps below p found

    still : (q : ℕ × List ℕ) → seen start below q ≡ true → seen start p.0 q ≡ true
    still q is =
        let both = and_parts (nat_le start (number_of q)) (not (nat_lt q.0 below)) is in
        and_from (nat_le start (number_of q)) (not (nat_lt q.0 p.0)) both.0 (lower q.0 p.0 below low both.1)
      where
        lower : (a b c : ℕ) → b < c → not (nat_lt a c) ≡ true → not (nat_lt a b) ≡ true
        lower a b c less is_not = grind (arith, nat_tests)

    from_start : (n m : ℕ) → n < m → m + start ≤ LAST_VERSION + 1 → nat_le start (LAST_VERSION - n) ≡ true
    from_start n m less bound = grind (arith, nat_tests)

    not_below : (n m : ℕ) → n < m → not (nat_lt n m) ≡ false
    not_below n m less = grind (arith, nat_tests)

    not_itself : (n : ℕ) → not (nat_lt n n) ≡ true
    not_itself n = grind (arith, nat_tests)

    one_seen : length (filter (seen start below) ps) + 1 ≤ length (filter (seen start p.0) ps)
    one_seen = one_more (seen start below) (seen start p.0) (λ q. nat_lt q.0 below) ps p (every (λ q. seen start below q ≡ true → seen start p.0 q ≡ true) still ps) found
        (and_right (nat_le start (number_of p)) (not (nat_lt p.0 below)) (not_below p.0 below low))
        (and_from (nat_le start (number_of p)) (not (nat_lt p.0 p.0)) (from_start p.0 below low looks.bound) (not_itself p.0))

    upto_it : length (filter (seen start p.0) ps) ≤ length (starts_upto start (Some (start_row p)) ps)
    upto_it = fewer (seen start p.0) (λ q. nat_le start (number_of q) && is_upto_next (Some (start_row p)) q) ps (every (λ q. seen start p.0 q ≡ true → (nat_le start (number_of q) && is_upto_next (Some (start_row p)) q) ≡ true) each ps) where
      lower : (a b : ℕ) → not (nat_lt a b) ≡ true → nat_le (LAST_VERSION - a) (LAST_VERSION - b) ≡ true
      lower a b is = grind (arith, nat_tests)

      each : (q : ℕ × List ℕ) → seen start p.0 q ≡ true → (nat_le start (number_of q) && is_upto_next (Some (start_row p)) q) ≡ true
      each q is =
          let both = and_parts (nat_le start (number_of q)) (not (nat_lt q.0 p.0)) is in
          and_from (nat_le start (number_of q)) (nat_le (number_of q) (number_of p)) both.0 (lower q.0 p.0 both.1)

    next_bound : p.0 + start ≤ LAST_VERSION + 1
    next_bound = omega (arith, low, looks.bound)

    hidden : Looks ps start size first (steps + 1) p.0 items
    hidden = record {
      bound = next_bound;
      some = omega (arith, looks.some, one_seen);
      last = λ full. absurd (omega (arith, few, full));
    }

    shown : Looks ps start size first (steps + 1) p.0 (items ++ start_row p ∷ [])
    shown = record {
      bound = next_bound;
      some = omega (arith, looks.some, one_seen);
      last = λ full.
          let same : length items ≡ size = omega (arith, full, length-append items (start_row p ∷ [])) in
          subst (λ o. steps + 1 ≤ first + length (starts_upto start o ps)) (sym (last_is items (start_row p) size same))
          (omega (arith, looks.some, one_seen, upto_it));
    }

    -- a turn takes one step, for the start that it finds
    pub looks_turn : (row : Option PageRow) (more : List PageRow) (now : ℕ) → row ≡ row_for prefix p → more ≡ items ++ option_to_list row → now ≡ steps + 1 → Looks ps start size first now p.0 more
    looks_turn row more now row_is more_is now_is =
        subst (λ n. Looks ps start size first n p.0 more) (sym now_is)
        (subst (λ l. Looks ps start size first (steps + 1) p.0 l) (sym (more_is ∙ ap (λ r. items ++ option_to_list r) row_is))
        (⊎_elim
        (λ (is : begins_with prefix p.1 ≡ true). rw is shown)
        (λ (out : begins_with prefix p.1 ≡ false). rw out (subst (λ l. Looks ps start size first (steps + 1) p.0 l) (sym (append-nil items)) hidden))
        (cases_Bool (begins_with prefix p.1))))

pub looked_page : (ps : List (ℕ × List ℕ)) (start size first steps : ℕ) (items : List PageRow) (page : Page PageRow) → page ≡ page_of size items → steps ≤ first + length (starts_upto start (slice_get items size) ps) + 1 → steps ≤ first + length (starts_upto start page.next ps) + 1
looked_page ps start size first steps items page is bound = subst (λ p. steps ≤ first + length (starts_upto start p.next ps) + 1) (sym is) bound
