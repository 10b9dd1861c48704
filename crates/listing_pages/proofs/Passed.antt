-- The steps of a page of names: one for each row, and one for each version that is passed over.
use Rattle.std.proofs.Common.{◌≡◌, ℕ, zero, suc, ◌+◌, ◌<◌, ◌≤◌, ◌⊎◌, ◌&&◌, ◌==◌, nat_lt, Bool, true, false, not, cond, List, [], ◌∷◌, ◌++◌, Option, None, Some, length, filter, find, take, subst, sym, ap, ◌∙◌, inl, inr, ⊎_elim, refl, arith, is_lt, Less, Equal, Greater, append-nil}
use Rattle.std.specs.Option.{option_to_list}
use Rattle.std.specs.Prelude.{bytes_eq, slice_get}
use Rattle.std.specs.declared.cmp.Ordering.{Ordering}
use Rattle.std.specs.List.{AllByRecursion}
use Rattle.std.specs.Ordering.{is_gt, match_ordering}
use Rattle.std.specs.Cmp.{tied_itself}
use Rattle.std.specs.Cmp.Lexicographic.{nat_list_cmp_total}
use Rattle.std.proofs.lemmas.Bool.{and_from, and_parts, and_right, cases_Bool, eqb-true, false≢true}
use Rattle.std.proofs.lemmas.Bool.Decides.{nat_tests}
use Rattle.std.proofs.lemmas.List.{length-append, length-take}
use Rattle.std.proofs.lemmas.Map.Lookups.{exact_bytes}
use Rattle.b2_base.specs.declared.numbers.TheConstants.{LAST_VERSION}
use Rattle.b2_types.specs.declared.kinds.Action.{Action}
use Rattle.b2_types.specs.declared.kinds.Action.TheVariants as action
use Rattle.b2_types.specs.declared.version.VersionOf.{VersionOf}
use Rattle.b2_model.specs.Checks.{some_and}
use Rattle.b2_model.specs.Current.{current_in}
use Rattle.b2_model.specs.Kinds.{is_start, is_upload}
use Rattle.b2_model.specs.Pages.{Page, is_current, is_from, or_file, page_of, row_of}
use Rattle.b2_model.specs.Rows.{is_before}
use Rattle.name_rules.specs.Folder.{begins_with}
use Rattle.version_index.specs.declared.spot.Spot.{Spot}
use Rattle.listing_pages.specs.declared.ask.Ask.{Ask}
use Rattle.listing_pages.specs.declared.page.PageRow.{PageRow}
use Rattle.listing_pages.specs.declared.page.PageRow.TheVariants.{File, Folder}
use Rattle.listing_pages.specs.NameRows.{IsStartBefore, StartsBefore, is_late, is_visible, next_by, row_by, upload_row}
use Rattle.listing_pages.specs.Orders.{is_past}
use Rattle.listing_pages.specs.PageOf.{IsDelimiter, folder_of_name}
use Rattle.listing_pages.specs.PassedOver.{is_before_next, is_before_one, is_newer, is_skipped, passed_over, stands_for}
use Rattle.listing_pages.specs.Places.{after_folder, after_name, after_row, after_version, at_or_after, begin_at, raised}
use Rattle.listing_pages.proofs.Currents.{counts_for, current_is, none_before, older_hidden, only_first, same_number}
use Rattle.listing_pages.proofs.Gather.{found_upto}
use Rattle.listing_pages.proofs.InFolders.{are_folders, begins_through, bytes_are}
use Rattle.listing_pages.proofs.Names.{at_folder, at_name, at_version, cmp, raised_less, zero_after}
use Rattle.listing_pages.proofs.NameTurns.{fewer}
use Rattle.listing_pages.proofs.Shown.{InOrder, all_both, all_from, found_passes, row_is}
use Rattle.listing_pages.proofs.Starts.{kept_at, less_upto, reversed, upto_upto}
use Rattle.listing_pages.proofs.Turns.{AreLow, at_later, before_by_name, in_or_past, names_upto, past_after}

-- ---- lists

-- what is found has what all have
found_has : {X : Type 0} (Q : X → Type 0) (p : X → Bool) (xs : List X) (x : X) → AllByRecursion Q xs → find p xs ≡ Some x → Q x
found_has Q p [] x all found = cc
found_has Q p (y ∷ ys) x all found = ⊎_elim
    (λ (is : p y ≡ true). let same : y ≡ x = cc (rw is at found) in subst Q same all.0)
    (λ (other : p y ≡ false). found_has Q p ys x all.1 (rw other at found))
    (cases_Bool (p y))

-- one more passes the wider test
pub one_more : {X : Type 0} (p q t : X → Bool) (xs : List X) (x : X) → AllByRecursion (λ y. p y ≡ true → q y ≡ true) xs → find t xs ≡ Some x → p x ≡ false → q x ≡ true → length (filter p xs) + 1 ≤ length (filter q xs)
one_more p q t [] x all found out is = cc
one_more p q t (y ∷ ys) x all found out is = ⊎_elim
    (λ (here : t y ≡ true).
    let same : y ≡ x = cc (rw here at found) in
    let no_p : p y ≡ false = ap p same ∙ out in
    let yes_q : q y ≡ true = ap q same ∙ is in
    rw (no_p, yes_q) (let rest = fewer p q ys all.1 in omega arith))
    (λ (other : t y ≡ false).
    let rest = one_more p q t ys x all.1 (rw other at found) out is in
    ⊎_elim
    (λ (yes : p y ≡ true). rw (yes, all.0 yes) (omega (arith, rest)))
    (λ (no_p : p y ≡ false). ⊎_elim
    (λ (yes_q : q y ≡ true). rw (no_p, yes_q) (omega (arith, rest)))
    (λ (no_q : q y ≡ false). rw (no_p, no_q) rest)
    (cases_Bool (q y)))
    (cases_Bool (p y)))
    (cases_Bool (t y))

pub last_is : {X : Type 0} (items : List X) (x : X) (n : ℕ) → length items ≡ n → slice_get (items ++ x ∷ []) n ≡ Some x
last_is [] x zero is = refl
last_is [] x (suc n) is = absurd (omega (arith, is))
last_is (y ∷ ys) x zero is = absurd (omega (arith, is))
last_is (y ∷ ys) x (suc n) is = last_is ys x n (omega (arith, is))

pub none_after : {X : Type 0} (items : List X) (n : ℕ) → length items ≤ n → slice_get items n ≡ None
none_after [] n few = refl
none_after (y ∷ ys) zero few = absurd (omega (arith, few))
none_after (y ∷ ys) (suc n) few = none_after ys n (omega (arith, few))

-- ---- places

-- what a place leaves behind stands before what it doesn't
split_before : {C : Type 0} (s : Spot) (t u : VersionOf C) → at_or_after s t ≡ false → at_or_after s u ≡ true → is_before t u ≡ true
split_before s t u out here = by (cmp t.name s.name) (cmp u.name s.name) refl refl where
  lower : (n a b : ℕ) → not (nat_lt n a) ≡ false → not (nat_lt n b) ≡ true → nat_lt b a ≡ true
  lower n a b first second = grind (arith, nat_tests)

  by : (o p : Ordering) → cmp t.name s.name ≡ o → cmp u.name s.name ≡ p → is_before t u ≡ true
  by Greater p e f = absurd (let bad : true ≡ false = rw e at out in false≢true (sym bad))
  by o Less e f = absurd (let bad : false ≡ true = rw f at here in false≢true bad)
  by Less Equal e f = before_by_name t u (less_upto t.name s.name u.name e (ap is_gt (reversed u.name s.name Equal f)))
  by Less Greater e f = before_by_name t u (less_upto t.name s.name u.name e (ap is_gt (reversed u.name s.name Greater f)))
  by Equal Greater e f = before_by_name t u (nat_list_cmp_total.congr t.name s.name u.name e ∙ reversed u.name s.name Greater f)
  by Equal Equal e f =
      let first : not (nat_lt s.num t.num) ≡ false = rw e at out in
      let second : not (nat_lt s.num u.num) ≡ true = rw f at here in
      let same : cmp t.name u.name ≡ Equal = nat_list_cmp_total.congr t.name s.name u.name e ∙ reversed u.name s.name Equal f in
      rw same (lower s.num t.num u.num first second)

is_less : (o : Ordering) → is_lt o ≡ true → o ≡ Less
is_less Less is = refl
is_less Equal is = absurd (false≢true is)
is_less Greater is = absurd (false≢true is)

is_true : (b : Bool) → not b ≡ false → b ≡ true
is_true true is = refl
is_true false is = absurd (false≢true (sym is))

longer_after : (name : List ℕ) → cmp name (name ++ 0 ∷ []) ≡ Less
longer_after name = is_less (cmp name (name ++ 0 ∷ [])) (sym (zero_after name (name ++ 0 ∷ [])) ∙ ap (λ o. not (is_gt o)) (tied_itself nat_list_cmp_total (name ++ 0 ∷ [])))

module _ {C : Type 0} (R : List (VersionOf C)) (ask : Ask) where
  abbrev pub passes : VersionOf C → Bool
  passes v = begins_with ask.prefix v.name && is_skipped v.action R v

  -- what is passed over from the start up to the place
  abbrev pub passed : Spot → VersionOf C → Bool
  passed s v = (at_or_after (begin_at ask None) v && passes v) && not (at_or_after s v)

  abbrev pub passed_at : Spot → ℕ
  passed_at s = length (filter (passed s) R)

  -- one, after the very name that is the start
  abbrev pub over : Spot → ℕ
  over s = cond (is_lt (cmp ask.start s.name)) 1 0

  abbrev pub folder_of : VersionOf C → Option (List ℕ)
  folder_of v = folder_of_name ask.prefix ask.delimiter v.name

  -- no version from the place on is in its folder
  abbrev pub IsApart : Spot → VersionOf C → Type 0
  IsApart s w = (v : VersionOf C) → v.num ≤ LAST_VERSION → at_or_after s v ≡ true → (f : List ℕ) → folder_of w ≡ Some f → folder_of v ≡ Some f → ⊥

  -- the place splits no folder of visible versions
  abbrev pub IsWhole : Spot → VersionOf C → Type 0
  IsWhole s w = is_visible R w ≡ true → at_or_after (begin_at ask None) w ≡ true → at_or_after s w ≡ false → IsApart s w

  -- how many steps a listing has taken at a place
  pub record CountsTo (size first steps : ℕ) (items : List PageRow) (place : Spot) : Type 0 where
    pub forward : (v : VersionOf C) → v.num ≤ LAST_VERSION → at_or_after place v ≡ true → at_or_after (begin_at ask None) v ≡ true
    pub whole : AllByRecursion (IsWhole place) R
    pub few : length items ≤ size → steps ≤ first + length items + passed_at place + over place
    pub last : length items ≡ size + 1 → steps ≤ first + length items + length (passed_over ask R (slice_get items size)) + 1

  -- from one place to the next
  pub record Goes (place next : Spot) (r : VersionOf C) : Type 0 where
    pub later : (w : VersionOf C) → w.num ≤ LAST_VERSION → at_or_after next w ≡ true → is_before r w ≡ true
    pub apart : AllByRecursion (λ w. is_visible R w ≡ true → at_or_after place w ≡ true → at_or_after next w ≡ false → IsApart next w) R
    pub upto : is_gt (cmp place.name next.name) ≡ false

  -- a version of which nothing is shown is passed over, or is the one of the start's name
  abbrev pub IsPassed : Spot → Spot → VersionOf C → Type 0
  IsPassed place next r = (passes r ≡ true) ⊎ ((over place ≡ 0) × (over next ≡ 1))

  -- what the row stands for stands at the place or after it
  abbrev pub IsShown : Spot → PageRow → Type 0
  IsShown place x = (u : VersionOf C) → u.num ≤ LAST_VERSION → IsWhole place u → is_visible R u ≡ true → stands_for x u ≡ true → at_or_after place u ≡ true

  over_grows : (s t : Spot) → is_gt (cmp s.name t.name) ≡ false → over s ≤ over t
  over_grows s t upto = ⊎_elim
      (λ (is : is_lt (cmp ask.start s.name) ≡ true).
      let next : is_lt (cmp ask.start t.name) ≡ true = ap is_lt (less_upto ask.start s.name t.name (is_less (cmp ask.start s.name) is) upto) in
      rw (is, next) (omega arith))
      (λ (other : is_lt (cmp ask.start s.name) ≡ false). rw other (omega arith))
      (cases_Bool (is_lt (cmp ask.start s.name)))

  over_one : (s : Spot) → over s ≤ 1
  over_one s = ⊎_elim
      (λ (is : is_lt (cmp ask.start s.name) ≡ true). rw is (omega arith))
      (λ (other : is_lt (cmp ask.start s.name) ≡ false). rw other (omega arith))
      (cases_Bool (is_lt (cmp ask.start s.name)))

  pub counts_begin : (size first : ℕ) → CountsTo size first first [] (begin_at ask None)
  counts_begin size first = record {
    forward = λ v low is. is;
    whole = every R;
    few = λ is. omega arith;
    last = λ is. absurd (omega (arith, is));
  } where
    every : (vs : List (VersionOf C)) → AllByRecursion (IsWhole (begin_at ask None)) vs
    every [] = tt
    every (w ∷ ws) = (λ seen is out. absurd (false≢true (sym out ∙ is)), every ws)

module _ {C : Type 0} (R : List (VersionOf C)) (up : InOrder R) (low : AreLow R) (ask : Ask) (given : IsDelimiter ask.delimiter) where
  at_start : (v : VersionOf C) → v.num ≤ LAST_VERSION → begins_with ask.prefix v.name ≡ true → is_from ask.start None (row_of ask.prefix ask.delimiter v) ≡ at_or_after (begin_at ask None) v
  at_start v is begins = ap (is_from ask.start None) (row_is ask.prefix ask.delimiter v) ∙ kept_at ask.prefix (folder_of_name ask.prefix ask.delimiter) (are_folders ask.prefix ask.delimiter given) ask.bucket ask.start None v is begins

  -- what is passed up to the place is passed over before a row that stands for none before it
  all_over : (place : Spot) (next : Option PageRow) → ((v : VersionOf C) → at_or_after place v ≡ false → is_before_next R next v ≡ true) → passed_at R ask place ≤ length (passed_over ask R next)
  all_over place next before = fewer (passed R ask place) (λ v. is_before_next R next v && (is_from ask.start None (row_of ask.prefix ask.delimiter v) && passes R ask v)) R
      (all_from (λ v. v.num ≤ LAST_VERSION) (λ v. passed R ask place v ≡ true → (is_before_next R next v && (is_from ask.start None (row_of ask.prefix ask.delimiter v) && passes R ask v)) ≡ true) each R low)
    where
      no_place : (b : Bool) → not b ≡ true → b ≡ false
      no_place true is = absurd (false≢true is)
      no_place false is = refl

      each : (v : VersionOf C) → v.num ≤ LAST_VERSION → passed R ask place v ≡ true → (is_before_next R next v && (is_from ask.start None (row_of ask.prefix ask.delimiter v) && passes R ask v)) ≡ true
      each v is both =
          let outer = and_parts (at_or_after (begin_at ask None) v && passes R ask v) (not (at_or_after place v)) both in
          let inner = and_parts (at_or_after (begin_at ask None) v) (passes R ask v) outer.0 in
          let begins = (and_parts (begins_with ask.prefix v.name) (is_skipped v.action R v) inner.1).0 in
          and_from (is_before_next R next v) (is_from ask.start None (row_of ask.prefix ask.delimiter v) && passes R ask v)
          (before v (no_place (at_or_after place v) outer.1))
          (and_from (is_from ask.start None (row_of ask.prefix ask.delimiter v)) (passes R ask v) (at_start v is begins ∙ inner.0) inner.1)

  shown_over : (place : Spot) (x : PageRow) → AllByRecursion (IsWhole R ask place) R → IsShown R ask place x → passed_at R ask place ≤ length (passed_over ask R (Some x))
  shown_over place x whole shows = all_over place (Some x) (λ v out. by v out (find (λ w. is_visible R w && stands_for x w) R) refl) where
    by : (v : VersionOf C) → at_or_after place v ≡ false → (o : Option (VersionOf C)) → find (λ w. is_visible R w && stands_for x w) R ≡ o → is_before_one o v ≡ true
    by v out None found = refl
    by v out (Some u) found =
        let both = and_parts (is_visible R u) (stands_for x u) (found_passes (λ w. is_visible R w && stands_for x w) R u found) in
        split_before place v u out
        (shows u (found_has (λ w. w.num ≤ LAST_VERSION) (λ w. is_visible R w && stands_for x w) R u low found) (found_has (IsWhole R ask place) (λ w. is_visible R w && stands_for x w) R u whole found) both.0 both.1)

  -- ---- the end

  pub ends_short : (size first steps : ℕ) (items : List PageRow) (place : Spot) → CountsTo R ask size first steps items place → length items ≤ size → steps + 1 ≤ first + length (take size items) + 2 + length (passed_over ask R (slice_get items size))
  ends_short size first steps items place counts few =
      let none = none_after items size few in
      let all = all_over place None (λ v out. refl) in
      subst (λ o. steps + 1 ≤ first + length (take size items) + 2 + length (passed_over ask R o)) (sym none)
      (omega (arith, counts.few few, over_one R ask place, all, few, length-take size items))

  pub ends_full : (size first steps : ℕ) (items : List PageRow) (place : Spot) → CountsTo R ask size first steps items place → length items ≡ size + 1 → steps ≤ first + length (take size items) + 2 + length (passed_over ask R (slice_get items size))
  ends_full size first steps items place counts full = omega (arith, counts.last full, full, length-take size items)

  -- ---- a turn

  module _ (size first steps : ℕ) (items : List PageRow) (place : Spot) (counts : CountsTo R ask size first steps items place) (few : length items ≤ size) (starts : StartsBefore place R) (r : VersionOf C) (found : find (at_or_after place) R ≡ Some r) (begins : begins_with ask.prefix r.name ≡ true) where
    here : at_or_after place r ≡ true
    here = found_passes (at_or_after place) R r found

    r_low : r.num ≤ LAST_VERSION
    r_low = found_has (λ w. w.num ≤ LAST_VERSION) (at_or_after place) R r low found

    not_itself : is_before r r ≡ false
    not_itself = rw (tied_itself nat_list_cmp_total r.name) (grind (arith, nat_tests))

    upto_name : is_gt (cmp place.name r.name) ≡ false
    upto_name = found_upto place r here

    -- each from the place on is this one or stands after it
    one_or_later : AllByRecursion (λ w. at_or_after place w ≡ true → is_before r w ≡ false → w ≡ r) R
    one_or_later = only_first (at_or_after place) R r up found

    module _ (next : Spot) (goes : Goes R ask place next r) where
      still_here : (v : VersionOf C) → v.num ≤ LAST_VERSION → at_or_after next v ≡ true → at_or_after place v ≡ true
      still_here v is at_it = at_later place r v here (goes.later v is at_it)

      whole_next : AllByRecursion (IsWhole R ask next) R
      whole_next = all_both (IsWhole R ask place) (λ w. is_visible R w ≡ true → at_or_after place w ≡ true → at_or_after next w ≡ false → IsApart R ask next w) (IsWhole R ask next) each R counts.whole goes.apart where
        each : (w : VersionOf C) → IsWhole R ask place w → (is_visible R w ≡ true → at_or_after place w ≡ true → at_or_after next w ≡ false → IsApart R ask next w) → IsWhole R ask next w
        each w whole apart seen start out = ⊎_elim
            (λ (at_it : at_or_after place w ≡ true). apart seen at_it out)
            (λ (before : at_or_after place w ≡ false). λ v is later f first_in second_in. whole seen start before v is (still_here v is later) f first_in second_in)
            (cases_Bool (at_or_after place w))

      still_passed : (v : VersionOf C) → v.num ≤ LAST_VERSION → passed R ask place v ≡ true → passed R ask next v ≡ true
      still_passed v is both =
          let parts = and_parts (at_or_after (begin_at ask None) v && passes R ask v) (not (at_or_after place v)) both in
          and_from (at_or_after (begin_at ask None) v && passes R ask v) (not (at_or_after next v)) parts.0
          (⊎_elim
          (λ (at_it : at_or_after next v ≡ true). absurd (false≢true (ap not (sym (still_here v is at_it)) ∙ parts.1)))
          (λ (out : at_or_after next v ≡ false). ap not out)
          (cases_Bool (at_or_after next v)))

      all_still : AllByRecursion (λ v. passed R ask place v ≡ true → passed R ask next v ≡ true) R
      all_still = all_from (λ v. v.num ≤ LAST_VERSION) (λ v. passed R ask place v ≡ true → passed R ask next v ≡ true) still_passed R low

      no_fewer : passed_at R ask place ≤ passed_at R ask next
      no_fewer = fewer (passed R ask place) (passed R ask next) R all_still

      passed_more : passes R ask r ≡ true → passed_at R ask place + 1 ≤ passed_at R ask next
      passed_more is = one_more (passed R ask place) (passed R ask next) (at_or_after place) R r all_still found
          (ap (λ b. (at_or_after (begin_at ask None) r && passes R ask r) && not b) here ∙ and_right (at_or_after (begin_at ask None) r && passes R ask r) false refl)
          (and_from (at_or_after (begin_at ask None) r && passes R ask r) (not (at_or_after next r)) (and_from (at_or_after (begin_at ask None) r) (passes R ask r) (counts.forward r r_low here) is)
          (⊎_elim
          (λ (at_it : at_or_after next r ≡ true). absurd (false≢true (sym not_itself ∙ goes.later r r_low at_it)))
          (λ (out : at_or_after next r ≡ false). ap not out)
          (cases_Bool (at_or_after next r))))

      hidden_steps : IsPassed R ask place next r → steps + 1 ≤ first + length items + passed_at R ask next + over R ask next
      hidden_steps is = ⊎_elim
          (λ (skips : passes R ask r ≡ true). omega (arith, counts.few few, passed_more skips, over_grows R ask place next goes.upto))
          (λ (late : (over R ask place ≡ 0) × (over R ask next ≡ 1)). omega (arith, counts.few few, no_fewer, late.0, late.1))
          is

      forward_next : (v : VersionOf C) → v.num ≤ LAST_VERSION → at_or_after next v ≡ true → at_or_after (begin_at ask None) v ≡ true
      forward_next v is at_it = counts.forward v is (still_here v is at_it)

      hidden_counts : IsPassed R ask place next r → CountsTo R ask size first (steps + 1) items next
      hidden_counts is = record {
        forward = forward_next;
        whole = whole_next;
        few = λ same. hidden_steps is;
        last = λ full. absurd (omega (arith, few, full));
      }

      shown_counts : (x : PageRow) → IsShown R ask place x → CountsTo R ask size first (steps + 1) (items ++ x ∷ []) next
      shown_counts x shows = record {
        forward = forward_next;
        whole = whole_next;
        few = λ fits. omega (arith, counts.few few, no_fewer, over_grows R ask place next goes.upto, length-append items (x ∷ []));
        last = λ full.
            let same : length items ≡ size = omega (arith, full, length-append items (x ∷ [])) in
            subst (λ o. steps + 1 ≤ first + length (items ++ x ∷ []) + length (passed_over ask R o) + 1) (sym (last_is items x size same))
            (omega (arith, counts.few few, shown_over place x counts.whole shows, over_one R ask place, length-append items (x ∷ [])));
      }

    -- ---- where each turn goes

    start_goes : r.action ≡ action.Start → Goes R ask place (after_version ask.bucket r.name r.num) r
    start_goes is = record {
      later = λ w l at_it. sym (at_version ask.bucket r w l) ∙ at_it;
      apart = all_both (λ w. w.num ≤ LAST_VERSION) (λ w. at_or_after place w ≡ true → is_before r w ≡ false → w ≡ r) (λ w. is_visible R w ≡ true → at_or_after place w ≡ true → at_or_after (after_version ask.bucket r.name r.num) w ≡ false → IsApart R ask (after_version ask.bucket r.name r.num) w) each R low one_or_later;
      upto = by r.num;
    } where
      each : (w : VersionOf C) → w.num ≤ LAST_VERSION → (at_or_after place w ≡ true → is_before r w ≡ false → w ≡ r) → is_visible R w ≡ true → at_or_after place w ≡ true → at_or_after (after_version ask.bucket r.name r.num) w ≡ false → IsApart R ask (after_version ask.bucket r.name r.num) w
      each w l one seen at_it out =
          let same : w ≡ r = one at_it (sym (at_version ask.bucket r w l) ∙ out) in
          absurd (false≢true (sym (ap (λ a. is_upload a && is_current R r) is) ∙ subst (λ u. is_visible R u ≡ true) same seen))

      by : (n : ℕ) → is_gt (cmp place.name (after_version ask.bucket r.name n).name) ≡ false
      by zero = upto_upto place.name r.name (r.name ++ 0 ∷ []) upto_name (ap is_gt (longer_after r.name))
      by (suc n) = upto_name

    name_goes : current_in R r.name ≡ Some r → (is_visible R r ≡ true → (f : List ℕ) → folder_of R ask r ≡ Some f → ⊥) → Goes R ask place (after_name ask.bucket r.name) r
    name_goes current no_folder = record {
      later = λ w l at_it. before_by_name r w (is_less (cmp r.name w.name) (sym (at_name ask.bucket r.name w l) ∙ at_it));
      apart = all_both (λ w. w.num ≤ LAST_VERSION) (λ w. at_or_after place w ≡ true → is_before r w ≡ false → w ≡ r) (λ w. is_visible R w ≡ true → at_or_after place w ≡ true → at_or_after (after_name ask.bucket r.name) w ≡ false → IsApart R ask (after_name ask.bucket r.name) w) each R low one_or_later;
      upto = upto_upto place.name r.name (r.name ++ 0 ∷ []) upto_name (ap is_gt (longer_after r.name));
    } where
      same_name : (w : VersionOf C) → is_lt (cmp r.name w.name) ≡ false → is_gt (cmp r.name w.name) ≡ false → r.name ≡ w.name
      same_name w first_out second_out = by (cmp r.name w.name) refl where
        by : (o : Ordering) → cmp r.name w.name ≡ o → r.name ≡ w.name
        by Less e = absurd (false≢true (sym first_out ∙ ap is_lt e))
        by Equal e = exact_bytes r.name w.name e
        by Greater e = absurd (false≢true (sym second_out ∙ ap is_gt e))

      each : (w : VersionOf C) → w.num ≤ LAST_VERSION → (at_or_after place w ≡ true → is_before r w ≡ false → w ≡ r) → is_visible R w ≡ true → at_or_after place w ≡ true → at_or_after (after_name ask.bucket r.name) w ≡ false → IsApart R ask (after_name ask.bucket r.name) w
      each w l one seen at_it out v is later f first_in second_in = ⊎_elim
          (λ (before : is_before r w ≡ true).
          false≢true (sym (older_hidden R r w current before (same_name w (sym (at_name ask.bucket r.name w l) ∙ out) (names_upto r w before))) ∙ seen))
          (λ (other : is_before r w ≡ false).
          let same = one at_it other in
          no_folder (subst (λ u. is_visible R u ≡ true) same seen) f (subst (λ u. folder_of R ask u ≡ Some f) same first_in))
          (cases_Bool (is_before r w))

    folder_goes : (f : List ℕ) → folder_of R ask r ≡ Some f → Goes R ask place (after_folder ask.bucket f) r
    folder_goes f in_it = record {
      later = λ w l at_it. past_after ask.prefix ask.delimiter given r f in_f w (sym (at_folder ask.bucket f w l some) ∙ at_it);
      apart = all_both (λ w. w.num ≤ LAST_VERSION) (λ w. at_or_after place w ≡ true → is_before r w ≡ false → w ≡ r) (λ w. is_visible R w ≡ true → at_or_after place w ≡ true → at_or_after (after_folder ask.bucket f) w ≡ false → IsApart R ask (after_folder ask.bucket f) w) each R low one_or_later;
      upto = upto_upto place.name r.name (raised f) upto_name (ap is_gt (raised_less f r.name some in_f));
    } where
      in_f : begins_with f r.name ≡ true
      in_f = (are_folders ask.prefix ask.delimiter given).begins r.name f in_it

      some : 0 < length f
      some = (are_folders ask.prefix ask.delimiter given).some r.name f in_it

      same_some : {a b : List ℕ} → Some a ≡ Some b → a ≡ b
      same_some is = cc

      in_folder : (w : VersionOf C) → w.num ≤ LAST_VERSION → (at_or_after place w ≡ true → is_before r w ≡ false → w ≡ r) → at_or_after place w ≡ true → at_or_after (after_folder ask.bucket f) w ≡ false → begins_with f w.name ≡ true
      in_folder w l one at_it out = ⊎_elim
          (λ (before : is_before r w ≡ true). ⊎_elim
          (λ (is : begins_with f w.name ≡ true). is)
          (λ (other : begins_with f w.name ≡ false). absurd (false≢true (sym (sym (at_folder ask.bucket f w l some) ∙ out) ∙ in_or_past ask.prefix ask.delimiter given r f in_f w before other)))
          (cases_Bool (begins_with f w.name)))
          (λ (other : is_before r w ≡ false). subst (λ u. begins_with f u.name ≡ true) (sym (one at_it other)) in_f)
          (cases_Bool (is_before r w))

      each : (w : VersionOf C) → w.num ≤ LAST_VERSION → (at_or_after place w ≡ true → is_before r w ≡ false → w ≡ r) → is_visible R w ≡ true → at_or_after place w ≡ true → at_or_after (after_folder ask.bucket f) w ≡ false → IsApart R ask (after_folder ask.bucket f) w
      each w l one seen at_it out v is later g first_in second_in =
          let its = (are_folders ask.prefix ask.delimiter given).shared r.name w.name f in_it (in_folder w l one at_it out) in
          let same : g ≡ f = same_some (sym first_in ∙ its) in
          let inside : begins_with f v.name ≡ true = (are_folders ask.prefix ask.delimiter given).begins v.name f (second_in ∙ ap Some same) in
          let past : is_past f v.name ≡ true = sym (at_folder ask.bucket f v is some) ∙ later in
          false≢true (ap not (sym inside) ∙ (and_parts (is_lt (cmp f v.name)) (not (begins_with f v.name)) past).1)

    -- ---- what each turn shows or passes over

    abbrev Turn : Option PageRow → Spot → Type 0
    Turn None next = Goes R ask place next r × IsPassed R ask place next r
    Turn (Some x) next = Goes R ask place next r × IsShown R ask place x

    start_newer : r.action ≡ action.Start → is_newer r (current_in R r.name) ≡ true
    start_newer is = by (current_in R r.name) refl where
      by : (o : Option (VersionOf C)) → current_in R r.name ≡ o → is_newer r o ≡ true
      by None found_none = refl
      by (Some c) current = ⊎_elim
          (λ (at_it : at_or_after place c ≡ true). ⊎_elim
          (λ (before : is_before r c ≡ true).
          rw (subst (λ n. cmp r.name n ≡ Equal) (sym one_name) (tied_itself nat_list_cmp_total r.name)) at before)
          (λ (other : is_before r c ≡ false).
          let same : c ≡ r = found_has (λ w. at_or_after place w ≡ true → is_before r w ≡ false → w ≡ r) (counts_for r.name) R c one_or_later current at_it other in
          absurd (false≢true (ap not (sym (ap is_start is)) ∙ subst (λ u. not (is_start u.action) ≡ true) same both.1)))
          (cases_Bool (is_before r c)))
          (λ (before : at_or_after place c ≡ false).
          absurd (false≢true (sym (none_before place r here c (found_has (IsStartBefore place) (counts_for r.name) R c starts current) before) ∙ found_passes (counts_for r.name) R c current)))
          (cases_Bool (at_or_after place c))
        where
          both : (bytes_eq c.name r.name ≡ true) × (not (is_start c.action) ≡ true)
          both = and_parts (bytes_eq c.name r.name) (not (is_start c.action)) (found_passes (counts_for r.name) R c current)

          one_name : c.name ≡ r.name
          one_name = bytes_are c.name r.name both.0

    file_shown : IsShown R ask place (File r.name r.num)
    file_shown u l whole seen stands =
        let both = and_parts (bytes_eq u.name r.name) (u.num == r.num) stands in
        let names : u.name ≡ r.name = bytes_are u.name r.name both.0 in
        let nums : u.num ≡ r.num = eqb-true u.num r.num both.1 in
        ap (λ n. match_ordering (cmp n place.name) false (not (nat_lt place.num u.num)) true) names ∙ ap (λ m. match_ordering (cmp r.name place.name) false (not (nat_lt place.num m)) true) nums ∙ here

    folder_shown : (f : List ℕ) → folder_of R ask r ≡ Some f → IsShown R ask place (Folder f)
    folder_shown f in_it u l whole seen stands =
        let are = are_folders ask.prefix ask.delimiter given in
        let its : folder_of R ask u ≡ Some f = are.shared r.name u.name f in_it stands in
        let prefixed : begins_with ask.prefix u.name ≡ true = through f (are.prefixed r.name f in_it begins) stands in
        let row : row_of ask.prefix ask.delimiter u ≡ row_of ask.prefix ask.delimiter r = row_is ask.prefix ask.delimiter u ∙ row_same its ∙ sym (row_is ask.prefix ask.delimiter r) in
        let start : at_or_after (begin_at ask None) u ≡ true = sym (at_start u l prefixed) ∙ ap (is_from ask.start None) row ∙ at_start r r_low begins ∙ counts.forward r r_low here in
        ⊎_elim
        (λ (at_it : at_or_after place u ≡ true). at_it)
        (λ (before : at_or_after place u ≡ false). absurd (whole seen start before r r_low here f its in_it))
        (cases_Bool (at_or_after place u))
      where
        through : (g : List ℕ) → begins_with ask.prefix g ≡ true → begins_with g u.name ≡ true → begins_with ask.prefix u.name ≡ true
        through g a b = begins_through ask.prefix g u.name a b

        row_same : folder_of R ask u ≡ Some f → or_file u (folder_of R ask u) ≡ or_file r (folder_of R ask r)
        row_same its = ap (or_file u) its ∙ ap (or_file r) (sym in_it)

    late_over : is_late ask r ≡ true → (over R ask place ≡ 0) × (over R ask (after_name ask.bucket r.name) ≡ 1)
    late_over late = (by (cmp place.name r.name) refl, ap (λ o. cond (is_lt o) 1 0) (subst (λ n. cmp n (r.name ++ 0 ∷ []) ≡ Less) is (longer_after r.name))) where
      is : r.name ≡ ask.start
      is = bytes_are r.name ask.start (and_parts (some_and (λ n. nat_lt n r.num) ask.start_num) (bytes_eq r.name ask.start) late).1

      by : (o : Ordering) → cmp place.name r.name ≡ o → over R ask place ≡ 0
      by Less e = ap (λ o. cond (is_lt o) 1 0) (ap (λ n. cmp n place.name) (sym is) ∙ reversed place.name r.name Less e)
      by Equal e = ap (λ o. cond (is_lt o) 1 0) (ap (λ n. cmp n place.name) (sym is) ∙ reversed place.name r.name Equal e)
      by Greater e = absurd (false≢true (sym upto_name ∙ ap is_gt e))

    upload_shown : current_in R r.name ≡ Some r → (o : Option (List ℕ)) → folder_of R ask r ≡ o → Turn (upload_row ask o r) (after_row ask.bucket o (after_name ask.bucket r.name))
    upload_shown current None in_none =
        let goes = name_goes current (λ seen f in_it. no_some (sym in_none ∙ in_it)) in
        ⊎_elim
        (λ (late : is_late ask r ≡ true). rw late (goes, inr (late_over late)))
        (λ (in_time : is_late ask r ≡ false). rw in_time (goes, file_shown))
        (cases_Bool (is_late ask r))
      where
        no_some : {f : List ℕ} → None ≡ Some f → ⊥
        no_some is = cc
    upload_shown current (Some f) in_it = (folder_goes f in_it, folder_shown f in_it)

    by_action : (a : Action) → r.action ≡ a → Turn (row_by a ask r) (next_by a ask r)
    by_action action.Upload is = upload_shown (current_is place R r starts found (ap is_start is)) (folder_of R ask r) refl
    by_action action.Hide is =
        let current = current_is place R r starts found (ap is_start is) in
        let is_it : is_current R r ≡ true = ap (some_and (λ w. w.num == r.num)) current ∙ same_number r.num in (
          name_goes current (λ seen f in_it. false≢true (sym (ap (λ a. is_upload a && is_current R r) is) ∙ seen)),
          inl (and_from (begins_with ask.prefix r.name) (is_skipped r.action R r) begins (ap (λ a. is_skipped a R r) is ∙ is_it)),
        )
    by_action action.Start is = (
      start_goes is,
      inl (and_from (begins_with ask.prefix r.name) (is_skipped r.action R r) begins (ap (λ a. is_skipped a R r) is ∙ start_newer is)),
    )

    gathered : (row : Option PageRow) (next : Spot) → Turn row next → CountsTo R ask size first (steps + 1) (items ++ option_to_list row) next
    gathered None next turn = subst (λ l. CountsTo R ask size first (steps + 1) l next) (sym (append-nil items)) (hidden_counts next turn.0 turn.1)
    gathered (Some x) next turn = shown_counts next turn.0 x turn.1

    -- a turn takes one step, for its row or for what it passes over
    pub counted_turn : (row : Option PageRow) (next : Spot) (more : List PageRow) (now : ℕ) → row ≡ row_by r.action ask r → next ≡ next_by r.action ask r → more ≡ items ++ option_to_list row → now ≡ steps + 1 → CountsTo R ask size first now more next
    counted_turn row next more now row_is next_is more_is now_is =
        subst (λ n. CountsTo R ask size first n more next) (sym now_is)
        (subst (λ l. CountsTo R ask size first (steps + 1) l next) (sym more_is)
        (gathered row next (subst (λ s. Turn row s) (sym next_is) (subst (λ o. Turn o (next_by r.action ask r)) (sym row_is) (by_action r.action refl)))))

pub counted_page : {C : Type 0} (ask : Ask) (R : List (VersionOf C)) (size first steps : ℕ) (items : List PageRow) (page : Page PageRow) → page ≡ page_of size items → steps ≤ first + length (take size items) + 2 + length (passed_over ask R (slice_get items size)) → steps ≤ first + length page.rows + 2 + length (passed_over ask R page.next)
counted_page ask R size first steps items page is bound = subst (λ p. steps ≤ first + length p.rows + 2 + length (passed_over ask R p.next)) (sym is) bound
