-- Versions that two states have in common are found and listed alike.
use Rattle.std.proofs.Common.{◌≡◌, ℕ, ◌<◌, ◌==◌, Bool, true, false, not, ◌&&◌, List, [], ◌∷◌, Option, Some, None, filter, find, bytes_eq, refl, sym, ap, ◌∙◌, arith}
use Rattle.std.specs.Cmp.Lexicographic.{bytes_decides}
use Rattle.std.proofs.lemmas.Bool.{false≢true}
use Rattle.std.proofs.lemmas.Bool.Decides.{nat_tests}
use Rattle.name_rules.specs.Folder.{begins_with}
use Rattle.b2_types.specs.declared.version.VersionOf.{VersionOf}
use Rattle.b2_model.specs.Kinds.{is_upload, is_start}
use Rattle.b2_model.specs.Checks.{some_and}
use Rattle.b2_model.specs.Lists.{is_among}
use Rattle.b2_model.specs.State.{State}
use Rattle.b2_model.specs.Rows.{rows, listing_order, version_at}
use Rattle.b2_model.specs.Current.{current, current_in}
use Rattle.b2_model.specs.Pages.{Listing, with_prefix, is_current, visible_versions, with_folders, is_from, page_of, page_size, most_rows, listing_page, names_page, versions_page, unfinished_page, page_from}
use Rattle.sound_states.specs.Sound.{IsAscending}
use Rattle.sound_states.proofs.Tests.{both_hold, holds_both, equal_numbers}
use Rattle.sound_states.proofs.Found.{found_passes}
use Rattle.isolation_laws.proofs.Kept.{kept_twice, found_twice, kept_both, found_kept, found_alone, AtMostOne}
use Rattle.isolation_laws.proofs.Sorted.{rows_under}

-- ---- prefixes

pub longer_prefix : (short long name : List ℕ) → begins_with short long ≡ true → begins_with long name ≡ true → begins_with short name ≡ true
longer_prefix [] long name first second = refl
longer_prefix (x ∷ short) [] name first second = absurd (false≢true first)
longer_prefix (x ∷ short) (y ∷ long) [] first second = absurd (false≢true second)
longer_prefix (x ∷ short) (y ∷ long) (z ∷ name) first second =
    let a = both_hold (y == x) (begins_with short long) first in
    let b = both_hold (z == y) (begins_with long name) second in
    holds_both (z == x) (begins_with short name) (ap (λ n. z == n) (sym (equal_numbers y x a.0)) ∙ b.0) (longer_prefix short long name a.1 b.1)

if_under : (a b : Bool) → a ≡ true → b ≡ (a && b)
if_under true b is = refl
if_under false b is = absurd (false≢true is)

module _ {C : Type 0} where
  one_number : (n num : ℕ) (vs : List (VersionOf C)) → IsAscending (λ v. v.num) vs → AtMostOne (λ v. v.bucket == n && v.num == num) vs
  one_number n num vs order i j d lt within has =
      let less = order i j d lt within in
      other (_ == n) (_ == n) _ _ num less has
    where
      other : (a b : Bool) (x y num : ℕ) → x < y → (a && x == num) ≡ true → (b && y == num) ≡ false
      other a b x y num less has = grind (arith, nat_tests)

  page_by : (ask : Listing) (vs ws : List (VersionOf C)) → with_prefix ask.prefix vs ≡ with_prefix ask.prefix ws → listing_page ask vs ≡ listing_page ask ws
  page_by ask vs ws same = ap (λ vs. page_of (page_size most_rows ask.most) (filter (is_from ask.start ask.start_num) (with_folders ask.prefix ask.delimiter vs))) same

module _ {C : Type 0} (own : List ℕ) where
  in_bucket : (n : ℕ) → is_among own n ≡ true → (v : VersionOf C) → (v.bucket == n) ≡ true → is_among own v.bucket ≡ true
  in_bucket n in_own v is = ap (is_among own) (equal_numbers v.bucket n is) ∙ in_own

  -- ---- all that stands in the buckets

  abbrev all_in : State C → List (VersionOf C)
  all_in M = filter (λ v. is_among own v.bucket) M.versions

  pub rows_alike : (M N : State C) → all_in M ≡ all_in N → (n : ℕ) → is_among own n ≡ true → rows M n ≡ rows N n
  rows_alike M N same n in_own =
      let p : VersionOf C → Bool = λ v. v.bucket == n in
      let q : VersionOf C → Bool = λ v. is_among own v.bucket in
      ap listing_order (kept_twice p q (in_bucket n in_own) M.versions ∙ ap (filter p) same ∙ sym (kept_twice p q (in_bucket n in_own) N.versions))

  pub version_alike : (M N : State C) → all_in M ≡ all_in N → (n num : ℕ) → is_among own n ≡ true → version_at M n num ≡ version_at N n num
  version_alike M N same n num in_own =
      let p : VersionOf C → Bool = λ v. v.bucket == n && v.num == num in
      let q : VersionOf C → Bool = λ v. is_among own v.bucket in
      let weaker : (v : VersionOf C) → p v ≡ true → q v ≡ true = λ v is. in_bucket n in_own v (both_hold (v.bucket == n) (v.num == num) is).0 in
      found_twice p q weaker M.versions ∙ ap (find p) same ∙ sym (found_twice p q weaker N.versions)

  pub unfinished_alike : (M N : State C) → all_in M ≡ all_in N → (n : ℕ) (prefix : List ℕ) (start : ℕ) (most : Option ℕ) → is_among own n ≡ true → unfinished_page M n prefix start most ≡ unfinished_page N n prefix start most
  unfinished_alike M N same n prefix start most in_own =
      let p : VersionOf C → Bool = λ v. v.bucket == n && is_start v.action in
      let q : VersionOf C → Bool = λ v. is_among own v.bucket in
      let weaker : (v : VersionOf C) → p v ≡ true → q v ≡ true = λ v is. in_bucket n in_own v (both_hold (v.bucket == n) (is_start v.action) is).0 in
      ap (λ vs. page_from (λ v. v.num) start (page_size 100 most) (with_prefix prefix vs))
      (kept_twice p q weaker M.versions ∙ ap (filter p) same ∙ sym (kept_twice p q weaker N.versions))

  -- ---- names with a prefix

  module _ (prefix : List ℕ) where
    abbrev under : VersionOf C → Bool
    under v = begins_with prefix v.name

    abbrev reached : VersionOf C → Bool
    reached v = is_among own v.bucket && begins_with prefix v.name

    abbrev names_in : State C → List (VersionOf C)
    names_in M = filter reached M.versions

    -- of what has the prefix all in the bucket is reached
    in_reach : (n : ℕ) → is_among own n ≡ true → (v : VersionOf C) → under v ≡ true → (v.bucket == n) ≡ (reached v && v.bucket == n)
    in_reach n in_own v has = here (v.bucket == n) refl
      where
        here : (b : Bool) → (v.bucket == n) ≡ b → b ≡ (reached v && b)
        here true is = sym (ap (λ a. a && true) (holds_both (is_among own v.bucket) (under v) (in_bucket n in_own v is) has))
        here false is = none (reached v)
          where
            none : (a : Bool) → false ≡ (a && false)
            none true = refl
            none false = refl

    pub rows_with_prefix : (M N : State C) → names_in M ≡ names_in N → (n : ℕ) → is_among own n ≡ true → filter under (rows M n) ≡ filter under (rows N n)
    rows_with_prefix M N same n in_own =
        let p : VersionOf C → Bool = λ v. v.bucket == n in
        rows_under under (filter p M.versions)
        ∙ ap listing_order (kept_both under p reached p (in_reach n in_own) M.versions ∙ ap (λ vs. filter under (filter p vs)) same ∙ sym (kept_both under p reached p (in_reach n in_own) N.versions))
        ∙ sym (rows_under under (filter p N.versions))

    -- what a name's rows show stands among those with the prefix
    named_under : (name : List ℕ) → begins_with prefix name ≡ true → (vs : List (VersionOf C)) → current_in vs name ≡ current_in (filter under vs) name
    named_under name has vs =
        found_twice (λ v. bytes_eq v.name name && not (is_start v.action)) under
        (λ v is. ap (begins_with prefix) ((bytes_decides v.name name).0 (both_hold (bytes_eq v.name name) _ is).0) ∙ has) vs

    pub current_alike : (M N : State C) → names_in M ≡ names_in N → (n : ℕ) (name : List ℕ) → is_among own n ≡ true → begins_with prefix name ≡ true → current M n name ≡ current N n name
    current_alike M N same n name in_own has =
        named_under name has (rows M n) ∙ ap (λ vs. current_in vs name) (rows_with_prefix M N same n in_own) ∙ sym (named_under name has (rows N n))

    -- ---- pages

    versions_under : (long : List ℕ) → begins_with prefix long ≡ true → (vs : List (VersionOf C)) → with_prefix long vs ≡ with_prefix long (filter under vs)
    versions_under long longer vs = kept_twice (λ v. begins_with long v.name) under (λ v has. longer_prefix prefix long v.name longer has) vs

    visible_under : (long : List ℕ) → begins_with prefix long ≡ true → (vs : List (VersionOf C)) → with_prefix long (visible_versions vs) ≡ with_prefix long (visible_versions (filter under vs))
    visible_under long longer vs =
        kept_both (λ v. begins_with long v.name) (λ v. is_upload v.action && is_current vs v) under (λ v. is_upload v.action && is_current (filter under vs) v)
        (λ v has.
        let is : under v ≡ true = longer_prefix prefix long v.name longer has in
        ap (λ o. is_upload v.action && some_and (λ w. w.num == v.num) o) (named_under v.name is vs)
        ∙ if_under (under v) (is_upload v.action && is_current (filter under vs) v) is)
        vs

    pub names_page_alike : (M N : State C) → names_in M ≡ names_in N → (n : ℕ) (ask : Listing) → is_among own n ≡ true → begins_with prefix ask.prefix ≡ true → names_page M n ask ≡ names_page N n ask
    names_page_alike M N same n ask in_own longer =
        page_by ask (visible_versions (rows M n)) (visible_versions (rows N n))
        (visible_under ask.prefix longer (rows M n) ∙ ap (λ vs. with_prefix ask.prefix (visible_versions vs)) (rows_with_prefix M N same n in_own) ∙ sym (visible_under ask.prefix longer (rows N n)))

    pub versions_page_alike : (M N : State C) → names_in M ≡ names_in N → (n : ℕ) (ask : Listing) → is_among own n ≡ true → begins_with prefix ask.prefix ≡ true → versions_page M n ask ≡ versions_page N n ask
    versions_page_alike M N same n ask in_own longer =
        page_by ask (rows M n) (rows N n)
        (versions_under ask.prefix longer (rows M n) ∙ ap (with_prefix ask.prefix) (rows_with_prefix M N same n in_own) ∙ sym (versions_under ask.prefix longer (rows N n)))

    started_in_reach : (long : List ℕ) → begins_with prefix long ≡ true → (n : ℕ) → is_among own n ≡ true → (v : VersionOf C) → begins_with long v.name ≡ true
        → (v.bucket == n && is_start v.action) ≡ (reached v && (v.bucket == n && is_start v.action))
    started_in_reach long longer n in_own v has = here (v.bucket == n) (is_start v.action) refl
      where
        none : (a : Bool) → false ≡ (a && false)
        none true = refl
        none false = refl

        here : (b s : Bool) → (v.bucket == n) ≡ b → (b && s) ≡ (reached v && (b && s))
        here true s is = if_under (reached v) s (holds_both (is_among own v.bucket) (under v) (in_bucket n in_own v is) (longer_prefix prefix long v.name longer has))
        here false s is = none (reached v)

    pub unfinished_names_alike : (M N : State C) → names_in M ≡ names_in N → (n : ℕ) (long : List ℕ) (start : ℕ) (most : Option ℕ) → is_among own n ≡ true → begins_with prefix long ≡ true
        → unfinished_page M n long start most ≡ unfinished_page N n long start most
    unfinished_names_alike M N same n long start most in_own longer =
        let p : VersionOf C → Bool = λ v. begins_with long v.name in
        let f : VersionOf C → Bool = λ v. v.bucket == n && is_start v.action in
        ap (page_from (λ v. v.num) start (page_size 100 most))
        (kept_both p f reached f (started_in_reach long longer n in_own) M.versions ∙ ap (λ vs. filter p (filter f vs)) same ∙ sym (kept_both p f reached f (started_in_reach long longer n in_own) N.versions))

    -- ---- a version by its number

    version_by : (M N : State C) → names_in M ≡ names_in N → IsAscending (λ v. v.num) N.versions → (n num : ℕ) (o : Option (VersionOf C)) → is_among own n ≡ true → version_at M n num ≡ o → some_and under o ≡ true → o ≡ version_at N n num
    version_by M N same order n num None in_own is has = absurd (false≢true has)
    version_by M N same order n num (Some v) in_own is has =
        let p : VersionOf C → Bool = λ v. v.bucket == n && v.num == num in
        let reach : reached v ≡ true = holds_both (is_among own v.bucket) (under v) (in_bucket n in_own v (both_hold (v.bucket == n) (v.num == num) (found_passes p M.versions v is)).0) has in
        sym (found_alone p reached N.versions v (one_number n num N.versions order) (ap (find p) (sym same) ∙ found_kept p reached M.versions v is reach))

    pub version_named_alike : (M N : State C) → names_in M ≡ names_in N → IsAscending (λ v. v.num) N.versions → (n num : ℕ) → is_among own n ≡ true → some_and under (version_at M n num) ≡ true → version_at M n num ≡ version_at N n num
    version_named_alike M N same order n num in_own has = version_by M N same order n num (version_at M n num) in_own refl has
