-- A plan is what the pass on its name does.
use Rattle.std.proofs.Common.{◌≡◌, ℕ, ◌<◌, Bool, true, false, not, cond, ◌&&◌, ◌||◌, ◌==◌, nat_lt, nat_le, List, [], ◌∷◌, ◌++◌, Some, All, Contains, bytes_eq, if◌then◌else◌, refl, sym, ap, ◌∙◌, arith}
use Rattle.std.specs.Prelude.{filter, fold}
use Rattle.std.specs.declared.cmp.Ordering.{Ordering}
use Rattle.std.specs.declared.cmp.Ordering.TheVariants.{Less, Equal, Greater}
use Rattle.std.specs.Ordering.{nat_cmp, match_ordering, ordering_reverse}
use Rattle.std.specs.Cmp.Lexicographic.{slice_cmp, nat_list_cmp_total}
use Rattle.std.specs.List.{list_any}
use Rattle.std.proofs.lemmas.Bool.Decides.{nat_tests}
use Rattle.std.proofs.lemmas.Slice.Eq.{bytes_eq-Decides}
use Rattle.std.proofs.lemmas.Bool.{and_parts, and_from, false≢true, eqb-true}
use Rattle.std.proofs.lemmas.List.Elements.{All-head, All-tail, All-weaker, filter_agree, filter-append, All-contains_itself}
use Rattle.b2_types.specs.declared.bucket.Rule.{Rule}
use Rattle.b2_types.specs.declared.version.VersionOf.{VersionOf}
use Rattle.b2_model.specs.Kinds.{is_start}
use Rattle.b2_model.specs.Lists.{put_by}
use Rattle.b2_model.specs.State.{State}
use Rattle.b2_model.specs.Rows.{is_before, put_row, listing_order, rows}
use Rattle.b2_model.specs.Version.{marker, with_version}
use Rattle.b2_model.specs.Pass.{has_aged, is_due, drops, is_same, of_name, cancels, pass_on}
use Rattle.lifecycle_pass.specs.declared.plans.Plan.{Plan}
use Rattle.lifecycle_pass.specs.Plans.{IsPlan, files, numbers, is_stale}
use Rattle.lifecycle_pass.specs.Names.{AreNumbered, rows_of, is_gone, after_plan}
use Rattle.lifecycle_pass.proofs.OtherNames.{rows_all, Here, due, N, gone, gone_here}

-- ---- lists

module _ {X : Type 0} where
  pub filter_twice : (p q : X → Bool) (xs : List X) → filter q (filter p xs) ≡ filter (λ x. p x && q x) xs
  filter_twice p q [] = refl
  filter_twice p q (x ∷ xs) = by_case (p x) (filter_twice p q xs)
    where
      by_case : (b : Bool) → filter q (filter p xs) ≡ filter (λ x. p x && q x) xs
          → filter q (cond b (x ∷ filter p xs) (filter p xs)) ≡ cond (b && q x) (x ∷ filter (λ x. p x && q x) xs) (filter (λ x. p x && q x) xs)
      by_case true rest = ap (λ l. cond (q x) (x ∷ l) l) rest
      by_case false rest = rest

  any_filter : (p f : X → Bool) (xs : List X) → list_any f (filter p xs) ≡ list_any (λ x. p x && f x) xs
  any_filter p f [] = refl
  any_filter p f (x ∷ xs) = by_case (p x) (any_filter p f xs)
    where
      by_case : (b : Bool) → list_any f (filter p xs) ≡ list_any (λ x. p x && f x) xs
          → list_any f (cond b (x ∷ filter p xs) (filter p xs)) ≡ ((b && f x) || list_any (λ x. p x && f x) xs)
      by_case true rest = ap (λ b. f x || b) rest
      by_case false rest = rest

  any_agree : (f g : X → Bool) → ((x : X) → f x ≡ g x) → (xs : List X) → list_any f xs ≡ list_any g xs
  any_agree f g same [] = refl
  any_agree f g same (x ∷ xs) = ap (λ b. b || list_any f xs) (same x) ∙ ap (λ b. g x || b) (any_agree f g same xs)

  any-append : (f : X → Bool) (xs ys : List X) → list_any f (xs ++ ys) ≡ (list_any f xs || list_any f ys)
  any-append f [] ys = refl
  any-append f (x ∷ xs) ys = by_case (f x) (any-append f xs ys)
    where
      by_case : (b : Bool) → list_any f (xs ++ ys) ≡ (list_any f xs || list_any f ys) → (b || list_any f (xs ++ ys)) ≡ ((b || list_any f xs) || list_any f ys)
      by_case true rest = refl
      by_case false rest = rest

  -- what has the greatest number stands last
  put_last : (num : X → ℕ) (x : X) (xs : List X) → All (λ y. num y < num x) xs → put_by num x xs ≡ xs ++ x ∷ []
  put_last num x [] below = refl
  put_last num x (y ∷ ys) below =
      let here = All-head (λ y. num y < num x) y ys below in
      by_case (nat_lt (num x) (num y)) (grind (arith, nat_tests)) (put_last num x ys (All-tail (λ y. num y < num x) y ys below))
    where
      by_case : (b : Bool) → b ≡ false → put_by num x ys ≡ ys ++ x ∷ [] → (if b then x ∷ y ∷ ys else y ∷ put_by num x ys) ≡ y ∷ (ys ++ x ∷ [])
      by_case true not_so rest = absurd (false≢true (sym not_so))
      by_case false not_so rest = ap (λ l. y ∷ l) rest

swap_or : (a b c : Bool) → (a || (b || c)) ≡ (b || (a || c))
swap_or true true c = refl
swap_or true false c = refl
swap_or false true c = refl
swap_or false false c = refl

-- the tests of a start that is cancelled, in either order
same_tests : (a b c d f : Bool) → ((a && b && c && d) && f) ≡ (a && (b && ((c && d) && f)))
same_tests true true true d f = refl
same_tests true true false d f = refl
same_tests true false c d f = refl
same_tests false b c d f = refl

none_after : (b : Bool) → (b || false) ≡ b
none_after true = refl
none_after false = refl

and_none : (b : Bool) → false ≡ (b && false)
and_none true = refl
and_none false = refl

and_either : (b x y : Bool) → ((b && x) || (b && y)) ≡ (b && (x || y))
and_either true x y = refl
and_either false x y = refl

its_reverse : (o : Ordering) → o ≡ ordering_reverse o → o ≡ Equal
its_reverse Less is = absurd (cc)
its_reverse Equal is = refl
its_reverse Greater is = absurd (cc)

same_name : (name : List ℕ) → slice_cmp nat_cmp name name ≡ Equal
same_name name = its_reverse (slice_cmp nat_cmp name name) (nat_list_cmp_total.antisymm name name)

-- ---- rows

module _ {C : Type 0} where
  row_any : (f : VersionOf C → Bool) (v : VersionOf C) (ws : List (VersionOf C)) → list_any f (put_row v ws) ≡ (f v || list_any f ws)
  row_any f v [] = refl
  row_any f v (w ∷ ws) = by_case (is_before v w) (row_any f v ws)
    where
      by_case : (b : Bool) → list_any f (put_row v ws) ≡ (f v || list_any f ws) → list_any f (if b then v ∷ w ∷ ws else w ∷ put_row v ws) ≡ (f v || (f w || list_any f ws))
      by_case true rest = refl
      by_case false rest = ap (λ b. f w || b) rest ∙ swap_or (f w) (f v) (list_any f ws)

  order_any : (f : VersionOf C → Bool) (vs done : List (VersionOf C)) → list_any f (fold (λ ws v. put_row v ws) done vs) ≡ (list_any f vs || list_any f done)
  order_any f [] done = refl
  order_any f (v ∷ vs) done =
      order_any f vs (put_row v done)
      ∙ ap (λ b. list_any f vs || b) (row_any f v done)
      ∙ swap_or (list_any f vs) (f v) (list_any f done)
      ∙ grouped (f v) (list_any f vs) (list_any f done)
    where
      grouped : (a b c : Bool) → (a || (b || c)) ≡ ((a || b) || c)
      grouped true b c = refl
      grouped false b c = refl

  fold_push : (vs done : List (VersionOf C)) (m : VersionOf C) → fold (λ ws v. put_row v ws) done (vs ++ m ∷ []) ≡ put_row m (fold (λ ws v. put_row v ws) done vs)
  fold_push [] done m = refl
  fold_push (v ∷ vs) done m = fold_push vs (put_row v done) m

  -- a row that stands before all that pass is the first that passes
  row_first : (p : VersionOf C → Bool) (m : VersionOf C) (ws : List (VersionOf C)) → p m ≡ true → All (λ w. p w ≡ true → is_before m w ≡ true) ws → filter p (put_row m ws) ≡ m ∷ filter p ws
  row_first p m [] passes all = ap (λ b. cond b (m ∷ []) []) passes
  row_first p m (w ∷ ws) passes all =
      by_case (is_before m w) (p w) refl refl (All-head (λ w. p w ≡ true → is_before m w ≡ true) w ws all) (row_first p m ws passes (All-tail (λ w. p w ≡ true → is_before m w ≡ true) w ws all))
    where
      by_case : (b a : Bool) → is_before m w ≡ b → p w ≡ a → (p w ≡ true → is_before m w ≡ true) → filter p (put_row m ws) ≡ m ∷ filter p ws
          → filter p (if b then m ∷ w ∷ ws else w ∷ put_row m ws) ≡ m ∷ filter p (w ∷ ws)
      by_case true a before pass stands rest = ap (λ b. cond b (m ∷ filter p (w ∷ ws)) (filter p (w ∷ ws))) passes
      by_case false true before pass stands rest = absurd (false≢true (sym before ∙ stands pass))
      by_case false false before pass stands rest =
          ap (λ b. cond b (w ∷ filter p (put_row m ws)) (filter p (put_row m ws))) pass ∙ rest ∙ ap (λ l. m ∷ l) (sym (ap (λ b. cond b (w ∷ filter p ws) (filter p ws)) pass))

  module _ (t bucket : ℕ) (name : List ℕ) (M : State C) where
    abbrev m : VersionOf C
    m = marker bucket M.next_version name t

    abbrev is_file : VersionOf C → Bool
    is_file v = bytes_eq v.name name && not (is_start v.action)

    files_are : files (rows_of M bucket name) ≡ of_name M bucket name
    files_are = filter_twice (λ v. bytes_eq v.name name) (λ v. not (is_start v.action)) (rows M bucket)

    -- a marker is before each version of its name
    stands_first : AreNumbered M → All (λ w. is_file w ≡ true → is_before m w ≡ true) (rows M bucket)
    stands_first numbered =
        All-weaker (λ w. w.num < M.next_version) (λ w. is_file w ≡ true → is_before m w ≡ true) before (rows M bucket)
        (rows_all (λ w. w.num < M.next_version) M bucket (All-weaker (Contains M.versions) (λ w. w.num < M.next_version) numbered.free M.versions (All-contains_itself M.versions)))
      where
        before : (w : VersionOf C) → w.num < M.next_version → is_file w ≡ true → is_before m w ≡ true
        before w below passes =
            let is_name : w.name ≡ name = (bytes_eq-Decides w.name name).0 (and_parts (bytes_eq w.name name) (not (is_start w.action)) passes).0 in
            let lower : nat_lt w.num M.next_version ≡ true = grind (arith, nat_tests) in
            ap (λ n. match_ordering (slice_cmp nat_cmp name n) true (nat_lt w.num M.next_version) false) is_name
            ∙ ap (λ o. match_ordering o true (nat_lt w.num M.next_version) false) (same_name name)
            ∙ lower

    marked_rows : AreNumbered M → of_name (with_version (marker bucket M.next_version name t) M) bucket name ≡ marker bucket M.next_version name t ∷ of_name M bucket name
    marked_rows numbered =
        let in_bucket : VersionOf C → Bool = λ v. v.bucket == bucket in
        let itself : (bucket == bucket) ≡ true = grind (arith, nat_tests) in
        let named : (bytes_eq name name && true) ≡ true = and_from (bytes_eq name name) true ((bytes_eq-Decides name name).1 refl) refl in
        ap (λ l. filter is_file (listing_order (filter in_bucket l))) (put_last (λ w. w.num) m M.versions (All-weaker (Contains M.versions) (λ w. w.num < M.next_version) numbered.free M.versions (All-contains_itself M.versions)))
        ∙ ap (λ l. filter is_file (listing_order l)) (filter-append in_bucket M.versions (m ∷ []) ∙ ap (λ b. filter in_bucket M.versions ++ cond b (m ∷ []) []) itself)
        ∙ ap (filter is_file) (fold_push (filter in_bucket M.versions) [] m)
        ∙ row_first is_file m (rows M bucket) named (stands_first numbered)

    due_rows : AreNumbered M → (b : Bool) → of_name (if b then with_version (marker bucket M.next_version name t) M else M) bucket name ≡ (if b then marker bucket M.next_version name t ∷ of_name M bucket name else of_name M bucket name)
    due_rows numbered true = marked_rows numbered
    due_rows numbered false = refl

    -- the starts that are cancelled, in either order
    same_cancels : (rule : Rule) (num : ℕ) → list_any (λ n. num == n) (numbers (cancels M t bucket rule name)) ≡ list_any (λ n. num == n) (numbers (filter (is_stale t rule) (rows_of M bucket name)))
    same_cancels rule num =
        any_numbers (cancels M t bucket rule name)
        ∙ any_filter (λ v. v.bucket == bucket && bytes_eq v.name name && is_start v.action && has_aged t v.stamp rule.cancel_days) (λ v. num == v.num) M.versions
        ∙ any_agree _ _ (λ v. same_tests (v.bucket == bucket) (bytes_eq v.name name) (is_start v.action) (has_aged t v.stamp rule.cancel_days) (num == v.num)) M.versions
        ∙ sym (any_filter (λ v. v.bucket == bucket) (λ v. bytes_eq v.name name && (is_stale t rule v && num == v.num)) M.versions)
        ∙ sym (none_after (list_any (λ v. bytes_eq v.name name && (is_stale t rule v && num == v.num)) (filter (λ v. v.bucket == bucket) M.versions)))
        ∙ sym (order_any (λ v. bytes_eq v.name name && (is_stale t rule v && num == v.num)) (filter (λ v. v.bucket == bucket) M.versions) [])
        ∙ sym (any_filter (λ v. bytes_eq v.name name) (λ v. is_stale t rule v && num == v.num) (rows M bucket))
        ∙ sym (any_filter (is_stale t rule) (λ v. num == v.num) (rows_of M bucket name))
        ∙ sym (any_numbers (filter (is_stale t rule) (rows_of M bucket name)))
      where
        any_numbers : (vs : List (VersionOf C)) → list_any (λ n. num == n) (numbers vs) ≡ list_any (λ v. num == v.num) vs
        any_numbers [] = refl
        any_numbers (v ∷ vs) = ap (λ b. (num == v.num) || b) (any_numbers vs)

  numbers-append : (xs ys : List (VersionOf C)) → numbers (xs ++ ys) ≡ numbers xs ++ numbers ys
  numbers-append [] ys = refl
  numbers-append (x ∷ xs) ys = ap (λ l. x.num ∷ l) (numbers-append xs ys)

  -- of versions of one bucket the number tells which is meant
  any_same : (bucket : ℕ) (v : VersionOf C) (gs : List (VersionOf C)) → All (λ g. g.bucket ≡ bucket) gs → list_any (is_same v) gs ≡ (v.bucket == bucket && list_any (λ n. v.num == n) (numbers gs))
  any_same bucket v [] all = and_none (v.bucket == bucket)
  any_same bucket v (g ∷ gs) all =
      ap (λ b. (v.bucket == b && v.num == g.num) || list_any (is_same v) gs) (All-head (λ g. g.bucket ≡ bucket) g gs all)
      ∙ ap (λ b. (v.bucket == bucket && v.num == g.num) || b) (any_same bucket v gs (All-tail (λ g. g.bucket ≡ bucket) g gs all))
      ∙ and_either (v.bucket == bucket) (v.num == g.num) (list_any (λ n. v.num == n) (numbers gs))

  module _ (t bucket : ℕ) (name : List ℕ) (rule : Rule) (M : State C) (plan : Plan) (numbered : AreNumbered M) (is : IsPlan t rule (nat_le M.next_version M.settings.last_version) (rows_of M bucket name) plan) where
    abbrev D : Bool
    D = due bucket name t rule M

    abbrev with_marker : Bool → State C
    with_marker b = if b then with_version (marker bucket M.next_version name t) M else M

    abbrev without : State C → (VersionOf C → Bool) → State C
    without S stays = record S { versions = filter stays S.versions }

    hide_is : plan.hide ≡ D
    hide_is = is.hide ∙ ap (λ l. is_due t rule l && nat_le M.next_version M.settings.last_version) (files_are t bucket name M)

    drops_are : numbers (drops t rule (of_name (with_marker D) bucket name)) ≡ plan.drops
    drops_are =
        ap (λ l. numbers (drops t rule l)) (due_rows t bucket name M numbered D)
        ∙ ap (λ l. numbers (drops t rule (if D then marker bucket M.next_version name t ∷ l else l))) (sym (files_are t bucket name M))
        ∙ ap (λ b. numbers (drops t rule (if b then marker bucket M.next_version name t ∷ files (rows_of M bucket name) else files (rows_of M bucket name)))) (sym hide_is)
        ∙ sym (is.drops (marker bucket M.next_version name t) (record { hides = refl; new = refl }))

    gone_is : (num : ℕ) → list_any (λ n. num == n) (numbers (gone bucket name t rule M)) ≡ is_gone plan num
    gone_is num =
        ap (list_any (λ n. num == n)) (numbers-append (cancels M t bucket rule name) (drops t rule (of_name (with_marker D) bucket name)) ∙ ap (λ l. numbers (cancels M t bucket rule name) ++ l) drops_are)
        ∙ any-append (λ n. num == n) (numbers (cancels M t bucket rule name)) plan.drops
        ∙ ap (λ b. b || list_any (λ n. num == n) plan.drops) (same_cancels t bucket name M rule num ∙ ap (list_any (λ n. num == n)) (sym is.cancels))
        ∙ sym (any-append (λ n. num == n) plan.cancels plan.drops)

    in_bucket : All (λ g. g.bucket ≡ bucket) (gone bucket name t rule M)
    in_bucket = All-weaker (Here bucket name (N bucket name t rule M)) (λ g. g.bucket ≡ bucket) (λ g here. eqb-true g.bucket bucket (and_parts (g.bucket == bucket) (bytes_eq g.name name) here.1).0) (gone bucket name t rule M) (gone_here bucket name t rule M)

    same_stay : (v : VersionOf C) → not (list_any (is_same v) (gone bucket name t rule M)) ≡ not (v.bucket == bucket && is_gone plan v.num)
    same_stay v = ap not (any_same bucket v (gone bucket name t rule M) in_bucket ∙ ap (λ b. v.bucket == bucket && b) (gone_is v.num))

    pub carried_out : pass_on t bucket name (Some rule) M ≡ after_plan t bucket name plan M
    carried_out =
        ap (λ vs. record (with_marker D) { versions = vs }) (filter_agree (λ v. not (list_any (is_same v) (gone bucket name t rule M))) (λ v. not (v.bucket == bucket && is_gone plan v.num)) same_stay (with_marker D).versions)
        ∙ ap (λ b. without (with_marker b) (λ v. not (v.bucket == bucket && is_gone plan v.num))) (sym hide_is)
