-- A pass on one name leaves the others.
use Rattle.std.proofs.Common.{◌≡◌, ◌⊎◌, inl, inr, ℕ, ◌+◌, ◌<◌, max, Bool, true, false, not, cond, ◌&&◌, ◌||◌, ◌==◌, nat_lt, nat_le, List, [], ◌∷◌, ◌++◌, Option, Some, None, All, Contains, bytes_eq, if◌then◌else◌, refl, sym, ap, ◌∙◌, arith}
use Rattle.std.specs.Prelude.{filter, fold}
use Rattle.std.specs.List.{list_any}
use Rattle.std.proofs.lemmas.Bool.Decides.{nat_tests}
use Rattle.std.proofs.lemmas.Slice.Eq.{bytes_eq-Decides}
use Rattle.std.proofs.lemmas.Bool.{and_parts, and_from, not-true, false≢true, eqb-true}
use Rattle.std.proofs.lemmas.List.Elements.{All-nil, All-cons, All-head, All-tail, All-append, All-weaker, All-filter, filter_passes, All-contains, All-contains_itself}
use Rattle.b2_types.specs.declared.bucket.Rule.{Rule}
use Rattle.b2_types.specs.declared.version.VersionOf.{VersionOf}
use Rattle.b2_model.specs.Kinds.{is_hide, is_start}
use Rattle.b2_model.specs.Lists.{put_by}
use Rattle.b2_model.specs.State.{State}
use Rattle.b2_model.specs.Rows.{is_before, put_row, rows}
use Rattle.b2_model.specs.Version.{marker, with_version}
use Rattle.b2_model.specs.Pass.{has_aged, is_due, goes_under, lower_drops, all_go, drops, is_same, without_versions, of_name, cancels, pass_on}
use Rattle.lifecycle_pass.specs.Names.{is_of, others, AreNumbered}

-- ---- lists

module _ {X : Type 0} where
  pub both : (P Q : X → Type 0) (xs : List X) → All P xs → All Q xs → All (λ x. P x × Q x) xs
  both P Q xs first second k d within = (first k d within, second k d within)

  -- what is put among the others, and does not pass
  put_unseen : (p : X → Bool) (num : X → ℕ) (x : X) → p x ≡ false → (xs : List X) → filter p (put_by num x xs) ≡ filter p xs
  put_unseen p num x unseen [] = ap (λ b. cond b (x ∷ []) []) unseen
  put_unseen p num x unseen (y ∷ ys) = by_case (nat_lt (num x) (num y)) (put_unseen p num x unseen ys)
    where
      by_case : (b : Bool) → filter p (put_by num x ys) ≡ filter p ys → filter p (if b then x ∷ y ∷ ys else y ∷ put_by num x ys) ≡ filter p (y ∷ ys)
      by_case true rest = ap (λ b. cond b (x ∷ filter p (y ∷ ys)) (filter p (y ∷ ys))) unseen
      by_case false rest = ap (λ l. cond (p y) (y ∷ l) l) rest

  put_all : (P : X → Type 0) (num : X → ℕ) (x : X) (xs : List X) → P x → All P xs → All P (put_by num x xs)
  put_all P num x [] here all = All-cons P x [] here all
  put_all P num x (y ∷ ys) here all = by_case (nat_lt (num x) (num y)) (put_all P num x ys here (All-tail P y ys all))
    where
      by_case : (b : Bool) → All P (put_by num x ys) → All P (if b then x ∷ y ∷ ys else y ∷ put_by num x ys)
      by_case true rest = All-cons P x (y ∷ ys) here all
      by_case false rest = All-cons P y (put_by num x ys) (All-head P y ys all) rest

  -- without the one that was put
  put_rest : (P : X → Type 0) (num : X → ℕ) (x : X) (xs : List X) → All P (put_by num x xs) → All P xs
  put_rest P num x [] all = All-nil P
  put_rest P num x (y ∷ ys) all = by_case (nat_lt (num x) (num y)) (put_rest P num x ys) all
    where
      by_case : (b : Bool) → (All P (put_by num x ys) → All P ys) → All P (if b then x ∷ y ∷ ys else y ∷ put_by num x ys) → All P (y ∷ ys)
      by_case true rest all = All-tail P x (y ∷ ys) all
      by_case false rest all = All-cons P y ys (All-head P y (put_by num x ys) all) (rest (All-tail P y (put_by num x ys) all))

  -- what passes the second test passes the first
  pub filter_within : (p q : X → Bool) (xs : List X) → All (λ x. p x ≡ true → q x ≡ true) xs → filter p (filter q xs) ≡ filter p xs
  filter_within p q [] all = refl
  filter_within p q (x ∷ xs) all = by_case (q x) (p x) refl refl (All-head (λ x. p x ≡ true → q x ≡ true) x xs all) (filter_within p q xs (All-tail (λ x. p x ≡ true → q x ≡ true) x xs all))
    where
      by_case : (b a : Bool) → q x ≡ b → p x ≡ a → (p x ≡ true → q x ≡ true) → filter p (filter q xs) ≡ filter p xs → filter p (cond b (x ∷ filter q xs) (filter q xs)) ≡ cond (p x) (x ∷ filter p xs) (filter p xs)
      by_case true a is passes within rest = ap (λ l. cond (p x) (x ∷ l) l) rest
      by_case false true is passes within rest = absurd (false≢true (sym is ∙ within passes))
      by_case false false is passes within rest = rest ∙ ap (λ b. cond b (x ∷ filter p xs) (filter p xs)) (sym passes)

  pub none_any : (p : X → Bool) (xs : List X) → All (λ x. p x ≡ false) xs → list_any p xs ≡ false
  none_any p [] all = refl
  none_any p (x ∷ xs) all = ap (λ b. b || list_any p xs) (All-head (λ x. p x ≡ false) x xs all) ∙ none_any p xs (All-tail (λ x. p x ≡ false) x xs all)

-- ---- what a pass takes

module _ {C : Type 0} where
  pub row_all : (P : (VersionOf C) → Type 0) (v : (VersionOf C)) (vs : List (VersionOf C)) → P v → All P vs → All P (put_row v vs)
  row_all P v [] here all = All-cons P v [] here all
  row_all P v (w ∷ ws) here all = by_case (is_before v w) (row_all P v ws here (All-tail P w ws all))
    where
      by_case : (b : Bool) → All P (put_row v ws) → All P (if b then v ∷ w ∷ ws else w ∷ put_row v ws)
      by_case true rest = All-cons P v (w ∷ ws) here all
      by_case false rest = All-cons P w (put_row v ws) (All-head P w ws all) rest

  pub order_all : (P : (VersionOf C) → Type 0) (vs done : List (VersionOf C)) → All P vs → All P done → All P (fold (λ ws v. put_row v ws) done vs)
  order_all P [] done all so_far = so_far
  order_all P (v ∷ vs) done all so_far = order_all P vs (put_row v done) (All-tail P v vs all) (row_all P v done (All-head P v vs all) so_far)

  pub rows_all : (P : (VersionOf C) → Type 0) (M : State C) (bucket : ℕ) → All P M.versions → All P (rows M bucket)
  rows_all P M bucket all = order_all P (filter (λ v. v.bucket == bucket) M.versions) [] (All-filter (λ v. v.bucket == bucket) P M.versions all) (All-nil P)

  pub rows_of : (M : State C) (bucket : ℕ) → All (λ v. (v.bucket == bucket) ≡ true) (rows M bucket)
  rows_of M bucket = order_all (λ v. (v.bucket == bucket) ≡ true) (filter (λ v. v.bucket == bucket) M.versions) [] (filter_passes (λ v. v.bucket == bucket) M.versions) (All-nil (λ v. (v.bucket == bucket) ≡ true))

  pub lower_all : (P : (VersionOf C) → Type 0) (t : ℕ) (rule : Rule) (above : (VersionOf C)) (vs : List (VersionOf C)) → All P vs → All P (lower_drops t rule above vs)
  lower_all P t rule above [] all = all
  lower_all P t rule above (v ∷ vs) all = by_case (goes_under t rule above v) (lower_all P t rule v vs (All-tail P v vs all))
    where
      by_case : (b : Bool) → All P (lower_drops t rule v vs) → All P (if b then v ∷ lower_drops t rule v vs else lower_drops t rule v vs)
      by_case true rest = All-cons P v (lower_drops t rule v vs) (All-head P v vs all) rest
      by_case false rest = rest

  pub drops_all : (P : (VersionOf C) → Type 0) (t : ℕ) (rule : Rule) (vs : List (VersionOf C)) → All P vs → All P (drops t rule vs)
  drops_all P t rule [] all = all
  drops_all P t rule (v ∷ vs) all = by_case (is_hide v.action && all_go t rule v vs && has_aged t v.stamp rule.delete_days) (lower_all P t rule v vs (All-tail P v vs all))
    where
      by_case : (b : Bool) → All P (lower_drops t rule v vs) → All P (if b then v ∷ lower_drops t rule v vs else lower_drops t rule v vs)
      by_case true rest = All-cons P v (lower_drops t rule v vs) (All-head P v vs all) rest
      by_case false rest = rest

  module _ (bucket : ℕ) (name : List ℕ) where
    -- a version of this name that stands
    abbrev pub Here : State C → (VersionOf C) → Type 0
    Here N v = Contains N.versions v × (is_of bucket name v ≡ true)

    pub named_here : (N : State C) → All (Here N) (of_name N bucket name)
    named_here N =
        let p : (VersionOf C) → Bool = λ v. bytes_eq v.name name && not (is_start v.action) in
        let stand = All-filter p (Contains N.versions) (rows N bucket) (rows_all (Contains N.versions) N bucket (All-contains_itself N.versions)) in
        let of_bucket = All-filter p (λ v. (v.bucket == bucket) ≡ true) (rows N bucket) (rows_of N bucket) in
        let of_it = both (λ v. (v.bucket == bucket) ≡ true) (λ v. p v ≡ true) (of_name N bucket name) of_bucket (filter_passes p (rows N bucket)) in
        let is_it = All-weaker (λ v. ((v.bucket == bucket) ≡ true) × (p v ≡ true)) (λ v. is_of bucket name v ≡ true) (λ v both. and_from (v.bucket == bucket) (bytes_eq v.name name) both.0 (and_parts (bytes_eq v.name name) (not (is_start v.action)) both.1).0) (of_name N bucket name) of_it in
        both (Contains N.versions) (λ v. is_of bucket name v ≡ true) (of_name N bucket name) stand is_it

    pub cancelled_here : (t : ℕ) (rule : Rule) (M : State C) → All (Here M) (cancels M t bucket rule name)
    cancelled_here t rule M =
        let p : (VersionOf C) → Bool = λ v. v.bucket == bucket && bytes_eq v.name name && is_start v.action && has_aged t v.stamp rule.cancel_days in
        let stand = All-filter p (Contains M.versions) M.versions (All-contains_itself M.versions) in
        let is_it = All-weaker (λ v. p v ≡ true) (λ v. is_of bucket name v ≡ true) (λ v passes. (and_parts (is_of bucket name v) (is_start v.action) (and_parts (is_of bucket name v && is_start v.action) (has_aged t v.stamp rule.cancel_days) passes).0).0) (cancels M t bucket rule name) (filter_passes p M.versions) in
        both (Contains M.versions) (λ v. is_of bucket name v ≡ true) (cancels M t bucket rule name) stand is_it

    -- what is taken is of the name, so the versions of others are none of it
    apart_from : (N : State C) (gone : List (VersionOf C)) → AreNumbered N → All (Here N) gone → (v : (VersionOf C)) → Contains N.versions v → not (is_of bucket name v) ≡ true → not (list_any (is_same v) gone) ≡ true
    apart_from N gone numbered all v stands other =
        ap not (none_any (is_same v) gone (All-weaker (Here N) (λ g. is_same v g ≡ false) each gone all))
      where
        each : (g : (VersionOf C)) → Here N g → is_same v g ≡ false
        each g here = by_case (is_same v g) refl
          where
            by_case : (b : Bool) → is_same v g ≡ b → b ≡ false
            by_case false is = refl
            by_case true is =
                let bucket_is : v.bucket ≡ g.bucket = eqb-true v.bucket g.bucket (and_parts (v.bucket == g.bucket) (v.num == g.num) is).0 in
                let name_is = numbered.names v g stands here.0 is in
                let of_it : is_of bucket name v ≡ true = ap (λ b. b == bucket && bytes_eq v.name name) bucket_is ∙ ap (λ n. g.bucket == bucket && bytes_eq n name) name_is ∙ here.1 in
                absurd (false≢true (sym (not-true (is_of bucket name v) other) ∙ of_it))

    -- ---- the new marker

    module _ (t : ℕ) where
      -- the marker, or one that stood before
      abbrev IsOld : State C → (VersionOf C) → Type 0
      IsOld M v = (v ≡ marker bucket M.next_version name t) ⊎ Contains M.versions v

      olds : (M : State C) → All (IsOld M) (put_by (λ w. w.num) (marker bucket M.next_version name t) M.versions)
      olds M = put_all (IsOld M) (λ w. w.num) (marker bucket M.next_version name t) M.versions (inl refl) (All-weaker (Contains M.versions) (IsOld M) (λ v stands. inr stands) M.versions (All-contains_itself M.versions))

      marked_numbered : (M : State C) → AreNumbered M → AreNumbered (with_version (marker bucket M.next_version name t) M)
      marked_numbered M numbered = record {
        names = λ v w here there same. names v w (old v here) (old w there) same;
        free = λ v here. free v (old v here);
      }
        where
          old : (v : (VersionOf C)) → Contains (put_by (λ w. w.num) (marker bucket M.next_version name t) M.versions) v → IsOld M v
          old v here = All-contains (IsOld M) (put_by (λ w. w.num) (marker bucket M.next_version name t) M.versions) v (olds M) here

          number_of : (v : (VersionOf C)) → v ≡ marker bucket M.next_version name t → v.num ≡ M.next_version
          number_of v is = ap (λ (x : (VersionOf C)). x.num) is

          same_number : (v w : (VersionOf C)) → is_same v w ≡ true → v.num ≡ w.num
          same_number v w same = eqb-true v.num w.num (and_parts (v.bucket == w.bucket) (v.num == w.num) same).1

          names : (v w : (VersionOf C)) → IsOld M v → IsOld M w → is_same v w ≡ true → v.name ≡ w.name
          names v w (inl a) (inl b) same = ap (λ (x : (VersionOf C)). x.name) a ∙ sym (ap (λ (x : (VersionOf C)). x.name) b)
          names v w (inl a) (inr b) same = absurd (omega (arith, number_of v a, same_number v w same, numbered.free w b))
          names v w (inr a) (inl b) same = absurd (omega (arith, number_of w b, same_number v w same, numbered.free v a))
          names v w (inr a) (inr b) same = numbered.names v w a b same

          free : (v : (VersionOf C)) → IsOld M v → v.num < max M.next_version (M.next_version + 1)
          free v (inl a) = omega (arith, number_of v a)
          free v (inr b) = omega (arith, numbered.free v b)

      is_marked : (M : State C) → not (is_of bucket name (marker {C = C} bucket M.next_version name t)) ≡ false
      is_marked M =
          let bucket_is : (bucket == bucket) ≡ true = grind (arith, nat_tests) in
          ap not (and_from (bucket == bucket) (bytes_eq name name) bucket_is ((bytes_eq-Decides name name).1 refl))

      due_numbered : (b : Bool) (M : State C) → AreNumbered M → AreNumbered (if b then with_version (marker bucket M.next_version name t) M else M)
      due_numbered true M numbered = marked_numbered M numbered
      due_numbered false M numbered = numbered

      due_others : (b : Bool) (M : State C) → others bucket name (if b then with_version (marker bucket M.next_version name t) M else M).versions ≡ others bucket name M.versions
      due_others true M = put_unseen (λ v. not (is_of bucket name v)) (λ w. w.num) (marker bucket M.next_version name t) (is_marked M) M.versions
      due_others false M = refl

      due_here : (b : Bool) (M : State C) (v : (VersionOf C)) → Contains M.versions v → Contains (if b then with_version (marker bucket M.next_version name t) M else M).versions v
      due_here true M v stands =
          let all = put_by (λ w. w.num) (marker bucket M.next_version name t) M.versions in
          All-contains (Contains all) M.versions v (put_rest (Contains all) (λ w. w.num) (marker bucket M.next_version name t) M.versions (All-contains_itself all)) stands
      due_here false M v stands = stands

      fewer_numbered : (q : (VersionOf C) → Bool) (N : State C) → AreNumbered N → AreNumbered (record N { versions = filter q N.versions })
      fewer_numbered q N numbered =
          let stood = All-filter q (Contains N.versions) N.versions (All-contains_itself N.versions) in
          record {
            names = λ v w here there same. numbered.names v w (All-contains (Contains N.versions) (filter q N.versions) v stood here) (All-contains (Contains N.versions) (filter q N.versions) w stood there) same;
            free = λ v here. numbered.free v (All-contains (Contains N.versions) (filter q N.versions) v stood here);
          }

      -- the state with the marker, where it is due, and what goes of it
      module _ (rule : Rule) (M : State C) where
        abbrev pub due : Bool
        due = is_due t rule (of_name M bucket name) && nat_le M.next_version M.settings.last_version

        abbrev pub N : State C
        N = if due then with_version (marker bucket M.next_version name t) M else M

        abbrev pub gone : List (VersionOf C)
        gone = cancels M t bucket rule name ++ drops t rule (of_name N bucket name)

        pub gone_here : All (Here N) gone
        gone_here =
            All-append (Here N) (cancels M t bucket rule name) (drops t rule (of_name N bucket name))
            (All-weaker (Here M) (Here N) (λ v here. (due_here due M v here.0, here.1)) (cancels M t bucket rule name) (cancelled_here t rule M))
            (drops_all (Here N) t rule (of_name N bucket name) (named_here N))

        stay : AreNumbered M → others bucket name (without_versions gone N.versions) ≡ others bucket name M.versions
        stay numbered =
            let is_numbered = due_numbered due M numbered in
            let p : (VersionOf C) → Bool = λ v. not (is_of bucket name v) in
            let q : (VersionOf C) → Bool = λ v. not (list_any (is_same v) gone) in
            filter_within p q N.versions (All-weaker (Contains N.versions) (λ v. p v ≡ true → q v ≡ true) (λ v stands other. apart_from N gone is_numbered gone_here v stands other) N.versions (All-contains_itself N.versions))
            ∙ due_others due M

  pub others_stay : (t bucket : ℕ) (name : List ℕ) (rule : Option Rule) (M : State C) → AreNumbered M → others bucket name (pass_on t bucket name rule M).versions ≡ others bucket name M.versions
  others_stay t bucket name None M numbered = refl
  others_stay t bucket name (Some rule) M numbered = stay bucket name t rule M numbered

  pub numbers_stay : (t bucket : ℕ) (name : List ℕ) (rule : Option Rule) (M : State C) → AreNumbered M → AreNumbered (pass_on t bucket name rule M)
  numbers_stay t bucket name None M numbered = numbered
  numbers_stay t bucket name (Some rule) M numbered =
      fewer_numbered bucket name t (λ v. not (list_any (is_same v) (gone bucket name t rule M))) (N bucket name t rule M) (due_numbered bucket name t (due bucket name t rule M) M numbered)
