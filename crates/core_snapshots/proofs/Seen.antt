-- What a walk over versions in listing order finds are the names that are visible.
use Rattle.std.proofs.Common.{◌≡◌, ◌≢◌, ℕ, ◌+◌, ◌≤◌, ◌⊎◌, ◌==◌, ◌&&◌, Bool, true, false, not, List, [], ◌∷◌, ◌++◌, Option, Some, None, add-zero, add_assoc, append_assoc, length, filter, find, map, if◌then◌else◌, subst, sym, ap, ◌∙◌, inl, inr, ⊎_elim, refl, arith, zero-add, Less, Equal, Greater}
use Rattle.std.specs.Prelude.{bytes_eq}
use Rattle.std.specs.declared.cmp.Ordering.{Ordering}
use Rattle.std.specs.Ordering.{is_eq, is_le, nat_cmp, ordering_reverse, ordering_then}
use Rattle.std.specs.Cmp.{tied_itself}
use Rattle.std.specs.Cmp.Lexicographic.{slice_cmp}
use Rattle.std.specs.List.{AllByRecursion, AllPairs, Contains, list_any}
use Rattle.std.specs.Map.{keys_of}
use Rattle.std.proofs.lemmas.Bool.{and_from, and_parts, cases_Bool, eq-eqb, eqb-true, false≢true, ne_eqb}
use Rattle.std.proofs.lemmas.List.Elements.{All-from_recursion, Contains-append_left}
use Rattle.std.proofs.lemmas.List.Kept.{AllPairs-cons}
use Rattle.std.proofs.lemmas.List.Sorted.{sum_by-IsPermutation}
use Rattle.std.proofs.lemmas.List.Sums.{count_by-le-length, length-filter}
use Rattle.std.proofs.lemmas.Map.Keys.{sorted_head, sorted_tail}
use Rattle.std.proofs.lemmas.Slice.Eq.{bytes_eq-Decides}
use Rattle.b2_types.specs.declared.kinds.Action.{Action}
use Rattle.b2_types.specs.declared.kinds.Action.TheVariants as action
use Rattle.b2_types.specs.declared.version.VersionOf.{VersionOf}
use Rattle.b2_model.specs.Checks.{some_and}
use Rattle.b2_model.specs.Current.{current_in}
use Rattle.b2_model.specs.Kinds.{is_start, is_upload}
use Rattle.b2_model.specs.State.{State}
use Rattle.sound_states.specs.Sound.{IsSound}
use Rattle.version_index.specs.declared.spot.Spot.{Spot}
use Rattle.version_index.specs.Order.{listing_total}
use Rattle.version_index.specs.Rows.{AreAscending, listing_cmp}
use Rattle.version_index.proofs.Members.{one_spot}
use Rattle.index_rows.specs.OwnRows.{AreOwn, of_bucket, spot_of}
use Rattle.index_rows.proofs.Members.{first_or_rest, here, later, none_in_empty, pairs_head, pairs_tail}
use Rattle.core_snapshots.specs.Newest.{is_newest, is_of_name, newest_after, shown, shows}
use Rattle.core_snapshots.specs.Rows.{AreAllRows}
use Rattle.core_snapshots.specs.Visible.{visible_names}
use Rattle.core_snapshots.proofs.ByNumber.{all_held}
use Rattle.core_snapshots.proofs.InBuckets.{is_visible, visible_are}
use Rattle.core_snapshots.proofs.Sorted.{apart_pairs}

-- ---- lists

module _ {X : Type 0} where
  any_there : (p : X → Bool) (xs : List X) (x : X) → Contains xs x → p x ≡ true → list_any p xs ≡ true
  any_there p [] x a is = absurd (none_in_empty x a)
  any_there p (y ∷ ys) x a is = ⊎_elim
      (λ (passes : p y ≡ true). rw passes refl)
      (λ (fails : p y ≡ false). rw fails (elim ((first_or_rest y ys x).0 a) [
        | inl same ↦ absurd (false≢true (sym fails ∙ ap p same ∙ is))
        | inr b ↦ any_there p ys x b is
      ]))
      (cases_Bool (p y))

  any_none : (p : X → Bool) (xs : List X) → ((x : X) → Contains xs x → p x ≡ false) → list_any p xs ≡ false
  any_none p [] none = refl
  any_none p (y ∷ ys) none = rw (none y (here y ys)) (any_none p ys (λ x a. none x (later y ys x a)))

  -- where one in front passes, one in front is found
  found_front : (p : X → Bool) (front rest : List X) → list_any p front ≡ true → (x : X) × Contains front x × (find p (front ++ rest) ≡ Some x)
  found_front p [] rest is = absurd (false≢true is)
  found_front p (y ∷ ys) rest is = ⊎_elim
      (λ (passes : p y ≡ true). (y, here y ys, rw passes refl))
      (λ (fails : p y ≡ false). let found = found_front p ys rest (rw fails at is) in (found.0, later y ys found.0 found.1, rw fails found.2))
      (cases_Bool (p y))

  -- where none does, it is found in the rest
  found_rest : (p : X → Bool) (front rest : List X) → list_any p front ≡ false → find p (front ++ rest) ≡ find p rest
  found_rest p [] rest none = refl
  found_rest p (y ∷ ys) rest none = ⊎_elim
      (λ (passes : p y ≡ true). absurd (false≢true (sym none ∙ rw passes refl)))
      (λ (fails : p y ≡ false). rw fails (found_rest p ys rest (rw fails at none)))
      (cases_Bool (p y))

  found_kept : (p q : X → Bool) (xs : List X) → find p (filter q xs) ≡ find (λ x. q x && p x) xs
  found_kept p q [] = refl
  found_kept p q (x ∷ xs) = ⊎_elim
      (λ (passes : q x ≡ true). rw passes (⊎_elim
      (λ (is : p x ≡ true). rw is refl)
      (λ (no : p x ≡ false). rw no (found_kept p q xs))
      (cases_Bool (p x))))
      (λ (fails : q x ≡ false). rw fails (found_kept p q xs))
      (cases_Bool (q x))

  in_middle : (front : List X) (x : X) (rest : List X) → Contains (front ++ x ∷ rest) x
  in_middle [] x rest = here x rest
  in_middle (y ∷ ys) x rest = later y (ys ++ x ∷ rest) x (in_middle ys x rest)

  -- each in front is so related to what follows
  in_front : (R : X → X → Type 0) (front : List X) (x : X) (rest : List X) (w : X) → AllPairs R (front ++ x ∷ rest) → Contains front w → R w x
  in_front R [] x rest w pairs a = absurd (none_in_empty w a)
  in_front R (y ∷ ys) x rest w pairs a = elim ((first_or_rest y ys w).0 a) [
    | inl same ↦ subst (λ z. R z x) same (pairs_head R y (ys ++ x ∷ rest) pairs x (in_middle ys x rest))
    | inr b ↦ in_front R ys x rest w (pairs_tail R y (ys ++ x ∷ rest) pairs) b
  ]

  last_or_before : (xs : List X) (x w : X) → Contains (xs ++ x ∷ []) w → (x ≡ w) ⊎ Contains xs w
  last_or_before [] x w a = (first_or_rest x [] w).0 a
  last_or_before (y ∷ ys) x w a = elim ((first_or_rest y (ys ++ x ∷ []) w).0 a) [
    | inl same ↦ inr ((first_or_rest y ys w).1 (inl same))
    | inr b ↦ elim (last_or_before ys x w b) [ inl same ↦ inl same | inr d ↦ inr (later y ys w d) ]
  ]

not_so : (b : Bool) → not b ≡ true → b ≡ false
not_so true is = absurd (false≢true is)
not_so false is = refl

is_so : (b : Bool) → not b ≡ false → b ≡ true
is_so true is = refl
is_so false is = absurd (false≢true (sym is))

-- ---- the order of names

abbrev at_name : {C : Type 0} → VersionOf C → Spot
at_name v = record { bucket = v.bucket; name = v.name; num = 0 }

-- the name of the second is no earlier
abbrev UpTo : {C : Type 0} → VersionOf C → VersionOf C → Type 0
UpTo v w = is_le (listing_cmp (at_name v) (at_name w)) ≡ true

up_to : (a b c : Ordering) → ordering_then a (ordering_then b c) ≡ Less → is_le (ordering_then a (ordering_then b Equal)) ≡ true
up_to Less b c is = refl
up_to Equal Less c is = refl
up_to Equal Equal c is = refl
up_to Equal Greater c is = absurd (cc is)
up_to Greater b c is = absurd (cc is)

both_ways : (s t : Spot) (o : Ordering) → listing_cmp s t ≡ o → is_le (listing_cmp s t) ≡ true → is_le (listing_cmp t s) ≡ true → s ≡ t
both_ways s t Less is low high = absurd (false≢true (sym (ap is_le (listing_total.antisymm t s ∙ ap ordering_reverse is)) ∙ high))
both_ways s t Equal is low high = one_spot s t (ap is_eq is)
both_ways s t Greater is low high = absurd (false≢true (sym (ap is_le is) ∙ low))

module _ {C : Type 0} where
  same_place : (v w : VersionOf C) → UpTo v w → UpTo w v → at_name v ≡ at_name w
  same_place v w low high = both_ways (at_name v) (at_name w) (listing_cmp (at_name v) (at_name w)) refl low high

  at_itself : (v w : VersionOf C) → at_name v ≡ at_name w → UpTo v w
  at_itself v w same = ap is_le (ap (listing_cmp (at_name v)) (sym same) ∙ tied_itself listing_total (at_name v))

  of_name : (v w : VersionOf C) → at_name v ≡ at_name w → is_of_name v w ≡ true
  of_name v w same = and_from (v.bucket == w.bucket) (bytes_eq v.name w.name) (eq-eqb v.bucket w.bucket (ap (λ s. s.bucket) same)) ((bytes_eq-Decides v.name w.name).1 (ap (λ s. s.name) same))

  one_place : (v w : VersionOf C) → v.bucket ≡ w.bucket → v.name ≡ w.name → at_name v ≡ at_name w
  one_place v w bucket name = ap (λ b. let s : Spot = record { bucket = b; name = v.name; num = 0 } in s) bucket ∙ ap (λ n. let s : Spot = record { bucket = w.bucket; name = n; num = 0 } in s) name

  from_name : (v w : VersionOf C) → is_of_name v w ≡ true → at_name v ≡ at_name w
  from_name v w is = let parts = and_parts (v.bucket == w.bucket) (bytes_eq v.name w.name) is in one_place v w (eqb-true v.bucket w.bucket parts.0) ((bytes_eq-Decides v.name w.name).0 parts.1)

  all_up : (r : Spot × VersionOf C) (rs : List (Spot × VersionOf C)) → r.0 ≡ spot_of r.1 → AreOwn rs → AllByRecursion (λ t. listing_cmp r.0 t ≡ Less) (keys_of rs) → AllByRecursion (UpTo r.1) (map (λ q. q.1) rs)
  all_up r [] is own low = tt
  all_up r (q ∷ qs) is own low =
      let spots : listing_cmp (spot_of r.1) (spot_of q.1) ≡ Less = ap (λ s. listing_cmp s (spot_of q.1)) (sym is) ∙ ap (listing_cmp r.0) (sym (own q (here q qs))) ∙ low.0 in (
        up_to (nat_cmp r.1.bucket q.1.bucket) (slice_cmp nat_cmp r.1.name q.1.name) (nat_cmp q.1.num r.1.num) spots,
        all_up r qs is (λ p a. own p (later q qs p a)) low.1,
      )

  -- in listing order no name is earlier than one before it
  names_up : (rows : List (Spot × VersionOf C)) → AreAscending rows → AreOwn rows → AllPairs UpTo (map (λ r. r.1) rows)
  names_up [] up own = λ i j d lt within. absurd (omega arith)
  names_up (r ∷ rs) up own =
      AllPairs-cons UpTo r.1 (map (λ q. q.1) rs)
      (All-from_recursion (UpTo r.1) (map (λ q. q.1) rs) (all_up r rs (own r (here r rs)) (λ q a. own q (later r rs q a)) (sorted_head listing_cmp r.0 (keys_of rs) up)))
      (names_up rs (sorted_tail listing_cmp r.0 (keys_of rs) up) (λ q a. own q (later r rs q a)))

  -- ---- what a walk found

  -- the last that was the first of its name but for starts, among those that were passed
  abbrev IsLast : Option (VersionOf C) → List (VersionOf C) → Type 0
  IsLast None before = (q : VersionOf C) → Contains before q → is_start q.action ≡ true
  IsLast (Some w) before = Contains before w × (is_start w.action ≡ false) × ((q : VersionOf C) → Contains before q → is_start q.action ≡ false → UpTo q w)

  found_now : (before : List (VersionOf C)) (v : VersionOf C) → ((q : VersionOf C) → Contains before q → UpTo q v) → is_start v.action ≡ false → IsLast (Some v) (before ++ v ∷ [])
  found_now before v order begun = (
    in_middle before v [],
    begun,
    λ q a other. elim (last_or_before before v q a) [ inl same ↦ at_itself q v (ap at_name (sym same)) | inr b ↦ order q b ],
  )

  last_after : (last : Option (VersionOf C)) (before : List (VersionOf C)) (v : VersionOf C) → ((q : VersionOf C) → Contains before q → UpTo q v) → IsLast last before → IsLast (newest_after last v) (before ++ v ∷ [])
  last_after None before v order is = ⊎_elim
      (λ (begun : is_start v.action ≡ true). rw begun (λ q a. elim (last_or_before before v q a) [ inl same ↦ ap (λ u. is_start u.action) (sym same) ∙ begun | inr b ↦ is q b ]))
      (λ (other : is_start v.action ≡ false). rw other (found_now before v order other))
      (cases_Bool (is_start v.action))
  last_after (Some w) before v order is = ⊎_elim
      (λ (newest : is_newest (Some w) v ≡ true). rw newest (found_now before v order (not_so (is_start v.action) (and_parts (not (is_start v.action)) (not (is_of_name w v)) newest).0)))
      (λ (not_newest : is_newest (Some w) v ≡ false). rw not_newest (
        Contains-append_left before (v ∷ []) w is.0,
        is.1,
        λ q a other. elim (last_or_before before v q a) [
          | inl same ↦ (
              let begun : is_start v.action ≡ false = ap (λ u. is_start u.action) same ∙ other in
              let named : is_of_name w v ≡ true = is_so (is_of_name w v) (ap (λ b. not b && not (is_of_name w v)) (sym begun) ∙ not_newest) in
              at_itself q w (ap at_name (sym same) ∙ sym (from_name w v named)))
          | inr b ↦ is.2 q b other
        ],
      ))
      (cases_Bool (is_newest (Some w) v))

  -- the test for the version of a name that counts
  abbrev counts_for : VersionOf C → VersionOf C → Bool
  counts_for v q = q.bucket == v.bucket && (bytes_eq q.name v.name && not (is_start q.action))

  does_count : (v q : VersionOf C) → at_name q ≡ at_name v → is_start q.action ≡ false → counts_for v q ≡ true
  does_count v q same begun =
      and_from (q.bucket == v.bucket) (bytes_eq q.name v.name && not (is_start q.action)) (eq-eqb q.bucket v.bucket (ap (λ s. s.bucket) same))
      (and_from (bytes_eq q.name v.name) (not (is_start q.action)) ((bytes_eq-Decides q.name v.name).1 (ap (λ s. s.name) same)) (ap not begun))

  counted : (v q : VersionOf C) → counts_for v q ≡ true → (at_name q ≡ at_name v) × (is_start q.action ≡ false)
  counted v q is =
      let parts = and_parts (q.bucket == v.bucket) (bytes_eq q.name v.name && not (is_start q.action)) is in
      let others = and_parts (bytes_eq q.name v.name) (not (is_start q.action)) parts.1 in (
        one_place q v (eqb-true q.bucket v.bucket parts.0) ((bytes_eq-Decides q.name v.name).0 others.0),
        not_so (is_start q.action) others.1,
      )

  none_counts : (before : List (VersionOf C)) (w v : VersionOf C) → UpTo w v → ((q : VersionOf C) → Contains before q → is_start q.action ≡ false → UpTo q w) → is_of_name w v ≡ false → (q : VersionOf C) → Contains before q → counts_for v q ≡ false
  none_counts before w v high up other q a = ⊎_elim
      (λ (is : counts_for v q ≡ true).
      let it = counted v q is in
      let low : UpTo v w = subst (λ s. is_le (listing_cmp s (at_name w)) ≡ true) it.0 (up q a it.1) in
      absurd (false≢true (sym other ∙ of_name w v (same_place w v high low))))
      (λ (no : counts_for v q ≡ false). no)
      (cases_Bool (counts_for v q))

  start_counts : (v q : VersionOf C) → is_start q.action ≡ true → counts_for v q ≡ false
  start_counts v q begun = ⊎_elim
      (λ (is : counts_for v q ≡ true). absurd (false≢true (sym (counted v q is).1 ∙ begun)))
      (λ (no : counts_for v q ≡ false). no)
      (cases_Bool (counts_for v q))

  newest_is : (last : Option (VersionOf C)) (before : List (VersionOf C)) (v : VersionOf C) → ((q : VersionOf C) → Contains before q → UpTo q v) → IsLast last before → is_start v.action ≡ false → is_newest last v ≡ not (list_any (counts_for v) before)
  newest_is None before v order is begun = ap not (begun ∙ sym (any_none (counts_for v) before (λ q a. start_counts v q (is q a))))
  newest_is (Some w) before v order is begun =
      ap (λ b. not b && not (is_of_name w v)) begun ∙ ap not (⊎_elim
      (λ (named : is_of_name w v ≡ true). named ∙ sym (any_there (counts_for v) before w is.0 (does_count v w (from_name w v named) is.1)))
      (λ (other : is_of_name w v ≡ false). other ∙ sym (any_none (counts_for v) before (none_counts before w v (order w is.0) is.2 other)))
      (cases_Bool (is_of_name w v)))

  abbrev IsOther : VersionOf C → VersionOf C → Type 0
  IsOther v w = v.num ≢ w.num

  current_is : (before : List (VersionOf C)) (v : VersionOf C) (rest : List (VersionOf C)) → AllPairs IsOther (before ++ v ∷ rest) → is_start v.action ≡ false
      → some_and (λ w. w.num == v.num) (find (counts_for v) (before ++ v ∷ rest)) ≡ not (list_any (counts_for v) before)
  current_is before v rest apart begun = ⊎_elim
      (λ (is : list_any (counts_for v) before ≡ true).
      let found = found_front (counts_for v) before (v ∷ rest) is in
      ap (some_and (λ w. w.num == v.num)) found.2 ∙ ne_eqb found.0.num v.num (in_front IsOther before v rest found.0 apart found.1) ∙ sym (ap not is))
      (λ (no : list_any (counts_for v) before ≡ false).
      let first : find (counts_for v) (v ∷ rest) ≡ Some v = rw (does_count v v refl begun) refl in
      ap (some_and (λ w. w.num == v.num)) (found_rest (counts_for v) before (v ∷ rest) no ∙ first) ∙ eq-eqb v.num v.num refl ∙ sym (ap not no))
      (cases_Bool (list_any (counts_for v) before))

  -- ---- what the machine says

  of_one : (rows : List (Spot × VersionOf C)) (bucket : ℕ) → AreOwn rows → of_bucket bucket rows ≡ filter (λ v. v.bucket == bucket) (map (λ r. r.1) rows)
  of_one [] bucket own = refl
  of_one (r ∷ rs) bucket own =
      let rest = of_one rs bucket (λ q a. own q (later r rs q a)) in
      let same : (r.0.bucket == bucket) ≡ (r.1.bucket == bucket) = ap (λ s. s.bucket == bucket) (own r (here r rs)) in
      ⊎_elim
      (λ (is : (r.1.bucket == bucket) ≡ true). rw (is, same ∙ is) (ap (λ l. r.1 ∷ l) rest))
      (λ (no : (r.1.bucket == bucket) ≡ false). rw (no, same ∙ no) rest)
      (cases_Bool (r.1.bucket == bucket))

  visible_is : (M : State C) (all : List (Spot × VersionOf C)) (v : VersionOf C) → AreAllRows M all → is_visible M v ≡ (is_upload v.action && some_and (λ w. w.num == v.num) (find (counts_for v) (map (λ r. r.1) all)))
  visible_is M all v are =
      ap (λ l. is_upload v.action && some_and (λ w. w.num == v.num) (current_in l v.name)) (sym (are.listed v.bucket) ∙ of_one all v.bucket are.own)
      ∙ ap (λ o. is_upload v.action && some_and (λ w. w.num == v.num) o) (found_kept (λ q. bytes_eq q.name v.name && not (is_start q.action)) (λ q. q.bucket == v.bucket) (map (λ r. r.1) all))

not_begun : (a : Action) → is_upload a ≡ true → is_start a ≡ false
not_begun action.Upload is = refl
not_begun action.Hide is = refl
not_begun action.Start is = absurd (false≢true is)

module _ {C : Type 0} (M : State C) (sound : IsSound M) (all : List (Spot × VersionOf C)) (are : AreAllRows M all) where
  abbrev xs : List (VersionOf C)
  xs = map (λ r. r.1) all

  apart : AllPairs IsOther xs
  apart = apart_pairs xs M.versions (all_held M all are) are.numbered

  shows_is : (last : Option (VersionOf C)) (before : List (VersionOf C)) (v : VersionOf C) (rest : List (VersionOf C)) → before ++ v ∷ rest ≡ xs → IsLast last before → shows last v ≡ is_visible M v
  shows_is last before v rest whole is = ⊎_elim
      (λ (file : is_upload v.action ≡ true).
      let begun = not_begun v.action file in
      let order = λ (q : VersionOf C) (a : Contains before q). in_front UpTo before v rest q (subst (AllPairs UpTo) (sym whole) (names_up all are.order are.own)) a in
      ap (λ b. is_upload v.action && b) (newest_is last before v order is begun ∙ sym (current_is before v rest (subst (AllPairs IsOther) (sym whole) apart) begun) ∙ ap (λ l. some_and (λ w. w.num == v.num) (find (counts_for v) l)) whole)
      ∙ sym (visible_is M all v are))
      (λ (other : is_upload v.action ≡ false). ap (λ b. b && is_newest last v) other ∙ ap (λ b. b && some_and (λ w. w.num == v.num) (find (counts_for v) xs)) (sym other) ∙ sym (visible_is M all v are))
      (cases_Bool (is_upload v.action))

  shown_from : (last : Option (VersionOf C)) (before vs : List (VersionOf C)) → before ++ vs ≡ xs → IsLast last before → shown last vs ≡ filter (is_visible M) vs
  shown_from last before [] whole is = refl
  shown_from last before (v ∷ vs) whole is =
      let order = λ (q : VersionOf C) (a : Contains before q). in_front UpTo before v vs q (subst (AllPairs UpTo) (sym whole) (names_up all are.order are.own)) a in
      let rest = shown_from (newest_after last v) (before ++ v ∷ []) vs (append_assoc before (v ∷ []) vs ∙ whole) (last_after last before v order is) in
      ap (λ b. if b then v ∷ shown (newest_after last v) vs else shown (newest_after last v) vs) (shows_is last before v vs whole is)
      ∙ ap (λ l. if is_visible M v then v ∷ l else l) rest

  -- a walk over all of them shows the visible names
  all_shown : length (shown None xs) ≡ visible_names M
  all_shown =
      ap length (shown_from None [] xs refl (λ q a. absurd (none_in_empty q a)))
      ∙ length-filter (is_visible M) xs
      ∙ sym (sum_by-IsPermutation (λ v. if is_visible M v then 1 else 0) xs M.versions (all_held M all are))
      ∙ sym (visible_are M sound)

-- ---- the walk

module _ {C : Type 0} where
  -- so many names were shown, and the rest of the walk shows the others
  pub record IsCounted (M : State C) (names : ℕ) (last : Option (VersionOf C)) (left : List (Spot × VersionOf C)) : Type 0 where
    pub total : names + length (shown last (map (λ r. r.1) left)) ≡ visible_names M

  pub none_counted : (M : State C) → IsSound M → (left all : List (Spot × VersionOf C)) → AreAllRows M all → left ≡ all → IsCounted M 0 None left
  none_counted M sound left all are whole = record { total = zero-add (length (shown None (map (λ r. r.1) left))) ∙ ap (λ l. length (shown None (map (λ r. r.1) l))) whole ∙ all_shown M sound all are }

  abbrev one_for : Option (VersionOf C) → VersionOf C → ℕ
  one_for last v = if shows last v then 1 else 0

  some_shown : (last : Option (VersionOf C)) (v : VersionOf C) (vs : List (VersionOf C)) → length (shown last (v ∷ vs)) ≡ one_for last v + length (shown (newest_after last v) vs)
  some_shown last v vs = ⊎_elim
      (λ (is : shows last v ≡ true). rw is (omega arith))
      (λ (no : shows last v ≡ false). rw no (omega arith))
      (cases_Bool (shows last v))

  of_next : (M : State C) (names : ℕ) (last : Option (VersionOf C)) (left rest : List (Spot × VersionOf C)) (s : Spot) (v : VersionOf C) → left ≡ (s, v) ∷ rest → IsCounted M names last left → names + one_for last v + length (shown (newest_after last v) (map (λ r. r.1) rest)) ≡ visible_names M
  of_next M names last left rest s v steps so_far =
      add_assoc names (one_for last v) (length (shown (newest_after last v) (map (λ r. r.1) rest)))
      ∙ ap (λ n. names + n) (sym (some_shown last v (map (λ r. r.1) rest)))
      ∙ ap (λ l. names + length (shown last (map (λ r. r.1) l))) (sym steps)
      ∙ so_far.total

  pub next_counted : (M : State C) (names more : ℕ) (last next : Option (VersionOf C)) (left rest : List (Spot × VersionOf C)) (s : Spot) (v : VersionOf C) → left ≡ (s, v) ∷ rest → more ≡ names + one_for last v → next ≡ newest_after last v → IsCounted M names last left → IsCounted M more next rest
  next_counted M names more last next left rest s v steps is goes so_far = record {
    total = ap (λ n. n + length (shown next (map (λ r. r.1) rest))) is ∙ ap (λ o. names + one_for last v + length (shown o (map (λ r. r.1) rest))) goes ∙ of_next M names last left rest s v steps so_far;
  }

  pub few_counted : (M : State C) → IsSound M → (names : ℕ) (last : Option (VersionOf C)) (left rest : List (Spot × VersionOf C)) (s : Spot) (v : VersionOf C) → left ≡ (s, v) ∷ rest → IsCounted M names last left → names + one_for last v ≤ length M.versions
  few_counted M sound names last left rest s v steps so_far =
      let is = of_next M names last left rest s v steps so_far in
      let most = count_by-le-length (is_visible M) M.versions in
      let count = visible_are M sound in
      omega (arith, is, most, count)

  pub all_counted : (M : State C) (names : ℕ) (last : Option (VersionOf C)) (left : List (Spot × VersionOf C)) → left ≡ [] → IsCounted M names last left → names ≡ visible_names M
  all_counted M names last left none so_far = sym (add-zero names) ∙ ap (λ l. names + length (shown last (map (λ r. r.1) l))) (sym none) ∙ so_far.total
