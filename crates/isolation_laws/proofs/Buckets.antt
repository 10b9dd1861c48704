-- Buckets that two states have in common are found alike, by number and by name.
use Rattle.std.proofs.Common.{◌≡◌, ℕ, ◌==◌, Bool, true, false, not, ◌&&◌, ◌||◌, List, [], ◌∷◌, Option, Some, None, map, filter, find, bytes_eq, refl, sym, ap, ◌∙◌, arith}
use Rattle.std.specs.Option.{is_none}
use Rattle.std.specs.List.{list_any, AllByRecursion, AllPairs}
use Rattle.std.specs.Char.{to_ascii_lowercase}
use Rattle.std.specs.Cmp.Lexicographic.{bytes_decides}
use Rattle.std.proofs.lemmas.Bool.{false≢true}
use Rattle.std.proofs.lemmas.Bool.Decides.{nat_tests}
use Rattle.std.proofs.lemmas.List.Elements.{filter_passes}
use Rattle.b2_types.specs.declared.bucket.Bucket.{Bucket}
use Rattle.b2_types.specs.declared.call.ListBuckets.{ListBuckets}
use Rattle.b2_types.specs.Naming.{filtered}
use Rattle.b2_model.specs.Checks.{some_and}
use Rattle.b2_model.specs.Lists.{is_among}
use Rattle.b2_model.specs.State.{State, bucket_at}
use Rattle.b2_model.specs.Policy.{is_same_name, bucket_named, is_name_among, is_outside, items}
use Rattle.b2_model.specs.AskBuckets.{fits_filters, or_true, has_type}
use Rattle.sound_states.proofs.Tests.{neither, equal_numbers}
use Rattle.sound_states.proofs.Found.{same_found, found_has, found_passes, any_of}
use Rattle.isolation_laws.proofs.Kept.{kept_twice, found_twice, found_kept, found_alone, one_kept, AtMostOne}

-- ---- numbers

pub is_itself : (n : ℕ) → (n == n) ≡ true
is_itself n = grind (arith, nat_tests)

or_more : (a b : Bool) → b ≡ true → (a || b) ≡ true
or_more true b is = refl
or_more false b is = is

each_more : (m : ℕ) (ms ns : List ℕ) → AllByRecursion (λ n. is_among ms n ≡ true) ns → AllByRecursion (λ n. is_among (m ∷ ms) n ≡ true) ns
each_more m ms [] each = tt
each_more m ms (n ∷ ns) each = (or_more (m == n) (is_among ms n) each.0, each_more m ms ns each.1)

all_among : (ns : List ℕ) → AllByRecursion (λ n. is_among ns n ≡ true) ns
all_among [] = tt
all_among (n ∷ ns) = (rw is_itself refl, each_more n ns ns (all_among ns))

pub not_false : (a : Bool) → not a ≡ false → a ≡ true
not_false true is = refl
not_false false is = sym is

-- ---- names

pub same_text : (x y z : List ℕ) (r : Bool) → bytes_eq y z ≡ r → bytes_eq x y ≡ false → bytes_eq x z ≡ true → bytes_eq y z ≡ false
same_text x y z false is apart same = is
same_text x y z true is apart same =
    absurd (false≢true (sym apart ∙ (bytes_decides x y).1 ((bytes_decides x z).0 same ∙ sym ((bytes_decides y z).0 is))))

one_name : (name : List ℕ) (bs : List Bucket) → AllPairs (λ a b. is_same_name a.name b.name ≡ false) bs → AtMostOne (λ b. is_same_name b.name name) bs
one_name name bs apart i j d lt within same = same_text _ _ (map to_ascii_lowercase name) _ refl (apart i j d lt within) same

has_number : (own : List ℕ) (n : ℕ) → is_among own n ≡ true → (b : Bucket) → (b.num == n) ≡ true → is_among own b.num ≡ true
has_number own n in_own b is = ap (is_among own) (equal_numbers b.num n is) ∙ in_own

stands : {X : Type 0} (p : X → Bool) (xs : List X) → list_any p xs ≡ true → is_none (find p xs) ≡ false
stands p [] any = absurd (false≢true any)
stands p (x ∷ xs) any = here (p x) refl any (stands p xs)
  where
    here : (b : Bool) → p x ≡ b → (b || list_any p xs) ≡ true → (list_any p xs ≡ true → is_none (find p xs) ≡ false) → is_none (find p (x ∷ xs)) ≡ false
    here true is found rest = rw is refl
    here false is found rest = rw is (rest found)

abbrev Fits : Option ℕ → Option (List ℕ) → (Bucket → Bool) → Bucket → Bool
Fits number name typed b = or_true (λ n. b.num == n) number && or_true (λ name. is_same_name b.name name) name && typed b

first_of_three : (a b c : Bool) → (a && b && c) ≡ true → a ≡ true
first_of_three true b c is = refl
first_of_three false b c is = is

second_of_three : (a b c : Bool) → (a && b && c) ≡ true → b ≡ true
second_of_three true true c is = refl
second_of_three true false c is = is
second_of_three false true c is = absurd (false≢true is)
second_of_three false false c is = is

module _ {C : Type 0} where
  -- the test of the name of a bucket of this number
  abbrev HasName : State C → List ℕ → ℕ → Bool
  HasName M name n = some_and (λ b. is_same_name b.name name) (bucket_at M n)

  abbrev pub kept : List ℕ → State C → List Bucket
  kept own M = filter (λ b. is_among own b.num) M.buckets

  pub bucket_alike : (own : List ℕ) (M N : State C) → kept own M ≡ kept own N → (n : ℕ) → is_among own n ≡ true → bucket_at M n ≡ bucket_at N n
  bucket_alike own M N same n in_own =
      found_twice (λ b. b.num == n) (λ b. is_among own b.num) (has_number own n in_own) M.buckets
      ∙ ap (find (λ b. b.num == n)) same
      ∙ sym (found_twice (λ b. b.num == n) (λ b. is_among own b.num) (has_number own n in_own) N.buckets)

  -- ---- by name

  names_alike : (own : List ℕ) (M N : State C) → kept own M ≡ kept own N → (name : List ℕ) (ns : List ℕ) → AllByRecursion (λ n. is_among own n ≡ true) ns → list_any (HasName M name) ns ≡ list_any (HasName N name) ns
  names_alike own M N same name [] each = refl
  names_alike own M N same name (n ∷ ns) each =
      ap (λ o. some_and (λ b. is_same_name b.name name) o || list_any (HasName M name) ns) (bucket_alike own M N same n each.0)
      ∙ ap (λ rest. HasName N name n || rest) (names_alike own M N same name ns each.1)

  pub name_among_alike : (own : List ℕ) (M N : State C) → kept own M ≡ kept own N → (name : List ℕ) → is_name_among M own name ≡ is_name_among N own name
  name_among_alike own M N same name = names_alike own M N same name own (all_among own)

  kept_named : (own : List ℕ) (M : State C) (name : List ℕ) (n : ℕ) (o : Option Bucket) → is_among own n ≡ true → bucket_at M n ≡ o → some_and (λ b. is_same_name b.name name) o ≡ true
      → list_any (λ b. is_same_name b.name name) (kept own M) ≡ true
  kept_named own M name n None in_own at has = absurd (false≢true has)
  kept_named own M name n (Some b) in_own at has =
      let among : is_among own b.num ≡ true = has_number own n in_own b (found_passes (λ b. b.num == n) M.buckets b at) in
      any_of (λ b. is_same_name b.name name) (λ b. b.num == n) (kept own M) b (found_kept (λ b. b.num == n) (λ b. is_among own b.num) M.buckets b at among) has

  any_named : (own : List ℕ) (M : State C) (name : List ℕ) (ns : List ℕ) → AllByRecursion (λ n. is_among own n ≡ true) ns → list_any (HasName M name) ns ≡ true
      → list_any (λ b. is_same_name b.name name) (kept own M) ≡ true
  any_named own M name [] each has = absurd (false≢true has)
  any_named own M name (n ∷ ns) each has = here (HasName M name n) refl has (any_named own M name ns each.1)
    where
      here : (b : Bool) → HasName M name n ≡ b → (b || list_any (HasName M name) ns) ≡ true
          → (list_any (HasName M name) ns ≡ true → list_any (λ b. is_same_name b.name name) (kept own M) ≡ true)
          → list_any (λ b. is_same_name b.name name) (kept own M) ≡ true
      here true is found rest = kept_named own M name n (bucket_at M n) each.0 refl is
      here false is found rest = rest found

  -- the names of a state's buckets differ
  abbrev pub NamesDiffer : State C → Type 0
  NamesDiffer M = AllPairs (λ a b. is_same_name a.name b.name ≡ false) M.buckets

  named_by : (own : List ℕ) (M N : State C) (name : List ℕ) (o : Option Bucket) → NamesDiffer M → NamesDiffer N
      → find (λ b. is_same_name b.name name) (kept own M) ≡ o → find (λ b. is_same_name b.name name) (kept own N) ≡ o → is_none o ≡ false → bucket_named M name ≡ bucket_named N name
  named_by own M N name None apart_m apart_n in_m in_n there = absurd (false≢true (sym there))
  named_by own M N name (Some b) apart_m apart_n in_m in_n there =
      found_alone (λ b. is_same_name b.name name) (λ b. is_among own b.num) M.buckets b (one_name name M.buckets apart_m) in_m
      ∙ sym (found_alone (λ b. is_same_name b.name name) (λ b. is_among own b.num) N.buckets b (one_name name N.buckets apart_n) in_n)

  pub named_alike : (own : List ℕ) (M N : State C) → kept own M ≡ kept own N → NamesDiffer M → NamesDiffer N → (name : List ℕ) → is_name_among M own name ≡ true → bucket_named M name ≡ bucket_named N name
  named_alike own M N same apart_m apart_n name among =
      let p : Bucket → Bool = λ b. is_same_name b.name name in
      named_by own M N name (find p (kept own M)) apart_m apart_n refl (ap (find p) (sym same)) (stands p (kept own M) (any_named own M name own (all_among own) among))

  -- ---- a list of buckets

  fitting_alike : (own : List ℕ) (M N : State C) → kept own M ≡ kept own N → NamesDiffer M → NamesDiffer N → (number : Option ℕ) (name : Option (List ℕ)) (typed : Bucket → Bool)
      → is_outside M own (filtered number name) ≡ false → filter (Fits number name typed) M.buckets ≡ filter (Fits number name typed) N.buckets
  fitting_alike own M N same apart_m apart_n (Some n) name typed inside =
      let p = Fits (Some n) name typed in
      let in_own : is_among own n ≡ true = not_false (is_among own n) (neither (not (is_among own n)) _ inside).0 in
      let weaker : (b : Bucket) → p b ≡ true → is_among own b.num ≡ true = λ b is. has_number own n in_own b (first_of_three (b.num == n) _ (typed b) is) in
      kept_twice p (λ b. is_among own b.num) weaker M.buckets ∙ ap (filter p) same ∙ sym (kept_twice p (λ b. is_among own b.num) weaker N.buckets)
  fitting_alike own M N same apart_m apart_n None (Some name) typed inside =
      let p = Fits None (Some name) typed in
      let q : Bucket → Bool = λ b. is_same_name b.name name in
      let among : is_name_among M own name ≡ true = not_false (is_name_among M own name) inside in
      let weaker : (b : Bucket) → p b ≡ true → q b ≡ true = λ b is. second_of_three true (q b) (typed b) is in
      kept_twice p q weaker M.buckets ∙ ap (filter p) (one_kept q M.buckets (one_name name M.buckets apart_m))
      ∙ ap (λ o. filter p (items o)) (named_alike own M N same apart_m apart_n name among)
      ∙ sym (kept_twice p q weaker N.buckets ∙ ap (filter p) (one_kept q N.buckets (one_name name N.buckets apart_n)))
  fitting_alike own M N same apart_m apart_n None None typed inside = absurd (false≢true (sym inside))

  pub listed_alike : (own : List ℕ) (M N : State C) → kept own M ≡ kept own N → NamesDiffer M → NamesDiffer N → (c : ListBuckets)
      → is_outside M own (filtered c.bucket c.name) ≡ false → filter (fits_filters c) M.buckets ≡ filter (fits_filters c) N.buckets
  listed_alike own M N same apart_m apart_n c inside = fitting_alike own M N same apart_m apart_n c.bucket c.name (has_type c.types) inside

  pub outside_alike : (own : List ℕ) (M N : State C) → kept own M ≡ kept own N → (number : Option ℕ) (name : Option (List ℕ)) → is_outside M own (filtered number name) ≡ is_outside N own (filtered number name)
  outside_alike own M N same number None = refl
  outside_alike own M N same number (Some name) = ap (λ o. (is_none number && false) || some_and (λ n. not (is_among own n)) number || not o) (name_among_alike own M N same name)

  -- the bucket that has the name of one of these is one of them
  pub named_own : (own : List ℕ) (N : State C) → NamesDiffer N → (name : List ℕ) (b : Bucket) → is_name_among N own name ≡ true → bucket_named N name ≡ Some b → is_among own b.num ≡ true
  named_own own N apart name b among found =
      let p : Bucket → Bool = λ b. is_same_name b.name name in
      here (find p (kept own N)) refl (stands p (kept own N) (any_named own N name own (all_among own) among))
    where
      here : (o : Option Bucket) → find (λ b. is_same_name b.name name) (kept own N) ≡ o → is_none o ≡ false → is_among own b.num ≡ true
      here None is there = absurd (false≢true (sym there))
      here (Some a) is there =
          let same : a ≡ b = same_found a b (sym (found_alone (λ b. is_same_name b.name name) (λ b. is_among own b.num) N.buckets a (one_name name N.buckets apart) is) ∙ found) in
          ap (λ b. is_among own b.num) (sym same) ∙ (found_has (λ b. is_same_name b.name name) (λ b. is_among own b.num ≡ true) (kept own N) a (filter_passes (λ b. is_among own b.num) N.buckets) is).1
