-- Lists that ascend by number.
use Rattle.std.proofs.Common.{◌≡◌, ℕ, zero, suc, ◌<◌, ◌==◌, nat_lt, Bool, true, false, ◌||◌, List, [], ◌∷◌, ◌++◌, All, Some, map, find, if◌then◌else◌, refl, sym, ap, arith}
use Rattle.std.specs.Option.{is_some}
use Rattle.std.specs.List.{AllPairs, list_any}
use Rattle.std.proofs.lemmas.Bool.{false≢true}
use Rattle.std.proofs.lemmas.Bool.Decides.{nat_tests}
use Rattle.std.proofs.lemmas.List.Elements.{All-nil, All-cons, All-head, All-tail, All-map}
use Rattle.std.proofs.lemmas.List.Kept.{AllPairs-cons}
use Rattle.b2_model.specs.Lists.{put_by}
use Rattle.sound_states.specs.Sound.{IsAscending}

-- ---- each and each later one

module _ {X : Type 0} (R : X → X → Type 0) where
  pub pairs_nil : AllPairs R []
  pairs_nil i j d lt within = absurd (omega arith)

  pub pairs_head : (x : X) (xs : List X) → AllPairs R (x ∷ xs) → All (R x) xs
  pairs_head x xs pairs k d within = pairs zero (suc k) d (omega arith) (omega arith)

  pub pairs_tail : (x : X) (xs : List X) → AllPairs R (x ∷ xs) → AllPairs R xs
  pairs_tail x xs pairs i j d lt within = pairs (suc i) (suc j) d (omega arith) (omega arith)

-- each of a list, where it is so of each by another
pub all_from : {X : Type 0} (P Q : X → Type 0) (xs : List X) → ((x : X) → P x → Q x) → All P xs → All Q xs
all_from P Q xs each all k d within = each _ (all k d within)

pub all_from_both : {X : Type 0} (P Q R : X → Type 0) (xs : List X) → ((x : X) → P x → Q x → R x) → All P xs → All Q xs → All R xs
all_from_both P Q R xs each first second k d within = each _ (first k d within) (second k d within)

pub ascends_nil : {X : Type 0} (num : X → ℕ) → IsAscending num []
ascends_nil num = pairs_nil (λ x y. num x < num y)

-- ---- a new item at its place

module _ {X : Type 0} (num : X → ℕ) where
  put_cases : (b : Bool) (x y : X) (ys : List X) (P : List X → Type 0) → (nat_lt (num x) (num y) ≡ b) → (b ≡ true → P (x ∷ y ∷ ys)) → (b ≡ false → P (y ∷ put_by num x ys)) → P (put_by num x (y ∷ ys))
  put_cases true x y ys P is first second = rw is (first refl)
  put_cases false x y ys P is first second = rw is (second refl)

  pub put_all : (P : X → Type 0) (x : X) (xs : List X) → P x → All P xs → All P (put_by num x xs)
  put_all P x [] head all = All-cons P x [] head all
  put_all P x (y ∷ ys) head all =
      put_cases (nat_lt (num x) (num y)) x y ys (All P) refl
      (λ before. All-cons P x (y ∷ ys) head all)
      (λ after. All-cons P y (put_by num x ys) (All-head P y ys all) (put_all P x ys head (All-tail P y ys all)))

  below_rest : (x y : X) (ys : List X) → num x < num y → All (λ z. num y < num z) ys → All (λ z. num x < num z) ys
  below_rest x y ys lt all k d within = let next = all k d within in omega (arith, lt, next)

  pub put_ascends : (x : X) (xs : List X) → IsAscending num xs → All (λ y. num y ≡ num x → ⊥) xs → IsAscending num (put_by num x xs)
  put_ascends x [] order apart = AllPairs-cons (λ a b. num a < num b) x [] (All-nil _) order
  put_ascends x (y ∷ ys) order apart =
      let R : X → X → Type 0 = λ a b. num a < num b in
      let later = pairs_head R y ys order in
      let other = All-head (λ y. num y ≡ num x → ⊥) y ys apart in
      put_cases (nat_lt (num x) (num y)) x y ys (IsAscending num) refl
      (λ before. let lt : num x < num y = grind (arith, nat_tests, before) in AllPairs-cons R x (y ∷ ys) (All-cons (R x) y ys lt (below_rest x y ys lt later)) order)
      (λ after.
      let lt : num y < num x = grind (arith, nat_tests, after, other) in
      AllPairs-cons R y (put_by num x ys) (put_all (R y) x ys lt later) (put_ascends x ys (pairs_tail R y ys order) (All-tail (λ y. num y ≡ num x → ⊥) y ys apart)))

  -- a relation that is the same both ways needs no order
  pub put_pairs : (R : X → X → Type 0) (x : X) (xs : List X) → AllPairs R xs → All (λ y. R x y × R y x) xs → AllPairs R (put_by num x xs)
  put_pairs R x [] pairs both = AllPairs-cons R x [] (All-nil _) pairs
  put_pairs R x (y ∷ ys) pairs both =
      let one = All-head (λ y. R x y × R y x) y ys both in
      put_cases (nat_lt (num x) (num y)) x y ys (AllPairs R) refl
      (λ before. AllPairs-cons R x (y ∷ ys) (all_from (λ y. R x y × R y x) (R x) (y ∷ ys) (λ y both. both.0) both) pairs)
      (λ after. AllPairs-cons R y (put_by num x ys) (put_all (R y) x ys one.1 (pairs_head R y ys pairs))
      (put_pairs R x ys (pairs_tail R y ys pairs) (All-tail (λ y. R x y × R y x) y ys both)))

  -- after all whose numbers are below its own
  pub put_last : (x : X) (xs : List X) → All (λ y. num y < num x) xs → put_by num x xs ≡ xs ++ x ∷ []
  put_last x [] below = refl
  put_last x (y ∷ ys) below =
      let lt : num y < num x = All-head (λ y. num y < num x) y ys below in
      let not_before : nat_lt (num x) (num y) ≡ false = grind (arith, nat_tests, lt) in
      rw not_before (ap (λ rest. y ∷ rest) (put_last x ys (All-tail (λ y. num y < num x) y ys below)))

  pub put_any : (p : X → Bool) (x : X) (xs : List X) → list_any p xs ≡ true → list_any p (put_by num x xs) ≡ true
  put_any p x [] found = absurd (false≢true found)
  put_any p x (y ∷ ys) found =
      put_cases (nat_lt (num x) (num y)) x y ys (λ zs. list_any p zs ≡ true) refl
      (λ before. or_right (p x) (list_any p (y ∷ ys)) found)
      (λ after. or_rest (p y) (list_any p ys) (list_any p (put_by num x ys)) (put_any p x ys) found)
    where
      or_right : (a b : Bool) → b ≡ true → (a || b) ≡ true
      or_right true b is = refl
      or_right false b is = is

      or_rest : (a b c : Bool) → (b ≡ true → c ≡ true) → (a || b) ≡ true → (a || c) ≡ true
      or_rest true b c more is = refl
      or_rest false b c more is = more is

  -- ---- items that are changed, and keep their numbers

  pub map_pairs : {Y : Type 0} (R : Y → Y → Type 0) (f : X → Y) (xs : List X) → AllPairs (λ a b. R (f a) (f b)) xs → AllPairs R (map f xs)
  map_pairs R f [] pairs = pairs_nil R
  map_pairs R f (x ∷ xs) pairs =
      AllPairs-cons R (f x) (map f xs) (All-map (R (f x)) f xs (pairs_head (λ a b. R (f a) (f b)) x xs pairs)) (map_pairs R f xs (pairs_tail (λ a b. R (f a) (f b)) x xs pairs))

  pub map_ascends : (f : X → X) → ((x : X) → num (f x) ≡ num x) → (xs : List X) → IsAscending num xs → IsAscending num (map f xs)
  map_ascends f same xs order =
      map_pairs (λ a b. num a < num b) f xs (λ i j d lt within. let before = order i j d lt within in rw (same _, same _) before)

  -- ---- what is found

  -- no number is among these
  pub not_among : (n : ℕ) (xs : List X) → list_any (λ x. num x == n) xs ≡ false → All (λ x. num x ≡ n → ⊥) xs
  not_among n [] none = All-nil _
  not_among n (x ∷ xs) none =
      let both = or_false (num x == n) (list_any (λ x. num x == n) xs) none in
      All-cons (λ x. num x ≡ n → ⊥) x xs (λ same. grind (arith, nat_tests, both.0, same)) (not_among n xs both.1)
    where
      or_false : (a b : Bool) → (a || b) ≡ false → (a ≡ false) × (b ≡ false)
      or_false true b none = absurd (false≢true (sym none))
      or_false false b none = (refl, none)

pub found_any : {X : Type 0} (p : X → Bool) (xs : List X) → is_some (find p xs) ≡ list_any p xs
found_any p [] = refl
found_any p (x ∷ xs) = found_if (p x) (found_any p xs)
  where
    found_if : (b : Bool) → is_some (find p xs) ≡ list_any p xs → is_some (if b then Some x else find p xs) ≡ (b || list_any p xs)
    found_if true rest = refl
    found_if false rest = rest
