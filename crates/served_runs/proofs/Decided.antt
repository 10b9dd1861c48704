-- What is decided of numbers and lists.
use Rattle.std.proofs.Common.{◌≡◌, ◌≢◌, ℕ, zero, suc, ◌<◌, ◌≤◌, ◌⊎◌, inl, inr, Bool, true, false, List, [], ◌∷◌, ◌++◌, length, IsTrue, refl, sym, ap, ◌∙◌, subst, arith}
use Rattle.std.specs.List.{All, AllByRecursion, flat_map}
use Rattle.std.proofs.lemmas.Bool.{false≢true, cases_lt, cases_eq}
use Rattle.std.proofs.lemmas.List.Elements.{All-from_recursion, recursion_from_All}

-- it holds, or it doesn't
abbrev pub Decided : Type 0 → Type 0
Decided A = A ⊎ (A → ⊥)

pub as_well : {A B : Type 0} → Decided A → (A → B) → (B → A) → Decided B
as_well (inl a) f g = inl (f a)
as_well (inr none) f g = inr (λ b. none (g b))

pub both : {A B : Type 0} → Decided A → Decided B → Decided (A × B)
both (inl a) (inl b) = inl (a, b)
both (inl a) (inr none) = inr (λ p. none p.1)
both (inr none) b = inr (λ p. none p.0)

pub either : {A B : Type 0} → Decided A → Decided B → Decided (A ⊎ B)
either (inl a) b = inl (inl a)
either (inr none) (inl b) = inl (inr b)
either (inr none) (inr never) = inr (λ s. elim s [ inl a ↦ none a | inr b ↦ never b ])

pub not_so : {A : Type 0} → Decided A → Decided (A → ⊥)
not_so (inl a) = inr (λ none. none a)
not_so (inr none) = inl none

-- ---- numbers

pub is_true : (b : Bool) → Decided (b ≡ true)
is_true true = inl refl
is_true false = inr (λ same. false≢true same)

pub is_below : (m n : ℕ) → Decided (m < n)
is_below m n = by (cases_lt m n)
  where
    by : (m < n) ⊎ (n ≤ m) → Decided (m < n)
    by (inl below) = inl below
    by (inr above) = inr (λ below. absurd (omega (arith, above, below)))

-- some number below n
pub some_below : (n : ℕ) (P : ℕ → Type 0) → ((k : ℕ) → Decided (P k)) → Decided ((k : ℕ) × (k < n) × P k)
some_below zero P p = inr (λ found. let low = found.1 in absurd (omega (arith, low)))
some_below (suc n) P p = by (some_below n P p) (p n)
  where
    above : (k : ℕ) → k < suc n → P k → (k < n) ⊎ (n ≤ k) → (((j : ℕ) × (j < n) × P j) ⊎ P n)
    above k low holds (inl less) = inl (k, less, holds)
    above k low holds (inr least) = inr (subst P (omega (arith, low, least)) holds)

    nowhere : (((j : ℕ) × (j < n) × P j) → ⊥) → (P n → ⊥) → (((j : ℕ) × (j < n) × P j) ⊎ P n) → ⊥
    nowhere none never (inl found) = none found
    nowhere none never (inr here) = never here

    by : Decided ((k : ℕ) × (k < n) × P k) → Decided (P n) → Decided ((k : ℕ) × (k < suc n) × P k)
    by (inl found) last = let low = found.1 in inl (found.0, omega (arith, low), found.2)
    by (inr none) (inl here) = inl (n, omega arith, here)
    by (inr none) (inr never) = inr (λ found. nowhere none never (above found.0 found.1 found.2 (cases_lt found.0 n)))

-- ---- lists

pub is_empty : (l : List ℕ) → Decided (l ≡ [])
is_empty [] = inl refl
is_empty (b ∷ l) = inr (λ same. absurd (cc same))

pub same_list : (xs ys : List ℕ) → Decided (xs ≡ ys)
same_list [] [] = inl refl
same_list [] (y ∷ ys) = inr (λ same. absurd (cc same))
same_list (x ∷ xs) [] = inr (λ same. absurd (cc same))
same_list (x ∷ xs) (y ∷ ys) = by (cases_eq x y) (same_list xs ys)
  where
    by : (x ≡ y) ⊎ (x ≡ y → ⊥) → Decided (xs ≡ ys) → Decided (x ∷ xs ≡ y ∷ ys)
    by (inl first) (inl rest) = inl (λ i. first i ∷ rest i)
    by (inl first) (inr none) = inr (λ same. none (cc same))
    by (inr apart) rest = inr (λ same. apart (cc same))

-- each byte passes the test
each_passes : (test : ℕ → Bool) (l : List ℕ) → Decided (AllByRecursion (λ b. IsTrue (test b)) l)
each_passes test [] = inl tt
each_passes test (b ∷ l) = both (is_true (test b)) (each_passes test l)

pub all_pass : (test : ℕ → Bool) (l : List ℕ) → Decided (All (λ b. IsTrue (test b)) l)
all_pass test l = as_well (each_passes test l) (All-from_recursion (λ b. IsTrue (test b)) l) (recursion_from_All (λ b. IsTrue (test b)) l)

-- no byte is this one
each_differs : (byte : ℕ) (l : List ℕ) → Decided (AllByRecursion (λ b. b ≢ byte) l)
each_differs byte [] = inl tt
each_differs byte (b ∷ l) = both (not_so (cases_eq b byte)) (each_differs byte l)

pub all_differ : (byte : ℕ) (l : List ℕ) → Decided (All (λ b. b ≢ byte) l)
all_differ byte l = as_well (each_differs byte l) (All-from_recursion (λ b. b ≢ byte) l) (recursion_from_All (λ b. b ≢ byte) l)

-- ---- parts of lists

-- a part of one kind, and behind it one of another
abbrev pub Split : (List ℕ → Type 0) → (List ℕ → Type 0) → List ℕ → Type 0
Split P Q l = (xs : List ℕ) × (ys : List ℕ) × (l ≡ xs ++ ys) × P xs × Q ys

no_front : (xs ys : List ℕ) → [] ≡ xs ++ ys → (xs ≡ []) × (ys ≡ [])
no_front [] ys same = (refl, sym same)
no_front (x ∷ xs) ys same = absurd (cc same)

pub is_split : (P Q : List ℕ → Type 0) → ((l : List ℕ) → Decided (P l)) → ((l : List ℕ) → Decided (Q l)) → (l : List ℕ) → Decided (Split P Q l)
is_split P Q p q [] = as_well (both (p []) (q []))
    (λ parts. ([], [], refl, parts.0, parts.1))
    (λ s. let none = no_front s.0 s.1 s.2 in (subst P none.0 s.3, subst Q none.1 s.4))
is_split P Q p q (b ∷ l) = by (both (p []) (q (b ∷ l))) (is_split (λ xs. P (b ∷ xs)) Q (λ xs. p (b ∷ xs)) q l)
  where
    nowhere : ((P [] × Q (b ∷ l)) → ⊥) → (Split (λ xs. P (b ∷ xs)) Q l → ⊥) → (xs ys : List ℕ) → b ∷ l ≡ xs ++ ys → P xs → Q ys → ⊥
    nowhere none never [] ys same first second = none (first, subst Q (sym same) second)
    nowhere none never (x ∷ xs) ys same first second =
        let byte : x ≡ b = cc same in
        let rest : l ≡ xs ++ ys = cc same in never (xs, ys, rest, subst (λ c. P (c ∷ xs)) byte first, second)

    by : Decided (P [] × Q (b ∷ l)) → Decided (Split (λ xs. P (b ∷ xs)) Q l) → Decided (Split P Q (b ∷ l))
    by (inl here) later = inl ([], b ∷ l, refl, here.0, here.1)
    by (inr none) (inl found) = inl (b ∷ found.0, found.1, ap (λ r. b ∷ r) found.2, found.3, found.4)
    by (inr none) (inr never) = inr (λ s. nowhere none never s.0 s.1 s.2 s.3 s.4)

-- this byte, and a part behind it
abbrev pub Behind : ℕ → (List ℕ → Type 0) → List ℕ → Type 0
Behind byte Q l = (ys : List ℕ) × (l ≡ byte ∷ ys) × Q ys

pub is_behind : (byte : ℕ) (Q : List ℕ → Type 0) → ((l : List ℕ) → Decided (Q l)) → (l : List ℕ) → Decided (Behind byte Q l)
is_behind byte Q q [] = inr (λ s. absurd (cc (s.1)))
is_behind byte Q q (b ∷ l) = by (cases_eq b byte) (q l)
  where
    by : (b ≡ byte) ⊎ (b ≡ byte → ⊥) → Decided (Q l) → Decided (Behind byte Q (b ∷ l))
    by (inl same) (inl rest) = inl (l, ap (λ c. c ∷ l) same, rest)
    by (inl same) (inr none) = inr (λ s. let is : s.0 ≡ l = cc (s.1) in none (subst Q is s.2))
    by (inr apart) rest = inr (λ s. apart (cc (s.1)))

-- at most so many parts of one kind, one behind the other
abbrev pub Many : (List ℕ → Type 0) → ℕ → List ℕ → Type 0
Many One zero l = l ≡ []
Many One (suc n) l = (l ≡ []) ⊎ Split One (Many One n) l

pub are_many : (One : List ℕ → Type 0) → ((l : List ℕ) → Decided (One l)) → (n : ℕ) (l : List ℕ) → Decided (Many One n l)
are_many One one zero l = is_empty l
are_many One one (suc n) l = either (is_empty l) (is_split One (Many One n) one (are_many One one n) l)

-- ---- items that are written one behind the other

module _ {X : Type 0} (write : X → List ℕ) (Good : X → Type 0) where
  -- one of them
  abbrev pub Written : List ℕ → Type 0
  Written l = (x : X) × Good x × (l ≡ write x)

  -- at most so many
  pub record AreWritten (n : ℕ) (l : List ℕ) : Type 0 where
    pub items : List X
    pub each : AllByRecursion Good items
    pub few : length items ≤ n
    pub text : l ≡ flat_map write items

  pub from_parts : (n : ℕ) (l : List ℕ) → Many Written n l → AreWritten n l
  from_parts zero l none = record { items = []; each = tt; few = omega arith; text = none }
  from_parts (suc n) l (inl none) = record { items = []; each = tt; few = omega arith; text = none }
  from_parts (suc n) l (inr (xs, ys, split, (x, good, is), rest)) =
      let later = from_parts n ys rest in
      let few = later.few in
      record {
        items = x ∷ later.items;
        each = (good, later.each);
        few = omega (arith, few);
        text = split ∙ ap (λ f. f ++ ys) is ∙ ap (λ r. write x ++ r) later.text;
      }

  pub into_parts : (n : ℕ) (items : List X) (l : List ℕ) → AllByRecursion Good items → length items ≤ n → l ≡ flat_map write items → Many Written n l
  into_parts zero [] l each few text = text
  into_parts zero (x ∷ items) l each few text = absurd (omega (arith, few))
  into_parts (suc n) [] l each few text = inl text
  into_parts (suc n) (x ∷ items) l each few text = inr (write x, flat_map write items, text, (x, each.0, refl), into_parts n items (flat_map write items) each.1 (omega (arith, few)) refl)

  pub as_written : (n : ℕ) (l : List ℕ) → AreWritten n l → Many Written n l
  as_written n l are = into_parts n are.items l are.each are.few are.text

  pub are_written : ((l : List ℕ) → Decided (Written l)) → (n : ℕ) (l : List ℕ) → Decided (AreWritten n l)
  are_written one n l = as_well (are_many Written one n l) (from_parts n l) (as_written n l)
