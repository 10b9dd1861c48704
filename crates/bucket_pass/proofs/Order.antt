-- Versions in the order of their names.
use Rattle.std.proofs.Common.{◌≡◌, ℕ, Bool, true, false, List, [], ◌∷◌, ◌++◌, Option, Some, None, bytes_eq, subst, sym, ap, ◌∙◌, ⊎_elim, refl, is_le, nat_cmp, Less, Equal, Greater, not}
use Rattle.std.specs.declared.cmp.Ordering.{Ordering}
use Rattle.std.specs.Ordering.{match_ordering, ordering_reverse}
use Rattle.std.specs.List.{AllByRecursion}
use Rattle.std.specs.Cmp.Lexicographic.{nat_list_cmp_total, slice_cmp}
use Rattle.std.proofs.lemmas.Bool.{cases_Bool, false≢true, not-true}
use Rattle.std.proofs.lemmas.Map.Lookups.{exact_bytes}
use Rattle.std.proofs.lemmas.Slice.Eq.{bytes_eq-Decides}
use Rattle.b2_model.specs.Rows.{is_before}
use Rattle.listing_pages.proofs.Shown.{InOrder}
use Rattle.bucket_pass.specs.Walked.{V, AreByName, AreOfName, IsPast, MayHave, is_past}

abbrev pub UpTo : V → V → Type 0
UpTo v w = is_le (slice_cmp nat_cmp v.name w.name) ≡ true

-- ---- from the order of listings

up_to : (o : Ordering) (b : Bool) → match_ordering o true b false ≡ true → is_le o ≡ true
up_to Less b is = refl
up_to Equal b is = refl
up_to Greater b is = absurd (false≢true is)

all_up_to : (v : V) (vs : List V) → AllByRecursion (λ w. is_before v w ≡ true) vs → AllByRecursion (UpTo v) vs
all_up_to v [] all = tt
all_up_to v (w ∷ vs) all = (up_to (slice_cmp nat_cmp v.name w.name) _ all.0, all_up_to v vs all.1)

pub by_name : (vs : List V) → InOrder vs → AreByName vs
by_name [] up = tt
by_name (v ∷ vs) up = (all_up_to v vs up.0, by_name vs up.1)

-- ---- what follows

all_right : (P : V → Type 0) (xs ys : List V) → AllByRecursion P (xs ++ ys) → AllByRecursion P ys
all_right P [] ys all = all
all_right P (x ∷ xs) ys all = all_right P xs ys all.1

pub order_right : (xs ys : List V) → AreByName (xs ++ ys) → AreByName ys
order_right [] ys up = up
order_right (x ∷ xs) ys up = order_right xs ys up.1

same_name : (m n : List ℕ) (o : Ordering) → slice_cmp nat_cmp n m ≡ o → is_le o ≡ true → is_le (slice_cmp nat_cmp m n) ≡ true → m ≡ n
same_name m n Less is low high = absurd (false≢true (sym (ap is_le (nat_list_cmp_total.antisymm m n ∙ ap ordering_reverse is)) ∙ high))
same_name m n Equal is low high = sym (exact_bytes n m is)
same_name m n Greater is low high = absurd (false≢true low)

module _ (n : List ℕ) (f v : V) (is : f.name ≡ n) (low : UpTo f v) (other : bytes_eq v.name n ≡ false) where
  -- after another name it does not come again
  not_again : (w : V) → UpTo v w → bytes_eq w.name n ≡ false
  not_again w high = ⊎_elim
      (λ (again : bytes_eq w.name n ≡ true).
      let back : is_le (slice_cmp nat_cmp v.name n) ≡ true = subst (λ k. is_le (slice_cmp nat_cmp v.name k) ≡ true) ((bytes_eq-Decides w.name n).0 again) high in
      let same : v.name ≡ n = same_name v.name n (slice_cmp nat_cmp n v.name) refl (subst (λ k. is_le (slice_cmp nat_cmp k v.name) ≡ true) is low) back in
      absurd (false≢true (sym other ∙ (bytes_eq-Decides v.name n).1 same)))
      (λ (no : bytes_eq w.name n ≡ false). no)
      (cases_Bool (bytes_eq w.name n))

  none_again : (ws : List V) → AllByRecursion (UpTo v) ws → AllByRecursion (λ w. bytes_eq w.name n ≡ false) ws
  none_again [] all = tt
  none_again (w ∷ ws) all = (not_again w all.0, none_again ws all.1)

pub past : (name : Option (List ℕ)) (block : List V) (v : V) (rest : List V) → AreOfName name block → AreByName (block ++ (v ∷ rest)) → is_past name v.name ≡ true → IsPast name (v ∷ rest)
past None block v rest named up is = tt
past (Some n) [] v rest named up is = absurd named
past (Some n) (f ∷ block) v rest named up is =
    let other = not-true (bytes_eq v.name n) is in
    (other, none_again n f v named.0 (all_right (UpTo f) block (v ∷ rest) up.0).0 other rest (order_right block (v ∷ rest) up.1).0)

pub may_have : (name : Option (List ℕ)) (n : List ℕ) → is_past name n ≡ false → MayHave name n
may_have None n is = tt
may_have (Some other) n is = (bytes_eq-Decides n other).0 (not-false (bytes_eq n other) is)
  where
    not-false : (b : Bool) → not b ≡ false → b ≡ true
    not-false true is = refl
    not-false false is = absurd (false≢true (sym is))
