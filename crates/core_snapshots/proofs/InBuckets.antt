-- What is counted in each bucket is counted in all.
use Rattle.std.proofs.Common.{◌≡◌, ℕ, ◌+◌, ◌<◌, ◌==◌, ◌&&◌, Bool, true, false, All, List, [], ◌∷◌, filter, length, if◌then◌else◌, add-zero, zero-add, sym, ap, ◌∙◌, ⊎_elim, refl, arith}
use Rattle.std.specs.List.{Contains, count_by, sum_by}
use Rattle.std.proofs.lemmas.Bool.{cases_Bool, eqb-false, eqb-true, false≢true, ne_eqb}
use Rattle.std.proofs.lemmas.List.Elements.{All-head, All-tail}
use Rattle.std.proofs.lemmas.List.Sorted.{Contains-permutation, IsPermutation-sym, sum_by-IsPermutation}
use Rattle.std.proofs.lemmas.List.Sums.{length-filter, sum_by-cons}
use Rattle.b2_types.specs.declared.bucket.Bucket.{Bucket}
use Rattle.b2_types.specs.declared.version.VersionOf.{VersionOf}
use Rattle.b2_model.specs.Kinds.{is_upload}
use Rattle.b2_model.specs.Pages.{is_current, visible_versions}
use Rattle.b2_model.specs.Rows.{rows}
use Rattle.b2_model.specs.State.{State}
use Rattle.sound_states.specs.Sound.{IsAmong, IsAscending, IsSound}
use Rattle.index_rows.proofs.Members.{here, kept, later, pairs_head, pairs_tail}
use Rattle.kept_versions.proofs.Numbered.{same_kept}
use Rattle.core_snapshots.specs.Visible.{visible_names}
use Rattle.core_snapshots.proofs.ByNumber.{in_order}

-- the version makes its name visible in its bucket
abbrev pub is_visible : {C : Type 0} → State C → VersionOf C → Bool
is_visible M v = is_upload v.action && is_current (rows M v.bucket) v

-- ---- sums

module _ {X : Type 0} where
  same_sum : (f g : X → ℕ) (xs : List X) → ((x : X) → f x ≡ g x) → sum_by f xs ≡ sum_by g xs
  same_sum f g [] same = refl
  same_sum f g (x ∷ xs) same = sum_by-cons f x xs ∙ ap (λ n. n + sum_by f xs) (same x) ∙ ap (λ n. g x + n) (same_sum f g xs same) ∙ sym (sum_by-cons g x xs)

  no_sum : (f : X → ℕ) (xs : List X) → ((x : X) → Contains xs x → f x ≡ 0) → sum_by f xs ≡ 0
  no_sum f [] none = refl
  no_sum f (x ∷ xs) none = sum_by-cons f x xs ∙ ap (λ n. n + sum_by f xs) (none x (here x xs)) ∙ zero-add (sum_by f xs) ∙ no_sum f xs (λ y a. none y (later x xs y a))

  both_sums : (f g : X → ℕ) (xs : List X) → sum_by (λ x. f x + g x) xs ≡ sum_by f xs + sum_by g xs
  both_sums f g [] = refl
  both_sums f g (x ∷ xs) =
      let whole = sum_by-cons (λ x. f x + g x) x xs in
      let first = sum_by-cons f x xs in
      let second = sum_by-cons g x xs in
      let rest = both_sums f g xs in
      omega (arith, whole, first, second, rest)

  one_of_kept : (p q : X → Bool) (x : X) (xs : List X) → count_by p (filter q (x ∷ xs)) ≡ (if q x then (if p x then 1 else 0) else 0) + count_by p (filter q xs)
  one_of_kept p q x xs = ⊎_elim
      (λ (is : q x ≡ true). rw is (sum_by-cons (λ y. if p y then 1 else 0) x (filter q xs)))
      (λ (no : q x ≡ false). rw no (sym (zero-add (count_by p (filter q xs)))))
      (cases_Bool (q x))

-- ---- buckets

-- what is counted at the bucket of a number is counted once
at_one : (n k : ℕ) (bs : List Bucket) → IsAscending (λ b. b.num) bs → IsAmong bs n → sum_by (λ b. if n == b.num then k else 0) bs ≡ k
at_one n k [] up among = absurd (false≢true among)
at_one n k (b ∷ bs) up among = ⊎_elim
    (λ (is : (n == b.num) ≡ true).
    let rest : sum_by (λ c. if n == c.num then k else 0) bs ≡ 0 = no_sum (λ c. if n == c.num then k else 0) bs (λ c a.
    let low = pairs_head (λ x y. x.num < y.num) b bs up c a in
    let same = eqb-true n b.num is in
    ap (λ t. if t then k else 0) (ne_eqb n c.num (λ also. omega (arith, low, same, also)))) in
    sum_by-cons (λ c. if n == c.num then k else 0) b bs ∙ ap (λ t. (if t then k else 0) + sum_by (λ c. if n == c.num then k else 0) bs) is ∙ ap (λ m. k + m) rest ∙ add-zero k)
    (λ (no : (n == b.num) ≡ false).
    let other : (b.num == n) ≡ false = ne_eqb b.num n (λ same. eqb-false n b.num no (sym same)) in
    let later_one : IsAmong bs n = rw other at among in
    sum_by-cons (λ c. if n == c.num then k else 0) b bs ∙ ap (λ t. (if t then k else 0) + sum_by (λ c. if n == c.num then k else 0) bs) no ∙ zero-add (sum_by (λ c. if n == c.num then k else 0) bs) ∙ at_one n k bs (pairs_tail (λ x y. x.num < y.num) b bs up) later_one)
    (cases_Bool (n == b.num))

module _ {C : Type 0} where
  -- versions whose buckets stand are counted bucket by bucket
  by_bucket : (p : VersionOf C → Bool) (bs : List Bucket) (vs : List (VersionOf C)) → IsAscending (λ b. b.num) bs → All (λ v. IsAmong bs v.bucket) vs → sum_by (λ b. count_by p (filter (λ v. v.bucket == b.num) vs)) bs ≡ count_by p vs
  by_bucket p bs [] up placed = no_sum (λ b. 0) bs (λ b a. refl)
  by_bucket p bs (v ∷ vs) up placed =
      let one : ℕ = if p v then 1 else 0 in
      same_sum (λ b. count_by p (filter (λ w. w.bucket == b.num) (v ∷ vs))) (λ b. (if v.bucket == b.num then one else 0) + count_by p (filter (λ w. w.bucket == b.num) vs)) bs (λ b. one_of_kept p (λ w. w.bucket == b.num) v vs)
      ∙ both_sums (λ b. if v.bucket == b.num then one else 0) (λ b. count_by p (filter (λ w. w.bucket == b.num) vs)) bs
      ∙ ap (λ n. n + sum_by (λ b. count_by p (filter (λ w. w.bucket == b.num) vs)) bs) (at_one v.bucket one bs up (All-head (λ w. IsAmong bs w.bucket) v vs placed))
      ∙ ap (λ n. one + n) (by_bucket p bs vs up (All-tail (λ w. IsAmong bs w.bucket) v vs placed))
      ∙ sym (sum_by-cons (λ w. if p w then 1 else 0) v vs)

  of_bucket_is : (M : State C) (n : ℕ) → length (visible_versions (rows M n)) ≡ count_by (is_visible M) (filter (λ v. v.bucket == n) M.versions)
  of_bucket_is M n =
      let own : List (VersionOf C) = filter (λ v. v.bucket == n) M.versions in
      let within = λ (v : VersionOf C) (a : Contains (rows M n) v). eqb-true v.bucket n ((kept (λ w. w.bucket == n) M.versions v).0 (Contains-permutation (rows M n) own v (IsPermutation-sym own (rows M n) (in_order own)) a)).1 in
      ap length (same_kept (λ v. is_upload v.action && is_current (rows M n) v) (is_visible M) (rows M n) (λ v a. ap (λ m. is_upload v.action && is_current (rows M m) v) (sym (within v a))))
      ∙ length-filter (is_visible M) (rows M n)
      ∙ sum_by-IsPermutation (λ v. if is_visible M v then 1 else 0) own (rows M n) (in_order own)

  pub visible_are : (M : State C) → IsSound M → visible_names M ≡ count_by (is_visible M) M.versions
  visible_are M sound =
      same_sum (λ b. length (visible_versions (rows M b.num))) (λ b. count_by (is_visible M) (filter (λ v. v.bucket == b.num) M.versions)) M.buckets (λ b. of_bucket_is M b.num)
      ∙ by_bucket (is_visible M) M.buckets M.versions sound.buckets.order sound.versions.placed
