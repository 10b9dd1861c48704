-- The number that a text spells.
use Rattle.std.proofs.Common.{◌≡◌, ◌≢◌, ℕ, zero, suc, ◌+◌, ◌<◌, ◌≤◌, ◌^◌, ◌⊎◌, inl, inr, List, ◌++◌, length, take, drop, Bool, true, false, cond, Option, Some, None, MatchOption, IfSome, codes, sym, ap, ◌∙◌, subst, refl, arith, append_assoc}
use Rattle.std.specs.Prelude.{bytes_eq, option_and_then}
use Rattle.std.specs.Option.{option_or}
use Rattle.std.specs.Cmp.Lexicographic.{bytes_decides}
use Rattle.std.proofs.lemmas.Bool.{cases_eq, cases_Bool}
use Rattle.std.proofs.lemmas.List.{take-append-le}
use Rattle.std.proofs.Math.Seq.{take-append_seam}
use Rattle.b2_base.specs.Digits.{eight_digits, sixteen_digits}
use Rattle.b2_base.specs.BucketId.{bucket_id}
use Rattle.b2_base.specs.FileId.{file_id}
use Rattle.b2_base.proofs.DigitsLemmas.{same_eight, length-eight_digits}
use Rattle.b2_base.proofs.IdLemmas.{one_version}
use Rattle.b2_types.specs.declared.record.VersionId.{VersionId}
use Rattle.field_kinds.specs.Spelled.{least, number_of, bucket_of, version_in, file_of}

not_passing : (p : ℕ → Bool) (k j n : ℕ) → k ≡ n → j < n → (p j ≡ true → j ≡ k) → p j ≡ false
not_passing p k j n same under one = elim (cases_Bool (p j)) [
  | inl passes ↦ (let is : j ≡ k = one passes in absurd (omega (arith, is, same, under)))
  | inr fails ↦ fails
]

least_none : (p : ℕ → Bool) (n : ℕ) → ((k : ℕ) → k < n → p k ≡ false) → least p n ≡ None
unfolding least
least_none p zero none = refl
least_none p (suc n) none = rw (least_none p n (λ k below. none k (omega arith)), none n (omega arith)) refl

last_passes : (p : ℕ → Bool) (k n : ℕ) → k ≡ n → p k ≡ true → cond (p n) (Some n) None ≡ Some k
last_passes p k n same passes =
    let here : p n ≡ true = ap p (sym same) ∙ passes in
    rw here (ap Some (sym same))

least_at : (p : ℕ → Bool) (n k : ℕ) → k < n → p k ≡ true → ((j : ℕ) → j < n → p j ≡ true → j ≡ k) → least p n ≡ Some k
unfolding least
least_at p zero k below passes one = absurd (omega arith)
least_at p (suc n) k below passes one = elim (cases_eq k n) [
  | inl same ↦ rw (least_none p n (λ j under. not_passing p k j n same under (one j (omega arith)))) (last_passes p k n same passes)
  | inr other ↦ rw (least_at p n k (omega (arith, below, other)) passes (λ j under passing. one j (omega arith) passing)) refl
]

-- what is found is below the limit
below_or : (p : ℕ → Bool) (n k : ℕ) (o : Option ℕ) (b : Bool) → ((m : ℕ) → o ≡ Some m → m < n) → option_or o (cond b (Some n) None) ≡ Some k → k < suc n
below_or p n k (Some m) b before is = let below = before m refl in let same : m ≡ k = cc is in omega (arith, below, same)
below_or p n k None true before is = let same : n ≡ k = cc is in omega (arith, same)
below_or p n k None false before is = absurd (cc is)

least_below : (p : ℕ → Bool) (n k : ℕ) → least p n ≡ Some k → k < n
unfolding least
least_below p zero k is = absurd (cc is)
least_below p (suc n) k is = below_or p n k (least p n) (p n) (λ m found. least_below p n m found) is

number_at : (spell : ℕ → List ℕ) (limit : ℕ) (text : List ℕ) (n : ℕ) → ((j k : ℕ) → j < limit → k < limit → spell j ≡ spell k → j ≡ k)
    → n < limit → text ≡ spell n → number_of spell limit text ≡ Some n
unfolding number_of
number_at spell limit text n apart below is =
    least_at (λ k. bytes_eq (spell k) text) limit n below ((bytes_decides (spell n) text).1 (sym is))
    (λ j under equal. apart j n under below ((bytes_decides (spell j) text).0 equal ∙ is))

no_number : (spell : ℕ → List ℕ) (limit : ℕ) (text : List ℕ) → ((n : ℕ) → n < limit → text ≢ spell n) → number_of spell limit text ≡ None
unfolding number_of
no_number spell limit text none =
    least_none (λ k. bytes_eq (spell k) text) limit
    (λ k under. elim (cases_Bool (bytes_eq (spell k) text)) [
      | inl equal ↦ absurd (none k under (sym ((bytes_decides (spell k) text).0 equal)))
      | inr other ↦ other
    ])

number_below : (spell : ℕ → List ℕ) (limit : ℕ) (text : List ℕ) (n : ℕ) → number_of spell limit text ≡ Some n → n < limit
unfolding number_of
number_below spell limit text n is = least_below (λ k. bytes_eq (spell k) text) limit n is

bucket_ids_apart : (j k : ℕ) → j < 2 ^ 32 → k < 2 ^ 32 → bucket_id j ≡ bucket_id k → j ≡ k
bucket_ids_apart j k j_below k_below same = same_eight j k j_below k_below (ap (drop 16) same)

pub bucket_read : (text : List ℕ) (r : Option ℕ) → MatchOption r ((n : ℕ) → n < 2 ^ 32 → text ≢ bucket_id n) (λ n. text ≡ bucket_id n) → IfSome r (λ n. n < 2 ^ 32) → r ≡ bucket_of text
bucket_read text None none range = sym (no_number bucket_id (2 ^ 32) text none)
bucket_read text (Some n) is range = sym (number_at bucket_id (2 ^ 32) text n bucket_ids_apart range is)

bucket_digits : (b v : ℕ) → take 8 (drop 3 (file_id b v)) ≡ eight_digits b
bucket_digits b v =
    let rest : List ℕ = codes "_f" ++ sixteen_digits v in
    ap (take 8) (append_assoc (eight_digits b) (codes "_f") (sixteen_digits v)) ∙ ap (λ n. take n (eight_digits b ++ rest)) (sym (length-eight_digits b)) ∙ take-append_seam (eight_digits b) rest

versions_apart : (b j k : ℕ) → j < 2 ^ 53 → k < 2 ^ 53 → file_id b j ≡ file_id b k → j ≡ k
versions_apart b j k j_below k_below same = one_version (file_id b j) b j b k (omega (arith, j_below)) (omega (arith, k_below)) refl same

pub file_read : (text : List ℕ) (b v : ℕ) → b < 2 ^ 32 → v < 2 ^ 53 → text ≡ file_id b v → file_of text ≡ Some (record { bucket = b; num = v })
file_read text b v b_below v_below is =
    let digits : take 8 (drop 3 text) ≡ eight_digits b = ap (λ t. take 8 (drop 3 t)) is ∙ bucket_digits b v in
    rw (
      number_at eight_digits (2 ^ 32) (take 8 (drop 3 text)) b same_eight b_below digits,
      number_at (λ num. file_id b num) (2 ^ 53) text v (versions_apart b) v_below is,
    ) refl

unread_in : (text : List ℕ) (o : Option ℕ) → number_of eight_digits (2 ^ 32) (take 8 (drop 3 text)) ≡ o
    → ((b v : ℕ) → b < 2 ^ 32 → v ≤ 9007199254740991 → text ≢ file_id b v) → option_and_then (version_in text) o ≡ None
unread_in text None found none = refl
unread_in text (Some b) found none =
    let below = number_below eight_digits (2 ^ 32) (take 8 (drop 3 text)) b found in
    rw (no_number (λ num. file_id b num) (2 ^ 53) text (λ v under. none b v below (omega arith))) refl

pub file_unread : (text : List ℕ) → ((b v : ℕ) → b < 2 ^ 32 → v ≤ 9007199254740991 → text ≢ file_id b v) → file_of text ≡ None
file_unread text none = unread_in text (number_of eight_digits (2 ^ 32) (take 8 (drop 3 text))) refl none

pub file_at : (text : List ℕ) (id : VersionId) → id.bucket < 2 ^ 32 → id.num ≤ 9007199254740991 → text ≡ file_id id.bucket id.num → Some id ≡ file_of text
file_at text id b_below v_most is = sym (file_read text id.bucket id.num b_below (omega (arith, v_most)) is)
