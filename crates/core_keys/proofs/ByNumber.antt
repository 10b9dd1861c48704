-- A key is found by the number that its id tells.
use Rattle.std.proofs.Common.{◌≡◌, ℕ, zero, suc, ◌<◌, ◌^◌, ◌==◌, ◌&&◌, Bool, true, false, List, [], ◌∷◌, ◌++◌, All, Option, Some, None, find, bytes_eq, codes, length, slice_index_or, if◌then◌else◌, refl, sym, ap, ◌∙◌, arith, length-append}
use Rattle.std.proofs.lemmas.List.{append_cancel_left}
use Rattle.std.specs.List.{AllPairs}
use Rattle.std.specs.Cmp.Lexicographic.{bytes_decides}
use Rattle.std.proofs.lemmas.Bool.{false≢true}
use Rattle.std.proofs.lemmas.Bool.Decides.{nat_tests}
use Rattle.std.proofs.lemmas.List.Elements.{All-head, All-tail}
use Rattle.std.proofs.lemmas.Option.{none-some}
use Rattle.sha2.specs.Sha256.{sha256}
use Rattle.b2_base.specs.Digits.{eight_digits}
use Rattle.b2_base.specs.declared.extent.Extent.{Extent}
use Rattle.b2_base.proofs.DigitsLemmas.{same_eight}
use Rattle.b2_types.specs.declared.call.Credentials.{Credentials}
use Rattle.b2_types.specs.declared.key.Key.{Key}
use Rattle.b2_types.specs.KeyId.{key_id}
use Rattle.b2_model.specs.AskKeys.{key_of_id}
use Rattle.b2_model.specs.Policy.{key_by}
use Rattle.b2_model.specs.State.{State, key_at}
use Rattle.sound_states.specs.Sound.{IsSound}
use Rattle.sound_states.proofs.Ascending.{all_from, pairs_head, pairs_tail}
use Rattle.sound_states.proofs.Found.{found_has}
use Rattle.sound_states.proofs.Tests.{both_hold, equal_numbers}

-- ---- one number has one id

abbrev front : List ℕ → List ℕ
front account = codes "001" ++ account ++ codes "00"

long_id : (account : List ℕ) (n : ℕ) → key_id account (suc n) ≡ front account ++ eight_digits (suc n)
long_id account n = let is : (suc n == 0) ≡ false = grind (arith, nat_tests) in rw is refl

not_master : (account : List ℕ) (n : ℕ) → account ≡ key_id account (suc n) → ⊥
not_master account n same =
    let longer : length account ≡ length (front account ++ eight_digits (suc n)) = ap length (same ∙ long_id account n) in
    omega (arith, longer, length-append (front account) (eight_digits (suc n)), length-append (codes "001" ++ account) (codes "00"), length-append (codes "001") account)

same_key : (account : List ℕ) (m n : ℕ) → m < 2 ^ 32 → n < 2 ^ 32 → key_id account m ≡ key_id account n → m ≡ n
same_key account zero zero small_m small_n same = refl
same_key account zero (suc n) small_m small_n same = absurd (not_master account n same)
same_key account (suc m) zero small_m small_n same = absurd (not_master account m (sym same))
same_key account (suc m) (suc n) small_m small_n same =
    let both = sym (long_id account m) ∙ same ∙ long_id account n in
    same_eight (suc m) (suc n) small_m small_n (append_cancel_left (front account) (eight_digits (suc m)) (eight_digits (suc n)) both)

-- ---- tests that agree on a list

same_test : (a b : Bool) → (a ≡ true → b ≡ true) → (b ≡ true → a ≡ true) → a ≡ b
same_test true b there back = sym (there refl)
same_test false true there back = back refl
same_test false false there back = refl

module _ {X : Type 0} where
  pub find_same : (p q : X → Bool) (xs : List X) → All (λ x. p x ≡ q x) xs → find p xs ≡ find q xs
  find_same p q [] each = refl
  find_same p q (x ∷ xs) each = rw (All-head (λ x. p x ≡ q x) x xs each, find_same p q xs (All-tail (λ x. p x ≡ q x) x xs each)) refl

  pub find_none : (p : X → Bool) (xs : List X) → All (λ x. p x ≡ false) xs → find p xs ≡ None
  find_none p [] each = refl
  find_none p (x ∷ xs) each = rw (All-head (λ x. p x ≡ false) x xs each) (find_none p xs (All-tail (λ x. p x ≡ false) x xs each))

  -- what is found, where it passes another test
  abbrev pub only : (X → Bool) → Option X → Option X
  only q None = None
  only q (Some x) = if q x then Some x else None

  -- at most one passes the first test
  pub find_both : (p q : X → Bool) (xs : List X) → AllPairs (λ x y. p x ≡ true → p y ≡ false) xs → find (λ x. p x && q x) xs ≡ only q (find p xs)
  find_both p q [] one = refl
  find_both p q (x ∷ xs) one = at (p x) (q x) refl refl (find_both p q xs (pairs_tail (λ x y. p x ≡ true → p y ≡ false) x xs one))
    where
      at : (a b : Bool) → p x ≡ a → q x ≡ b → find (λ x. p x && q x) xs ≡ only q (find p xs) → (if a && b then Some x else find (λ x. p x && q x) xs) ≡ only q (if a then Some x else find p xs)
      at true true is_p is_q rest = rw is_q refl
      at true false is_p is_q rest =
          rw is_q (find_none (λ x. p x && q x) xs (all_from (λ y. p x ≡ true → p y ≡ false) (λ y. (p y && q y) ≡ false) xs (λ y other. ap (λ b. b && q y) (other is_p)) (pairs_head (λ x y. p x ≡ true → p y ≡ false) x xs one)))
      at false b is_p is_q rest = rest

-- ---- keys

abbrev pub has_secret : Credentials → Key → Bool
has_secret c k = bytes_eq (sha256 c.secret) k.hash

module _ (M : State Extent) (sound : IsSound M) where
  abbrev has_id : List ℕ → Key → Bool
  has_id id k = bytes_eq (key_id M.settings.account k.num) id

  each_small : All (λ (k : Key). k.num < 2 ^ 32) M.keys
  each_small =
      let last = sound.keys.last in
      all_from (λ (k : Key). k.num < M.next_key) (λ (k : Key). k.num < 2 ^ 32) M.keys (λ k given. omega (arith, given, last)) sound.keys.given

  numbers_tell : (id : List ℕ) (num : ℕ) → num < 2 ^ 32 → id ≡ key_id M.settings.account num → All (λ k. has_id id k ≡ (k.num == num)) M.keys
  numbers_tell id num small is = all_from (λ (k : Key). k.num < 2 ^ 32) (λ k. has_id id k ≡ (k.num == num)) M.keys (λ k fits. same_test (has_id id k) (k.num == num)
      (λ same. let n : k.num ≡ num = same_key M.settings.account k.num num fits small ((bytes_decides (key_id M.settings.account k.num) id).0 same ∙ is) in grind (arith, nat_tests, n))
      (λ same. (bytes_decides (key_id M.settings.account k.num) id).1 (ap (key_id M.settings.account) (equal_numbers k.num num same) ∙ sym is))) each_small

  none_tells : (id : List ℕ) → ((key : ℕ) → key < 2 ^ 32 → id ≡ key_id M.settings.account key → ⊥) → All (λ k. has_id id k ≡ false) M.keys
  none_tells id none = all_from (λ (k : Key). k.num < 2 ^ 32) (λ k. has_id id k ≡ false) M.keys (λ k fits. same_test (has_id id k) false
      (λ same. absurd (none k.num fits (sym ((bytes_decides (key_id M.settings.account k.num) id).0 same)))) (λ same. absurd (false≢true same))) each_small

  pub by_number : (id : List ℕ) (num : ℕ) → num < 2 ^ 32 → id ≡ key_id M.settings.account num → key_at M num ≡ key_of_id M id
  by_number id num small is = sym (find_same (has_id id) (λ k. k.num == num) M.keys (numbers_tell id num small is))

  pub no_number : (id : List ℕ) → ((key : ℕ) → key < 2 ^ 32 → id ≡ key_id M.settings.account key → ⊥) → key_of_id M id ≡ None
  no_number id none = find_none (has_id id) M.keys (none_tells id none)

  -- ---- with the secret

  one_number : (num : ℕ) → AllPairs (λ (x y : Key). (x.num == num) ≡ true → (y.num == num) ≡ false) M.keys
  one_number num = pairs_from (λ (x y : Key). x.num < y.num) (λ (x y : Key). (x.num == num) ≡ true → (y.num == num) ≡ false) M.keys
      (λ x y up is. let same = equal_numbers x.num num is in grind (arith, nat_tests, up, same)) sound.keys.order
    where
      pairs_from : (P Q : Key → Key → Type 0) (ks : List Key) → ((x y : Key) → P x y → Q x y) → AllPairs P ks → AllPairs Q ks
      pairs_from P Q ks each pairs = λ i j d below fits. each (slice_index_or ks i d) (slice_index_or ks j d) (pairs i j d below fits)

  pub by_secret : (c : Credentials) (num : ℕ) → num < 2 ^ 32 → c.id ≡ key_id M.settings.account num → key_by M c ≡ only (has_secret c) (key_at M num)
  by_secret c num small is =
      find_same (λ k. has_id c.id k && has_secret c k) (λ k. k.num == num && has_secret c k) M.keys
      (all_from (λ k. has_id c.id k ≡ (k.num == num)) (λ k. (has_id c.id k && has_secret c k) ≡ (k.num == num && has_secret c k)) M.keys (λ k same. ap (λ b. b && has_secret c k) same) (numbers_tell c.id num small is))
      ∙ find_both (λ k. k.num == num) (has_secret c) M.keys (one_number num)

  pub no_secret : (c : Credentials) → ((key : ℕ) → key < 2 ^ 32 → c.id ≡ key_id M.settings.account key → ⊥) → key_by M c ≡ None
  no_secret c none = find_none (λ k. has_id c.id k && has_secret c k) M.keys
      (all_from (λ k. has_id c.id k ≡ false) (λ k. (has_id c.id k && has_secret c k) ≡ false) M.keys (λ k other. ap (λ b. b && has_secret c k) other) (none_tells c.id none))

  -- a key whose secret is known is found by its id alone
  from_only : (q : Key → Bool) (o : Option Key) (k : Key) → only q o ≡ Some k → o ≡ Some k
  from_only q None k is = absurd (none-some k is)
  from_only q (Some x) k is = at (q x) is
    where
      at : (b : Bool) → (if b then Some x else None) ≡ Some k → Some x ≡ Some k
      at true is = is
      at false is = absurd (none-some k is)

  pub known_by_id : (c : Credentials) (k : Key) → key_by M c ≡ Some k → key_of_id M c.id ≡ Some k
  known_by_id c k is =
      let has = found_has (λ k. has_id c.id k && has_secret c k) (λ (k : Key). k.num < 2 ^ 32) M.keys k each_small is in
      let own = both_hold (has_id c.id k) (has_secret c k) has.0 in
      let id : c.id ≡ key_id M.settings.account k.num = sym ((bytes_decides (key_id M.settings.account k.num) c.id).0 own.0) in
      from_only (has_secret c) (key_of_id M c.id) k
      (ap (only (has_secret c)) (sym (by_number c.id k.num has.1 id)) ∙ sym (by_secret c k.num has.1 id) ∙ is)
