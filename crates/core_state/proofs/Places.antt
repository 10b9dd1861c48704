-- Where an item comes among others by number.
use Rattle.std.proofs.Common.{◌≡◌, ℕ, suc, ◌+◌, ◌<◌, ◌≤◌, ◌==◌, nat_lt, Bool, true, false, not, cond, None, Some, List, [], ◌∷◌, All, length, map, set, refl, sym, ap, arith}
use Rattle.std.specs.Prelude.{position, unwrap_or, if◌then◌else◌}
use Rattle.std.specs.List.{insert, position_or_len}
use Rattle.std.proofs.lemmas.Bool.Decides.{nat_tests}
use Rattle.std.proofs.lemmas.List.Elements.{All-head, All-tail}
use Rattle.b2_model.specs.Lists.{put_by}
use Rattle.sound_states.specs.Sound.{IsAscending}
use Rattle.sound_states.proofs.Ascending.{pairs_head, pairs_tail}
use Rattle.sound_states.proofs.Tests.{equal_numbers}

one_more : (n : ℕ) → 1 + n ≡ suc n
one_more n = omega arith

module _ {X : Type 0} (p : X → Bool) where
  pub within : (xs : List X) → position_or_len p xs ≤ length xs
  within [] = omega arith
  within (x ∷ xs) = by_case (p x) (within xs)
    where
      by_case : (b : Bool) → position_or_len p xs ≤ length xs → cond (not b) (1 + position_or_len p xs) 0 ≤ length (x ∷ xs)
      by_case true le = omega arith
      by_case false le = omega (arith, le)

  -- the place, or that behind all
  pub or_length : (xs : List X) → unwrap_or (position p xs) (length xs) ≡ position_or_len p xs
  or_length xs = by_case (nat_lt (position_or_len p xs) (length xs)) refl (within xs)
    where
      by_case : (b : Bool) → nat_lt (position_or_len p xs) (length xs) ≡ b → position_or_len p xs ≤ length xs
          → unwrap_or (cond b (Some (position_or_len p xs)) None) (length xs) ≡ position_or_len p xs
      by_case true is le = refl
      by_case false is le = grind (arith, nat_tests)

  -- one was found, or none
  pub found_within : (xs : List X) (i : ℕ) → position p xs ≡ Some i → (position_or_len p xs < length xs) × (position_or_len p xs ≡ i)
  found_within xs i is = by_case (nat_lt (position_or_len p xs) (length xs)) refl is
    where
      by_case : (b : Bool) → nat_lt (position_or_len p xs) (length xs) ≡ b → cond b (Some (position_or_len p xs)) None ≡ Some i
          → (position_or_len p xs < length xs) × (position_or_len p xs ≡ i)
      by_case true test some = (grind (arith, nat_tests), cc)
      by_case false test some = absurd (cc)

  pub none_within : (xs : List X) → position p xs ≡ None → length xs ≤ position_or_len p xs
  none_within xs is = by_case (nat_lt (position_or_len p xs) (length xs)) refl is
    where
      by_case : (b : Bool) → nat_lt (position_or_len p xs) (length xs) ≡ b → cond b (Some (position_or_len p xs)) None ≡ None
          → length xs ≤ position_or_len p xs
      by_case true test none = absurd (cc)
      by_case false test none = grind (arith, nat_tests)

module _ {X : Type 0} (num : X → ℕ) where
  -- an item that is put before the first of a greater number stands at its place
  pub put_at : (x : X) (xs : List X) → insert xs (position_or_len (λ y. nat_lt (num x) (num y)) xs) x ≡ put_by num x xs
  put_at x [] = refl
  put_at x (y ∷ ys) = by_case (nat_lt (num x) (num y)) (put_at x ys)
    where
      by_case : (b : Bool) → insert ys (position_or_len (λ y. nat_lt (num x) (num y)) ys) x ≡ put_by num x ys
          → insert (y ∷ ys) (cond (not b) (1 + position_or_len (λ y. nat_lt (num x) (num y)) ys) 0) x ≡ (if b then x ∷ y ∷ ys else y ∷ put_by num x ys)
      by_case true rest = refl
      by_case false rest = rw (one_more (position_or_len (λ y. nat_lt (num x) (num y)) ys)) (ap (λ l. y ∷ l) rest)

  abbrev in_place : X → X → X
  in_place b x = if num x == num b then b else x

  others_stay : (b : X) (xs : List X) → All (λ x. num x ≡ num b → ⊥) xs → map (in_place b) xs ≡ xs
  others_stay b [] apart = refl
  others_stay b (x ∷ xs) apart =
      by_case (num x == num b) refl (All-head (λ x. num x ≡ num b → ⊥) x xs apart) (others_stay b xs (All-tail (λ x. num x ≡ num b → ⊥) x xs apart))
    where
      by_case : (same : Bool) → (num x == num b) ≡ same → (num x ≡ num b → ⊥) → map (in_place b) xs ≡ xs → (if same then b else x) ∷ map (in_place b) xs ≡ x ∷ xs
      by_case true is far rest = absurd (far (equal_numbers (num x) (num b) is))
      by_case false is far rest = ap (λ l. x ∷ l) rest

  above : (b x : X) (xs : List X) → num x ≡ num b → All (λ y. num x < num y) xs → All (λ y. num y ≡ num b → ⊥) xs
  above b x xs same high k d inside = λ equal. let up = high k d inside in omega (arith, up, same, equal)

  -- of those by number, the one at the place is changed
  pub set_at : (b : X) (xs : List X) → IsAscending num xs → position_or_len (λ x. num x == num b) xs < length xs
      → set xs (position_or_len (λ x. num x == num b) xs) b ≡ map (in_place b) xs
  set_at b [] order inside = absurd (omega (arith, inside))
  set_at b (x ∷ xs) order inside =
      by_case (num x == num b) refl inside (set_at b xs (pairs_tail (λ x y. num x < num y) x xs order))
    where
      by_case : (same : Bool) → (num x == num b) ≡ same → cond (not same) (1 + position_or_len (λ x. num x == num b) xs) 0 < length (x ∷ xs)
          → (position_or_len (λ x. num x == num b) xs < length xs → set xs (position_or_len (λ x. num x == num b) xs) b ≡ map (in_place b) xs)
          → set (x ∷ xs) (cond (not same) (1 + position_or_len (λ x. num x == num b) xs) 0) b ≡ (if same then b else x) ∷ map (in_place b) xs
      by_case true is low rest =
          ap (λ l. b ∷ l) (sym (others_stay b xs (above b x xs (equal_numbers (num x) (num b) is) (pairs_head (λ x y. num x < num y) x xs order))))
      by_case false is low rest = rw (one_more (position_or_len (λ x. num x == num b) xs)) (ap (λ l. x ∷ l) (rest (omega (arith, low))))

  -- none has the number
  pub none_at : (b : X) (xs : List X) → length xs ≤ position_or_len (λ x. num x == num b) xs → map (in_place b) xs ≡ xs
  none_at b [] past = refl
  none_at b (x ∷ xs) past = by_case (num x == num b) past (none_at b xs)
    where
      by_case : (same : Bool) → length (x ∷ xs) ≤ cond (not same) (1 + position_or_len (λ x. num x == num b) xs) 0
          → (length xs ≤ position_or_len (λ x. num x == num b) xs → map (in_place b) xs ≡ xs) → (if same then b else x) ∷ map (in_place b) xs ≡ x ∷ xs
      by_case true past rest = absurd (omega (arith, past))
      by_case false past rest = ap (λ l. x ∷ l) (rest (omega (arith, past)))
