-- A version that is taken out and put back in another form is changed in its place.
use Rattle.std.proofs.Common.{◌≡◌, ℕ, ◌<◌, ◌==◌, ◌&&◌, nat_lt, Bool, true, false, not, cond, Some, List, [], ◌∷◌, find, filter, map, sym, ap, ◌∙◌, ⊎_elim, refl, arith}
use Rattle.std.specs.List.{Contains, list_any}
use Rattle.std.proofs.lemmas.Bool.{and_parts, and_right, cases_Bool, eqb-true}
use Rattle.std.proofs.lemmas.Bool.Decides.{nat_tests}
use Rattle.b2_types.specs.declared.version.VersionOf.{VersionOf}
use Rattle.b2_model.specs.Lists.{put_by}
use Rattle.index_rows.specs.OwnRows.{AreNumbered}
use Rattle.index_rows.proofs.Members.{here, later, pairs_head, pairs_tail}
use Rattle.kept_versions.proofs.Numbered.{all_kept, found_there, some_is}

module _ {C : Type 0} (b k : ℕ) where
  abbrev is_at : VersionOf C → Bool
  is_at v = v.bucket == b && v.num == k

  -- before all whose numbers are above its own
  put_first : (u : VersionOf C) (ws : List (VersionOf C)) → ((w : VersionOf C) → Contains ws w → u.num < w.num) → put_by (λ w. w.num) u ws ≡ u ∷ ws
  put_first u [] above = refl
  put_first u (w ∷ ws) above = let low = above w (here w ws) in let first : nat_lt u.num w.num ≡ true = grind (arith, nat_tests) in rw first refl

  none_at : (f : VersionOf C → VersionOf C) (ws : List (VersionOf C)) → ((w : VersionOf C) → Contains ws w → is_at w ≡ false) → map (λ w. cond (is_at w) (f w) w) ws ≡ ws
  none_at f [] other = refl
  none_at f (w ∷ ws) other = rw (other w (here w ws)) (ap (λ l. w ∷ l) (none_at f ws (λ x a. other x (later w ws x a))))

  past : (w x : VersionOf C) → is_at w ≡ true → w.num < x.num → is_at x ≡ false
  past w x is high =
      let n = eqb-true w.num k (and_parts (w.bucket == b) (w.num == k) is).1 in
      let other : (x.num == k) ≡ false = grind (arith, nat_tests) in
      and_right (x.bucket == b) (x.num == k) other

  pub put_back : (f : VersionOf C → VersionOf C) (v u : VersionOf C) (vs : List (VersionOf C)) → AreNumbered vs → find (λ w. w.bucket == b && w.num == k) vs ≡ Some v → u.num ≡ k → u ≡ f v
      → put_by (λ w. w.num) u (filter (λ w. not (w.bucket == b && w.num == k)) vs) ≡ map (λ w. cond (w.bucket == b && w.num == k) (f w) w) vs
  put_back f v u [] up found num is = cc
  put_back f v u (w ∷ ws) up found num is = ⊎_elim
      (λ (hit : is_at w ≡ true).
      let same : w ≡ v = some_is w v (rw hit at found) in
      let n : w.num ≡ k = eqb-true w.num k (and_parts (w.bucket == b) (w.num == k) hit).1 in
      let others : (x : VersionOf C) → Contains ws x → is_at x ≡ false = λ x a. past w x hit (pairs_head (λ y z. y.num < z.num) w ws up x a) in
      let rest : filter (λ x. not (is_at x)) ws ≡ ws = all_kept (λ x. not (is_at x)) ws (λ x a. ap not (others x a)) in
      rw hit (ap (put_by (λ x. x.num) u) rest ∙ put_first u ws (λ x a. let high = pairs_head (λ y z. y.num < z.num) w ws up x a in omega (arith, high, n, num)) ∙ ap (λ l. u ∷ l) (sym (none_at f ws others)) ∙ ap (λ x. x ∷ map (λ w. cond (is_at w) (f w) w) ws) (is ∙ ap f (sym same))))
      (λ (other : is_at w ≡ false).
      let rest = rw other at found in
      let there = found_there is_at ws v rest in
      let low = pairs_head (λ y z. y.num < z.num) w ws up v there.0 in
      let m : v.num ≡ k = eqb-true v.num k (and_parts (v.bucket == b) (v.num == k) there.1).1 in
      let after : nat_lt u.num w.num ≡ false = grind (arith, nat_tests) in
      rw (other, after) (ap (λ l. w ∷ l) (put_back f v u ws (pairs_tail (λ y z. y.num < z.num) w ws up) rest num is)))
      (cases_Bool (is_at w))

  -- its number is free meanwhile
  pub gone_free : (vs : List (VersionOf C)) (v : VersionOf C) → AreNumbered vs → find (λ w. w.bucket == b && w.num == k) vs ≡ Some v → list_any (λ w. w.num == k) (filter (λ w. not (w.bucket == b && w.num == k)) vs) ≡ false
  gone_free [] v up found = refl
  gone_free (w ∷ ws) v up found = ⊎_elim
      (λ (hit : is_at w ≡ true).
      let n : w.num ≡ k = eqb-true w.num k (and_parts (w.bucket == b) (w.num == k) hit).1 in
      let others : (x : VersionOf C) → Contains ws x → is_at x ≡ false = λ x a. past w x hit (pairs_head (λ y z. y.num < z.num) w ws up x a) in
      let rest : filter (λ x. not (is_at x)) ws ≡ ws = all_kept (λ x. not (is_at x)) ws (λ x a. ap not (others x a)) in
      rw hit (ap (list_any (λ x. x.num == k)) rest ∙ none_any ws (λ x a. let high = pairs_head (λ y z. y.num < z.num) w ws up x a in grind (arith, nat_tests))))
      (λ (other : is_at w ≡ false).
      let rest = rw other at found in
      let there = found_there is_at ws v rest in
      let low = pairs_head (λ y z. y.num < z.num) w ws up v there.0 in
      let m : v.num ≡ k = eqb-true v.num k (and_parts (v.bucket == b) (v.num == k) there.1).1 in
      let far : (w.num == k) ≡ false = grind (arith, nat_tests) in
      rw (other, far) (gone_free ws v (pairs_tail (λ y z. y.num < z.num) w ws up) rest))
      (cases_Bool (is_at w))
    where
      none_any : (xs : List (VersionOf C)) → ((x : VersionOf C) → Contains xs x → (x.num == k) ≡ false) → list_any (λ x. x.num == k) xs ≡ false
      none_any [] each = refl
      none_any (x ∷ xs) each = rw (each x (here x xs)) (none_any xs (λ y a. each y (later x xs y a)))
