-- Versions by number.
use Rattle.std.proofs.Common.{◌≡◌, ◌≢◌, ℕ, ◌<◌, ◌⊎◌, ◌↔◌, ◌==◌, ◌&&◌, ◌||◌, Bool, true, false, not, Option, None, Some, cond, List, [], ◌∷◌, find, filter, map, subst, sym, ap, ◌∙◌, inl, inr, ⊎_elim, refl, arith}
use Rattle.std.specs.List.{All, AllPairs, Contains, list_any}
use Rattle.std.specs.Map.{keys_of}
use Rattle.std.proofs.lemmas.Bool.{cases_Bool, eqb-true, eqb-false, false≢true}
use Rattle.std.proofs.lemmas.Bool.Decides.{nat_tests}
use Rattle.b2_types.specs.declared.version.VersionOf.{VersionOf}
use Rattle.b2_model.specs.Lists.{put_by}
use Rattle.b2_model.specs.Plan.{id_of}
use Rattle.b2_model.specs.Version.{is_it}
use Rattle.version_index.specs.declared.spot.Spot.{Spot}
use Rattle.version_index.specs.Rows.{AreAscending}
use Rattle.index_rows.specs.OwnRows.{AreNumbered, AreRowsOf, HaveOwnNumbers, by_number}
use Rattle.index_rows.proofs.Members.{first_or_rest, here, kept, later, none_in_empty, pairs_head, pairs_tail}
use Rattle.index_rows.proofs.Places.{found_at, made, numbered, of_rows, one_number}

module _ {X : Type 0} where
  pub some_is : (x y : X) → Some x ≡ Some y → x ≡ y
  some_is x y is = cc

  -- what is found is there, and passes
  pub found_there : (p : X → Bool) (xs : List X) (x : X) → find p xs ≡ Some x → Contains xs x × (p x ≡ true)
  found_there p [] x is = cc
  found_there p (y ∷ ys) x is = ⊎_elim
      (λ (passes : p y ≡ true). let same = some_is y x (rw passes at is) in (subst (Contains (y ∷ ys)) same (here y ys), subst (λ z. p z ≡ true) same passes))
      (λ (fails : p y ≡ false). let rest = found_there p ys x (rw fails at is) in (later y ys x rest.0, rest.1))
      (cases_Bool (p y))

  -- where none is found, each fails
  pub none_found : (p : X → Bool) (xs : List X) (x : X) → find p xs ≡ None → Contains xs x → p x ≡ false
  none_found p [] x is a = absurd (none_in_empty x a)
  none_found p (y ∷ ys) x is a = ⊎_elim
      (λ (passes : p y ≡ true). let some : Some y ≡ None = rw passes at is in cc)
      (λ (fails : p y ≡ false). elim ((first_or_rest y ys x).0 a) [ inl same ↦ subst (λ z. p z ≡ false) same fails | inr b ↦ none_found p ys x (rw fails at is) b ])
      (cases_Bool (p y))

  pub find_none : (p : X → Bool) (xs : List X) → ((x : X) → Contains xs x → p x ≡ false) → find p xs ≡ None
  find_none p [] each = refl
  find_none p (x ∷ xs) each = rw (each x (here x xs)) (find_none p xs (λ y a. each y (later x xs y a)))

  pub any_none : (p : X → Bool) (xs : List X) (x : X) → list_any p xs ≡ false → Contains xs x → p x ≡ false
  any_none p [] x is a = absurd (none_in_empty x a)
  any_none p (y ∷ ys) x is a = ⊎_elim
      (λ (passes : p y ≡ true). absurd (false≢true (sym is ∙ rw passes refl)))
      (λ (fails : p y ≡ false). elim ((first_or_rest y ys x).0 a) [ inl same ↦ subst (λ z. p z ≡ false) same fails | inr b ↦ any_none p ys x (rw fails at is) b ])
      (cases_Bool (p y))

  -- two tests that agree on what is there keep the same
  pub same_kept : (p q : X → Bool) (xs : List X) → ((x : X) → Contains xs x → p x ≡ q x) → filter p xs ≡ filter q xs
  same_kept p q [] each = refl
  same_kept p q (x ∷ xs) each = ⊎_elim
      (λ (passes : q x ≡ true). rw (passes, each x (here x xs) ∙ passes) (ap (λ l. x ∷ l) (same_kept p q xs (λ y a. each y (later x xs y a)))))
      (λ (fails : q x ≡ false). rw (fails, each x (here x xs) ∙ fails) (same_kept p q xs (λ y a. each y (later x xs y a))))
      (cases_Bool (q x))

  pub all_kept : (p : X → Bool) (xs : List X) → ((x : X) → Contains xs x → p x ≡ true) → filter p xs ≡ xs
  all_kept p [] each = refl
  all_kept p (x ∷ xs) each = rw (each x (here x xs)) (ap (λ l. x ∷ l) (all_kept p xs (λ y a. each y (later x xs y a))))

module _ {C : Type 0} where
  -- versions by number are determined by which they are
  pub one_list : (xs ys : List (VersionOf C)) → AreNumbered xs → AreNumbered ys → ((v : VersionOf C) → Contains xs v ↔ Contains ys v) → xs ≡ ys
  one_list [] [] up also same = refl
  one_list [] (y ∷ ys) up also same = absurd (none_in_empty y ((same y).1 (here y ys)))
  one_list (x ∷ xs) [] up also same = absurd (none_in_empty x ((same x).0 (here x xs)))
  one_list (x ∷ xs) (y ∷ ys) up also same =
      let is : x ≡ y = elim ((first_or_rest y ys x).0 ((same x).0 (here x xs))) [
        | inl first ↦ sym first
        | inr a ↦ elim ((first_or_rest x xs y).0 ((same y).1 (here y ys))) [
          | inl first ↦ first
          | inr b ↦ absurd (let low = pairs_head (λ v w. v.num < w.num) x xs up y b in let high = pairs_head (λ v w. v.num < w.num) y ys also x a in omega arith)
        ]
      ] in
      let rest : xs ≡ ys = one_list xs ys (pairs_tail (λ v w. v.num < w.num) x xs up) (pairs_tail (λ v w. v.num < w.num) y ys also) (λ v. (
        λ a. elim ((first_or_rest y ys v).0 ((same v).0 (later x xs v a))) [ inl e ↦ absurd (let low = pairs_head (λ v w. v.num < w.num) x xs up v a in let n = ap (λ u. u.num) (is ∙ e) in omega arith) | inr b ↦ b ],
        λ a. elim ((first_or_rest x xs v).0 ((same v).1 (later y ys v a))) [ inl e ↦ absurd (let low = pairs_head (λ v w. v.num < w.num) y ys also v a in let n = ap (λ u. u.num) (sym is ∙ e) in omega arith) | inr b ↦ b ],
      )) in
      rw (is, rest) refl
