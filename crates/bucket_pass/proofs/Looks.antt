-- What protects a version.
use Rattle.std.proofs.Common.{◌≡◌, Bool, true, false, ◌&&◌, ◌||◌, List, [], ◌∷◌, Option, Some, None, find, subst, ⊎_elim, refl}
use Rattle.std.specs.List.{list_all}
use Rattle.std.specs.Prelude.{if◌then◌else◌}
use Rattle.std.specs.Option.{is_some}
use Rattle.std.proofs.lemmas.Bool.{and_parts, cases_Bool}
use Rattle.b2_types.specs.declared.kinds.Retention.{Retention}
use Rattle.b2_model.specs.Checks.{some_and}

-- what is held or active, of an upload alone
pub held_or_active : (upload hold : Bool) (p : Retention → Bool) (retention : Option Retention)
    → ((upload && hold) || is_some (if upload then (if some_and p retention then retention else None) else None)) ≡ (upload && (hold || some_and p retention))
held_or_active false hold p retention = refl
held_or_active true true p retention = refl
held_or_active true false p None = refl
held_or_active true false p (Some r) = ⊎_elim (λ (is : p r ≡ true). rw is refl) (λ (is : p r ≡ false). rw is refl) (cases_Bool (p r))

-- what is found among them is as all of them are
pub found_all : {X : Type 0} (p q : X → Bool) (xs : List X) (x : X) → list_all p xs ≡ true → find q xs ≡ Some x → p x ≡ true
found_all p q [] x all found = cc
found_all p q (y ∷ ys) x all found =
    let parts = and_parts (p y) (list_all p ys) all in
    ⊎_elim
    (λ (is : q y ≡ true). let same : y ≡ x = cc (rw is at found) in subst (λ z. p z ≡ true) same parts.0)
    (λ (no : q y ≡ false). found_all p q ys x parts.1 (rw no at found))
    (cases_Bool (q y))
