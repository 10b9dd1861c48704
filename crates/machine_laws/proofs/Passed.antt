-- Rules of which the first that fails is told, and rules of which none fails.
use Rattle.std.proofs.Common.{◌≡◌, Bool, true, false, List, [], ◌∷◌, ◌++◌, All, Some, None, refl, sym, ap, ◌∙◌}
use Rattle.std.proofs.lemmas.Bool.{false≢true}
use Rattle.std.proofs.lemmas.Option.{none-some}
use Rattle.std.proofs.lemmas.List.Elements.{All-head, All-tail}
use Rattle.b2_types.specs.declared.fault.Fault.{Fault}
use Rattle.b2_model.specs.Checks.{Check, first_fault, IsFirstFailing}

-- ---- the first rule that fails is told

skipped : (before : List Check) (at : Check) (after : List Check) → All (λ c. c.fails ≡ false) before → at.fails ≡ true → first_fault (before ++ at ∷ after) ≡ Some at.fault
skipped [] at after pass fails = rw fails refl
skipped (c ∷ cs) at after pass fails =
    let head : c.fails ≡ false = All-head (λ c. c.fails ≡ false) c cs pass in
    rw head (skipped cs at after (All-tail (λ c. c.fails ≡ false) c cs pass) fails)

pub told_first : (checks : List Check) (fault : Fault) → IsFirstFailing checks fault → first_fault checks ≡ Some fault
told_first checks fault first = ap first_fault first.is ∙ skipped first.before first.at first.after first.pass first.fails ∙ ap Some first.told

-- ---- nothing fails

pub passed : (c : Check) (cs : List Check) (fails : Bool) → c.fails ≡ fails → first_fault (c ∷ cs) ≡ None → (c.fails ≡ false) × (first_fault cs ≡ None)
passed c cs true is none = let told : Some c.fault ≡ None = rw is at none in absurd (none-some c.fault (sym told))
passed c cs false is none = (is, rw is at none)

pub none_more : (c : Check) (cs : List Check) → c.fails ≡ false → first_fault cs ≡ None → first_fault (c ∷ cs) ≡ None
none_more c cs pass none = rw pass none

-- no rule of two lists fails where none of both together does
pub none_in : (xs ys : List Check) → first_fault (xs ++ ys) ≡ None → (first_fault xs ≡ None) × (first_fault ys ≡ None)
none_in [] ys none = (refl, none)
none_in (x ∷ xs) ys none =
    let both = passed x (xs ++ ys) x.fails refl none in
    let rest = none_in xs ys both.1 in
    (none_more x xs both.0 rest.0, rest.1)

pub never_none : (c : Check) (cs : List Check) → c.fails ≡ true → first_fault (c ∷ cs) ≡ None → ⊥
never_none c cs fails none = false≢true (sym (passed c cs true fails none).0 ∙ fails)
