-- Of rules that stand one after the other, the first that fails is told.
use Rattle.std.proofs.Common.{◌≡◌, Bool, true, false, List, [], ◌∷◌, ◌++◌, Some, None, refl, sym, ap, ◌∙◌}
use Rattle.b2_types.specs.declared.fault.Fault.{Fault}
use Rattle.b2_model.specs.Checks.{Check, first_fault, or_else}

pub then_next : (xs ys : List Check) → first_fault (xs ++ ys) ≡ or_else (first_fault xs) (first_fault ys)
then_next [] ys = refl
then_next (x ∷ xs) ys = here x.fails refl (then_next xs ys)
  where
    here : (b : Bool) → x.fails ≡ b → first_fault (xs ++ ys) ≡ or_else (first_fault xs) (first_fault ys) → first_fault (x ∷ xs ++ ys) ≡ or_else (first_fault (x ∷ xs)) (first_fault ys)
    here true is more = rw is refl
    here false is more = rw is more

-- the first rules refuse
pub by_first : (a b : List Check) (f : Fault) → Some f ≡ first_fault a → Some f ≡ first_fault (a ++ b)
by_first a b f is = sym (then_next a b ∙ ap (λ o. or_else o (first_fault b)) (sym is))

-- they let it pass
pub by_next : (a b : List Check) → None ≡ first_fault a → first_fault b ≡ first_fault (a ++ b)
by_next a b none = sym (then_next a b ∙ ap (λ o. or_else o (first_fault b)) (sym none))

-- rules of three groups, of which the first two pass
pub by_third : (a b c : List Check) → None ≡ first_fault a → None ≡ first_fault b → first_fault c ≡ first_fault (a ++ b ++ c)
by_third a b c one two = by_next (a ++ b) c (two ∙ by_next a b one)

-- the first of three groups refuses
pub by_front : (a b c : List Check) (f : Fault) → Some f ≡ first_fault a → Some f ≡ first_fault (a ++ b ++ c)
by_front a b c f is = by_first (a ++ b) c f (by_first a b f is)
