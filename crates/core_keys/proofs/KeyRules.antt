-- The rules of a call on a key, of which the last says that there is such a key.
use Rattle.std.proofs.Common.{◌≡◌, List, [], ◌++◌, Option, Some, None, refl, ap, ◌∙◌}
use Rattle.b2_types.specs.declared.fault.Fault.{Fault}
use Rattle.b2_model.specs.Checks.{Check, first_fault, or_else}
use Rattle.core_policy.proofs.Order.{by_front, then_next}

or_none : (o : Option Fault) → or_else o None ≡ o
or_none None = refl
or_none (Some f) = refl

-- the rules behind do not fail
first_alone : (a z : List Check) → first_fault z ≡ None → first_fault (a ++ [] ++ z) ≡ first_fault a
first_alone a z none =
    then_next (a ++ []) z ∙ ap (or_else (first_fault (a ++ []))) none ∙ or_none (first_fault (a ++ [])) ∙ then_next a [] ∙ or_none (first_fault a)

pub still_refused : (a b z : List Check) (f : Fault) → first_fault z ≡ None → Some f ≡ first_fault (a ++ [] ++ z) → Some f ≡ first_fault (a ++ b ++ z)
still_refused a b z f none is = by_front a b z f (is ∙ first_alone a z none)
