-- Faults that are handed on.
use Rattle.std.proofs.Common.{◌≡◌, ◌≤◌, ℕ, Result, Err, subst, arith}
use Rattle.b2_base.specs.Failure.{IfFault}
use Rattle.b2_base.specs.declared.failure.Or.{Or}
use Rattle.b2_base.specs.declared.failure.Or.TheVariants as or
use Rattle.outside_traits.specs.Causes.{Rose}
use Rattle.stored_contents.specs.Causes.{IfAny}

pub rose_since : (first before now : ℕ) → first ≤ before → Rose before now → Rose first now
rose_since first before now later rose = omega (arith, later, rose)

pub any_told : (T : Type 0) {F : Type 0} (e : Or F) (P : F → Type 0) → IfAny e P → IfFault {T = T} (Err e) P
any_told T or.Memory P is = tt
any_told T (or.Fault f) P is = is

pub told_any : {T F : Type 0} (r : Result T (Or F)) (e : Or F) (P Q : F → Type 0) → ((f : F) → P f → Q f) → r ≡ Err e → IfFault r P → IfAny e Q
told_any {T} {F} r e P Q so err is = by e (subst (λ x. IfFault x P) err is)
  where
    by : (e : Or F) → IfFault {T = T} (Err e) P → IfAny e Q
    by or.Memory is = tt
    by (or.Fault f) is = so f is
