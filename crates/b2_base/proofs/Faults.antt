-- What is known of a fault goes over to a weaker fact, and to another result with the same error.
use Rattle.std.proofs.Common.{◌≡◌, Result, Err}
use Rattle.b2_base.specs.declared.failure.Or.{Or}
use Rattle.b2_base.specs.declared.failure.Or.TheVariants as or
use Rattle.b2_base.specs.Failure.{IfFault}

weaker_at : {T S F : Type 0} (e : Or F) (P Q : F → Type 0) → ((f : F) → P f → Q f) → (r : Result T (Or F)) → r ≡ Err e → IfFault r P → (s : Result S (Or F)) → s ≡ Err e → IfFault s Q
weaker_at or.Memory P Q weaker r is known s same = rw same tt
weaker_at (or.Fault f) P Q weaker r is known s same = rw same (weaker f (rw is at known))

-- the exit of a `?` that hands the fault on
pub IfFault-handed : {T S F : Type 0} (e : Or F) (P Q : F → Type 0) → ((f : F) → P f → Q f) → (r : Result T (Or F)) → r ≡ Err e → IfFault r P → (s : Result S (Or F)) → s ≡ Err e → IfFault s Q
IfFault-handed e P Q weaker r is known s same = weaker_at e P Q weaker r is known s same
