-- The exit of a `?` that hands on what was amiss.
use Rattle.std.proofs.Common.{◌≡◌, Err}
use Rattle.std.specs.Prelude.{Result}
use Rattle.b2_base.specs.declared.failure.Or.{Or}
use Rattle.b2_base.specs.declared.failure.Or.TheVariants as or
use Rattle.json_shape.specs.Fields.{Gives}

pub gives_err : {T U X Y F : Type 0} (view : T → X) (other : U → Y) (e : Or F) (read : Result X F) (wide : Result Y F)
    → ((f : F) → wide ≡ Err f → read ≡ Err f) → Gives other (Err e) wide → (r : Result T (Or F)) → r ≡ Err e → Gives view r read
gives_err view other or.Memory read wide same fault r is = rw is tt
gives_err view other (or.Fault f) read wide same fault r is = rw is (same f fault)
