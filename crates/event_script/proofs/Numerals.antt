-- A number that is read, below 2^32.
use Rattle.std.proofs.Common.{◌≡◌, ◌≢◌, ℕ, ◌<◌, ◌^◌, List, Result, Ok, Err, Option, Some, None, MatchOption, sym, ap, ◌∙◌, arith, decimal}
use Rattle.std.proofs.lemmas.Fmt.{decimal_injective}
use Rattle.std.specs.Result.{OkIff, result_ok}

pub narrow : {E : Type 0} (text : List ℕ) (n : ℕ) (r : Result ℕ E) (o : Option ℕ) → n < 2 ^ 64 → text ≡ decimal n → OkIff r (n < 2 ^ 32) n → o ≡ result_ok r
    → MatchOption o ((m : ℕ) → m < 2 ^ 32 → text ≢ decimal m) (λ m. text ≡ decimal m)
narrow text n (Ok m) (Some k) fits is found same = is ∙ ap decimal (cc (found.1, same))
narrow text n (Ok m) None fits is found same = cc same
narrow text n (Err e) (Some k) fits is found same = cc same
narrow text n (Err e) None fits is found same = λ m small other. found (omega (arith, decimal_injective m n (omega arith) fits (sym other ∙ is)))
