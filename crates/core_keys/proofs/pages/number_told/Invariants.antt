use Rattle.std.proofs.Common.{◌≡◌, ◌+◌, ◌*◌, fold, min, take}
use Rattle.std.specs.Char.{digit_value}
use Rattle.b2_model.specs.Plan.{number_end}
use Rattle.core_keys.proofs.pages.number_told.Given as goal

abbrev pub invariant-loop-digit : goal.invariant-loop-digit
invariant-loop-digit l = l.number ≡ min (fold (λ n digit. 16 * n + digit_value digit) 0 (take l.digit-index l.digits)) number_end
