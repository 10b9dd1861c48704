use Rattle.std.proofs.Common.{◌≡◌, map, take}
use Rattle.b2_model.specs.Shown.{shown_limit}
use Rattle.core_tokens.proofs.account.limits_of.Given as goal

abbrev pub invariant-loop-num : goal.invariant-loop-num
invariant-loop-num l = l.limits.items ≡ map (shown_limit l.core) (take l.num-index l.buckets)
