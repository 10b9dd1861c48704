use Rattle.std.proofs.Common.{◌≡◌}
use Rattle.std.specs.List.{list_any}
use Rattle.http_edge.specs.Stay.{lists, has_option}
use Rattle.http_edge.proofs.stay.has_option.Given as goal

abbrev pub invariant-loop-value : goal.invariant-loop-value
invariant-loop-value l = list_any (λ value. lists l.option value.bytes) l.value-iterator ≡ has_option l.option l.headers
