use Rattle.std.proofs.Common.{◌≡◌, length}
use Rattle.http_edge.specs.Stay.{lists}
use Rattle.http_edge.proofs.stay.lists.Given as goal

abbrev pub invariant-parts : goal.invariant-parts
invariant-parts l = lists l.option l.rest ≡ lists l.option l.value

abbrev pub decreases-parts : goal.decreases-parts
decreases-parts l = length l.rest
