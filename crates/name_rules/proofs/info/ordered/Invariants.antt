use Rattle.std.proofs.Common.{map, take}
use Rattle.std.specs.List.Sorted.{IsPermutation}
use Rattle.name_rules.specs.InfoPairs.{lowered}
use Rattle.name_rules.proofs.info.ordered.Given as goal

abbrev pub invariant-pairs : goal.invariant-pairs
invariant-pairs l = IsPermutation (map lowered (take l.pair-index l.pairs)) l.map.entries
