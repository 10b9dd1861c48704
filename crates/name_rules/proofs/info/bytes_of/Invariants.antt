use Rattle.std.proofs.Common.{◌≡◌, ◌-◌, ◌^◌, min, take}
use Rattle.name_rules.specs.InfoPairs.{size}
use Rattle.name_rules.proofs.info.bytes_of.Given as goal

abbrev pub invariant-pairs : goal.invariant-pairs
invariant-pairs l = l.bytes ≡ min (size (take l.pair-index l.pairs)) (2 ^ 64 - 1)
