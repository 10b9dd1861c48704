use Rattle.std.proofs.Common.{◌≡◌, map, take}
use Rattle.upload_heads.specs.Information.{pairs_of, first_amiss}
use Rattle.upload_heads.proofs.information.found_in.Given as goal

abbrev pub invariant-loop-name : goal.invariant-loop-name
invariant-loop-name l = record {
  pairs : l.found.pairs.items ≡ pairs_of l.headers (map (λ name. name.now) (take l.name-index l.names));
  amiss : l.found.amiss ≡ first_amiss l.headers (map (λ name. name.now) (take l.name-index l.names));
}
