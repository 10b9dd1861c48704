use Rattle.std.proofs.Common.{map}
use Rattle.core_snapshots.proofs.ByNumber.{IsListed}
use Rattle.core_snapshots.proofs.numbered.listed.Given as goal

abbrev pub invariant-loop-version : goal.invariant-loop-version
invariant-loop-version l = IsListed l.core (map (λ v. v.now) l.versions.items) l.version-iterator
