use Rattle.bench_conns.specs.Sound.{IsSound}
use Rattle.bench_conns.proofs.feed.all.Given as goal

abbrev pub invariant-loop-part : goal.invariant-loop-part
invariant-loop-part l = IsSound l.conns
