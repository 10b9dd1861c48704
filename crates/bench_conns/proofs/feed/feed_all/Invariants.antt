use Rattle.bench_conns.specs.Sound.{IsSound}
use Rattle.bench_conns.proofs.feed.feed_all.Given as goal

abbrev pub invariant-loop-c : goal.invariant-loop-c
invariant-loop-c l = IsSound l.conns
