use Rattle.bench_conns.specs.Sound.{IsSound}
use Rattle.bench_conns.proofs.feed.interleaved.Given as goal

abbrev pub invariant-loop : goal.invariant-loop
invariant-loop l = IsSound l.conns
