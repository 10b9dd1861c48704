use Rattle.std.proofs.Common.{◌≡◌, map, take}
use Rattle.event_script.proofs.script.Script.clock.Given as goal

abbrev pub invariant-readings : goal.invariant-readings
invariant-readings l = l.readings.items ≡ map (λ t. t.reading) (take l.timed-index l.timed-items)
