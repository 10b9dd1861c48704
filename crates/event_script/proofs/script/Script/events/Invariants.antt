use Rattle.std.proofs.Common.{◌≡◌, map, take}
use Rattle.event_script.proofs.script.Script.events.Given as goal

abbrev pub invariant-events : goal.invariant-events
invariant-events l = l.events.items ≡ map (λ t. t.event) (take l.timed-index l.timed-items)
