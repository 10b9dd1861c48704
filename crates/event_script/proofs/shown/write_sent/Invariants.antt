use Rattle.std.proofs.Common.{◌≡◌, take}
use Rattle.std.specs.Io.KnownBytes.{Appends}
use Rattle.event_script.specs.Shown.{output_of}
use Rattle.event_script.proofs.shown.write_sent.Given as goal

abbrev pub invariant-sends : goal.invariant-sends
invariant-sends g l = record {
  taken : Appends (g.K.Sink.contents l.fn.out) (g.K.Sink.contents l.out) (output_of (take l.send-index l.send-items));
  kept : g.K.Sink.faults l.out ≡ g.K.Sink.faults l.fn.out;
}
