use Rattle.std.proofs.Common.{◌≡◌, take}
use Rattle.std.specs.List.{flat_map}
use Rattle.std.specs.Io.KnownBytes.{Appends}
use Rattle.event_script.proofs.shown.write_parts.Given as goal

abbrev pub invariant-parts : goal.invariant-parts
invariant-parts g l = record {
  taken : Appends (g.K.Sink.contents l.fn.out) (g.K.Sink.contents l.out) (flat_map (λ part. part.now) (take l.part-index l.parts));
  kept : g.K.Sink.faults l.out ≡ g.K.Sink.faults l.fn.out;
}
