use Rattle.std.proofs.Common.{ap, ◌∙◌}
use Rattle.b2_model.specs.Stored.{replay}
use Rattle.snapshot_laws.proofs.Snapshots.{replays}
use Rattle.core_snapshots.proofs.taken.snapshot.Goals as goal

pub returns-clause-replay : goal.returns-clause-replay
returns-clause-replay c = ap replay c.in_ok-records.ensures ∙ replays c.args.core.now c.is_sound.ensures.sound
