use Rattle.snapshot_laws.proofs.Snapshots.{replays}
use Rattle.snapshot_laws.proofs.snapshots_replay.Goals as goal

pub returns : goal.returns
returns g c M sound = replays M sound
