use Rattle.contents_steps.proofs.Replays.{replay-by, many-by}
use Rattle.contents_steps.proofs.replays_stand_for_replays.Goals as goal

pub returns-clause-one : goal.returns-clause-one
returns-clause-one g c f rs = replay-by f rs

pub returns-clause-many : goal.returns-clause-many
returns-clause-many g c f R es are = many-by f R es are
