use Rattle.sound_states.proofs.Replays.{replay_sound}
use Rattle.sound_states.proofs.replays_are_sound.Goals as goal

pub returns : goal.returns
returns g c rs S fit is = replay_sound rs S fit is
