use Rattle.sound_states.proofs.Records.{record_sound}
use Rattle.sound_states.proofs.records_keep_sound.Goals as goal

pub returns : goal.returns
returns g c M r sound applies fit = record_sound M r.at r.change sound applies fit
