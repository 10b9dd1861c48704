use Rattle.std.proofs.Common.{[]}
use Rattle.b2_model.specs.Changes.{new_store}
use Rattle.sound_states.proofs.Made.{new_store_sound}
use Rattle.step_records.proofs.Logs.{log_goes_on, log_of_run}
use Rattle.step_records.proofs.logs_replay.Goals as goal

pub returns-clause-go_on : goal.returns-clause-go_on
returns-clause-go_on g c M more sound = log_goes_on M more sound

pub returns-clause-run : goal.returns-clause-run
returns-clause-run g c K P steps sound fit = log_of_run K P steps sound fit

pub returns-clause-made : goal.returns-clause-made
returns-clause-made g c K settings t words steps fit =
    log_of_run K (record { state = new_store settings t; words = words; answers = [] }) steps (new_store_sound settings t) fit
