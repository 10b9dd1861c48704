use Rattle.sound_steps.proofs.Outcomes.{step_sound, run_sound}
use Rattle.sound_steps.proofs.steps_keep_sound.Goals as goal

pub returns-clause-step : goal.returns-clause-step
returns-clause-step g c K P s sound fit = step_sound K P s sound fit

pub returns-clause-run : goal.returns-clause-run
returns-clause-run g c K M words steps sound fit = run_sound K M words steps sound fit
