use Rattle.step_records.proofs.Steps.{step_goes_on, run_goes_on}
use Rattle.step_records.proofs.replays_go_on_with_steps.Goals as goal

pub returns-clause-step : goal.returns-clause-step
returns-clause-step g c K P s sound fit = step_goes_on K P s sound fit

pub returns-clause-run : goal.returns-clause-run
returns-clause-run g c K P steps sound fit = run_goes_on K P steps sound fit
