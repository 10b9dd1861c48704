use Rattle.step_records.proofs.Fronts.{run_fronts}
use Rattle.step_records.proofs.fronts_of_logs_replay.Goals as goal

pub returns : goal.returns
returns g c K P steps front rest sound fit is = run_fronts K P steps front rest sound fit is
