use Rattle.workload.proofs.Scripts.{is_script, reads_so}
use Rattle.workload.proofs.laws.small_workloads_are_scripts.Goals as goal

pub returns-clause-script : goal.returns-clause-script
returns-clause-script c = is_script

pub returns-clause-read : goal.returns-clause-read
returns-clause-read c = reads_so
