-- The exit status of a run.
use Rattle.std.specs.Prelude.{ℕ}
use Rattle.b2_server.specs.declared.run.Status.{Status}
use Rattle.b2_server.specs.declared.run.Status.TheVariants as status

abbrev pub exit_number : Status → ℕ
exit_number status.Ok = 0
exit_number status.Usage = 1
exit_number status.Memory = 2
exit_number status.SourceFault = 5
exit_number status.SinkFault = 6
exit_number (status.BadLine line) = 7
