use Rattle.b2_server.proofs.Once.{output_served}
use Rattle.b2_server.proofs.laws.served_output.Goals as goal

pub returns : goal.returns
returns c = output_served
