use Rattle.event_script.proofs.Cuts.{no_space, no_conn}
use Rattle.event_script.proofs.line.on_conn.Goals as goal

pub returns-in_default : goal.returns-in_default
returns-in_default c = no_space c.args.text.now c.in_default.ensures

pub returns-in_default-number_of : goal.returns-in_default-number_of
returns-in_default-number_of c = no_conn c.args.text.now c.in-Some.number.now c.in-Some.rest.now c.in-Some.ensures c.in_default-number_of.ensures
