use Rattle.std.proofs.Common.{Some, sym}
use Rattle.auth_grants.proofs.Machine.{view_set}
use Rattle.auth_grants.proofs.grants.Grants.occupy.Goals as goal

pub returns-clause-taken : goal.returns-clause-taken
returns-clause-taken c =
    view_set c.args.self.now c.self.inside.serial c.args.text.now (Some c.args.conn) c.self.inside.held.entries c.set_flight.new.held.entries (sym c.self.view_is) c.set_flight.ensures.set
