use Rattle.std.proofs.Common.{None, sym}
use Rattle.auth_grants.proofs.Machine.{view_set}
use Rattle.auth_grants.proofs.grants.Grants.vacate.Goals as goal

pub returns : goal.returns
returns c =
    view_set c.args.self.now c.self.inside.serial c.args.text.now None c.self.inside.held.entries c.set_flight.new.held.entries (sym c.self.view_is) c.set_flight.ensures.set
