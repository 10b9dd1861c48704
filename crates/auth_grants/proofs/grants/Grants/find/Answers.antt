use Rattle.std.proofs.Common.{Some, None, ap, sym}
use Rattle.std.specs.Map.{values_of}
use Rattle.auth_grants.proofs.Machine.{grant_found}
use Rattle.auth_grants.proofs.grants.Grants.find.Goals as goal

pub returns-in-Some-clause-grant : goal.returns-in-Some-clause-grant
returns-in-Some-clause-grant c = λ M has.
    grant_found M c.args.self.now (values_of c.self.inside.held.entries) c.args.text.now (Some c.in-Some.held.now) (ap (λ T. T.held) (sym c.self.view_is)) has c.in-Some.ensures

pub returns-in-None-clause-grant : goal.returns-in-None-clause-grant
returns-in-None-clause-grant c = λ M has.
    grant_found M c.args.self.now (values_of c.self.inside.held.entries) c.args.text.now None (ap (λ T. T.held) (sym c.self.view_is)) has c.in-None.ensures
