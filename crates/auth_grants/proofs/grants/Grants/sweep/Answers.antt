use Rattle.std.proofs.Common.{◌∙◌}
use Rattle.auth_grants.proofs.Machine.{swept, given_swept}
use Rattle.auth_grants.proofs.grants.Grants.sweep.Goals as goal

pub invariant_of-self : goal.invariant_of-self
invariant_of-self c =
    given_swept c.args.t c.self.inside.serial c.self.inside.held.entries c.forget.new.held.entries c.self.invariant c.forget.ensures.ordered c.forget.ensures.kept

pub returns : goal.returns
returns c = λ M is.
    swept M c.args.t c.self.inside.serial c.self.inside.held.entries c.forget.new.held.entries (c.self.view_is ∙ is) c.forget.ensures.kept
