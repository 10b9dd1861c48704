use Rattle.std.proofs.Common.{ap, ◌∙◌}
use Rattle.auth_grants.specs.Tokens.{tokens_of}
use Rattle.core_state.proofs.state.Core.tokens.Goals as goal

pub returns : goal.returns
returns c = c.self.invariant.tokens ∙ ap tokens_of c.self.view_is
