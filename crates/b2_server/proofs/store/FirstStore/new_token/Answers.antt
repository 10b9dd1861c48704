use Rattle.std.proofs.Common.{refl}
use Rattle.b2_server.proofs.Tokens.{gives_token, no_more}
use Rattle.b2_server.proofs.store.FirstStore.new_token.Goals as goal

pub returns-in-Ok-clause-given : goal.returns-in-Ok-clause-given
returns-in-Ok-clause-given c = λ M words at.
    gives_token c.args.self.now _ M words c.in-Ok.text c.account_terms-terms.result c.args.t c.account_terms-terms.ensures c.in-Ok.ensures.given c.in-Ok.ensures.left refl refl refl at

pub returns-in-Err-Fault-clause-end : goal.returns-in-Err-Fault-clause-end
returns-in-Err-Fault-clause-end c = λ M words at.
    no_more c.args.self.now M words (rw c.in-Err-Fault.field-0-is at c.in-Err-Fault.ensures.end) at
