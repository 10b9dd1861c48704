use Rattle.auth_grants.proofs.Uploads.{begins, ends}
use Rattle.auth_grants.proofs.laws.uploads_and_tokens.Goals as goal

pub returns-clause-begins : goal.returns-clause-begins
returns-clause-begins c = begins

pub returns-clause-ends : goal.returns-clause-ends
returns-clause-ends c = ends
