use Rattle.given_once.proofs.TokenLaws.{has_token, alone_on_token}
use Rattle.given_once.proofs.uploads_have_their_tokens.Goals as goal

pub returns-clause-token : goal.returns-clause-token
returns-clause-token g c M conn f sound is = has_token M conn f sound is

pub returns-clause-alone : goal.returns-clause-alone
returns-clause-alone g c M conn other f h sound first second same = alone_on_token M conn other f h sound first second same
