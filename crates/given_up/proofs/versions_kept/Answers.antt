use Rattle.given_up.proofs.Kept.{token_given, key_made, granted, begun}
use Rattle.given_up.proofs.versions_kept.Goals as goal

pub returns-clause-token : goal.returns-clause-token
returns-clause-token g c P M t words token call gives = token_given P M t words token call gives

pub returns-clause-key : goal.returns-clause-key
returns-clause-key g c P M t words token call = key_made P M t words token call

pub returns-clause-grant : goal.returns-clause-grant
returns-clause-grant g c grant M = granted grant M

pub returns-clause-begin : goal.returns-clause-begin
returns-clause-begin g c M t conn token u = begun M t conn token u
