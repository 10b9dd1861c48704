use Rattle.download_laws.proofs.Sent.{sent_there, sent_after, step_begun, step_stands}
use Rattle.download_laws.proofs.sent_stands.Goals as goal

pub returns-clause-asked : goal.returns-clause-asked
returns-clause-asked g c P M t words token call x is = sent_there P M t words token call x is

pub returns-clause-after : goal.returns-clause-after
returns-clause-after g c P M t words token call x is = sent_after P M t words token call x is

pub returns-clause-begun : goal.returns-clause-begun
returns-clause-begun g c K P reading token call x is = step_begun K P reading token call x is

pub returns-clause-step : goal.returns-clause-step
returns-clause-step g c K P reading token call x is = step_stands K P reading token call x is
