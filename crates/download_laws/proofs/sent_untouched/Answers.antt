use Rattle.download_laws.proofs.Sent.{sent_outcome, sent_versions, step_versions, step_records}
use Rattle.download_laws.proofs.sent_untouched.Goals as goal

pub returns-clause-outcome : goal.returns-clause-outcome
returns-clause-outcome g c P M t words token call x is = sent_outcome P M t words token call x is

pub returns-clause-versions : goal.returns-clause-versions
returns-clause-versions g c P M t words token call x is = sent_versions P M t words token call x is

pub returns-clause-step : goal.returns-clause-step
returns-clause-step g c K P reading token call x is = step_versions K P reading token call x is

pub returns-clause-records : goal.returns-clause-records
returns-clause-records g c K P reading token call x is = step_records K P reading token call x is
