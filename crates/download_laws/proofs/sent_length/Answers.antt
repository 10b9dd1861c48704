use Rattle.download_laws.proofs.Sent.{sent_shown, sent_bytes}
use Rattle.download_laws.proofs.sent_length.Goals as goal

pub returns-clause-pieces : goal.returns-clause-pieces
returns-clause-pieces g c P M t words token call x is = sent_shown P M t words token call x is

pub returns-clause-bytes : goal.returns-clause-bytes
returns-clause-bytes g c P M t words token call x bytes is sizes = sent_bytes P M t words token call x bytes is sizes
