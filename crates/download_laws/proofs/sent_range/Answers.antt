use Rattle.download_laws.proofs.Sent.{sent_within, sent_in_order, sent_cut, sent_whole}
use Rattle.download_laws.proofs.sent_range.Goals as goal

pub returns-clause-within : goal.returns-clause-within
returns-clause-within g c P M t words token call x is = sent_within P M t words token call x is

pub returns-clause-in_order : goal.returns-clause-in_order
returns-clause-in_order g c P M t words token call x order is = sent_in_order P M t words token call x order is

pub returns-clause-bytes : goal.returns-clause-bytes
returns-clause-bytes g c P M t words token call x bytes is sizes = sent_cut P M t words token call x bytes is sizes

pub returns-clause-whole : goal.returns-clause-whole
returns-clause-whole g c P M t words token call x bytes is sizes all = sent_whole P M t words token call x bytes is sizes all
