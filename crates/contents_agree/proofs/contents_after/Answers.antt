use Rattle.contents_agree.proofs.Each.{old_or_brought}
use Rattle.contents_agree.proofs.contents_after.Goals as goal

pub returns-clause-change : goal.returns-clause-change
returns-clause-change g c t ch M x at = old_or_brought t ch M x at

pub returns-clause-record : goal.returns-clause-record
returns-clause-record g c r M x at = old_or_brought r.at r.change M x at
