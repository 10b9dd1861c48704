use Rattle.content_laws.proofs.CarriedAsk.{ask_by}
use Rattle.content_laws.proofs.CarriedRun.{run_by}
use Rattle.content_laws.proofs.same_for_all_contents.Goals as goal

pub returns-clause-call : goal.returns-clause-call
returns-clause-call g c f P Q along M t words token asked = ask_by f P Q along M t words token asked

pub returns-clause-run : goal.returns-clause-run
returns-clause-run g c f P Q along M words steps = run_by f P Q along M words steps
