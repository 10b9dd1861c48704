use Rattle.b2_server.proofs.Told.{is_answer}
use Rattle.b2_server.proofs.store.FirstStore.reply.Goals as goal

pub returns-clause-answer : goal.returns-clause-answer
returns-clause-answer g = λ P c body ups outs at.
    is_answer g.told.new.self P g.args.reading c g.args.head.now body g.in_ok-text.text g.in_ok-answer.answer (g.in_ok-answer.ensures.told P at.at) g.in_ok-text.ensures.text ups outs at.none at.unread
