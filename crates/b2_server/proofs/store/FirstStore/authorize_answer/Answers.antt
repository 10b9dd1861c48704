use Rattle.b2_types.specs.declared.answer.AnswerOf.TheVariants as answer
use Rattle.b2_types.specs.declared.shown.Shown.TheVariants as shown
use Rattle.b2_server.proofs.Told.{told_of}
use Rattle.b2_server.proofs.store.FirstStore.authorize_answer.Goals as goal

pub returns-in-Err-Fault-clause-told : goal.returns-in-Err-Fault-clause-told
returns-in-Err-Fault-clause-told c = λ P at.
    told_of c.authorize.new.self P c.args.reading c.args.head.now c.in_ok-call.call (answer.Refused c.in-Err-Fault.fault) c.requires.named c.in_ok-call.ensures.version c.in_ok-call.ensures.credentials
    ((rw c.in-Err-Fault.field-0-is at c.in-Err-Fault.ensures.refused) P at)

pub returns-clause-told : goal.returns-clause-told
returns-clause-told c = λ P at.
    told_of c.authorize.new.self P c.args.reading c.args.head.now c.in_ok-call.call (answer.Json (shown.Account c.in-Ok.account)) c.requires.named c.in_ok-call.ensures.version c.in_ok-call.ensures.credentials
    (c.in-Ok.ensures.given P at)
