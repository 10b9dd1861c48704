use Rattle.std.proofs.Common.{ℕ, List, subst}
use Rattle.request_acts.specs.Answering.{reads, IsAnswer, with_piece}
use Rattle.request_acts.proofs.Doing.{call_carried, body_carried, end_carried, refusal_carried}
use Rattle.request_acts.proofs.acts.carry.Goals as goal

pub returns-in_ok-text-in-Whole-clause-does : goal.returns-in_ok-text-in-Whole-clause-does
returns-in_ok-text-in-Whole-clause-does g c = λ d at none.
    let now = g.S.Answering.at c.answer.new.self in
    let reply = c.in_ok-text-in-Whole.field-0 in
    let h = c.in-Whole.head in
    call_carried g.S.Answering.call g.S.Answering.upload c.args.reading c.args.c c.args.stay now c.args.act.now d h c.in-Whole.body reply c.unsent.result c.in-Whole.is
    (subst (λ (b : List ℕ). IsAnswer g.S.Answering.call now d.uploads d.contents d.outcome.machine c.args.reading c.args.c h b reply) c.get.ensures (c.in_ok-text-in-Whole.ensures.answer d.outcome.machine d.uploads d.contents at none.content)) c.unsent.ensures

pub returns-in_ok-piece-in-Body-clause-does : goal.returns-in_ok-piece-in-Body-clause-does
returns-in_ok-piece-in-Body-clause-does g c = λ d at none.
    let now = g.S.Answering.at c.piece.new.self in
    body_carried (reads g.S.Answering.call g.S.Answering.upload) c.args.reading c.args.c c.args.stay now c.args.act.now d c.in-Body.bytes c.in-Body.is none
    (subst (λ (b : List ℕ). now d.outcome.machine.state d.outcome.machine.words (with_piece d.uploads c.args.c b) d.contents) c.get-in-Body.ensures (c.in_ok-piece-in-Body.ensures d.outcome.machine.state d.outcome.machine.words d.uploads d.contents at))

pub returns-in_ok-text-in-End-clause-does : goal.returns-in_ok-text-in-End-clause-does
returns-in_ok-text-in-End-clause-does g c = λ d at none.
    end_carried (reads g.S.Answering.call g.S.Answering.upload) c.args.reading c.args.c c.args.stay (g.S.Answering.at c.end.new.self) c.args.act.now d c.in_ok-text-in-End.text c.unsent_text-in-End.result c.in-End.is none
    (c.in_ok-text-in-End.ensures.ended d.outcome.machine d.uploads d.contents at) c.unsent_text-in-End.ensures

pub returns-in_ok-text-in-Refuse-clause-does : goal.returns-in_ok-text-in-Refuse-clause-does
returns-in_ok-text-in-Refuse-clause-does g c = λ d at none.
    refusal_carried (reads g.S.Answering.call g.S.Answering.upload) c.args.reading c.args.c c.args.stay (g.S.Answering.at c.args.store.now) c.args.act.now d c.in-Refuse.fault c.plain.result c.in_ok-text-in-Refuse.text c.unsent-in-Refuse.result c.in-Refuse.is at none
    c.plain.ensures c.in_ok-text-in-Refuse.ensures c.unsent-in-Refuse.ensures
