use Rattle.std.proofs.Common.{◌≡◌, ◌<◌, List, [], length, Some, None, MatchOption, sym, ◌∙◌, subst, arith}
use Rattle.std.proofs.lemmas.Grind.{common_steps}
use Rattle.std.specs.Prelude.{⊤}
use Rattle.std.specs.List.{AllByRecursion}
use Rattle.conn_talk.specs.declared.act.Act.{Act}
use Rattle.conn_talk.specs.Talk.{TakesPiece}
use Rattle.request_acts.specs.Answering.{reads, IsServedAct}
use Rattle.request_acts.specs.Doing.{HasDone}
use Rattle.event_loop.proofs.Lists.{nothing_in}
use Rattle.event_loop.proofs.Tables.{set_here, is_open, unanswered}
use Rattle.event_loop.proofs.Reading.{takes_served, unanswered_by, quietly, piece_read}
use Rattle.event_loop.proofs.events.read_bytes.Goals as goal

pub returns-then-is_empty : goal.returns-then-is_empty
returns-then-is_empty g c = λ w k was.
    let R = reads g.S.Answering.call g.S.Answering.upload in
    let kept = set_here R c.args.conns.now was.uploads was.contents w.conns c.args.c (Some k) was.table.each in
    let (b, takes, here) = c.in_ok-acts.ensures.acts kept.talk kept.is_talk in
    let none : c.in_ok-acts.acts.items ≡ [] = nothing_in c.in_ok-acts.acts.items (grind (arith, common_steps, c.is_empty.ensures, c.if-is_empty.true)) in
    quietly R c.args.reading (g.S.Answering.at c.args.store.now) was.uploads was.contents c.args.conns.now c.piece.new.self w c.args.c k c.args.bytes.now c.in_ok-acts.acts.items b kept (record { old = was.table; others = c.piece.ensures.others; count = c.piece.ensures.count }) takes none here was.machine

pub carry_all-requires : goal.carry_all-requires
carry_all-requires g c =
    let (a, is) = c.requires in
    let (b, takes, here) = c.in_ok-acts.ensures.acts a is in
    subst (AllByRecursion IsServedAct) (sym c.deref.ensures.value) (takes_served a c.args.bytes.now c.in_ok-acts.acts.items b takes)

pub returns-in_default : goal.returns-in_default
returns-in_default g c = λ w k was.
    let R = reads g.S.Answering.call g.S.Answering.upload in
    let kept = set_here R c.args.conns.now was.uploads was.contents w.conns c.args.c (Some k) was.table.each in
    let (b, takes, here) = c.in_ok-acts.ensures.acts kept.talk kept.is_talk in
    let some : 0 < length c.in_ok-acts.acts.items = grind (arith, common_steps, c.is_empty.ensures, c.if-is_empty.false) in
    let done = subst (HasDone R c.args.reading c.args.c c.asks_stay-stay.result (g.S.Answering.at c.args.store.now) c.deref.result.now (g.S.Answering.at c.carry_all.new.store)) c.in_default.is c.in_ok-reply.ensures.does in
    piece_read R c.args.reading (g.S.Answering.at c.args.store.now) (g.S.Answering.at c.carry_all.new.store) c.asks_stay-stay.result was.uploads was.contents c.args.conns.now c.piece.new.self w c.args.c k c.args.bytes.now c.deref.result.now b None kept
    (record { old = was.table; others = c.piece.ensures.others; count = c.piece.ensures.count }) (subst (λ (acts : List Act). TakesPiece kept.talk c.args.bytes.now acts b) (sym c.deref.ensures.value) takes) (subst (λ (acts : List Act). 0 < length acts) (sym c.deref.ensures.value) some)
    (c.asks_stay-stay.ensures (Some b) here) here was.machine done

pub answer-requires-clause-open : goal.answer-requires-clause-open
answer-requires-clause-open g c =
    let (a, is) = c.requires in
    let (b, takes, here) = c.in_ok-acts.ensures.acts a is in is_open c.piece.new.self c.args.c b here

pub answer-requires-clause-unanswered : goal.answer-requires-clause-unanswered
answer-requires-clause-unanswered g c =
    let (a, is) = c.requires in
    let (b, takes, here) = c.in_ok-acts.ensures.acts a is in
    unanswered c.piece.new.self c.args.c b (unanswered_by a c.args.bytes.now c.deref.result.now b (subst (λ (acts : List Act). TakesPiece a c.args.bytes.now acts b) (sym c.deref.ensures.value) takes) some) here
  where
    some : 0 < length c.deref.result.now
    some = subst (λ x. MatchOption x ⊤ (λ _. 0 < length c.deref.result.now)) c.in-Some.is c.in_ok-reply.ensures.some

pub returns : goal.returns
returns g c = λ w k was.
    let R = reads g.S.Answering.call g.S.Answering.upload in
    let kept = set_here R c.args.conns.now was.uploads was.contents w.conns c.args.c (Some k) was.table.each in
    let (b, takes, here) = c.in_ok-acts.ensures.acts kept.talk kept.is_talk in
    let some : 0 < length c.in_ok-acts.acts.items = grind (arith, common_steps, c.is_empty.ensures, c.if-is_empty.false) in
    piece_read R c.args.reading (g.S.Answering.at c.args.store.now) (g.S.Answering.at c.carry_all.new.store) c.asks_stay-stay.result was.uploads was.contents c.args.conns.now c.answer.new.self w c.args.c k c.args.bytes.now c.deref.result.now b (Some c.in-Some.reply) kept
    (record { old = was.table; others = λ d apart. c.answer.ensures.others d apart ∙ c.piece.ensures.others d apart; count = c.answer.ensures.count ∙ c.piece.ensures.count })
    (subst (λ (acts : List Act). TakesPiece kept.talk c.args.bytes.now acts b) (sym c.deref.ensures.value) takes) (subst (λ (acts : List Act). 0 < length acts) (sym c.deref.ensures.value) some)
    (c.asks_stay-stay.ensures (Some b) here) (c.answer.ensures.talk b here) was.machine
    (subst (HasDone R c.args.reading c.args.c c.asks_stay-stay.result (g.S.Answering.at c.args.store.now) c.deref.result.now (g.S.Answering.at c.carry_all.new.store)) c.in-Some.is c.in_ok-reply.ensures.does)
