use Rattle.std.proofs.Common.{◌≡◌, ◌+◌, List, [], ◌∷◌, ◌++◌, Some, None, take, drop, sym, ap, ◌∙◌, subst}
use Rattle.std.proofs.lemmas.List.{take_more, take-append-drop}
use Rattle.conn_talk.specs.declared.act.Act.{Act}
use Rattle.request_acts.specs.Answering.{reads}
use Rattle.request_acts.specs.Doing.{HasDone}
use Rattle.request_acts.proofs.Doing.{done_more, done_all}
use Rattle.request_acts.proofs.acts.carry_all.Goals as goal

pub returns-in-Some-clause-does : goal.returns-in-Some-clause-does
returns-in-Some-clause-does g c =
    let R = reads g.S.Answering.call g.S.Answering.upload in
    let was = g.S.Answering.at c.args.store.now in
    let now = g.S.Answering.at c.carry.new.store in
    let acts = c.args.acts.now in
    let i = c.acts.act-index in
    let p = c.in-Some.reply in
    let more = done_more R c.args.reading c.args.c c.args.stay was (g.S.Answering.at c.acts.store) now (take i acts) c.act-item.result c.in_ok-reply.field-0 c.acts.invariant c.in_ok-reply.ensures.does in
    let front = take i acts ++ c.act-item.result ∷ [] in
    let is : front ≡ take (i + 1) acts = sym (take_more acts i c.act-item.result c.acts-test.true ∙ ap (λ a. take i acts ++ a ∷ []) (sym c.act-item.is)) in
    let all : front ++ drop (i + 1) acts ≡ acts = ap (λ xs. xs ++ drop (i + 1) acts) is ∙ take-append-drop (i + 1) acts in
    subst (λ (xs : List Act). HasDone R c.args.reading c.args.c c.args.stay was xs now (Some p)) all
    (done_all R c.args.reading c.args.c c.args.stay was now front (drop (i + 1) acts) p (subst (HasDone R c.args.reading c.args.c c.args.stay was front now) c.in-Some.is more))

pub acts-preserved : goal.acts-preserved
acts-preserved g c =
    let R = reads g.S.Answering.call g.S.Answering.upload in
    let was = g.S.Answering.at c.args.store.now in
    let now = g.S.Answering.at c.carry.new.store in
    let acts = c.args.acts.now in
    let i = c.acts.act-index in
    let more = done_more R c.args.reading c.args.c c.args.stay was (g.S.Answering.at c.acts.store) now (take i acts) c.act-item.result c.in_ok-reply.field-0 c.acts.invariant c.in_ok-reply.ensures.does in
    let is = sym (take_more acts i c.act-item.result c.acts-test.true ∙ ap (λ a. take i acts ++ a ∷ []) (sym c.act-item.is)) in
    subst (λ (xs : List Act). HasDone R c.args.reading c.args.c c.args.stay was xs now None) is
    (subst (HasDone R c.args.reading c.args.c c.args.stay was (take i acts ++ c.act-item.result ∷ []) now) c.in_default.is more)
