use Rattle.std.proofs.Common.{◌≡◌, ◌+◌, List, length, ℕ, cond, Some, None, sym, subst}
use Rattle.conn_talk.specs.declared.pending.Pending.{Pending}
use Rattle.conn_talk.specs.Talk.{with_sent, next_talk}
use Rattle.conn_table.specs.Table.{count_of}
use Rattle.request_acts.specs.Answering.{reads}
use Rattle.request_acts.specs.Doing.{joined}
use Rattle.event_loop.proofs.Sending.{SentOn, sent_on, part_sent, closed_after, is_next, next_world, as_next, goes_on, plus_none}
use Rattle.event_loop.proofs.events.after_send.Goals as goal

pub returns-in_default : goal.returns-in_default
returns-in_default g c = λ w k q bytes was found reply size.
    let R = reads g.S.Answering.call g.S.Answering.upload in
    let now = g.S.Answering.at c.args.store.now in
    let x = sent_on R was.uploads was.contents c.args.conns.now c.sent.new.self w c.args.c k q c.args.n (length bytes) None was.table found reply size c.sent.ensures.others c.sent.ensures.talk c.in_default.ensures.reply in
    subst (λ (y : Pending (List ℕ)). SentOn R c.args.reading now c.sent.new.self w c.args.c k y bytes) (sym x.same)
    (part_sent R c.args.reading now was.uploads was.contents c.args.conns.now c.sent.new.self w c.args.c k x.p bytes x.s was.machine x.given c.in_default.ensures.count)

pub returns-then-not-reply : goal.returns-then-not-reply
returns-then-not-reply g c = λ w k q bytes was found reply size.
    let R = reads g.S.Answering.call g.S.Answering.upload in
    let now = g.S.Answering.at c.finish_out.new.self in
    let back = c.in-Some.reply in
    let x = sent_on R was.uploads was.contents c.args.conns.now c.sent.new.self w c.args.c k q c.args.n (length bytes) (Some back) was.table found reply size c.sent.ensures.others c.sent.ensures.talk c.in-Some.ensures.reply in
    subst (λ (y : Pending (List ℕ)). SentOn R c.args.reading now c.sent.new.self w c.args.c k y bytes) (sym x.same)
    (closed_after R c.args.reading (g.S.Answering.at c.args.store.now) now was.uploads was.contents c.args.conns.now c.sent.new.self w c.args.c k x.p back bytes x.s was.machine c.in_ok-finish_out.ensures x.given c.if-not-reply.true c.in-Some.ensures.count)

pub read_bytes-requires : goal.read_bytes-requires
read_bytes-requires g c =
    let (a, p, is, reply) = c.requires.talk in
    let n = is_next c.sent.new.self c.args.c a (with_sent c.args.n p) c.in-Some.reply (c.sent.ensures.talk a p is reply) (c.in-Some.ensures.reply a p is reply) c.if-not-reply.false in (next_talk a, n.talk)

pub returns : goal.returns
returns g c = λ w k q bytes was found reply size.
    let R = reads g.S.Answering.call g.S.Answering.upload in
    let before = g.S.Answering.at c.args.store.now in
    let finished = g.S.Answering.at c.finish_out.new.self in
    let now = g.S.Answering.at c.read_bytes.new.store in
    let t = c.args.conns.now in
    let u = c.sent.new.self in
    let back = c.in-Some.reply in
    let x = sent_on R was.uploads was.contents t u w c.args.c k q c.args.n (length bytes) (Some back) was.table found reply size c.sent.ensures.others c.sent.ensures.talk c.in-Some.ensures.reply in
    let p = x.p in
    let r = x.s.replying in
    let n = is_next u c.args.c r.talk (with_sent (length bytes) p) back x.s.talk x.given c.if-not-reply.false in
    let count = subst (λ b. count_of u + cond b 1 0 ≡ count_of t) c.if-not-reply.false c.in-Some.ensures.count in
    let again = next_world R before finished was.uploads was.contents t u w c.args.c k p bytes x.s n was.machine c.in_ok-finish_out.ensures (plus_none count) in
    let (v, does, at, kept) = c.in_ok-read_bytes.ensures w (as_next k bytes (joined (was.contents c.args.c) p)) again in
    subst (λ (y : Pending (List ℕ)). SentOn R c.args.reading now c.read_bytes.new.conns w c.args.c k y bytes) (sym x.same) (v, goes_on R c.args.reading was.contents t u w v c.args.c k p bytes r n does, at, kept)
