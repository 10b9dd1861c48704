use Rattle.std.proofs.Common.{◌+◌, ◌≤◌}
use Rattle.conn_talk.specs.Talk.{size_of, with_sent, talk_after}
use Rattle.edge_tests.proofs.Kept.{kept, has_reply_by}
use Rattle.edge_tests.proofs.connections.send_but.Goals as goal

pub returns : goal.returns
returns c =
    let has = has_reply_by c.args.c c.args.conns.now (λ p. p.sent + c.in_ok-n.n ≤ size_of p) c.requires c.in_ok-n.ensures in
    kept c.args.c c.args.conns.now c.sent-reply.new.self (talk_after has.talk (with_sent c.saturating_sub.result has.reply)) c.requires c.sent-reply.ensures.others (c.sent-reply.ensures.talk has.talk has.reply has.is_talk has.has)
