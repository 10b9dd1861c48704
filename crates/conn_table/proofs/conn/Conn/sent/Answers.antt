use Rattle.std.proofs.Common.{◌∙◌, ◌+◌, sym, ap, subst, Some, None}
use Rattle.std.proofs.lemmas.Bool.{false≢true}
use Rattle.conn_talk.specs.Asked.{nothing, rest_of}
use Rattle.conn_table.specs.declared.conn.Conn.{Conn}
use Rattle.conn_table.specs.Incoming.{IsReading}
use Rattle.conn_table.proofs.Talks.{sent_reply, sent_part, sent_whole}
use Rattle.conn_table.proofs.conn.Conn.sent.Goals as goal
use Rattle.conn_table.proofs.conn.Conn.sent.Goals.{then-reply, else-reply}

pub returns-in_err-reply-clause-reply : goal.returns-in_err-reply-clause-reply
returns-in_err-reply-clause-reply g c = λ a p is some. c.from_residual.ensures ∙ sent_reply a p c.args.self.now c.args.n None is some c.in_err-reply.ensures.whole

pub returns-in_err-reply-clause-talk : goal.returns-in_err-reply-clause-talk
returns-in_err-reply-clause-talk g c = λ a p is some. sent_part a p c.args.self.now c.raised.new.self c.args.n is some c.requires c.raised.ensures.incoming c.in_err-reply.ensures.whole c.raised.ensures.left

pub returns-clause-reply : goal.returns-clause-reply
returns-clause-reply g c = λ a p is some. sent_reply a p c.args.self.now c.args.n (Some c.in_ok-reply.reply) is some c.in_ok-reply.ensures.whole

pub returns-clause-talk : goal.returns-clause-talk
returns-clause-talk g c = λ a p is some.
    elim c.if-reply.branch [
      | then-reply w ↦ sent_whole a p c.in_ok-reply.reply c.args.self.now c.raised.new.self c.if-reply.self c.args.n is some c.raised.ensures.incoming c.in_ok-reply.ensures.whole c.raised.ensures.left (ap (λ k. k.reply) w.self-is)
          (λ stays before told waiting goes. subst (λ (k : Conn g.row.B.Denot). IsReading (before + 1) (rest_of told) nothing k.incoming) (sym w.self-is) (w.next.ensures before told waiting goes))
      | else-reply w ↦ sent_whole a p c.in_ok-reply.reply c.args.self.now c.raised.new.self c.if-reply.self c.args.n is some c.raised.ensures.incoming c.in_ok-reply.ensures.whole c.raised.ensures.left (ap (λ k. k.reply) w.self-is)
          (λ stays. absurd (false≢true (sym w.if-reply.false ∙ stays)))
    ]
