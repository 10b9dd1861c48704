use Rattle.std.proofs.Common.{subst, arith}
use Rattle.outside_traits.specs.Bytes.{AppendsFront}
use Rattle.outside_traits.specs.declared.link.SentPiece.{SentPiece}
use Rattle.event_script.specs.Shown.{shown, output_of}
use Rattle.event_script.proofs.Shows.{any_err, front_of_list}
use Rattle.event_script.proofs.shown.write_sent.Goals as goal

pub returns-in_err-show-clause-err : goal.returns-in_err-show-clause-err
returns-in_err-show-clause-err g c =
    let old = g.K.Sink.contents c.args.out.now in
    let new = g.K.Sink.contents c.show.new.out in
    let stopped : SentPiece → Type 0 = λ s. AppendsFront (g.K.Sink.contents c.sends.out) new (shown s) in
    let took = front_of_list shown c.sent-send-items.result.now c.sends.send-index _ old (g.K.Sink.contents c.sends.out) new (omega arith) c.sends.invariant.taken
    (subst stopped c.send-item.is c.in_err-show.ensures.err) in
    any_err c.from_residual.result (subst (λ sends. AppendsFront old new (output_of sends)) c.sent-send-items.ensures took)
