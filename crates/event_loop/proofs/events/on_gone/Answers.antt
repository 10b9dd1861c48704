use Rattle.request_acts.specs.Answering.{reads}
use Rattle.event_loop.proofs.Opening.{closes_quietly, closes_with_loss}
use Rattle.event_loop.proofs.events.on_gone.Goals as goal

pub returns-in_ok-lost : goal.returns-in_ok-lost
returns-in_ok-lost g c =
    closes_with_loss (reads g.S.Answering.call g.S.Answering.upload) c.args.reading (g.S.Answering.at c.args.store.now) (g.S.Answering.at c.finish_out.new.self) (g.S.Answering.at c.lost.new.self) c.args.conns.now c.gone.new.self c.args.c
    c.uploading-is_uploading.result c.uploading-is_uploading.ensures c.if-is_uploading.true c.gone.ensures.closed c.gone.ensures.others c.gone.ensures.count c.in_ok-finish_out.ensures c.in_ok-lost.ensures

pub returns-else-is_uploading : goal.returns-else-is_uploading
returns-else-is_uploading g c =
    closes_quietly (reads g.S.Answering.call g.S.Answering.upload) c.args.reading (g.S.Answering.at c.args.store.now) (g.S.Answering.at c.finish_out.new.self) c.args.conns.now c.gone.new.self c.args.c c.uploading-is_uploading.result
    c.uploading-is_uploading.ensures c.if-is_uploading.false c.gone.ensures.closed c.gone.ensures.others c.gone.ensures.count c.in_ok-finish_out.ensures
