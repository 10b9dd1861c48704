use Rattle.std.proofs.Common.{None, take}
use Rattle.request_acts.specs.Answering.{reads}
use Rattle.request_acts.specs.Doing.{HasDone}
use Rattle.request_acts.proofs.acts.carry_all.Given as goal

abbrev pub invariant-acts : goal.invariant-acts
invariant-acts g l =
    HasDone (reads g.S.Answering.call g.S.Answering.upload) l.reading l.c l.stay (g.S.Answering.at l.fn.store) (take l.act-index l.acts) (g.S.Answering.at l.store) None
