use Rattle.std.proofs.Common.{◌∙◌, arith}
use Rattle.workload.proofs.Turns.{next_stands, says_so}
use Rattle.workload.proofs.make.make_workload.Goals as goal

pub turns-preserved : goal.turns-preserved
turns-preserved c =
    let so_far = c.turns.invariant in
    record {
      timed = next_stands c.args.seed c.args.n c.turns.i c.turns.x c.next_number-x.result c.turns.script.timed.items c.add_turn.new.script.timed.items so_far.timed c.next_number-x.ensures c.in_ok-add_turn.ensures.timed;
      words = c.in_ok-add_turn.ensures.words ∙ so_far.words;
    }

pub returns : goal.returns
returns c =
    let so_far = c.turns.invariant in
    says_so c.args.seed c.args.n c.turns.i c.turns.x c.turns.script (omega arith) so_far.timed so_far.words
