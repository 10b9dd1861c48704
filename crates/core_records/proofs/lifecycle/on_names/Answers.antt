use Rattle.b2_base.specs.declared.numbers.TheConstants.{LAST_VERSION}
use Rattle.core_records.proofs.Conserve.{conserves_on}
use Rattle.core_records.proofs.Runs.{AreDone, one_more_name}
use Rattle.core_records.proofs.lifecycle.on_names.Goals as goal

pub plans-preserved : goal.plans-preserved
plans-preserved c =
    let inv = c.plans.invariant in
    let xs = c.args.plans.now in
    let i = c.plans.plan-index in
    let N = c.plans.core in
    let done : AreDone c.args.t c.args.bucket LAST_VERSION xs i c.args.core N = record { state = inv.state; room = inv.room; stands = inv.stands } in
    let more = one_more_name c.args.t c.args.bucket LAST_VERSION xs i c.plan-item.result c.args.core N c.in_ok-core.core c.plans-test.true c.plan-item.is done c.in_ok-core.ensures.state in
    record {
      state = more.state;
      room = more.room;
      stands = more.stands;
      freed = conserves_on c.args.freed.now.items c.plans.freed.items c.on_name.new.freed.items c.args.core N c.in_ok-core.core inv.freed c.in_ok-core.ensures.freed;
    }
