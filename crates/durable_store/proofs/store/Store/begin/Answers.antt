use Rattle.std.proofs.Common.{[], arith}
use Rattle.durable_store.proofs.Begins.{busy_begin, fault_there, free_after_pass, is_free, is_there, no_fault, refused, taken}
use Rattle.durable_store.proofs.store.Store.begin.Goals as goal

pub returns-then-is_some : goal.returns-then-is_some
returns-then-is_some g c = λ P came read is.
    let there = is_there c.flight.result _ c.is_some.result c.is_some.ensures c.if-is_some.true c.flight.ensures in
    busy_begin c.args.self (g.D.Disk.state c.args.disk.now) P came read is c.args.reading c.args.c _ c.args.upload (omega arith) there.0 there.1

pub upload_begin-requires-clause-free : goal.upload_begin-requires-clause-free
upload_begin-requires-clause-free g c =
    free_after_pass c.args.self.core _ c.moment_at-t.result c.args.c c.in_ok-core.ensures.state (is_free c.flight.result _ c.is_some.result c.is_some.ensures c.if-is_some.false c.flight.ensures)

pub returns-then-is_some-2 : goal.returns-then-is_some-2
returns-then-is_some-2 g c = λ P came read is.
    let free = is_free c.flight.result _ c.is_some.result c.is_some.ensures c.if-is_some.false c.flight.ensures in
    let first = fault_there c.in_ok-core-2.fault c.is_some-2.result c.is_some-2.ensures c.if-is_some-2.true in
    refused c.args.self (g.D.Disk.state c.args.disk.now) P came read is c.args.reading c.args.c _ c.args.upload (omega arith) c.moment_at-t.result c.moment_at-t.ensures c.in_ok-core.field-0 c.in_ok-core.ensures.state c.in_ok-core.ensures.held free
    c.in_ok-core-2.core c.in_ok-core-2.fault c.in_ok-core-2.ensures first.0 first.1

pub returns-in-Ok : goal.returns-in-Ok
returns-in-Ok g c = λ P came read is.
    let free = is_free c.flight.result _ c.is_some.result c.is_some.ensures c.if-is_some.false c.flight.ensures in
    let d = g.D.Disk.state c.args.disk.now in
    taken c.args.self d P came read is c.args.reading c.args.c _ c.args.upload (omega arith) c.moment_at-t.result c.moment_at-t.ensures c.in_ok-core.field-0 c.in_ok-core.ensures.state c.in_ok-core.ensures.held free
    c.in_ok-core-2.core c.in_ok-core-2.fault c.in_ok-core-2.ensures (no_fault c.in_ok-core-2.fault c.is_some-2.result c.is_some-2.ensures c.if-is_some-2.false)
    c.begin.new.self c.get.result c.content_length-len.result c.get.ensures c.content_length-len.ensures (c.in-Ok.ensures.held _ (c.in_ok-core.ensures.held is.holding [] is.kept.owned is.kept.held))
