use Rattle.std.proofs.Common.{sym, ap, ◌∙◌, arith}
use Rattle.durable_store.specs.Ends.{told_under}
use Rattle.durable_store.proofs.WholeEnds.{answered, idle, unsealed}
use Rattle.durable_store.proofs.store.Store.end.Goals as goal

pub returns-then-not-came_whole-clause-ends : goal.returns-then-not-came_whole-clause-ends
returns-then-not-came_whole-clause-ends g c = λ P came read is.
    idle c.args.self (g.D.Disk.state c.args.disk.now) P c.args.reading c.args.c came read is (omega arith) (sym (c.came_whole.ensures.whole P.state came read is) ∙ c.if-not-came_whole.true)

pub returns-clause-ends : goal.returns-clause-ends
returns-clause-ends g c = λ P came read is.
    answered c.args.self (g.D.Disk.state c.args.disk.now) P c.args.reading c.args.c came read is (omega arith) (sym (c.came_whole.ensures.whole P.state came read is) ∙ c.if-not-came_whole.false)
    c.seal.new.self (g.D.Disk.state c.seal.new.disk) c.get.result c.get.ensures c.in_ok-whole.field-0 (c.in_ok-whole.ensures.held is.holding is.kept.held) c.in-Some.whole c.in-Some.is
    c.told_on.result (λ f there. c.told_on.ensures f there ∙ ap (told_under _) c.deref.ensures.value) c.moment_at-t.result c.moment_at-t.ensures
    c.in_ok-store.store c.in_ok-store.answer c.in_ok-store.ensures.decided c.in_ok-store.ensures.held

pub returns-in_default-clause-ends : goal.returns-in_default-clause-ends
returns-in_default-clause-ends g c = λ P came read is. absurd
    (unsealed c.args.self (g.D.Disk.state c.args.disk.now) P c.args.reading c.args.c came read is (omega arith) (sym (c.came_whole.ensures.whole P.state came read is) ∙ c.if-not-came_whole.false)
    c.seal.new.self (g.D.Disk.state c.seal.new.disk) c.get.result c.get.ensures c.in_ok-whole.field-0 (c.in_ok-whole.ensures.held is.holding is.kept.held) c.in_default.is)
