use Rattle.std.proofs.Common.{◌++◌, sym, ap}
use Rattle.contents_agree.specs.ContentsOf.{contents_of}
use Rattle.durable_store.proofs.Kept.{beside, conserved_by, moved}
use Rattle.durable_store.proofs.store.written.Goals as goal

pub returns-clause-held : goal.returns-clause-held
returns-clause-held g c = λ h others is held.
    let M = c.args.core in
    let N = c.in-Done.core in
    let done = rw c.in-Done.is at c.in_ok-core.ensures in
    let order = beside others _ _ _ (conserved_by M N c.args.entry _ c.is_sound.ensures.sound done) in
    c.in_ok-release-in-Done.ensures.held _ (others ++ contents_of N) (ap (λ xs. xs ++ (others ++ contents_of N)) (sym c.get.ensures))
    (moved c.args.contents (g.D.Disk.state c.args.disk.now) h _ _ is order held)
