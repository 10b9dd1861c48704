use Rattle.stored_contents.specs.declared.incoming.Incoming.{Incoming}
use Rattle.stored_contents.proofs.MoreBytes.{came_after}
use Rattle.stored_contents.proofs.incoming.Incoming.with_bytes.Goals as goal

pub returns-clause-came : goal.returns-clause-came
returns-clause-came g c a came =
    let new : Incoming = record { staging = c.in-Ok.staging; rest = c.extend_from_slice.new.self } in
    came_after (g.D.Disk.state c.args.disk.now) (g.D.Disk.state c.push.new.disk) c.args.self new a c.args.bytes.now _ _ c.missing.result c.fitting-fits.result
    c.missing.ensures c.fitting-fits.ensures c.split_at.ensures.front c.split_at.ensures.back
    c.in-Ok.ensures.extent c.in-Ok.ensures.hashed c.in-Ok.ensures.reads c.in_ok-extend_from_slice.ensures.items came
