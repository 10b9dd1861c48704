use Rattle.std.proofs.Common.{length, arith}
use Rattle.blob_extents.proofs.Frames.{pinned_bytes}
use Rattle.blob_extents.proofs.states.Pin.read.Goals as goal

pub returns-clause-bytes : goal.returns-clause-bytes
returns-clause-bytes g c m safe i reads =
    pinned_bytes (g.D.Disk.state c.args.disk.now) c.args.self.now.extent m c.args.at (length c.args.buf.now) c.read.new.buf (omega arith) (omega (arith, c.requires)) safe i reads c.in_ok-read.ensures.bytes
