use Rattle.blob_extents.proofs.Frames.{push_changes, push_after, push_wrote, push_came, safe_still, reads_still, told_err, told_ok}
use Rattle.blob_extents.proofs.states.Staging.push.Goals as goal

pub returns-then-is_err-clause-outside : goal.returns-then-is_err-clause-outside
returns-then-is_err-clause-outside g c = push_changes (g.D.Disk.state c.args.disk.now) (g.D.Disk.state c.write_at-wrote.new.self) c.args.self.extent c.args.self.filled c.args.piece.now c.requires.room c.write_at-wrote.ensures.writes

pub returns-then-is_err-clause-outside_read : goal.returns-then-is_err-clause-outside_read
returns-then-is_err-clause-outside_read g c = push_after (g.D.Disk.state c.args.disk.now) (g.D.Disk.state c.write_at-wrote.new.self) c.args.self.extent c.args.self.filled c.args.piece.now c.requires.room (told_err c.write_at-wrote.result _ c.if-is_err.ensures.value c.write_at-wrote.ensures.torn)

pub returns-then-is_err-clause-others : goal.returns-then-is_err-clause-others
returns-then-is_err-clause-others g c e m apart =
    safe_still (g.D.Disk.state c.args.disk.now) (g.D.Disk.state c.write_at-wrote.new.self) c.args.self.extent e m apart (push_changes (g.D.Disk.state c.args.disk.now) (g.D.Disk.state c.write_at-wrote.new.self) c.args.self.extent c.args.self.filled c.args.piece.now c.requires.room c.write_at-wrote.ensures.writes)

pub returns-then-is_err-clause-others_read : goal.returns-then-is_err-clause-others_read
returns-then-is_err-clause-others_read g c e m apart le =
    reads_still (g.D.Disk.state c.args.disk.now) (g.D.Disk.state c.write_at-wrote.new.self) c.args.self.extent e m apart le (push_after (g.D.Disk.state c.args.disk.now) (g.D.Disk.state c.write_at-wrote.new.self) c.args.self.extent c.args.self.filled c.args.piece.now c.requires.room (told_err c.write_at-wrote.result _ c.if-is_err.ensures.value c.write_at-wrote.ensures.torn))

pub returns-clause-reads : goal.returns-clause-reads
returns-clause-reads g c m hashed = push_came (g.D.Disk.state c.args.disk.now) (g.D.Disk.state c.write_at-wrote.new.self) c.args.self.extent c.args.self.filled c.args.piece.now c.requires.room (told_ok c.write_at-wrote.result _ c.if-is_err.ensures.value c.write_at-wrote.ensures.holds) m hashed.count

pub returns-clause-outside : goal.returns-clause-outside
returns-clause-outside g c = push_changes (g.D.Disk.state c.args.disk.now) (g.D.Disk.state c.write_at-wrote.new.self) c.args.self.extent c.args.self.filled c.args.piece.now c.requires.room c.write_at-wrote.ensures.writes

pub returns-clause-outside_read : goal.returns-clause-outside_read
returns-clause-outside_read g c = push_wrote (g.D.Disk.state c.args.disk.now) (g.D.Disk.state c.write_at-wrote.new.self) c.args.self.extent c.args.self.filled c.args.piece.now c.requires.room (told_ok c.write_at-wrote.result _ c.if-is_err.ensures.value c.write_at-wrote.ensures.holds)

pub returns-clause-others : goal.returns-clause-others
returns-clause-others g c e m apart =
    safe_still (g.D.Disk.state c.args.disk.now) (g.D.Disk.state c.write_at-wrote.new.self) c.args.self.extent e m apart (push_changes (g.D.Disk.state c.args.disk.now) (g.D.Disk.state c.write_at-wrote.new.self) c.args.self.extent c.args.self.filled c.args.piece.now c.requires.room c.write_at-wrote.ensures.writes)

pub returns-clause-others_read : goal.returns-clause-others_read
returns-clause-others_read g c e m apart le =
    reads_still (g.D.Disk.state c.args.disk.now) (g.D.Disk.state c.write_at-wrote.new.self) c.args.self.extent e m apart le (push_wrote (g.D.Disk.state c.args.disk.now) (g.D.Disk.state c.write_at-wrote.new.self) c.args.self.extent c.args.self.filled c.args.piece.now c.requires.room (told_ok c.write_at-wrote.result _ c.if-is_err.ensures.value c.write_at-wrote.ensures.holds))
