use Rattle.std.proofs.Common.{◌≡◌, ◌≤◌, ◌-◌, ℕ, List, length, nat_eq, arith, subst, sym, ap}
use Rattle.std.specs.Map.{update}
use Rattle.stored_contents.specs.Held.{IsHeld, with_bytes}
use Rattle.stored_contents.proofs.Spared.{spares_more, spares_read_more}
use Rattle.stored_contents.proofs.Copying.{at_most, comes_more, has_come}
use Rattle.stored_contents.proofs.contents.Contents.copy_all.Goals as goal

pub loop-left-preserved : goal.loop-left-preserved
loop-left-preserved g c =
    let bytes = c.in_ok-bytes.bytes.items in
    let left = c.loop-left.left in
    let less : length bytes ≤ left = omega (arith, at_most c.least.result (length bytes) _ c.in_ok-bytes.ensures.count, c.least.ensures) in
    let count : c.len.result ≡ length bytes = omega (arith, c.len.ensures, c.deref.ensures.len, ap (λ (l : List ℕ). length l) c.deref.ensures.value) in
    record {
      within = omega (arith, c.loop-left.invariant.within);
      room = λ owned room. c.in_ok-piece.ensures.room owned (c.loop-left.invariant.room owned room);
      later = omega (arith, c.loop-left.invariant.later, c.read_out.ensures.later, c.piece.ensures.later);
      spares = λ owned room.
          spares_more owned (g.D.Disk.state c.args.disk.now) (g.D.Disk.state c.read_out.new.disk) (g.D.Disk.state c.piece.new.disk)
          (spares_read_more owned (g.D.Disk.state c.args.disk.now) (g.D.Disk.state c.loop-left.disk) (g.D.Disk.state c.read_out.new.disk) (c.loop-left.invariant.spares owned room) c.read_out.ensures.rests)
          (c.piece.ensures.spares owned (c.loop-left.invariant.room owned room));
      held = λ h held size none.
          let k = has_come h c.args.c c.args.len (c.args.len - left) in
          let before = c.loop-left.invariant.held h held size none in
          let came = c.in_ok-piece.ensures.held k (c.read_out.ensures.held k before) in
          subst (λ n. IsHeld c.piece.new.self (g.D.Disk.state c.piece.new.disk) (has_come h c.args.c c.args.len (c.args.len - (left - n)))) (sym count)
          (comes_more c.piece.new.self (g.D.Disk.state c.piece.new.disk) h c.args.c c.args.len left c.least.result bytes
          c.loop-left.invariant.within less (c.in_ok-bytes.ensures.bytes k before)
          (subst (λ l. IsHeld c.piece.new.self (g.D.Disk.state c.piece.new.disk) (record k { came = update nat_eq k.came c.args.c (with_bytes l (k.came c.args.c)) })) c.deref.ensures.value came));
    }

pub returns-in_err-bytes-clause-spares : goal.returns-in_err-bytes-clause-spares
returns-in_err-bytes-clause-spares g c owned room =
    spares_read_more owned (g.D.Disk.state c.args.disk.now) (g.D.Disk.state c.loop-left.disk) (g.D.Disk.state c.read_out.new.disk) (c.loop-left.invariant.spares owned room) c.read_out.ensures.rests

pub returns-then-is_empty-clause-spares : goal.returns-then-is_empty-clause-spares
returns-then-is_empty-clause-spares g c owned room =
    spares_read_more owned (g.D.Disk.state c.args.disk.now) (g.D.Disk.state c.loop-left.disk) (g.D.Disk.state c.read_out.new.disk) (c.loop-left.invariant.spares owned room) c.read_out.ensures.rests

pub returns-in_err-piece-clause-spares : goal.returns-in_err-piece-clause-spares
returns-in_err-piece-clause-spares g c owned room =
    spares_more owned (g.D.Disk.state c.args.disk.now) (g.D.Disk.state c.read_out.new.disk) (g.D.Disk.state c.piece.new.disk)
    (spares_read_more owned (g.D.Disk.state c.args.disk.now) (g.D.Disk.state c.loop-left.disk) (g.D.Disk.state c.read_out.new.disk) (c.loop-left.invariant.spares owned room) c.read_out.ensures.rests)
    (c.piece.ensures.spares owned (c.loop-left.invariant.room owned room))
