use Rattle.std.proofs.Common.{◌++◌, List, subst}
use Rattle.std.proofs.lemmas.List.{drop_all}
use Rattle.b2_base.specs.declared.extent.Extent.{Extent}
use Rattle.stored_contents.specs.Held.{IsHeld}
use Rattle.stored_contents.specs.Room.{IsRoom}
use Rattle.stored_contents.proofs.Releasing.{held_next, room_next}
use Rattle.stored_contents.proofs.contents.Contents.release.Goals as goal

pub loop-extent-preserved : goal.loop-extent-preserved
loop-extent-preserved g c =
    let i = c.loop-extent.extent-index in
    let none : Extent = record { at = 0; len = 0 } in
    record {
      room = λ rest room.
          room_next c.loop-extent.self c.release_one.new.self c.args.freed.now rest i none c.loop-extent-test.true
          c.in_ok-release_one.ensures.releases c.release_one.ensures.incoming c.release_one.ensures.outgoing
          (c.loop-extent.invariant.room rest room);
      held = λ h rest is held.
          held_next c.loop-extent.self c.release_one.new.self c.args.freed.now rest i none c.loop-extent-test.true
          c.in_ok-release_one.ensures.releases c.release_one.ensures.incoming c.release_one.ensures.outgoing
          (g.D.Disk.state c.args._disk.now) h (c.loop-extent.invariant.held h rest is held);
    }

pub returns-clause-room : goal.returns-clause-room
returns-clause-room g c rest room =
    subst (λ (l : List Extent). IsRoom c.loop-extent.self (l ++ rest)) (drop_all c.loop-extent.extent-index c.args.freed.now c.loop-extent-test.false)
    (c.loop-extent.invariant.room rest room)

pub returns-clause-held : goal.returns-clause-held
returns-clause-held g c h rest is held =
    subst (λ (l : List Extent). IsHeld c.loop-extent.self (g.D.Disk.state c.args._disk.now) (record h { owned = l ++ rest })) (drop_all c.loop-extent.extent-index c.args.freed.now c.loop-extent-test.false)
    (c.loop-extent.invariant.held h rest is held)
