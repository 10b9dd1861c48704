use Rattle.std.proofs.Common.{◌++◌, ◌∷◌, [], map, refl, ap, ◌∙◌}
use Rattle.blob_extents.specs.States.{pin_extent}
use Rattle.stored_contents.specs.declared.contents.Contents.{Contents}
use Rattle.stored_contents.specs.declared.outgoing.Outgoing.{Outgoing}
use Rattle.stored_contents.proofs.Reading.{room_read}
use Rattle.stored_contents.proofs.Starting.{held_started}
use Rattle.stored_contents.proofs.contents.Contents.start_reading.Goals as goal

pub returns-clause-room : goal.returns-clause-room
returns-clause-room g c owned room pieces =
    let mid = c.pin_all.new.self in
    let new : Contents = record mid { outgoing = c.push.new.self } in
    let o : Outgoing = record { reader = c.args.c; pins = c.in_ok-pins.pins; at = c.args.at; len = c.args.len } in
    room_read mid new owned (map pin_extent c.in_ok-pins.pins.items) o refl refl refl c.in_ok-push.ensures.items
    (c.in_ok-pins.ensures.room owned (c.in_ok-end_reading.ensures.room owned room) pieces)

pub returns-clause-held : goal.returns-clause-held
returns-clause-held g c h held pieces =
    let mid = c.pin_all.new.self in
    let new : Contents = record mid { outgoing = c.push.new.self } in
    let o : Outgoing = record { reader = c.args.c; pins = c.in_ok-pins.pins; at = c.args.at; len = c.args.len } in
    let ended = c.end_reading.new.self in
    let left = c.in_ok-end_reading.ensures.held h held in
    held_started ended new (g.D.Disk.state c.args._disk.now) h c.args.c o c.args.pieces.now
    left c.in_ok-end_reading.ensures.none
    (returns-clause-room g c h.owned held.room pieces)
    c.pin_all.ensures.released c.pin_all.ensures.incoming
    (c.in_ok-push.ensures.items ∙ ap (λ os. os ++ o ∷ []) c.pin_all.ensures.outgoing)
    refl (c.in_ok-pins.ensures.pieces h.owned left.room pieces)
