use Rattle.stored_contents.specs.declared.contents.Contents.{Contents}
use Rattle.stored_contents.proofs.Empty.{empty_held, empty_room, none_used}
use Rattle.stored_contents.proofs.contents.Contents.new.Goals as goal

pub returns-clause-room : goal.returns-clause-room
returns-clause-room g c =
    let t : Contents = record { blobs = c.in_ok-blobs.blobs; incoming = c.new.result; outgoing = c.new-2.result } in
    empty_room t c.in_ok-blobs.ensures.pinned c.in_ok-blobs.ensures.released c.new.ensures.empty c.new-2.ensures.items (none_used c.args.limit t c.in_ok-blobs.ensures.room)

pub returns-clause-held : goal.returns-clause-held
returns-clause-held g c i given =
    let t : Contents = record { blobs = c.in_ok-blobs.blobs; incoming = c.new.result; outgoing = c.new-2.result } in
    empty_held t c.in_ok-blobs.ensures.pinned c.in_ok-blobs.ensures.released c.new.ensures.empty c.new-2.ensures.items (g.D.Disk.state c.args._disk.now) i given (returns-clause-room g c)
