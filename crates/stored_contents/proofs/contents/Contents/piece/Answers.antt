use Rattle.std.proofs.Common.{[], None, Some, ◌∙◌, refl, sym}
use Rattle.stored_contents.specs.declared.contents.Contents.{Contents}
use Rattle.stored_contents.specs.Held.{with_bytes}
use Rattle.stored_contents.proofs.Updates.{set_by_map, set_twice}
use Rattle.stored_contents.proofs.Rooms.{OnlyUpload, room_none, room_came}
use Rattle.stored_contents.proofs.Holdings.{held_still}
use Rattle.stored_contents.proofs.Spared.{spares_none}
use Rattle.stored_contents.proofs.MoreBytes.{coming_none, held_more, spares_upload}
use Rattle.stored_contents.proofs.contents.Contents.piece.Goals as goal

pub returns-in_default-clause-room : goal.returns-in_default-clause-room
returns-in_default-clause-room g c owned room =
    let new : Contents = record { blobs = c.args.self.now.blobs; incoming = c.remove.new.self; outgoing = c.args.self.now.outgoing } in
    room_none c.args.self.now new owned [] c.args.c (record { set = set_by_map c.args.self.now new c.args.c None c.remove.ensures.updates; pinned = refl; released = refl; outgoing = refl }) refl (sym c.remove.ensures.value ∙ c.in_default.is) room

pub returns-in_default-clause-held : goal.returns-in_default-clause-held
returns-in_default-clause-held g c h held =
    let new : Contents = record { blobs = c.args.self.now.blobs; incoming = c.remove.new.self; outgoing = c.args.self.now.outgoing } in
    let only : OnlyUpload c.args.self.now new c.args.c None = record { set = set_by_map c.args.self.now new c.args.c None c.remove.ensures.updates; pinned = refl; released = refl; outgoing = refl } in
    held_still c.args.self.now new c.args.c None (g.D.Disk.state c.args.disk.now) h (with_bytes c.args.bytes.now (h.came c.args.c)) only (returns-in_default-clause-room g c h.owned held.room)
    (coming_none (g.D.Disk.state c.args.disk.now) c.args.bytes.now _ (h.came c.args.c) (sym c.remove.ensures.value ∙ c.in_default.is) (held.uploads c.args.c)) held

pub returns-in_default-clause-spares : goal.returns-in_default-clause-spares
returns-in_default-clause-spares g c owned room = spares_none owned (g.D.Disk.state c.args.disk.now)

pub returns-in_err-incoming-clause-spares : goal.returns-in_err-incoming-clause-spares
returns-in_err-incoming-clause-spares g c owned room =
    spares_upload (g.D.Disk.state c.args.disk.now) (g.D.Disk.state c.with_bytes.new.disk) c.in-Some.incoming c.args.self.now owned c.args.c (sym c.remove.ensures.value ∙ c.in-Some.is) room
    c.with_bytes.ensures.outside c.with_bytes.ensures.outside_read c.with_bytes.ensures.others

pub returns-in_err-insert-clause-spares : goal.returns-in_err-insert-clause-spares
returns-in_err-insert-clause-spares g c owned room =
    spares_upload (g.D.Disk.state c.args.disk.now) (g.D.Disk.state c.with_bytes.new.disk) c.in-Some.incoming c.args.self.now owned c.args.c (sym c.remove.ensures.value ∙ c.in-Some.is) room
    c.with_bytes.ensures.outside c.with_bytes.ensures.outside_read c.with_bytes.ensures.others

pub returns-clause-spares : goal.returns-clause-spares
returns-clause-spares g c owned room =
    spares_upload (g.D.Disk.state c.args.disk.now) (g.D.Disk.state c.with_bytes.new.disk) c.in-Some.incoming c.args.self.now owned c.args.c (sym c.remove.ensures.value ∙ c.in-Some.is) room
    c.with_bytes.ensures.outside c.with_bytes.ensures.outside_read c.with_bytes.ensures.others

pub returns-clause-room : goal.returns-clause-room
returns-clause-room g c owned room =
    let mid : Contents = record { blobs = c.args.self.now.blobs; incoming = c.remove.new.self; outgoing = c.args.self.now.outgoing } in
    let new : Contents = record { blobs = c.args.self.now.blobs; incoming = c.insert.new.self; outgoing = c.args.self.now.outgoing } in
    let set = set_twice c.args.self.now mid new c.args.c None (Some c.in_ok-incoming.incoming) (set_by_map c.args.self.now mid c.args.c None c.remove.ensures.updates) (set_by_map mid new c.args.c (Some c.in_ok-incoming.incoming) c.in_ok-insert.ensures.updates) in
    room_came c.args.self.now new owned [] c.args.c c.in-Some.incoming c.in_ok-incoming.incoming (record { set = set; pinned = refl; released = refl; outgoing = refl }) refl (sym c.remove.ensures.value ∙ c.in-Some.is) c.in_ok-incoming.ensures.extent room

pub returns-clause-held : goal.returns-clause-held
returns-clause-held g c h held =
    let mid : Contents = record { blobs = c.args.self.now.blobs; incoming = c.remove.new.self; outgoing = c.args.self.now.outgoing } in
    let new : Contents = record { blobs = c.args.self.now.blobs; incoming = c.insert.new.self; outgoing = c.args.self.now.outgoing } in
    let set = set_twice c.args.self.now mid new c.args.c None (Some c.in_ok-incoming.incoming) (set_by_map c.args.self.now mid c.args.c None c.remove.ensures.updates) (set_by_map mid new c.args.c (Some c.in_ok-incoming.incoming) c.in_ok-insert.ensures.updates) in
    held_more c.args.self.now new c.args.c c.in-Some.incoming c.in_ok-incoming.incoming (g.D.Disk.state c.args.disk.now) (g.D.Disk.state c.with_bytes.new.disk) h c.args.bytes.now
    (record { set = set; pinned = refl; released = refl; outgoing = refl }) (returns-clause-room g c h.owned held.room) (sym c.remove.ensures.value ∙ c.in-Some.is)
    c.in_ok-incoming.ensures.came c.with_bytes.ensures.outside_read c.with_bytes.ensures.others c.with_bytes.ensures.others_read held
