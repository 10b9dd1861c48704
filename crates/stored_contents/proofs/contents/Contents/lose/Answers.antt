use Rattle.std.proofs.Common.{[], None, ◌∙◌, refl, sym, subst}
use Rattle.extent_space.specs.Room.{Apart, GivesBack}
use Rattle.stored_contents.specs.declared.contents.Contents.{Contents}
use Rattle.stored_contents.proofs.Updates.{set_by_map}
use Rattle.stored_contents.proofs.Rooms.{OnlyUpload, room_lost, room_none}
use Rattle.stored_contents.proofs.Holdings.{held_still}
use Rattle.stored_contents.proofs.contents.Contents.lose.Goals as goal

pub returns-in_default-clause-room : goal.returns-in_default-clause-room
returns-in_default-clause-room g c owned room =
    let new : Contents = record { blobs = c.args.self.now.blobs; incoming = c.remove.new.self; outgoing = c.args.self.now.outgoing } in
    room_none c.args.self.now new owned [] c.args.c (record { set = set_by_map c.args.self.now new c.args.c None c.remove.ensures.updates; pinned = refl; released = refl; outgoing = refl }) refl (sym c.remove.ensures.value ∙ c.in_default.is) room

pub returns-in_default-clause-held : goal.returns-in_default-clause-held
returns-in_default-clause-held g c h held =
    let new : Contents = record { blobs = c.args.self.now.blobs; incoming = c.remove.new.self; outgoing = c.args.self.now.outgoing } in
    let only : OnlyUpload c.args.self.now new c.args.c None = record { set = set_by_map c.args.self.now new c.args.c None c.remove.ensures.updates; pinned = refl; released = refl; outgoing = refl } in
    held_still c.args.self.now new c.args.c None (g.D.Disk.state c.args._disk.now) h None only (returns-in_default-clause-room g c h.owned held.room) refl held

pub returns-clause-room : goal.returns-clause-room
returns-clause-room g c owned room =
    let new : Contents = record { blobs = c.give_up.new.self; incoming = c.remove.new.self; outgoing = c.args.self.now.outgoing } in
    let only : OnlyUpload c.args.self.now new c.args.c None = record { set = set_by_map c.args.self.now new c.args.c None c.remove.ensures.updates; pinned = c.in_ok-give_up.ensures.pinned; released = c.in_ok-give_up.ensures.released; outgoing = refl } in
    room_lost c.args.self.now new owned [] c.args.c c.in-Some.incoming only (sym c.remove.ensures.value ∙ c.in-Some.is)
    (subst (λ x. GivesBack c.args.self.now.blobs.room x c.give_up.new.self.room) c.spend-spent.ensures c.in_ok-give_up.ensures.back)
    (λ e apart used. c.in_ok-give_up.ensures.others e (subst (λ x. Apart x e) (sym c.spend-spent.ensures) apart) used) room

pub returns-clause-held : goal.returns-clause-held
returns-clause-held g c h held =
    let new : Contents = record { blobs = c.give_up.new.self; incoming = c.remove.new.self; outgoing = c.args.self.now.outgoing } in
    let only : OnlyUpload c.args.self.now new c.args.c None = record { set = set_by_map c.args.self.now new c.args.c None c.remove.ensures.updates; pinned = c.in_ok-give_up.ensures.pinned; released = c.in_ok-give_up.ensures.released; outgoing = refl } in
    held_still c.args.self.now new c.args.c None (g.D.Disk.state c.args._disk.now) h None only (returns-clause-room g c h.owned held.room) refl held
