use Rattle.std.proofs.Common.{[], ◌∷◌, None, Some, ◌≡◌, true, ◌∙◌, refl, sym, subst}
use Rattle.stored_contents.specs.declared.contents.Contents.{Contents}
use Rattle.stored_contents.specs.declared.uploads.Whole.{Whole}
use Rattle.stored_contents.specs.Held.{is_all}
use Rattle.stored_contents.specs.Room.{IsRoom}
use Rattle.stored_contents.proofs.Updates.{set_by_map}
use Rattle.stored_contents.proofs.Rooms.{OnlyUpload, room_sealed}
use Rattle.stored_contents.proofs.Sealing.{is_sealed}
use Rattle.stored_contents.proofs.contents.Contents.seal.Goals as goal

pub returns-clause-room : goal.returns-clause-room
returns-clause-room g c owned room =
    let new : Contents = record { blobs = c.args.self.now.blobs; incoming = c.remove.new.self; outgoing = c.args.self.now.outgoing } in
    let only : OnlyUpload c.args.self.now new c.args.c None = record { set = set_by_map c.args.self.now new c.args.c None c.remove.ensures.updates; pinned = refl; released = refl; outgoing = refl } in
    subst (λ e. IsRoom new (e ∷ owned)) (sym (c.extent.ensures ∙ c.in-Ok.ensures.extent))
    (room_sealed c.args.self.now new owned [] c.args.c c.in-Some.field-0 only refl (sym c.remove.ensures.value ∙ c.in-Some.is) room)

pub returns-clause-held : goal.returns-clause-held
returns-clause-held g c h held =
    let new : Contents = record { blobs = c.args.self.now.blobs; incoming = c.remove.new.self; outgoing = c.args.self.now.outgoing } in
    let only : OnlyUpload c.args.self.now new c.args.c None = record { set = set_by_map c.args.self.now new c.args.c None c.remove.ensures.updates; pinned = refl; released = refl; outgoing = refl } in
    let w : Whole = record { extent = c.extent.result; digest = c.digest.result; rest = c.in-Some.field-0.rest } in
    let whole : is_all (Some c.in-Some.field-0) ≡ true = subst (λ o. is_all o ≡ true) (sym c.remove.ensures.value ∙ c.in-Some.is) (sym c.is_whole.ensures ∙ c.if-not-is_whole.false) in
    is_sealed c.args.self.now new c.args.c c.in-Some.field-0 (g.D.Disk.state c.args.disk.now) (g.D.Disk.state c.seal.new.disk) h w only
    (sym c.remove.ensures.value ∙ c.in-Some.is) (returns-clause-room g c h.owned held.room) whole (c.extent.ensures ∙ c.in-Ok.ensures.extent) refl
    (λ m hashed. c.digest.ensures ∙ c.in-Ok.ensures.digest m hashed) c.in-Ok.ensures.safe c.seal.ensures.rests held
