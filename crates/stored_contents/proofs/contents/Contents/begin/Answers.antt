use Rattle.std.proofs.Common.{◌≡◌, nat_eq, [], Some, None, Err, ap, sym, subst, ◌∙◌, refl}
use Rattle.std.specs.Map.{update}
use Rattle.std.specs.Option.{option_map}
use Rattle.std.proofs.lemmas.Result.{err_from_is_err_and}
use Rattle.b2_base.proofs.Faults.{IfFault-handed}
use Rattle.extent_space.specs.Room.{extent_for}
use Rattle.blob_extents.specs.Uses.{Uses}
use Rattle.stored_contents.specs.declared.contents.Contents.{Contents}
use Rattle.stored_contents.specs.declared.incoming.Incoming.{Incoming}
use Rattle.stored_contents.specs.Held.{IsHeld}
use Rattle.stored_contents.specs.Room.{IsRoom, extent_of}
use Rattle.stored_contents.proofs.Updates.{set_by_map, updated_twice}
use Rattle.stored_contents.proofs.Rooms.{OnlyUpload, room_begun}
use Rattle.stored_contents.proofs.Holdings.{at_fault, held_came, held_still, none_came}
use Rattle.stored_contents.proofs.contents.Contents.begin.Goals as goal

pub returns-in_err-staging-clause-full : goal.returns-in_err-staging-clause-full
returns-in_err-staging-clause-full g c none =
    let p = err_from_is_err_and c.from_residual-in_err-staging.result c.from_residual-in_err-staging.ensures.1 in
    let same : c.lose.new.self.blobs ≡ c.args.self.now.blobs = c.in_ok-lose.ensures.none none in
    IfFault-handed c.in_err-staging.field-0.0 (λ x. extent_for c.lose.new.self.blobs.room c.args.len ≡ None) (λ x. extent_for c.args.self.now.blobs.room c.args.len ≡ None)
    (λ f is. subst (λ (u : Uses). extent_for u.room c.args.len ≡ None) same is)
    c.begin.result c.in_err-staging.was c.begin.ensures.full c.from_residual-in_err-staging.result (p.1 ∙ ap Err p.2)

pub returns-in_err-staging-clause-room_full : goal.returns-in_err-staging-clause-room_full
returns-in_err-staging-clause-room_full g c owned room = at_fault c.from_residual-in_err-staging.result _
    (subst (λ u. IsRoom (record { blobs = u; incoming = c.lose.new.self.incoming; outgoing = c.lose.new.self.outgoing }) owned) (sym c.in_err-staging.ensures.err) (c.in_ok-lose.ensures.room owned room))

pub returns-in_err-staging-clause-held_full : goal.returns-in_err-staging-clause-held_full
returns-in_err-staging-clause-held_full g c h held = at_fault c.from_residual-in_err-staging.result _
    (subst (λ u. IsHeld (record { blobs = u; incoming = c.lose.new.self.incoming; outgoing = c.lose.new.self.outgoing }) (g.D.Disk.state c.args._disk.now) (record h { came = update nat_eq h.came c.args.c None })) (sym c.in_err-staging.ensures.err) (c.in_ok-lose.ensures.held h held))

pub returns-clause-room : goal.returns-clause-room
returns-clause-room g c owned room =
    let new : Contents = record { blobs = c.begin.new.self; incoming = c.insert.new.self; outgoing = c.lose.new.self.outgoing } in
    let came : Incoming = record { staging = c.in_ok-staging.staging; rest = c.new.result } in
    room_begun c.lose.new.self new owned [] c.args.c came
    (record { set = set_by_map c.lose.new.self new c.args.c (Some came) c.in_ok-insert.ensures.updates; pinned = c.begin.ensures.pinned; released = c.begin.ensures.released; outgoing = refl })
    c.in_ok-lose.ensures.gone c.in_ok-staging.ensures.takes c.in_ok-staging.ensures.in_use c.in_ok-staging.ensures.apart c.begin.ensures.others (c.in_ok-lose.ensures.room owned room)

pub returns-clause-held : goal.returns-clause-held
returns-clause-held g c h held =
    let new : Contents = record { blobs = c.begin.new.self; incoming = c.insert.new.self; outgoing = c.lose.new.self.outgoing } in
    let came : Incoming = record { staging = c.in_ok-staging.staging; rest = c.new.result } in
    let only : OnlyUpload c.lose.new.self new c.args.c (Some came) = record { set = set_by_map c.lose.new.self new c.args.c (Some came) c.in_ok-insert.ensures.updates; pinned = c.begin.ensures.pinned; released = c.begin.ensures.released; outgoing = refl } in
    let d = g.D.Disk.state c.args._disk.now in
    let lost = c.in_ok-lose.ensures.held h held in
    held_came new d (record h { came = update nat_eq (update nat_eq h.came c.args.c None) c.args.c (Some (record { len = c.args.len; bytes = [] })) }) _ (updated_twice h.came c.args.c None (Some (record { len = c.args.len; bytes = [] })))
    (held_still c.lose.new.self new c.args.c (Some came) d (record h { came = update nat_eq h.came c.args.c None }) (Some (record { len = c.args.len; bytes = [] })) only (returns-clause-room g c h.owned held.room)
    (none_came d came c.args.len held.image held.given c.in_ok-staging.ensures.len c.in_ok-staging.ensures.none c.new.ensures.items)
    lost)

pub returns-clause-place : goal.returns-clause-place
returns-clause-place g c none =
    let new : Contents = record { blobs = c.begin.new.self; incoming = c.insert.new.self; outgoing = c.lose.new.self.outgoing } in
    let came : Incoming = record { staging = c.in_ok-staging.staging; rest = c.new.result } in
    let set = set_by_map c.lose.new.self new c.args.c (Some came) c.in_ok-insert.ensures.updates in
    let same : c.lose.new.self.blobs ≡ c.args.self.now.blobs = c.in_ok-lose.ensures.none none in
    ap (option_map extent_of) set.here ∙ sym c.in_ok-staging.ensures.place ∙ ap (λ (u : Uses). extent_for u.room c.args.len) same
