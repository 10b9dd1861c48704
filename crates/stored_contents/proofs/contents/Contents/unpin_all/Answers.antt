use Rattle.std.proofs.Common.{◌≡◌, ◌+◌, [], ◌∷◌, ◌++◌, map, vec_len, refl, subst, ap, ◌∙◌}
use Rattle.std.specs.Prelude.{MatchOption}
use Rattle.std.proofs.lemmas.List.Elements.{All-contains_itself}
use Rattle.blob_extents.specs.States.{pin_extent}
use Rattle.stored_contents.specs.Room.{IsRoomWith}
use Rattle.stored_contents.proofs.Reading.{entries_of, items_of, last_pin, loose_there, no_pin, pinned_in_use, room_unpinned, within_both}
use Rattle.stored_contents.proofs.contents.Contents.unpin_all.Goals as goal

pub loop-pin-init : goal.loop-pin-init
loop-pin-init c = record { room = λ owned room. room; released = All-contains_itself c.args.self.now.blobs.released; incoming = refl; outgoing = refl }

pub loop-pin-preserved : goal.loop-pin-preserved
loop-pin-preserved c =
    let old = c.loop-pin.self in
    let new = c.unpin_one.new.self in
    let before = map pin_extent c.loop-pin.pins.items in
    let after = map pin_extent c.pop.new.self.items in
    let e = pin_extent c.in-Some.pin in
    let last : before ≡ after ++ e ∷ [] = last_pin c.loop-pin.pins.items c.pop.new.self.items c.in-Some.pin c.pop.result c.pop.ensures.items c.in-Some.is in
    record {
      room = λ owned room.
          let now = c.loop-pin.invariant.room owned room in
          let there = loose_there old owned before after e last now in
          let ends = c.in_ok-unpin_one.ensures.ends there (pinned_in_use old owned before e now there) in
          room_unpinned old new owned before after e ends.went ends.pinned ends.others
          (ap entries_of c.unpin_one.ensures.incoming) (ap items_of c.unpin_one.ensures.outgoing) last now;
      released = within_both c.args.self.now.blobs.released old.blobs.released new.blobs.released c.loop-pin.invariant.released c.in_ok-unpin_one.ensures.released;
      incoming = ap entries_of c.unpin_one.ensures.incoming ∙ c.loop-pin.invariant.incoming;
      outgoing = ap items_of c.unpin_one.ensures.outgoing ∙ c.loop-pin.invariant.outgoing;
    }

pub returns-clause-room : goal.returns-clause-room
returns-clause-room c owned room =
    let none = subst (λ o. MatchOption o ((vec_len c.loop-pin.pins ≡ 0) × (vec_len c.pop.new.self ≡ 0)) (λ _. vec_len c.pop.new.self + 1 ≡ vec_len c.loop-pin.pins)) c.in_default.is c.pop.ensures.cases in
    subst (IsRoomWith c.loop-pin.self owned)
    (no_pin c.loop-pin.pins.items c.pop.new.self.items (vec_len c.loop-pin.pins) c.pop.result c.pop.ensures.items c.in_default.is c.pop.ensures.rest none.0)
    (c.loop-pin.invariant.room owned room)
