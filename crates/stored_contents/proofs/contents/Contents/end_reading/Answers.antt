use Rattle.std.proofs.Common.{◌==◌, [], refl, sym, ap, ◌∙◌, find}
use Rattle.std.proofs.lemmas.List.Elements.{All-contains_itself}
use Rattle.stored_contents.specs.declared.contents.Contents.{Contents}
use Rattle.stored_contents.specs.Held.{read_by}
use Rattle.stored_contents.proofs.Ending.{none_found, others_left, place_within}
use Rattle.stored_contents.proofs.Reading.{held_read, room_unread, within_both}
use Rattle.stored_contents.proofs.contents.Contents.end_reading.Goals as goal

pub loop-place-init : goal.loop-place-init
loop-place-init g c = record { room = λ owned room. room; released = All-contains_itself c.args.self.now.blobs.released; incoming = refl; others = λ q not. refl }

pub loop-place-preserved : goal.loop-place-preserved
loop-place-preserved g c =
    let old = c.loop-place.self in
    let mid : Contents = record old { outgoing = c.remove-pins.new.self } in
    let os = old.outgoing.items in
    let o = c.remove-pins.result in
    let place = sym c.place_of.ensures ∙ c.in-Some.is in
    record {
      room = λ owned room.
          c.in_ok-unpin_all.ensures.room owned
          (room_unread old mid owned c.in-Some.place o (place_within os c.args.c c.in-Some.place o place) c.remove-pins.ensures.value refl refl c.remove-pins.ensures.items
          (c.loop-place.invariant.room owned room));
      released = within_both c.args.self.now.blobs.released old.blobs.released c.unpin_all.new.self.blobs.released c.loop-place.invariant.released c.in_ok-unpin_all.ensures.released;
      incoming = c.unpin_all.ensures.incoming ∙ c.loop-place.invariant.incoming;
      others = λ q not.
          ap (find (λ r. r.reader == q)) (c.unpin_all.ensures.outgoing ∙ c.remove-pins.ensures.items)
          ∙ others_left os c.args.c c.in-Some.place o place q not
          ∙ c.loop-place.invariant.others q not;
    }

pub returns-clause-none : goal.returns-clause-none
returns-clause-none g c = none_found (λ r. r.reader == c.args.c) c.loop-place.self.outgoing.items (sym c.place_of.ensures ∙ c.in_default.is)

pub returns-clause-held : goal.returns-clause-held
returns-clause-held g c h held =
    held_read c.args.self.now c.loop-place.self (g.D.Disk.state c.args._disk.now) h c.args.c [] held
    (c.loop-place.invariant.room h.owned held.room) c.loop-place.invariant.released c.loop-place.invariant.incoming c.loop-place.invariant.others
    (sym (ap (read_by h.meaning) (returns-clause-none g c)))
