use Rattle.std.proofs.Common.{◌≡◌, ◌∷◌, ◌++◌, [], map, get_or, Contains, refl, sym, ap, subst, ◌∙◌}
use Rattle.std.proofs.lemmas.List.{map_push, take_more}
use Rattle.std.proofs.lemmas.List.Elements.{All-contains, Contains-append_left, All-get_or}
use Rattle.b2_base.specs.declared.extent.Extent.{Extent}
use Rattle.blob_extents.specs.States.{pin_extent}
use Rattle.blob_extents.specs.Uses.{IsInUse}
use Rattle.stored_contents.specs.Room.{IsRoomWith, live}
use Rattle.stored_contents.proofs.Reading.{room_pinned}
use Rattle.stored_contents.proofs.contents.Contents.pin_all.Goals as goal

pub returns-in_default-clause-pieces : goal.returns-in_default-clause-pieces
returns-in_default-clause-pieces c owned room pieces =
    let t = c.loop-piece.self in
    let i = c.loop-piece.piece-index in
    let none : Extent = record { at = 0; len = 0 } in
    let piece = get_or c.args.pieces.now i none in
    let has : Contains owned piece = All-get_or (Contains owned) c.args.pieces.now i none c.loop-piece-test.true pieces in
    let used : IsInUse t.blobs piece = All-contains (IsInUse t.blobs) (live owned t) piece (c.loop-piece.invariant.room owned room pieces).in_use (Contains-append_left owned t.blobs.released piece has) in
    absurd (c.in_default.ensures used)

pub loop-piece-preserved : goal.loop-piece-preserved
loop-piece-preserved c =
    let old = c.loop-piece.self in
    let piece = get_or c.args.pieces.now c.loop-piece.piece-index (record { at = 0; len = 0 }) in
    let pinned : c.pin.new.self.pinned ≡ old.blobs.pinned ++ piece ∷ [] = c.in_ok-pin.ensures.pinned ∙ ap (λ e. old.blobs.pinned ++ e ∷ []) c.in-Some.ensures.1 in
    let extent : pin_extent c.in_ok-pin.field-0 ≡ piece = c.in_ok-pin.ensures.extent ∙ c.in-Some.ensures.1 in
    let more : map pin_extent c.push.new.self.items ≡ map pin_extent c.loop-piece.pins.items ++ piece ∷ [] =
    ap (map pin_extent) c.in_ok-push.ensures.items
    ∙ map_push pin_extent c.loop-piece.pins.items c.in_ok-pin.field-0
    ∙ ap (λ e. map pin_extent c.loop-piece.pins.items ++ e ∷ []) extent in
    record {
      room = λ owned room pieces.
          subst (IsRoomWith (record old { blobs = c.pin.new.self }) owned) (sym more)
          (room_pinned old (record old { blobs = c.pin.new.self }) owned (map pin_extent c.loop-piece.pins.items) piece
          (All-get_or (Contains owned) c.args.pieces.now c.loop-piece.piece-index (record { at = 0; len = 0 }) c.loop-piece-test.true pieces)
          pinned c.in_ok-pin.ensures.room c.in_ok-pin.ensures.released refl refl
          (c.loop-piece.invariant.room owned room pieces));
      pieces = λ owned room pieces. more ∙ ap (λ l. l ++ piece ∷ []) (c.loop-piece.invariant.pieces owned room pieces) ∙ sym (take_more c.args.pieces.now c.loop-piece.piece-index (record { at = 0; len = 0 }) c.loop-piece-test.true);
      released = c.in_ok-pin.ensures.released ∙ c.loop-piece.invariant.released;
      incoming = c.loop-piece.invariant.incoming;
      outgoing = c.loop-piece.invariant.outgoing;
    }
