use Rattle.std.proofs.Common.{◌≡◌, ◌+◌, length, take, drop, ◌++◌, ap, ◌∙◌, arith, length-take}
use Rattle.disk_model.proofs.Tears.{over_and_past, in_place}
use Rattle.disk_model.proofs.areas.write_over.Goals as goal

pub returns-clause-ok : goal.returns-clause-ok
returns-clause-ok c =
    let items = c.append_over.new.bytes.items in
    let at = c.args.at in
    let here = c.in_ok-here.here in
    let piece = c.args.piece.now in
    let size : length (take here piece) ≡ here = omega (arith, length-take here piece, c.in_ok-here.ensures.here) in
    let over : c.overwrite.new.bytes ≡ take at items ++ take here piece ++ drop (at + here) items =
    c.overwrite.ensures
    ∙ ap (λ l. take at l ++ take here piece ++ drop (at + length (take here piece)) l) c.deref_mut.ensures.value
    ∙ ap (λ k. take at items ++ take here piece ++ drop (at + k) items) size in
    in_place _ c.overwrite.new.bytes items (omega (arith, ap length c.deref_mut.ensures.value)) (omega (arith, c.deref_mut.ensures.len, ap length c.deref_mut.ensures.value))
    ∙ over
    ∙ over_and_past c.args.fill at here piece c.args.bytes.now.items c.in_ok-here.ensures.here items c.in_ok-here.ensures.ok
