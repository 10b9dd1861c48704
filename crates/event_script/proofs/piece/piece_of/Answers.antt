use Rattle.std.proofs.Common.{refl, sym, subst, ◌∙◌, ap}
use Rattle.std.proofs.lemmas.Bool.{false≢true}
use Rattle.hex.specs.Hex.{encode_lower}
use Rattle.event_script.specs.Line.{IsPiece}
use Rattle.event_script.proofs.Pieces.{wrong_len, not_decoded, other_bytes, is_piece}
use Rattle.event_script.proofs.piece.piece_of.Goals as goal

pub returns-then-not-may_be_digits : goal.returns-then-not-may_be_digits
returns-then-not-may_be_digits c = wrong_len c.args.digits.now (λ may. false≢true (c.if-not-may_be_digits.ensures.1 may))

pub returns-in-Err-Fault : goal.returns-in-Err-Fault
returns-in-Err-Fault c = not_decoded c.args.digits.now (rw c.in-Err-Fault.field-0-is at c.in-Err-Fault.ensures.wrong)

pub returns-then-branch : goal.returns-then-branch
returns-then-branch c =
    let may = c.if-not-may_be_digits.ensures.0 refl in
    let is = c.in_ok-are_digits_of.ensures.0 c.if-branch.true ∙ ap encode_lower c.deref.ensures.value in
    (subst IsPiece (sym c.of.ensures) (is_piece c.args.digits.now c.in-Ok.bytes.items c.in-Ok.ensures.ok is may.0 may.1), is ∙ ap encode_lower (sym c.of.ensures))

pub returns-else-branch : goal.returns-else-branch
returns-else-branch c = other_bytes c.args.digits.now c.in-Ok.bytes.items c.in-Ok.ensures.ok (λ same. false≢true (sym c.if-branch.false ∙ c.in_ok-are_digits_of.ensures.1 (same ∙ ap encode_lower (sym c.deref.ensures.value))))
