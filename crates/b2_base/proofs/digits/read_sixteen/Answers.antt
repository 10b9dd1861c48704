use Rattle.std.proofs.Common.{◌∙◌, sym}
use Rattle.std.proofs.lemmas.Slice.Eq.{bytes_eq-Decides}
use Rattle.std.proofs.lemmas.Bool.{false≢true}
use Rattle.b2_base.proofs.DigitsLemmas.{not_sixteen, other_sixteen, is_sixteen}
use Rattle.b2_base.proofs.digits.read_sixteen.Goals as goal

pub returns-in_default : goal.returns-in_default
returns-in_default c = not_sixteen c.args.text.now c.in_default.field-0 (sym c.in_default.ensures)

pub returns-then-eq : goal.returns-then-eq
returns-then-eq c =
    let same = (bytes_eq-Decides c.args.text.now c.as_slice.result.now).0 (sym c.if-eq.ensures) in
    is_sixteen c.args.text.now c.in-Ok.bytes c.from_be_bytes.result (sym c.in-Ok.ensures) c.from_be_bytes.ensures
    (same ∙ c.as_slice.ensures ∙ rw c.unwrap.ensures at c.encode_to_slice.ensures.written)

pub returns-else-eq : goal.returns-else-eq
returns-else-eq c =
    let written = rw c.unwrap.ensures at c.encode_to_slice.ensures.written in
    other_sixteen c.args.text.now c.in-Ok.bytes (sym c.in-Ok.ensures)
    (λ same. false≢true (c.if-eq.ensures ∙ (bytes_eq-Decides c.args.text.now c.as_slice.result.now).1 (same ∙ sym written ∙ sym c.as_slice.ensures)))
