use Rattle.std.proofs.Common.{Err, ap, ◌∙◌}
use Rattle.std.proofs.lemmas.Bool.{false_from_ne_true}
use Rattle.b2_base.specs.Decimal.{has_digits}
use Rattle.b2_base.proofs.Numerals.{digits_text, digits_read}
use Rattle.b2_base.proofs.decimal.read_digits.Goals as goal

pub returns-in_default : goal.returns-in_default
returns-in_default c = false_from_ne_true (has_digits c.args.most c.args.text.now) (λ is. c.in_default.ensures.cases.0 (digits_text c.args.most c.args.text.now is))

pub returns-in_default-parse : goal.returns-in_default-parse
returns-in_default-parse c = false_from_ne_true (has_digits c.args.most c.args.text.now) (λ is.
    let text = c.in-Ok.text.now in
    let same = digits_read c.args.most text (Err c.in_default-parse.field-0) c.requires (ap (has_digits c.args.most) c.in-Ok.ensures.cases.0 ∙ is) c.in_default-parse.ensures.value.0 in
    cc same)
