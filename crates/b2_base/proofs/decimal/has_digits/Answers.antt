use Rattle.std.proofs.Common.{ap, nat_le, length, ◌&&◌}
use Rattle.b2_base.proofs.Numerals.{same_digits}
use Rattle.b2_base.proofs.decimal.has_digits.Goals as goal

pub returns : goal.returns
returns c =
    let text = c.args.text.now in
    ap (λ d. (nat_le 1 (length text) && nat_le (length text) c.args.most) && d) (same_digits text c.is_digits.result c.is_digits.ensures)
