use Rattle.std.proofs.Common.{rules, ◌≡◌, ◌-◌, ◌≤◌, ◌∙◌, ℕ, List, length, take, drop, take_all, length-drop, sym, arith}
use Rattle.app_keys.proofs.Numbers.{other_len, no_zeros_at, digits_at, tells}
use Rattle.app_keys.proofs.id.KeyId.number.Goals as goal

-- a slice from a place on
whole : (n : ℕ) (xs : List ℕ) → take (length xs - n) (drop n xs) ≡ drop n xs
whole n xs = take_all (length xs - n) (drop n xs) (omega (arith, length-drop n xs))

pub returns-then-id-ne25 : goal.returns-then-id-ne25
returns-then-id-ne25 c = λ account key len small is. other_len c.args.id.now account key c.if-id-eq12.false c.if-id-ne25.true len is

pub returns-in_default : goal.returns-in_default
returns-in_default c = λ account key len small is.
    no_zeros_at c.args.id.now account key c.if-id-ne25.false (λ rest same. c.in_default.ensures rest (whole 15 c.args.id.now ∙ same)) len is

pub returns-in_default-read_eight : goal.returns-in_default-read_eight
returns-in_default-read_eight c = λ account key len small is.
    c.in_default-read_eight.ensures key small
    (digits_at c.args.id.now account c.in-Some.digits.now key c.if-id-ne25.false (sym (whole 15 c.args.id.now) ∙ c.in-Some.ensures) len is)

pub returns : goal.returns
returns c =
    let is = tells c.args.id.now c.in-Some.digits.now c.in-Some-read_eight.number c.if-id-ne25.false (sym (whole 15 c.args.id.now) ∙ c.in-Some.ensures) c.in-Some-read_eight.ensures (search (rules, arith)) in
    rw c.new-2.ensures is
