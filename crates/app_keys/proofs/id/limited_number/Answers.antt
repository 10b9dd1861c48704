use Rattle.app_keys.proofs.Ids.{no_zeros, digits_of, not_zero}
use Rattle.app_keys.proofs.id.limited_number.Goals as goal

pub returns-in_default-behind-2 : goal.returns-in_default-behind-2
returns-in_default-behind-2 c = λ key some small.
    no_zeros c.args.id.now c.in-Some.rest.now c.in-Some-behind.rest.now c.args.account.now c.in-Some.ensures c.in-Some-behind.ensures c.in_default-behind-2.ensures key

pub returns-in_default-read_eight : goal.returns-in_default-read_eight
returns-in_default-read_eight c = λ key some small is.
    c.in_default-read_eight.ensures key small
    (digits_of c.args.id.now c.in-Some.rest.now c.in-Some-behind.rest.now c.args.account.now c.in-Some-behind-2.digits.now key c.in-Some.ensures c.in-Some-behind.ensures c.in-Some-behind-2.ensures is)

pub returns-then-number-eq0 : goal.returns-then-number-eq0
returns-then-number-eq0 c = λ key some small is.
    not_zero c.in-Some-behind-2.digits.now c.in-Some-read_eight.number key c.if-number-eq0.true c.in-Some-read_eight.ensures some small
    (digits_of c.args.id.now c.in-Some.rest.now c.in-Some-behind.rest.now c.args.account.now c.in-Some-behind-2.digits.now key c.in-Some.ensures c.in-Some-behind.ensures c.in-Some-behind-2.ensures is)
