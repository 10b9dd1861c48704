use Rattle.std.proofs.Common.{◌≡◌, ◌-◌, ◌≤◌, length, take, drop, take_all, length-drop, ap, sym, ◌∙◌, arith}
use Rattle.new_versions.proofs.Extensions.{last_at, test_of}
use Rattle.new_versions.proofs.media.after_last.Goals as goal

pub returns-then-text-at : goal.returns-then-text-at
returns-then-text-at c =
    take_all (length c.args.text.now - c.bytes.at) (drop c.bytes.at c.args.text.now) (omega (arith, length-drop c.bytes.at c.args.text.now))
    ∙ last_at c.args.byte c.args.text.now c.bytes.at c.bytes.invariant.within c.bytes.invariant.none (λ some. test_of _ _ c.if-text-at.true)

pub returns : goal.returns
returns c =
    let none : c.bytes.at ≡ 0 = omega (arith, c.bytes-test.false) in
    sym (ap (λ at. drop at c.args.text.now) none)
    ∙ last_at c.args.byte c.args.text.now c.bytes.at c.bytes.invariant.within c.bytes.invariant.none (λ some. absurd (omega (arith, some, none)))
