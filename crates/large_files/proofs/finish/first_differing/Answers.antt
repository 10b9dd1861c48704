use Rattle.std.proofs.Common.{length, sym, ◌∙◌, arith}
use Rattle.std.proofs.lemmas.Bool.{cases_lt}
use Rattle.large_files.proofs.Walks.{differing_none}
use Rattle.large_files.proofs.finish.first_differing.Goals as goal

pub returns : goal.returns
returns c =
    let most = c.min-most.ensures in
    differing_none c.args.parts.now c.args.digests.now c.parts.at (cases_lt c.parts.at (length c.args.parts.now)) (λ within. omega (arith, within, most, c.parts-test.false))
    ∙ sym c.parts.invariant.same
