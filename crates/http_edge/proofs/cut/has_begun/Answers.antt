use Rattle.std.proofs.Common.{◌-◌, ◌<◌, arith, sym, ◌∙◌}
use Rattle.std.proofs.lemmas.Bool.{false≢true}
use Rattle.http_edge.proofs.Ends.{none_before, none_from}
use Rattle.http_edge.proofs.cut.has_begun.Goals as goal

pub returns-then-ends_line : goal.returns-then-ends_line
returns-then-ends_line c =
    let bytes = c.args.bytes.now in
    let from = c.back.from - 1 in
    let low : from < c.args.at = omega (arith, c.back.invariant.within, c.back-test.true) in
    let clean = none_from bytes from c.args.at (λ i least below other. c.back.invariant.clean i (omega (arith, least, c.back-test.true)) below other)
    (λ other. false≢true (sym c.if-is_other.false ∙ c.is_other.ensures.1 other)) in
    (λ yes. absurd (false≢true yes), λ other. absurd (none_before bytes from c.args.at low c.requires.within c.requires.none (c.ends_line.ensures.0 c.if-ends_line.true) clean other))
