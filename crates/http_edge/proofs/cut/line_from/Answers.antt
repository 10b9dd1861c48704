use Rattle.std.proofs.Common.{arith}
use Rattle.http_edge.proofs.Ends.{no_line_within, no_line_at_all, width, line_at}
use Rattle.http_edge.proofs.cut.line_from.Goals as goal

pub returns-in-Some-clause-before : goal.returns-in-Some-clause-before
returns-in-Some-clause-before c =
    let wide = width c.args.bytes.now c.args.at c.args.limit c.requires.0 c.requires.1 in
    let found = c.in-Some.ensures.0.high in
    no_line_within c.args.bytes.now c.args.at c.args.limit c.in-Some.further c.in-Some.ensures.0.before (omega (arith, c.requires.0, found, wide))

pub returns-in-None-clause-before : goal.returns-in-None-clause-before
returns-in-None-clause-before c = no_line_at_all c.args.bytes.now c.args.at c.args.limit c.requires.0 c.requires.1 c.in-None.ensures

pub returns-in-Some-clause-here : goal.returns-in-Some-clause-here
returns-in-Some-clause-here c = line_at c.args.bytes.now c.args.at c.args.limit c.in-Some.further c.in-Some.ensures.1
