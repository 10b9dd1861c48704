use Rattle.std.proofs.Common.{◌∙◌, ◌+◌, ◌-◌, decimal, ap, sym}
use Rattle.http_edge.specs.Reply.{range_header}
use Rattle.http_edge.proofs.Texts.{range_flat}
use Rattle.http_edge.proofs.content.range_line.Goals as goal

pub returns : goal.returns
returns c =
    let span = c.in-Some.span in
    c.in_ok-format.ensures.ok ∙ range_flat (decimal span.at) (decimal (span.at + span.len - 1)) (decimal c.args.length) ∙ ap (range_header c.args.length) (sym c.in-Some.is)
