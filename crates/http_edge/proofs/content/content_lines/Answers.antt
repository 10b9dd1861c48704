use Rattle.std.proofs.Common.{◌∙◌}
use Rattle.std.specs.String.{string_bytes}
use Rattle.http_edge.proofs.Texts.{content_text}
use Rattle.http_edge.proofs.content.content_lines.Goals as goal

pub returns : goal.returns
returns g c =
    c.in_ok-format.ensures.ok
    ∙ content_text c.args.content.now c.args.len c.kind_shown-kind.result.now (string_bytes c.in_ok-range.range) (string_bytes c.in_ok-file.file) c.kind_shown-kind.ensures c.in_ok-range.ensures c.in_ok-file.ensures
