use Rattle.std.proofs.Common.{reverse, ap, ◌∙◌}
use Rattle.httparse.specs.Grammar.{skip_ows, trim_ows}
use Rattle.http_edge.proofs.stay.trim_ows.Goals as goal

pub returns : goal.returns
unfolding trim_ows
returns c = c.trim_end.ensures ∙ ap (λ text. reverse (skip_ows (reverse text))) c.trim_start.ensures
