use Rattle.std.proofs.Common.{◌∙◌}
use Rattle.b2_base.proofs.IdLemmas.{other_middle}
use Rattle.b2_base.proofs.file_id.pieces.Goals as goal

pub returns-in_default-behind : goal.returns-in_default-behind
returns-in_default-behind c =
    other_middle c.args.bytes.now c.in-Some.rest.now c.in-Some.ensures (λ xs is. c.in_default-behind.ensures xs (c.split_at.ensures.back ∙ is))
