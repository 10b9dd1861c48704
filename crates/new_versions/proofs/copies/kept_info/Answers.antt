use Rattle.std.proofs.Common.{subst}
use Rattle.name_rules.specs.InfoPairs.{IsArranged}
use Rattle.new_versions.proofs.Pairs.{arranged_again}
use Rattle.new_versions.proofs.copies.kept_info.Goals as goal

pub returns-in-Ok : goal.returns-in-Ok
returns-in-Ok c =
    arranged_again c.args.info.now c.in-Ok.info c.get.ensures.1 (subst (λ pairs. IsArranged pairs c.in-Ok.info) c.get.ensures.0 c.in-Ok.ensures.pairs.1)
