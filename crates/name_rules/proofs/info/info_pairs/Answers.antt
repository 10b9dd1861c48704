use Rattle.std.proofs.Common.{rules}
use Rattle.name_rules.specs.InfoPairs.{IsArranged, AreInfo}
use Rattle.name_rules.proofs.Infos.{are_kept}
use Rattle.name_rules.proofs.info.info_pairs.Goals as goal

pub invariant_of-result : goal.invariant_of-result
invariant_of-result c =
    let info : AreInfo c.args.pairs.now = search rules in
    let arranged : IsArranged c.args.pairs.now c.of.result = search rules in
    are_kept c.args.pairs.now c.of.result info arranged
