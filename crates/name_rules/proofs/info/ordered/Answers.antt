use Rattle.name_rules.proofs.Infos.{ordered_by}
use Rattle.name_rules.proofs.info.ordered.Goals as goal

pub pairs-preserved : goal.pairs-preserved
pairs-preserved c = rw (c.in_ok-insert.ensures.entries, c.in_ok-key.ensures, c.in_ok-value.ensures, c.get.ensures)
    (ordered_by c.args.pairs.now c.pairs.map.entries c.pairs.pair-index _ _ c.pairs-test.true c.pair-item.is c.requires c.pairs.invariant)
