use Rattle.rule_table.proofs.CapSets.{by_places, by_caps}
use Rattle.rule_table.proofs.cap_set.CapSet.subset.Goals as goal

pub returns : goal.returns
returns c =
    let flags = c.args.self.now.flags in
    let others = c.args.of.now.flags in
    (λ is. by_places flags others (c.is_within.ensures.0 is), λ each. c.is_within.ensures.1 (by_caps flags others each))
