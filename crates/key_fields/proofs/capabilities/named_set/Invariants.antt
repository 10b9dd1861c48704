use Rattle.std.proofs.Common.{◌≡◌, length}
use Rattle.rule_table.specs.Cap.{cap_order}
use Rattle.key_fields.specs.Capabilities.{is_named}
use Rattle.key_fields.proofs.Sets.{HasFirst}
use Rattle.key_fields.proofs.capabilities.named_set.Given as goal

abbrev pub invariant-loop-cap : goal.invariant-loop-cap
invariant-loop-cap l = record {
  items : l.cap-items ≡ cap_order;
  size : length l.set.flags ≡ 26;
  has : HasFirst l.set (is_named l.names) l.cap-index;
}
