use Rattle.std.proofs.Common.{◌≡◌, ◌≤◌, length, take}
use Rattle.std.specs.Prelude.{filter}
use Rattle.rule_table.specs.Cap.{cap_order}
use Rattle.key_fields.specs.Capabilities.{is_named}
use Rattle.key_fields.proofs.capabilities.count_named.Given as goal

abbrev pub invariant-loop-cap : goal.invariant-loop-cap
invariant-loop-cap l = record {
  items : l.cap-items ≡ cap_order;
  count : l.count ≡ length (filter (is_named l.names) (take l.cap-index l.cap-items));
  most : l.count ≤ l.cap-index;
}
