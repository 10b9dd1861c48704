use Rattle.std.proofs.Common.{◌≡◌, drop}
use Rattle.serde_json.specs.View.{items_view}
use Rattle.field_kinds.specs.Kinds.{with_front, each_of}
use Rattle.field_kinds.proofs.lists.each_of.Given as goal

abbrev pub invariant-loop-item : goal.invariant-loop-item
invariant-loop-item g l = with_front l.list.items (each_of g.T.FromJson.kind (items_view (drop l.item-index l.items))) ≡ each_of g.T.FromJson.kind (items_view l.items)
