use Rattle.std.proofs.Common.{◌≡◌}
use Rattle.serde_json.specs.View.{members_view}
use Rattle.field_kinds.specs.Kinds.{with_front}
use Rattle.field_kinds.specs.Info.{texts_of}
use Rattle.field_kinds.proofs.info.texts_of.Given as goal

abbrev pub invariant-loop-key : goal.invariant-loop-key
invariant-loop-key l = with_front l.pairs.items (texts_of (members_view l.key-iterator)) ≡ texts_of (members_view l.map.entries)
