use Rattle.std.proofs.Common.{◌≡◌, map, take}
use Rattle.b2_model.specs.Shown.{shown_part}
use Rattle.new_versions.specs.Decided.{extent_len}
use Rattle.core_listings.proofs.parts.show_parts.Given as goal

abbrev pub invariant-loop-part : goal.invariant-loop-part
invariant-loop-part l = l.rows.items ≡ map (shown_part extent_len l.bucket l.num) (take l.part-index l.parts)
