use Rattle.std.proofs.Common.{◌≡◌, length, drop, ◌-◌}
use Rattle.name_rules.specs.Folder.{folder_end}
use Rattle.name_rules.proofs.folder.folder_of.Given as goal

abbrev pub invariant-places : goal.invariant-places
invariant-places l = folder_end l.delimiter (length l.prefix) (drop (length l.prefix) l.name) ≡ folder_end l.delimiter l.at (drop l.at l.name)

abbrev pub decreases-places : goal.decreases-places
decreases-places l = length l.name - l.at
