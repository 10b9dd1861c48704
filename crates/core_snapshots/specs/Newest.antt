-- Names that are visible, found in a walk over versions in listing order.
use Rattle.std.specs.Prelude.{Bool, not, ◌&&◌, ◌==◌, List, [], ◌∷◌, Option, Some, None, bytes_eq, if◌then◌else◌}
use Rattle.b2_types.specs.declared.version.VersionOf.{VersionOf}
use Rattle.b2_model.specs.Kinds.{is_start, is_upload}

module _ {C : Type 0} where
  -- both are versions of one name
  abbrev pub is_of_name : VersionOf C → VersionOf C → Bool
  is_of_name v w = v.bucket == w.bucket && bytes_eq v.name w.name

  -- the version is the first of its name that is no start, where the first of the name before was found
  abbrev pub is_newest : Option (VersionOf C) → VersionOf C → Bool
  is_newest None v = not (is_start v.action)
  is_newest (Some w) v = not (is_start v.action) && not (is_of_name w v)

  -- what was found once the version is passed
  abbrev pub newest_after : Option (VersionOf C) → VersionOf C → Option (VersionOf C)
  newest_after last v = if is_newest last v then Some v else last

  -- the version shows its name
  abbrev pub shows : Option (VersionOf C) → VersionOf C → Bool
  shows last v = is_upload v.action && is_newest last v

  -- those of the rest of a walk that show theirs
  abbrev pub shown : Option (VersionOf C) → List (VersionOf C) → List (VersionOf C)
  shown last [] = []
  shown last (v ∷ vs) = if shows last v then v ∷ shown (newest_after last v) vs else shown (newest_after last v) vs
