-- Three outcomes of the changes of an area.
use Rattle.std.specs.Prelude.{◌≡◌, List}
use Rattle.disk_model.specs.declared.changes.Change.{Change}
use Rattle.disk_model.specs.declared.images.Outcomes.{Outcomes}
use Rattle.disk_model.specs.Changes.{read_after, synced_after, filled_after}

pub record HasOutcomes (changes : List Change) (o : Outcomes) : Type 0 where
  pub kept : o.kept.items ≡ read_after changes
  pub synced : o.synced.items ≡ synced_after changes
  pub filled : o.filled.items ≡ filled_after changes
