-- The state of a store in which no bucket was made.
use Rattle.std.specs.Prelude.{[], ℕ}
use Rattle.b2_base.specs.declared.extent.Extent.{Extent}
use Rattle.b2_model.specs.State.{State}
use Rattle.b2_model.specs.Changes.{new_store}
use Rattle.bench_decisions.specs.declared.known.Account.{Account}

abbrev pub state_of : Account → State Extent
state_of a = new_store (record { account = a.account; secret_hash = []; url = []; part_min = 10; last_version = 9; area_end = 0 }) 0
