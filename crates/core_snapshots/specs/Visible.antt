-- How many names listings show.
use Rattle.std.specs.Prelude.{ℕ, length, sum_by}
use Rattle.b2_model.specs.Pages.{visible_versions}
use Rattle.b2_model.specs.Rows.{rows}
use Rattle.b2_model.specs.State.{State}

-- of each bucket the names whose newest version that is no start is an upload
abbrev pub visible_names : {C : Type 0} → State C → ℕ
visible_names M = sum_by (λ b. length (visible_versions (rows M b.num))) M.buckets
