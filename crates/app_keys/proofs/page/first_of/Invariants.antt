use Rattle.std.proofs.Common.{◌≡◌, ◌++◌, ◌≤◌, length, map}
use Rattle.std.specs.Map.{values_of}
use Rattle.app_keys.proofs.page.first_of.Given as goal

abbrev pub invariant-rows : goal.invariant-rows
invariant-rows l = record {
  so_far : map (λ k. k.now) l.rows.items ++ values_of l.left ≡ values_of l.fn.left;
  few : length l.rows.items ≤ l.size;
}

abbrev pub decreases-rows : goal.decreases-rows
decreases-rows l = length (values_of l.left)
