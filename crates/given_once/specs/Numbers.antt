-- Numbers are given once.
use Rattle.std.specs.Prelude.{◌≡◌, ◌⊎◌, ℕ, ◌≤◌, ◌==◌, true, List, All}
use Rattle.std.specs.List.{list_any}
use Rattle.b2_model.specs.State.{State}

-- from a list and its next number to a later one: each number of the later list is that of an item of the
-- earlier one, or was not given by then, and the next number does not fall
pub record GivesOnce {X : Type 0} (num : X → ℕ) (next : ℕ) (before : List X) (later : ℕ) (after : List X) : Type 0 where
  pub old_or_new : All (λ x. (list_any (λ y. num y == num x) before ≡ true) ⊎ (next ≤ num x)) after
  pub rises : next ≤ later

-- from a state to a later one, no number of a bucket, a version or a key that was given is given again
pub record NeverAgain {C : Type 0} (M N : State C) : Type 0 where
  pub buckets : GivesOnce (λ b. b.num) M.next_bucket M.buckets N.next_bucket N.buckets
  pub versions : GivesOnce (λ v. v.num) M.next_version M.versions N.next_version N.versions
  pub keys : GivesOnce (λ k. k.num) M.next_key M.keys N.next_key N.keys
