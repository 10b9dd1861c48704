-- Items under their numbers, as the entries of an ordered map.
use Rattle.std.specs.Prelude.{◌≡◌, ℕ, List}
use Rattle.std.specs.Ordering.{nat_cmp}
use Rattle.std.specs.Map.{keys_of}
use Rattle.std.specs.List.{AllByRecursion}
use Rattle.std.specs.List.Sorted.{IsStrictlySortedBy}

module _ {X : Type 0} (num : X → ℕ) where
  -- each item stands under its own number
  abbrev pub AreUnder : List (ℕ × X) → Type 0
  AreUnder entries = AllByRecursion (λ e. e.0 ≡ num e.1) entries

  -- and the numbers ascend
  pub record AreBy (entries : List (ℕ × X)) : Type 0 where
    pub order : IsStrictlySortedBy nat_cmp (keys_of entries)
    pub under : AreUnder entries
