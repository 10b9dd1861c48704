-- How a form in memory counts a call.
use Rattle.std.specs.Prelude.{◌≡◌, ◌⊎◌, Result, IsErr, OnOk, OnErr}
use Rattle.outside_traits.specs.Causes.{raised, Rose}
use Rattle.outside_traits.specs.declared.calls.Calls.{Calls}
use Rattle.outside_traits.specs.Memory.{IsToFail}

-- The call was counted. It failed where its number is listed, and else for want of memory or another cause alone.
pub record CountsCall {T E : Type 0} (other : Type 0) (old new : Calls) (result : Result T E) : Type 0 where
  pub made : new.made ≡ raised old.made
  pub fails : new.fails ≡ old.fails
  pub listed : IsToFail old → IsErr result
  pub cause : OnErr result (IsToFail old ⊎ (other ⊎ Rose old.short new.short))
  pub short : OnOk result (new.short ≡ old.short)
