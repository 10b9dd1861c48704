-- Rules that are judged in their order, of which the first that fails is told.
use Rattle.std.specs.Prelude.{◌≡◌, ◌++◌, All, ℕ, Bool, true, false, List, ◌∷◌, Option, Some, None, option_map, find}
use Rattle.rule_table.specs.declared.fault.FaultKind.{FaultKind}
use Rattle.b2_types.specs.declared.fault.Fault.{Fault}
use Rattle.b2_types.specs.Fault.{plain, with_number}

-- whether a rule fails, and the fault that says so
pub record Check : Type 0 where
  pub fails : Bool
  pub fault : Fault

abbrev pub check : FaultKind → Bool → Check
check kind fails = record { fails = fails; fault = plain kind }

abbrev pub check_number : FaultKind → ℕ → Bool → Check
check_number kind number fails = record { fails = fails; fault = with_number kind number }

-- the fault of the first rule that fails
abbrev pub first_fault : List Check → Option Fault
first_fault checks = option_map (λ c. c.fault) (find (λ c. c.fails) checks)

-- a test of a value, where there is one
abbrev pub some_and : {X : Type 0} → (X → Bool) → Option X → Bool
some_and test None = false
some_and test (Some x) = test x

-- the first that there is
abbrev pub or_else : {X : Type 0} → Option X → Option X → Option X
or_else None other = other
or_else (Some x) other = Some x

-- the fault is that of a rule that fails, and no rule before it does
pub record IsFirstFailing (checks : List Check) (fault : Fault) : Type 0 where
  pub before : List Check
  pub at : Check
  pub after : List Check
  pub is : checks ≡ before ++ at ∷ after
  pub pass : All (λ c. c.fails ≡ false) before
  pub fails : at.fails ≡ true
  pub told : at.fault ≡ fault
