-- Counts of faults, and what a fault is told for.
use Rattle.std.specs.Prelude.{◌≡◌, ℕ, ◌+◌, ◌-◌, ◌^◌, ◌≤◌, min, Result, OnOk, OnErr}
use Rattle.b2_base.specs.declared.failure.Or.{Or}
use Rattle.b2_base.specs.Failure.{IfFault, UnlessFault}

-- a count after one more fault: it stands still at 2^64 - 1
abbrev pub raised : ℕ → ℕ
raised count = min (count + 1) (2 ^ 64 - 1)

-- the count rose in between, or stands at its end
abbrev pub Rose : ℕ → ℕ → Type 0
Rose before now = raised before ≤ now

-- the count never falls; a call that failed raised it, and one that succeeded left it
pub record HasCause {T E : Type 0} (before now : ℕ) (result : Result T E) : Type 0 where
  pub later : before ≤ now
  pub kept : OnOk result (now ≡ before)
  pub failed : OnErr result (Rose before now)

-- the same of a call that may want memory: the count rose exactly where a fault is answered
pub record HasFaultCause {T F : Type 0} (before now : ℕ) (result : Result T (Or F)) : Type 0 where
  pub later : before ≤ now
  pub kept : UnlessFault result (now ≡ before)
  pub failed : IfFault result (λ _. Rose before now)
