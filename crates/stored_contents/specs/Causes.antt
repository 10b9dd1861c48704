-- What a fault of a store is told for.
use Rattle.std.specs.Prelude.{ℕ, ⊤}
use Rattle.b2_base.specs.declared.failure.Or.{Or}
use Rattle.b2_base.specs.declared.failure.Or.TheVariants as or
use Rattle.outside_traits.specs.Causes.{Rose}
use Rattle.stored_contents.specs.declared.contents.StoreFault.{StoreFault}
use Rattle.stored_contents.specs.declared.contents.StoreFault.TheVariants as fault

-- a fault of the disk: its count rose
abbrev pub IsCause : ℕ → ℕ → StoreFault → Type 0
IsCause before now fault.DiskFault = Rose before now
IsCause before now fault.AreaEnd = ⊤

-- the fault, where it is none of memory
abbrev pub IfAny : {F : Type 0} → Or F → (F → Type 0) → Type 0
IfAny or.Memory P = ⊤
IfAny (or.Fault f) P = P f
