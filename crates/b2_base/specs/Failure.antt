-- Results that may be want of memory.
use Rattle.std.specs.Prelude.{Result, Ok, Err, ⊤}
use Rattle.b2_base.specs.declared.failure.Or.{Or}
use Rattle.b2_base.specs.declared.failure.Or.TheVariants as or

-- P of the fault, where one is answered
abbrev pub IfFault : {T F : Type 0} → Result T (Or F) → (F → Type 0) → Type 0
IfFault (Ok x) P = ⊤
IfFault (Err or.Memory) P = ⊤
IfFault (Err (or.Fault f)) P = P f

-- P, unless a fault is answered
abbrev pub UnlessFault : {T F : Type 0} → Result T (Or F) → Type 0 → Type 0
UnlessFault (Ok x) P = P
UnlessFault (Err or.Memory) P = P
UnlessFault (Err (or.Fault f)) P = ⊤
