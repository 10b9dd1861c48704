-- When parts become a file (the B2 reference, b2_finish_large_file).
use Rattle.std.specs.Prelude.{ℕ, not, ◌==◌, ◌+◌, nat_lt, List, [], ◌∷◌, Option, Some, None, if◌then◌else◌, length, map, bytes_eq}
use Rattle.std.specs.Option.{is_some}
use Rattle.rule_table.specs.declared.fault.FaultKind.{FaultKind}
use Rattle.rule_table.specs.declared.fault.FaultKind.TheVariants.{NotLarge, NoParts, Gap, Count, Sha, Small}
use Rattle.b2_types.specs.declared.version.VersionOf.{VersionOf}
use Rattle.b2_types.specs.declared.version.PartOf.{PartOf}
use Rattle.b2_types.specs.declared.kinds.Retention.{Retention}
use Rattle.b2_types.specs.declared.kinds.Action.TheVariants as action
use Rattle.b2_types.specs.declared.kinds.Mark.TheVariants as mark
use Rattle.b2_model.specs.Kinds.{is_start}
use Rattle.b2_model.specs.Checks.{Check, check, check_number}

-- the least number that is missing below a part's, where the numbers begin with this one
abbrev pub gap_from : {C : Type 0} → ℕ → List (PartOf C) → Option ℕ
gap_from k [] = None
gap_from k (p ∷ ps) = if p.number == k then gap_from (k + 1) ps else Some k

-- the first part whose digest differs
abbrev pub first_differing : {C : Type 0} → List (PartOf C) → List (List ℕ) → Option ℕ
first_differing [] digests = None
first_differing (p ∷ ps) [] = None
first_differing (p ∷ ps) (d ∷ ds) = if bytes_eq p.digest d then first_differing ps ds else Some p.number

-- the first part but the last that is too small
abbrev pub first_small : {C : Type 0} → (C → ℕ) → ℕ → List (PartOf C) → Option ℕ
first_small size least [] = None
first_small size least (p ∷ []) = None
first_small size least (p ∷ q ∷ ps) = if nat_lt (size p.content) least then Some p.number else first_small size least (q ∷ ps)

abbrev pub number_or_zero : Option ℕ → ℕ
number_or_zero None = 0
number_or_zero (Some n) = n

-- a rule that names a part
abbrev pub check_part : FaultKind → Option ℕ → Check
check_part kind found = check_number kind (number_or_zero found) (is_some found)

abbrev pub finish_rules : {C : Type 0} → (C → ℕ) → ℕ → List (List ℕ) → VersionOf C → List Check
finish_rules size least digests v =
    check NotLarge (not (is_start v.action))
    ∷ check NoParts (length v.parts == 0)
    ∷ check_part Gap (gap_from 1 v.parts)
    ∷ check_number Count (length v.parts) (not (length digests == length v.parts))
    ∷ check_part Sha (first_differing v.parts digests)
    ∷ check_part Small (first_small size least v.parts)
    ∷ []

-- the file: its number and stamp stay, its content is that of the parts in order
abbrev pub finished_file : {C : Type 0} → Option Retention → VersionOf C → VersionOf C
finished_file retention v = record v {
  action = action.Upload;
  content = map (λ p. p.content) v.parts;
  mark = mark.Large;
  retention = retention;
  parts = [];
}
