-- Answers that want memory, and the number of the next version.
use Rattle.std.proofs.Common.{◌≡◌, ℕ, Bool, true, false, if◌then◌else◌, Result, Ok, Err, Option, Some, None, List, [], ◌∷◌, refl, sym}
use Rattle.std.specs.Result.{IsErrAnd}
use Rattle.b2_base.specs.declared.extent.Extent.{Extent}
use Rattle.b2_base.specs.declared.failure.Or.{Or}
use Rattle.b2_base.specs.declared.failure.Or.TheVariants as or
use Rattle.b2_types.specs.declared.fault.Fault.{Fault}
use Rattle.b2_types.specs.declared.record.RecordOf.{RecordOf}
use Rattle.b2_model.specs.Checks.{Check, first_fault}
use Rattle.b2_model.specs.State.{State}
use Rattle.b2_model.specs.Plan.{Plan, no_version}
use Rattle.new_versions.specs.Decided.{next_number, told, DecidesOr}

-- want of memory, where no rule fails
pub wants_memory : {F : Type 0} (fault : F → Fault) (t : ℕ) (p : Plan Extent) (r : Result (RecordOf Extent) (Or F)) → IsErrAnd r (λ e. e ≡ or.Memory)
    → None ≡ first_fault p.own → DecidesOr fault t p r
wants_memory fault t p (Ok x) is none = absurd is
wants_memory fault t p (Err or.Memory) is none = (none, tt)
wants_memory fault t p (Err (or.Fault f)) is none = absurd (cc is)

number_at : (spent : Bool) (next num : ℕ) → (if spent then None else Some next) ≡ Some num → next ≡ num
number_at true next num is = absurd (cc is)
number_at false next num is = cc is

-- the number that is left is the state's next
pub number_is : {C : Type 0} (M : State C) (num : ℕ) → next_number M ≡ Some num → M.next_version ≡ num
number_is M num is = number_at (no_version M).fails M.next_version num is

left_at : (spent : Bool) (next num : ℕ) → (if spent then None else Some next) ≡ Some num → spent ≡ false
left_at true next num is = absurd (cc is)
left_at false next num is = refl

-- a number is left
pub number_left : {C : Type 0} (M : State C) (num : ℕ) → next_number M ≡ Some num → (no_version M).fails ≡ false
number_left M num is = left_at (no_version M).fails M.next_version num is

three_at : (x y z : Bool) (f g h : Fault) → None ≡ first_fault (record { fails = x; fault = f } ∷ record { fails = y; fault = g } ∷ []) → z ≡ false
    → None ≡ first_fault (record { fails = x; fault = f } ∷ record { fails = y; fault = g } ∷ record { fails = z; fault = h } ∷ [])
three_at true y z f g h none last = absurd (cc none)
three_at false true z f g h none last = absurd (cc none)
three_at false false true f g h none last = absurd (cc last)
three_at false false false f g h none last = refl

-- one rule more, which holds
pub three_pass : (a b c : Check) → None ≡ first_fault (a ∷ b ∷ []) → c.fails ≡ false → None ≡ first_fault (a ∷ b ∷ c ∷ [])
three_pass a b c none last = three_at a.fails b.fails c.fails a.fault b.fault c.fault none last
