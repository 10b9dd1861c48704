-- What a copy comes to, of which no rule of the policy is broken.
use Rattle.std.proofs.Common.{◌≡◌, ℕ, List, [], ◌∷◌, Option, Some, None, Err, refl, sym, ap, subst, ◌∙◌}
use Rattle.b2_base.specs.Failure.{IfFault}
use Rattle.b2_base.specs.declared.extent.Extent.{Extent}
use Rattle.b2_base.specs.declared.failure.Or.{Or}
use Rattle.b2_base.specs.declared.failure.Or.TheVariants as or
use Rattle.b2_types.specs.declared.answer.AnswerOf.{AnswerOf}
use Rattle.b2_types.specs.declared.answer.AnswerOf.TheVariants as answer
use Rattle.b2_types.specs.declared.call.ByteRange.{ByteRange}
use Rattle.b2_types.specs.declared.call.Call.{Call}
use Rattle.b2_types.specs.declared.fault.Fault.{Fault}
use Rattle.b2_types.specs.declared.record.RecordOf.{RecordOf}
use Rattle.b2_types.specs.declared.record.VersionId.{VersionId}
use Rattle.b2_types.specs.declared.shown.Shown.{Shown}
use Rattle.b2_model.specs.Ask.{at_moment, outcome_of, outcome_or_refusal, plan_of}
use Rattle.b2_model.specs.Changes.{after_record}
use Rattle.b2_model.specs.Checks.{Check, first_fault}
use Rattle.b2_model.specs.Plan.{or_absent, writes}
use Rattle.b2_model.specs.Policy.{Caller, caller_of}
use Rattle.b2_model.specs.State.{State}
use Rattle.contents_agree.specs.ContentsOf.{brought}
use Rattle.copy_calls.specs.declared.file.CopiedBytes.{CopiedBytes}
use Rattle.core_decisions.specs.declared.decision.Decision.{Decision}
use Rattle.core_decisions.specs.declared.decision.Decision.TheVariants as decision
use Rattle.core_decisions.specs.Decided.{Copies, IsDecision, at_extents}
use Rattle.core_decisions.proofs.Asked.{applies_by, brings_by}
use Rattle.core_decisions.proofs.Forms.{Form, nothing_refuses, own_of, policy_on}
use Rattle.core_copies.specs.Copied.{BringsCopy, IsAllowed, IsCopyDecision, Makes}

-- a copy that makes these bytes of all
these_bytes : CopiedBytes → Copies
these_bytes bytes content at len = record { content = bytes.content; digest = bytes.digest; told = None }

-- what is replied to every copy is replied to this one
pub decided_anyway : (M : State Extent) (t : ℕ) (token : Option (List ℕ)) (c : Call) (source : VersionId) (range : Option ByteRange) (bytes : CopiedBytes) (d : Decision) (told : AnswerOf Extent)
    → d ≡ decision.Reply told → IsDecision M t token c d → IsCopyDecision M t token c source range bytes d
unfolding IsDecision IsCopyDecision
decided_anyway M t token c source range bytes d told replies is = (is.0, subst (BringsCopy bytes) (sym replies) tt, λ copy words makes. is.1 copy words)

-- neither does a rule of its own refuse it
pub allowed_for : {X : Type 0} (M : State Extent) (t : ℕ) (token : Option (List ℕ)) (c : Call) (form : Form M t token c X) (who : Caller) → who ≡ caller_of M token
    → None ≡ first_fault (policy_on M t token c who form)
    → ((copy : Copies) (words : List ℕ) → None ≡ first_fault (own_of M t token c form copy words)) → IsAllowed M t token c
unfolding IsAllowed
allowed_for M t token c form who asks passes own = λ copy words. nothing_refuses M t token c form who copy words asks passes (own copy words)

-- it writes a record, where the copy makes these bytes
pub made_for : {X : Type 0} (M : State Extent) (t : ℕ) (token : Option (List ℕ)) (c : Call) (form : Form M t token c X) (who : Caller) (x : X) (source : VersionId) (range : Option ByteRange) (bytes : CopiedBytes) (r : RecordOf Extent) (shown : Shown)
    → who ≡ caller_of M token → None ≡ first_fault (policy_on M t token c who form) → form.thing ≡ Some x
    → ((copy : Copies) (words : List ℕ) → None ≡ first_fault (own_of M t token c form copy words))
    → ((copy : Copies) (words : List ℕ) → Makes copy M source range bytes → (own : List Check) × (form.plan copy words x ≡ writes own r.change shown)) → brought r.change ≡ bytes.content ∷ [] → r.at ≡ t
    → IsCopyDecision M t token c source range bytes (decision.Write r (answer.Json shown))
unfolding IsCopyDecision these_bytes
made_for M t token c form who x source range bytes r shown asks passes found own plan brings at =
    let none = λ (copy : Copies) (words : List ℕ). nothing_refuses M t token c form who copy words asks passes (own copy words) in
    let whole = λ (copy : Copies) (words : List ℕ) (makes : Makes copy M source range bytes). form.is copy words ∙ ap (or_absent form.absent (form.plan copy words)) found ∙ (plan copy words makes).1 in
    let this = these_bytes bytes in
    let so : Makes this M source range bytes = λ version stands. record { content = refl; digest = refl } in (
      (
        λ sound fit. applies_by (at_extents this) M t [] token c (plan this [] so).0 r.change shown (none this []) (whole this [] so) sound fit,
        λ alone. brings_by (at_extents this) M t [] token c (plan this [] so).0 r.change shown (whole this [] so) alone,
      ),
      brings,
      λ copy words makes. ap (outcome_or_refusal M t words (plan_of (at_extents copy) M t words token c)) (none copy words)
          ∙ ap (outcome_of M t words) (whole copy words makes)
          ∙ ap (λ n. record { state = after_record (at_moment M t) (record { at = n; change = r.change }); answer = answer.Json shown; words = words }) (sym at),
    )

-- a fault of every copy
pub every_copy : (T : Type 0) (e : Or Fault) (P : Copies → Fault → Type 0) → ((copy : Copies) → IfFault {T = T} (Err e) (P copy)) → IfFault {T = T} (Err e) (λ f. (copy : Copies) → P copy f)
every_copy T or.Memory P all = tt
every_copy T (or.Fault f) P all = λ copy. all copy
