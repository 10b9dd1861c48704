use Rattle.std.proofs.Common.{◌≡◌, Err, Some, unwrap_or, refl, sym, ap, ◌∙◌}
use Rattle.std.proofs.lemmas.Result.{err_from_is_err_and}
use Rattle.std.specs.Option.{option_copied}
use Rattle.b2_base.proofs.Faults.{IfFault-handed}
use Rattle.b2_base.specs.declared.extent.Extent.{Extent}
use Rattle.b2_types.specs.Fault.{plain}
use Rattle.b2_types.specs.Need.{more_caps}
use Rattle.b2_types.specs.declared.answer.AnswerOf.TheVariants as answer
use Rattle.b2_types.specs.declared.call.Call.TheVariants as calls
use Rattle.b2_model.specs.AskCopies.{copy_file}
use Rattle.b2_model.specs.Checks.{first_fault}
use Rattle.b2_model.specs.Plan.{Plan}
use Rattle.b2_model.specs.Policy.{caller_of}
use Rattle.b2_model.specs.Rows.{version_at}
use Rattle.b2_model.specs.State.{bucket_at}
use Rattle.copy_calls.specs.declared.file.FilePlan.{FilePlan}
use Rattle.policy_rules.specs.Asked.{caller}
use Rattle.core_policy.specs.Rules.{both}
use Rattle.core_decisions.specs.Decided.{Copies, IsDecision, at_extents}
use Rattle.core_decisions.specs.declared.decision.Decision.TheVariants as decision
use Rattle.core_decisions.proofs.Forms.{denied_by, refused_by}
use Rattle.core_copies.proofs.Made.{allowed_for, every_copy}
use Rattle.core_copies.proofs.OnCopies.{file_form, file_rules, file_whole, one_stands, other_stands}
use Rattle.core_copies.proofs.file.check_file_copy.Goals as goal

pub returns-in-Err-clause-refused : goal.returns-in-Err-clause-refused
returns-in-Err-clause-refused c =
    let M = c.args.core.now in
    let q = c.args.call.now in
    let t = c.args.t in
    let token = option_copied c.args.token in
    let who = caller c.asker_of-asker.result in
    let form = file_form M t token q in
    let same = ap (λ more. file_rules M t q who more c.target_of-target.result) c.more_for-more.ensures ∙ ap (file_rules M t q who (more_caps (calls.CopyFile q))) c.target_of-target.ensures in
    denied_by M t token (calls.CopyFile q) form who (plain c.in-Err.kind) (decision.Reply (answer.Refused c.plain.result)) c.asker_of-asker.ensures
    (ap (λ f. decision.Reply (answer.Refused f)) c.plain.ensures) (c.in-Err.ensures.rules ∙ same)

pub returns-in_err-plan-clause-refused : goal.returns-in_err-plan-clause-refused
returns-in_err-plan-clause-refused c =
    let M = c.args.core.now in
    let q = c.args.call.now in
    let t = c.args.t in
    let token = option_copied c.args.token in
    let who = caller c.asker_of-asker.result in
    let form = file_form M t token q in
    let same = ap (λ more. file_rules M t q who more c.target_of-target.result) c.more_for-more.ensures ∙ ap (file_rules M t q who (more_caps (calls.CopyFile q))) c.target_of-target.ensures in
    let key = (caller_of M token).key in
    let b = c.in-Ok.found.0.now in
    let v = c.in-Ok.found.1.now in
    let o = bucket_at M (unwrap_or q.bucket q.source.bucket) in
    let w = version_at M q.source.bucket q.source.num in
    let found : both o w ≡ Some (b, v) = ap (λ n. both (bucket_at M n) w) (sym c.target_of-target.ensures) ∙ c.in-Ok.ensures.found in
    let bucket = one_stands b v o w found in
    let version = other_stands b v o w found in
    let e = c.in_err-plan.field-0.0 in
    let p = err_from_is_err_and c.from_residual.result c.from_residual.ensures.1 in
    IfFault-handed {T = FilePlan} e (λ f. (copy : Copies) → Some f ≡ first_fault (copy_file (at_extents copy) M key t q).own) (λ f. IsDecision M t token (calls.CopyFile q) (decision.Reply (answer.Refused f)))
    (λ f own. refused_by M t token (calls.CopyFile q) form who f (decision.Reply (answer.Refused f)) c.asker_of-asker.ensures refl (c.in-Ok.ensures.rules ∙ same)
    (λ copy words. own copy ∙ ap (λ (x : Plan Extent). first_fault x.own) (file_whole M key t q copy o w)))
    (Err e) refl (every_copy FilePlan e (λ copy f. Some f ≡ first_fault (copy_file (at_extents copy) M key t q).own) (λ copy. c.in_err-plan.ensures.refused copy key bucket version))
    c.from_residual.result (p.1 ∙ ap Err p.2)

pub returns-clause-allowed : goal.returns-clause-allowed
returns-clause-allowed c =
    let M = c.args.core.now in
    let q = c.args.call.now in
    let t = c.args.t in
    let token = option_copied c.args.token in
    let who = caller c.asker_of-asker.result in
    let form = file_form M t token q in
    let same = ap (λ more. file_rules M t q who more c.target_of-target.result) c.more_for-more.ensures ∙ ap (file_rules M t q who (more_caps (calls.CopyFile q))) c.target_of-target.ensures in
    let key = (caller_of M token).key in
    let b = c.in-Ok.found.0.now in
    let v = c.in-Ok.found.1.now in
    let o = bucket_at M (unwrap_or q.bucket q.source.bucket) in
    let w = version_at M q.source.bucket q.source.num in
    let found : both o w ≡ Some (b, v) = ap (λ n. both (bucket_at M n) w) (sym c.target_of-target.ensures) ∙ c.in-Ok.ensures.found in
    let bucket = one_stands b v o w found in
    let version = other_stands b v o w found in
    allowed_for M t token (calls.CopyFile q) form who c.asker_of-asker.ensures (c.in-Ok.ensures.rules ∙ same)
    (λ copy words. c.in_ok-plan.ensures.accepted copy key bucket version ∙ ap (λ (x : Plan Extent). first_fault x.own) (file_whole M key t q copy o w))
