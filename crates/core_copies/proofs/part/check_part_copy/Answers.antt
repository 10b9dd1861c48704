use Rattle.std.proofs.Common.{◌≡◌, Err, Some, refl, ap, ◌∙◌}
use Rattle.std.proofs.lemmas.Result.{err_from_is_err_and}
use Rattle.std.specs.Option.{option_copied}
use Rattle.b2_base.proofs.Faults.{IfFault-handed}
use Rattle.b2_base.specs.declared.extent.Extent.{Extent}
use Rattle.b2_types.specs.Fault.{plain}
use Rattle.b2_types.specs.declared.answer.AnswerOf.TheVariants as answer
use Rattle.b2_types.specs.declared.call.Call.TheVariants as calls
use Rattle.b2_model.specs.AskCopies.{copy_part}
use Rattle.b2_model.specs.Checks.{first_fault}
use Rattle.b2_model.specs.Plan.{Plan}
use Rattle.b2_model.specs.Rows.{version_at}
use Rattle.b2_types.specs.declared.answer.Span.{Span}
use Rattle.policy_rules.specs.Asked.{caller}
use Rattle.core_decisions.specs.Decided.{Copies, IsDecision, at_extents}
use Rattle.core_decisions.specs.declared.decision.Decision.TheVariants as decision
use Rattle.core_decisions.proofs.Forms.{denied_by, refused_by}
use Rattle.core_copies.proofs.Made.{allowed_for, every_copy}
use Rattle.core_copies.proofs.OnCopies.{one_stands, other_stands, part_form, part_whole}
use Rattle.core_copies.proofs.part.check_part_copy.Goals as goal

pub returns-in-Err-clause-refused : goal.returns-in-Err-clause-refused
returns-in-Err-clause-refused c =
    let M = c.args.core.now in
    let q = c.args.call.now in
    let t = c.args.t in
    let token = option_copied c.args.token in
    let who = caller c.asker_of-asker.result in
    let form = part_form M t token q in
    denied_by M t token (calls.CopyPart q) form who (plain c.in-Err.kind) (decision.Reply (answer.Refused c.plain.result)) c.asker_of-asker.ensures
    (ap (λ f. decision.Reply (answer.Refused f)) c.plain.ensures) c.in-Err.ensures.rules

pub returns-in_err-span-clause-refused : goal.returns-in_err-span-clause-refused
returns-in_err-span-clause-refused c =
    let M = c.args.core.now in
    let q = c.args.call.now in
    let t = c.args.t in
    let token = option_copied c.args.token in
    let who = caller c.asker_of-asker.result in
    let form = part_form M t token q in
    let v = c.in-Ok.found.0.now in
    let large = c.in-Ok.found.1.now in
    let o = version_at M q.source.bucket q.source.num in
    let w = version_at M q.bucket q.file in
    let version = one_stands v large o w c.in-Ok.ensures.found in
    let file = other_stands v large o w c.in-Ok.ensures.found in
    let e = c.in_err-span.field-0.0 in
    let p = err_from_is_err_and c.from_residual.result c.from_residual.ensures.1 in
    IfFault-handed {T = Span} e (λ f. (copy : Copies) → Some f ≡ first_fault (copy_part (at_extents copy) M t q).own) (λ f. IsDecision M t token (calls.CopyPart q) (decision.Reply (answer.Refused f)))
    (λ f own. refused_by M t token (calls.CopyPart q) form who f (decision.Reply (answer.Refused f)) c.asker_of-asker.ensures refl c.in-Ok.ensures.rules
    (λ copy words. own copy ∙ ap (λ (x : Plan Extent). first_fault x.own) (part_whole t q copy o w)))
    (Err e) refl (every_copy Span e (λ copy f. Some f ≡ first_fault (copy_part (at_extents copy) M t q).own) (λ copy. c.in_err-span.ensures.refused copy version file))
    c.from_residual.result (p.1 ∙ ap Err p.2)

pub returns-clause-allowed : goal.returns-clause-allowed
returns-clause-allowed c =
    let M = c.args.core.now in
    let q = c.args.call.now in
    let t = c.args.t in
    let token = option_copied c.args.token in
    let who = caller c.asker_of-asker.result in
    let form = part_form M t token q in
    let v = c.in-Ok.found.0.now in
    let large = c.in-Ok.found.1.now in
    let o = version_at M q.source.bucket q.source.num in
    let w = version_at M q.bucket q.file in
    let version = one_stands v large o w c.in-Ok.ensures.found in
    let file = other_stands v large o w c.in-Ok.ensures.found in
    allowed_for M t token (calls.CopyPart q) form who c.asker_of-asker.ensures c.in-Ok.ensures.rules
    (λ copy words. c.in_ok-span.ensures.accepted copy version file ∙ ap (λ (x : Plan Extent). first_fault x.own) (part_whole t q copy o w))
