use Rattle.std.proofs.Common.{◌≡◌, ℕ, List, Err, Some, refl, sym, ap, subst, ◌∙◌}
use Rattle.std.proofs.lemmas.Result.{IfOk-weaker}
use Rattle.std.specs.Option.{option_copied}
use Rattle.b2_base.specs.Failure.{IfFault}
use Rattle.b2_base.specs.declared.extent.Extent.{Extent}
use Rattle.b2_base.specs.declared.failure.Or.{Or}
use Rattle.b2_base.specs.declared.failure.Or.TheVariants as or
use Rattle.rule_table.specs.declared.fault.FaultKind.TheVariants.{NoFile}
use Rattle.b2_types.specs.Fault.{plain}
use Rattle.b2_types.specs.declared.answer.AnswerOf.TheVariants as answer
use Rattle.b2_types.specs.declared.answer.Span.{Span}
use Rattle.b2_types.specs.declared.call.Call.TheVariants as calls
use Rattle.b2_types.specs.declared.fault.Fault.{Fault}
use Rattle.b2_types.specs.declared.kinds.Mark.TheVariants as mark
use Rattle.b2_types.specs.declared.record.ChangeOf.TheVariants as change
use Rattle.b2_types.specs.declared.shown.Shown.TheVariants as shown
use Rattle.b2_types.specs.declared.shown.ShownPart.{ShownPart}
use Rattle.b2_model.specs.AskCopies.{copy_body, copy_part}
use Rattle.b2_model.specs.Checks.{first_fault}
use Rattle.b2_model.specs.Plan.{Plan, id_of, or_absent, writes}
use Rattle.b2_model.specs.Rows.{version_at}
use Rattle.b2_model.specs.Shown.{shown_part}
use Rattle.contents_agree.specs.ContentsOf.{brought}
use Rattle.new_versions.specs.Decided.{extent_len}
use Rattle.policy_rules.specs.Asked.{caller}
use Rattle.core_decisions.specs.Decided.{at_extents}
use Rattle.core_decisions.specs.declared.decision.Decision.TheVariants as decision
use Rattle.core_decisions.proofs.Forms.{denied_by, refused_by, some_is}
use Rattle.core_copies.specs.Copied.{IsCopyDecision}
use Rattle.core_copies.proofs.Made.{decided_anyway, made_for}
use Rattle.core_copies.proofs.OnCopies.{makes_them, one_stands, other_stands, part_form, part_plan, part_whole}
use Rattle.core_copies.proofs.part.end_part_copy.Goals as goal

pub returns-in-Err : goal.returns-in-Err
returns-in-Err c =
    let M = c.args.core.now in
    let q = c.args.call.now in
    let t = c.args.t in
    let token = option_copied c.args.token in
    let who = caller c.asker_of-asker.result in
    let form = part_form M t token q in
    decided_anyway M t token (calls.CopyPart q) q.source q.range c.args.bytes.now c.plain_refusal.result (answer.Refused (plain c.in-Err.kind)) c.plain_refusal.ensures
    (denied_by M t token (calls.CopyPart q) form who (plain c.in-Err.kind) c.plain_refusal.result c.asker_of-asker.ensures c.plain_refusal.ensures c.in-Err.ensures.rules)

pub returns-in-Err-judged : goal.returns-in-Err-judged
returns-in-Err-judged c =
    let M = c.args.core.now in
    let q = c.args.call.now in
    let t = c.args.t in
    let token = option_copied c.args.token in
    let who = caller c.asker_of-asker.result in
    let form = part_form M t token q in
    let v = c.in-Ok.found.0.now in
    let large = c.in-Ok.found.1.now in
    let o = version_at M q.source.bucket q.source.num in
    let w = version_at M q.bucket q.file in
    let version = one_stands v large o w c.in-Ok.ensures.found in
    let file = other_stands v large o w c.in-Ok.ensures.found in
    IfOk-weaker c.not_copied.result (λ d. (fault : Fault) × (c.in-Err-judged.error ≡ or.Fault fault) × (d ≡ decision.Reply (answer.Refused fault))) (IsCopyDecision M t token (calls.CopyPart q) q.source q.range c.args.bytes.now)
    (λ d told. decided_anyway M t token (calls.CopyPart q) q.source q.range c.args.bytes.now d (answer.Refused told.0) told.2
    (refused_by M t token (calls.CopyPart q) form who told.0 d c.asker_of-asker.ensures told.2 c.in-Ok.ensures.rules
    (λ copy words.
    subst (λ (e : Or Fault). IfFault {T = Span} (Err e) (λ f. Some f ≡ first_fault (copy_part (at_extents copy) M t q).own)) told.1 (c.in-Err-judged.ensures.refused copy version file)
    ∙ ap (λ (x : Plan Extent). first_fault x.own) (part_whole t q copy o w))))
    c.not_copied.ensures

pub returns : goal.returns
returns c =
    let M = c.args.core.now in
    let q = c.args.call.now in
    let t = c.args.t in
    let token = option_copied c.args.token in
    let who = caller c.asker_of-asker.result in
    let form = part_form M t token q in
    let v = c.in-Ok.found.0.now in
    let large = c.in-Ok.found.1.now in
    let o = version_at M q.source.bucket q.source.num in
    let w = version_at M q.bucket q.file in
    let version = one_stands v large o w c.in-Ok.ensures.found in
    let file = other_stands v large o w c.in-Ok.ensures.found in
    let bytes = c.args.bytes.now in
    let just = makes_them bytes in
    let r = c.copy_part-record.result in
    let decided = c.copy_part-record.ensures just M v version file (record { content = refl; digest = refl }) in
    let change_is = some_is r.change (change.PartPut (id_of large) q.number bytes.content mark.Verified bytes.digest)
    (decided.1 ∙ ap (λ (x : Plan Extent). x.change) (part_whole t q just o w) ∙ ap (λ x. (or_absent NoFile (part_plan t q just) x).change) c.in-Ok.ensures.found) in
    let part : Extent → List ℕ → ShownPart = λ k d. shown_part extent_len large.bucket large.num (record { number = q.number; content = k; mark = mark.Verified; digest = d; stamp = t }) in
    let own = (part_plan t q just (v, large)).own in
    let plan : Extent → List ℕ → Plan Extent = λ k d. writes own (change.PartPut (id_of large) q.number k mark.Verified d) (shown.Part (part k d)) in
    made_for M t token (calls.CopyPart q) form who (v, large) q.source q.range bytes r (shown.Part c.show_copied-shown.result)
    c.asker_of-asker.ensures c.in-Ok.ensures.rules c.in-Ok.ensures.found
    (λ copy words. c.in-Ok-judged.ensures.accepted copy version file ∙ ap (λ (x : Plan Extent). first_fault x.own) (part_whole t q copy o w))
    (λ copy words makes. (
      own,
      ap (λ k. plan k (copy_body (at_extents copy) v q.range).digest) (makes v version).content
          ∙ ap (plan bytes.content) (makes v version).digest
          ∙ ap (λ ch. writes own ch (shown.Part (part bytes.content bytes.digest))) (sym change_is)
          ∙ ap (λ s. writes own r.change (shown.Part s)) (sym c.show_copied-shown.ensures),
    ))
    (ap brought change_is) decided.0
