use Rattle.std.proofs.Common.{Some, refl, sym, ap, ◌∙◌}
use Rattle.b2_types.specs.Fault.{plain}
use Rattle.b2_types.specs.declared.answer.AnswerOf.TheVariants as answer
use Rattle.b2_types.specs.declared.record.ChangeOf.TheVariants as change
use Rattle.b2_types.specs.declared.shown.Shown.TheVariants as shown
use Rattle.b2_types.specs.declared.upload.UploadCall.TheVariants as uploads
use Rattle.b2_model.specs.Plan.{id_of, writes}
use Rattle.b2_model.specs.Policy.{caller_of}
use Rattle.b2_model.specs.Shown.{shown_part}
use Rattle.b2_model.specs.UploadSteps.{mark_of, part_end}
use Rattle.new_versions.specs.Bodies.{body_at}
use Rattle.new_versions.specs.Decided.{extent_len}
use Rattle.large_files.specs.Refusals.{part_fault}
use Rattle.policy_rules.specs.Asked.{caller}
use Rattle.core_decisions.specs.declared.decision.Decision.TheVariants as decision
use Rattle.core_uploads.proofs.Ends.{denied, of_upload, part_form, refused_found, with_upload, written}
use Rattle.core_uploads.proofs.end.part_end.Goals as goal

pub returns-in-Err : goal.returns-in-Err
returns-in-Err c =
    let M = c.args.core.now in
    let f = c.args.flight.now in
    let u = c.args.call.now in
    let body = body_at c.args.body.now in
    let asks = c.asker_of-asker.ensures ∙ ap (λ text. caller_of M (Some text)) (c.as_bytes.ensures.value ∙ c.get.ensures) in
    of_upload M c.args.t f body (uploads.Part u) c.plain_refusal.result c.requires
    (denied M c.args.t (with_upload f (uploads.Part u)) body (part_form M c.args.t f body u) (caller c.asker_of-asker.result) asks
    (plain c.in-Err.kind) c.plain_refusal.result c.plain_refusal.ensures c.in-Err.ensures.rules)

pub returns-in-Err-put_part : goal.returns-in-Err-put_part
returns-in-Err-put_part c =
    let M = c.args.core.now in
    let f = c.args.flight.now in
    let u = c.args.call.now in
    let body = body_at c.args.body.now in
    let asks = c.asker_of-asker.ensures ∙ ap (λ text. caller_of M (Some text)) (c.as_bytes.ensures.value ∙ c.get.ensures) in
    of_upload M c.args.t f body (uploads.Part u) c.refusal.result c.requires
    (refused_found M c.args.t (with_upload f (uploads.Part u)) body (part_form M c.args.t f body u) (caller c.asker_of-asker.result) asks
    c.in-Ok.version.now (part_fault c.in-Err-put_part.refused) c.refusal.result (c.refusal.ensures ∙ ap (λ x. decision.Reply (answer.Refused x)) c.fault_of_part.ensures)
    c.in-Ok.ensures.rules c.in-Ok.ensures.found c.in-Err-put_part.ensures.0)

pub returns : goal.returns
returns c =
    let M = c.args.core.now in
    let t = c.args.t in
    let f = c.args.flight.now in
    let u = c.args.call.now in
    let v = c.in-Ok.version.now in
    let b = c.args.body.now in
    let body = body_at b in
    let r = c.in-Ok-put_part.record in
    let own = (part_end extent_len t body u v).own in
    let change_is = change.PartPut (id_of v) u.number b.content (mark_of u.digest) b.digest in
    let shown_is = c.show_part-shown.ensures
    ∙ ap (λ m. shown_part extent_len u.bucket u.file (record { number = u.number; content = b.content; mark = m; digest = b.digest; stamp = t })) c.mark_of.ensures in
    let asks = c.asker_of-asker.ensures ∙ ap (λ text. caller_of M (Some text)) (c.as_bytes.ensures.value ∙ c.get.ensures) in
    of_upload M t f body (uploads.Part u) (decision.Write r (answer.Json (shown.Part c.show_part-shown.result))) c.requires
    (written M t (with_upload f (uploads.Part u)) body (part_form M t f body u) (caller c.asker_of-asker.result) asks
    v r own change_is (shown.Part c.show_part-shown.result) c.in-Ok.ensures.rules c.in-Ok.ensures.found c.in-Ok-put_part.ensures.0
    (ap (λ s. writes own change_is (shown.Part s)) (sym shown_is)) c.in-Ok-put_part.ensures.1.1 refl c.in-Ok-put_part.ensures.1.0)
