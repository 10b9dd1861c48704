use Rattle.std.proofs.Common.{◌≡◌, [], ◌∷◌, Some, option_copied, refl, sym, ap, ◌∙◌}
use Rattle.std.proofs.lemmas.Result.{IfOk-weaker}
use Rattle.b2_types.specs.Fault.{plain}
use Rattle.b2_types.specs.declared.answer.AnswerOf.TheVariants as answer
use Rattle.b2_types.specs.declared.fault.Fault.{Fault}
use Rattle.b2_types.specs.declared.kinds.Action.TheVariants as action
use Rattle.b2_types.specs.declared.record.ChangeOf.TheVariants as change
use Rattle.b2_types.specs.declared.shown.Shown.TheVariants as shown
use Rattle.b2_types.specs.declared.upload.UploadCall.TheVariants as uploads
use Rattle.b2_model.specs.Plan.{writes}
use Rattle.b2_model.specs.Policy.{caller_of}
use Rattle.b2_model.specs.Shown.{shown_file}
use Rattle.b2_model.specs.UploadSteps.{file_end, mark_of, new_upload}
use Rattle.b2_model.specs.Version.{version_from}
use Rattle.new_versions.specs.Bodies.{body_at}
use Rattle.new_versions.specs.Decided.{extent_len, fault_told}
use Rattle.new_versions.specs.Refusals.{refusal_fault}
use Rattle.policy_rules.specs.Asked.{caller}
use Rattle.core_decisions.proofs.Forms.{some_is}
use Rattle.core_decisions.specs.declared.decision.Decision.TheVariants as decision
use Rattle.core_uploads.specs.Uploads.{IsEnd, version_in}
use Rattle.core_uploads.proofs.Ends.{denied, file_form, of_upload, refused_found, with_upload, written}
use Rattle.core_uploads.proofs.end.file_end.Goals as goal

pub returns-in-Err : goal.returns-in-Err
returns-in-Err c =
    let M = c.args.core.now in
    let f = c.args.flight.now in
    let u = c.args.call.now in
    let body = body_at c.args.body.now in
    let asks = c.asker_of-asker.ensures ∙ ap (λ text. caller_of M (Some text)) (c.as_bytes.ensures.value ∙ c.get.ensures) in
    of_upload M c.args.t f body (uploads.File u) c.plain_refusal.result c.requires
    (denied M c.args.t (with_upload f (uploads.File u)) body (file_form M c.args.t f body u) (caller c.asker_of-asker.result) asks
    (plain c.in-Err.kind) c.plain_refusal.result c.plain_refusal.ensures c.in-Err.ensures.rules)

pub returns-in-Err-upload : goal.returns-in-Err-upload
returns-in-Err-upload c =
    let M = c.args.core.now in
    let f = c.args.flight.now in
    let u = c.args.call.now in
    let body = body_at c.args.body.now in
    let key = (caller_of M (Some f.token)).key in
    let asks = c.asker_of-asker.ensures ∙ ap (λ text. caller_of M (Some text)) (c.as_bytes.ensures.value ∙ c.get.ensures) in
    IfOk-weaker c.not_made.result (λ d. (fault : Fault) × (fault_told refusal_fault c.in-Err-upload.error ≡ Some fault) × (d ≡ decision.Reply (answer.Refused fault))) (IsEnd M c.args.t f body)
    (λ d told. of_upload M c.args.t f body (uploads.File u) d c.requires
    (refused_found M c.args.t (with_upload f (uploads.File u)) body (file_form M c.args.t f body u) (caller c.asker_of-asker.result) asks
    c.in-Ok.bucket.now told.0 d told.2 c.in-Ok.ensures.rules c.in-Ok.ensures.found (sym told.1 ∙ (c.in-Err-upload.ensures M key (sym c.next_number.ensures)).0))) c.not_made.ensures

pub show_made-requires : goal.show_made-requires
show_made-requires c =
    let M = c.args.core.now in
    let u = c.args.call.now in
    let b = c.args.body.now in
    let decided = c.in-Ok-upload.ensures M (caller_of M (Some c.args.flight.now.token)).key (sym c.next_number.ensures) in
    let made = change.Upload (new_upload M c.args.t c.in-Ok.bucket.now u) b.content (mark_of u.digest) b.digest in
    rw (some_is c.in-Ok-upload.record.change made decided.1.1) refl

pub returns : goal.returns
returns c =
    let M = c.args.core.now in
    let t = c.args.t in
    let f = c.args.flight.now in
    let u = c.args.call.now in
    let b = c.args.body.now in
    let body = body_at b in
    let bucket = c.in-Ok.bucket.now in
    let r = c.in-Ok-upload.record in
    let key = (caller_of M (Some f.token)).key in
    let decided = c.in-Ok-upload.ensures M key (sym c.next_number.ensures) in
    let own = (file_end extent_len M t key body u bucket).own in
    let made = change.Upload (new_upload M t bucket u) b.content (mark_of u.digest) b.digest in
    let v = version_from t action.Upload (b.content ∷ []) (mark_of u.digest) b.digest (new_upload M t bucket u) in
    let asks = c.asker_of-asker.ensures ∙ ap (λ text. caller_of M (Some text)) (c.as_bytes.ensures.value ∙ c.get.ensures) in
    let shown_is = c.in_ok-shown.ensures v (ap (version_in r.at) (some_is r.change made decided.1.1) ∙ ap (λ n. version_in n made) decided.1.0)
    ∙ ap (λ s. shown_file extent_len s (option_copied c.asker_of-asker.result.key) v) c.settings.ensures
    ∙ ap (λ w. shown_file extent_len M.settings w.key v) asks in
    of_upload M t f body (uploads.File u) (decision.Write r (answer.Json (shown.File c.in_ok-shown.shown))) c.requires
    (written M t (with_upload f (uploads.File u)) body (file_form M t f body u) (caller c.asker_of-asker.result) asks
    bucket r own made (shown.File c.in_ok-shown.shown) c.in-Ok.ensures.rules c.in-Ok.ensures.found decided.0
    (ap (λ s. writes own made (shown.File s)) (sym shown_is)) decided.1.1 refl decided.1.0)
