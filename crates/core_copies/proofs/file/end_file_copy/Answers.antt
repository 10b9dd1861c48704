use Rattle.std.proofs.Common.{◌≡◌, ℕ, List, Err, Some, [], ◌∷◌, unwrap_or, refl, sym, ap, subst, ◌∙◌}
use Rattle.std.proofs.lemmas.Result.{IfOk-weaker}
use Rattle.std.specs.Option.{option_copied}
use Rattle.b2_base.specs.Failure.{IfFault}
use Rattle.b2_base.specs.declared.extent.Extent.{Extent}
use Rattle.b2_base.specs.declared.failure.Or.{Or}
use Rattle.b2_base.specs.declared.failure.Or.TheVariants as or
use Rattle.rule_table.specs.declared.fault.FaultKind.TheVariants.{NoBucket, NoFile}
use Rattle.b2_types.specs.Fault.{plain}
use Rattle.b2_types.specs.Need.{more_caps}
use Rattle.b2_types.specs.declared.answer.AnswerOf.TheVariants as answer
use Rattle.b2_types.specs.declared.call.Call.TheVariants as calls
use Rattle.b2_types.specs.declared.fault.Fault.{Fault}
use Rattle.b2_types.specs.declared.kinds.Action.TheVariants as action
use Rattle.b2_types.specs.declared.kinds.Mark.TheVariants as mark
use Rattle.b2_types.specs.declared.record.ChangeOf.TheVariants as change
use Rattle.b2_types.specs.declared.shown.Shown.TheVariants as shown
use Rattle.b2_model.specs.AskCopies.{copied_version, copy_body, copy_file}
use Rattle.b2_model.specs.Checks.{first_fault}
use Rattle.b2_model.specs.Plan.{Plan, or_absent, writes}
use Rattle.b2_model.specs.Policy.{caller_of}
use Rattle.b2_model.specs.Rows.{version_at}
use Rattle.b2_model.specs.Shown.{shown_file}
use Rattle.b2_model.specs.State.{bucket_at}
use Rattle.b2_model.specs.Version.{version_from}
use Rattle.contents_agree.specs.ContentsOf.{brought}
use Rattle.new_versions.specs.Decided.{extent_len}
use Rattle.copy_calls.specs.declared.file.FilePlan.{FilePlan}
use Rattle.policy_rules.specs.Asked.{caller}
use Rattle.core_policy.specs.Rules.{absent_beside, both}
use Rattle.core_decisions.specs.Decided.{at_extents}
use Rattle.core_decisions.specs.declared.decision.Decision.TheVariants as decision
use Rattle.core_decisions.proofs.Forms.{denied_by, refused_by, some_is}
use Rattle.core_files.specs.Made.{made_at}
use Rattle.core_copies.specs.Copied.{IsCopyDecision}
use Rattle.core_copies.proofs.Made.{decided_anyway, made_for}
use Rattle.core_copies.proofs.OnCopies.{file_form, file_plan, file_rules, file_whole, makes_them, one_stands, other_stands}
use Rattle.core_copies.proofs.file.end_file_copy.Goals as goal

pub returns-in-Err : goal.returns-in-Err
returns-in-Err c =
    let M = c.args.core.now in
    let q = c.args.call.now in
    let t = c.args.t in
    let token = option_copied c.args.token in
    let who = caller c.asker_of-asker.result in
    let form = file_form M t token q in
    let same = ap (λ more. file_rules M t q who more c.target_of-target.result) c.more_for-more.ensures ∙ ap (file_rules M t q who (more_caps (calls.CopyFile q))) c.target_of-target.ensures in
    decided_anyway M t token (calls.CopyFile q) q.source q.range c.args.bytes.now c.plain_refusal.result (answer.Refused (plain c.in-Err.kind)) c.plain_refusal.ensures
    (denied_by M t token (calls.CopyFile q) form who (plain c.in-Err.kind) c.plain_refusal.result c.asker_of-asker.ensures c.plain_refusal.ensures (c.in-Err.ensures.rules ∙ same))

pub returns-in-Err-judged : goal.returns-in-Err-judged
returns-in-Err-judged c =
    let M = c.args.core.now in
    let q = c.args.call.now in
    let t = c.args.t in
    let token = option_copied c.args.token in
    let who = caller c.asker_of-asker.result in
    let form = file_form M t token q in
    let same = ap (λ more. file_rules M t q who more c.target_of-target.result) c.more_for-more.ensures ∙ ap (file_rules M t q who (more_caps (calls.CopyFile q))) c.target_of-target.ensures in
    let key = (caller_of M token).key in
    let b = c.in-Ok.found.0.now in
    let v = c.in-Ok.found.1.now in
    let o = bucket_at M (unwrap_or q.bucket q.source.bucket) in
    let w = version_at M q.source.bucket q.source.num in
    let found : both o w ≡ Some (b, v) = ap (λ n. both (bucket_at M n) w) (sym c.target_of-target.ensures) ∙ c.in-Ok.ensures.found in
    let bucket = one_stands b v o w found in
    let version = other_stands b v o w found in
    IfOk-weaker c.not_copied.result (λ d. (fault : Fault) × (c.in-Err-judged.error ≡ or.Fault fault) × (d ≡ decision.Reply (answer.Refused fault))) (IsCopyDecision M t token (calls.CopyFile q) q.source q.range c.args.bytes.now)
    (λ d told. decided_anyway M t token (calls.CopyFile q) q.source q.range c.args.bytes.now d (answer.Refused told.0) told.2
    (refused_by M t token (calls.CopyFile q) form who told.0 d c.asker_of-asker.ensures told.2 (c.in-Ok.ensures.rules ∙ same)
    (λ copy words.
    subst (λ (e : Or Fault). IfFault {T = FilePlan} (Err e) (λ f. Some f ≡ first_fault (copy_file (at_extents copy) M key t q).own)) told.1 (c.in-Err-judged.ensures.refused copy key bucket version)
    ∙ ap (λ (x : Plan Extent). first_fault x.own) (file_whole M key t q copy o w))))
    c.not_copied.ensures

-- the change that was decided on
pub show_made-requires : goal.show_made-requires
show_made-requires c =
    let M = c.args.core.now in
    let q = c.args.call.now in
    let t = c.args.t in
    let token = option_copied c.args.token in
    let who = caller c.asker_of-asker.result in
    let form = file_form M t token q in
    let same = ap (λ more. file_rules M t q who more c.target_of-target.result) c.more_for-more.ensures ∙ ap (file_rules M t q who (more_caps (calls.CopyFile q))) c.target_of-target.ensures in
    let key = (caller_of M token).key in
    let b = c.in-Ok.found.0.now in
    let v = c.in-Ok.found.1.now in
    let o = bucket_at M (unwrap_or q.bucket q.source.bucket) in
    let w = version_at M q.source.bucket q.source.num in
    let found : both o w ≡ Some (b, v) = ap (λ n. both (bucket_at M n) w) (sym c.target_of-target.ensures) ∙ c.in-Ok.ensures.found in
    let bucket = one_stands b v o w found in
    let version = other_stands b v o w found in
    let just = makes_them c.args.bytes.now in
    let nv = copied_version M t b v q in
    let bytes = c.args.bytes.now in
    let r = c.in_ok-record.record in
    let decided = c.in_ok-record.ensures just M key bucket version c.in-Ok-judged.ensures.number (record { content = refl; digest = refl }) in
    let made = change.Upload nv bytes.content mark.Verified bytes.digest in
    let change_is = some_is r.change made (decided.1 ∙ ap (λ (x : Plan Extent). x.change) (file_whole M key t q just o w) ∙ ap (λ x. (or_absent (absent_beside NoBucket NoFile o) (file_plan M key t q just) x).change) found) in
    rw change_is refl

pub returns : goal.returns
returns c =
    let M = c.args.core.now in
    let q = c.args.call.now in
    let t = c.args.t in
    let token = option_copied c.args.token in
    let who = caller c.asker_of-asker.result in
    let form = file_form M t token q in
    let same = ap (λ more. file_rules M t q who more c.target_of-target.result) c.more_for-more.ensures ∙ ap (file_rules M t q who (more_caps (calls.CopyFile q))) c.target_of-target.ensures in
    let key = (caller_of M token).key in
    let b = c.in-Ok.found.0.now in
    let v = c.in-Ok.found.1.now in
    let o = bucket_at M (unwrap_or q.bucket q.source.bucket) in
    let w = version_at M q.source.bucket q.source.num in
    let found : both o w ≡ Some (b, v) = ap (λ n. both (bucket_at M n) w) (sym c.target_of-target.ensures) ∙ c.in-Ok.ensures.found in
    let bucket = one_stands b v o w found in
    let version = other_stands b v o w found in
    let just = makes_them c.args.bytes.now in
    let nv = copied_version M t b v q in
    let bytes = c.args.bytes.now in
    let r = c.in_ok-record.record in
    let decided = c.in_ok-record.ensures just M key bucket version c.in-Ok-judged.ensures.number (record { content = refl; digest = refl }) in
    let made = change.Upload nv bytes.content mark.Verified bytes.digest in
    let change_is = some_is r.change made (decided.1 ∙ ap (λ (x : Plan Extent). x.change) (file_whole M key t q just o w) ∙ ap (λ x. (or_absent (absent_beside NoBucket NoFile o) (file_plan M key t q just) x).change) found) in
    let new = version_from t action.Upload (bytes.content ∷ []) mark.Verified bytes.digest nv in
    let shown_is = c.in_ok-shown.ensures new (ap (made_at r.at) change_is ∙ ap (λ n. made_at n made) decided.0)
    ∙ ap (λ s. shown_file extent_len s (option_copied c.asker_of-asker.result.key) new) c.settings.ensures
    ∙ ap (λ k. shown_file extent_len M.settings k.key new) c.asker_of-asker.ensures in
    let own = (file_plan M key t q just (b, v)).own in
    let plan : Extent → List ℕ → Plan Extent = λ k d. writes own (change.Upload nv k mark.Verified d) (shown.File (shown_file extent_len M.settings key (version_from t action.Upload (k ∷ []) mark.Verified d nv))) in
    made_for M t token (calls.CopyFile q) form who (b, v) q.source q.range bytes r (shown.File c.in_ok-shown.shown)
    c.asker_of-asker.ensures (c.in-Ok.ensures.rules ∙ same) found
    (λ copy words. c.in-Ok-judged.ensures.accepted copy key bucket version ∙ ap (λ (x : Plan Extent). first_fault x.own) (file_whole M key t q copy o w))
    (λ copy words makes. (
      own,
      ap (λ k. plan k (copy_body (at_extents copy) v q.range).digest) (makes v version).content
          ∙ ap (plan bytes.content) (makes v version).digest
          ∙ ap (λ ch. writes own ch (shown.File (shown_file extent_len M.settings key new))) (sym change_is)
          ∙ ap (λ s. writes own r.change (shown.File s)) (sym shown_is),
    ))
    (ap brought change_is) decided.0
