-- The end of an upload is decided by the first of its refusals, or by its plan.
use Rattle.std.proofs.Common.{◌≡◌, ℕ, List, [], ◌∷◌, ◌++◌, ◌==◌, Option, Some, None, refl, sym, ap, subst, ◌∙◌}
use Rattle.b2_base.specs.declared.extent.Extent.{Extent}
use Rattle.rule_table.specs.declared.fault.FaultKind.{FaultKind}
use Rattle.rule_table.specs.declared.fault.FaultKind.TheVariants.{NoBucket, NoFile}
use Rattle.b2_types.specs.declared.answer.AnswerOf.TheVariants as answer
use Rattle.b2_types.specs.declared.bucket.Bucket.{Bucket}
use Rattle.b2_types.specs.declared.fault.BadCall.{BadCall}
use Rattle.b2_types.specs.declared.fault.Fault.{Fault}
use Rattle.b2_types.specs.declared.key.Flight.{Flight}
use Rattle.b2_types.specs.declared.record.ChangeOf.{ChangeOf}
use Rattle.b2_types.specs.declared.record.RecordOf.{RecordOf}
use Rattle.b2_types.specs.declared.shown.Shown.{Shown}
use Rattle.b2_types.specs.declared.upload.FileUpload.{FileUpload}
use Rattle.b2_types.specs.declared.upload.PartUpload.{PartUpload}
use Rattle.b2_types.specs.declared.upload.UploadCall.{UploadCall}
use Rattle.b2_types.specs.declared.upload.UploadCall.TheVariants as upload
use Rattle.b2_types.specs.declared.version.VersionOf.{VersionOf}
use Rattle.b2_model.specs.Ask.{at_moment, outcome_of, outcome_or_refusal}
use Rattle.b2_model.specs.Body.{Body}
use Rattle.b2_model.specs.Changes.{after_record}
use Rattle.b2_model.specs.Checks.{Check, first_fault}
use Rattle.b2_model.specs.Plan.{Plan, or_absent, writes}
use Rattle.b2_model.specs.Policy.{Caller, caller_of}
use Rattle.b2_model.specs.Rows.{version_at}
use Rattle.b2_model.specs.State.{State, bucket_at}
use Rattle.b2_model.specs.UploadSteps.{end_plan, file_end, flight_of, part_end, upload_rules, without_flight}
use Rattle.machine_laws.specs.Rules.{end_refusals}
use Rattle.sound_states.specs.Sound.{IsFor, IsSound, IsUnderWay}
use Rattle.sound_states.proofs.Found.{found_has}
use Rattle.sound_steps.specs.FitSteps.{Applies}
use Rattle.sound_steps.proofs.Outcomes.{end_applies}
use Rattle.contents_agree.specs.ContentsOf.{brought}
use Rattle.new_versions.specs.Decided.{extent_len}
use Rattle.core_policy.specs.Rules.{standing}
use Rattle.core_policy.proofs.Order.{by_first, by_next}
use Rattle.core_decisions.proofs.Forms.{some_is}
use Rattle.core_decisions.specs.declared.decision.Decision.{Decision}
use Rattle.core_decisions.specs.declared.decision.Decision.TheVariants as decision
use Rattle.core_uploads.specs.Uploads.{IsEnd}

-- ---- the first refusal, or the plan

refused_is : (M : State Extent) (t : ℕ) (f : Flight) (body : Body Extent) (fault : Fault) → first_fault (end_refusals extent_len M t f body) ≡ Some fault → IsEnd M t f body (decision.Reply (answer.Refused fault))
unfolding IsEnd
refused_is M t f body fault refuses =
    let N = without_flight M t f.conn in
    (tt, λ words. ap (outcome_or_refusal N t words (end_plan extent_len N t (caller_of N (Some f.token)).key body f.upload)) refuses)

written_is : (M : State Extent) (t : ℕ) (f : Flight) (body : Body Extent) (r : RecordOf Extent) (own : List Check) (shown : Shown) → first_fault (end_refusals extent_len M t f body) ≡ None
    → end_plan extent_len (without_flight M t f.conn) t (caller_of M (Some f.token)).key body f.upload ≡ writes own r.change shown → brought r.change ≡ body.content ∷ [] → r.at ≡ t → IsEnd M t f body (decision.Write r (answer.Json shown))
unfolding IsEnd
written_is M t f body r own shown passes plan brings at =
    let N = without_flight M t f.conn in (
      (λ sound. subst (λ (p : Plan Extent). Applies N p.change) plan (end_applies extent_len M t f body sound passes), brings),
      λ words. ap (outcome_or_refusal N t words (end_plan extent_len N t (caller_of N (Some f.token)).key body f.upload)) passes
          ∙ ap (outcome_of N t words) plan
          ∙ ap (λ n. record { state = after_record (at_moment N t) (record { at = n; change = r.change }); answer = answer.Json shown; words = words }) (sym at),
    )

-- ---- what an upload looks up, and what its end comes to for what stands there

pub record Form (M : State Extent) (t : ℕ) (f : Flight) (body : Body Extent) (X : Type 0) : Type 0 where
  pub absent : FaultKind
  pub thing : Option X
  pub plan : X → Plan Extent
  pub quiet : (x : X) → (plan x).exists ≡ []
  pub refusals : end_refusals extent_len M t f body ≡ upload_rules M t (caller_of M (Some f.token)) f.upload (or_absent absent plan thing).exists ++ (or_absent absent plan thing).own
  pub is : end_plan extent_len (without_flight M t f.conn) t (caller_of M (Some f.token)).key body f.upload ≡ or_absent absent plan thing

exists_of : {X : Type 0} (kind : FaultKind) (plan : X → Plan Extent) → ((x : X) → (plan x).exists ≡ []) → (o : Option X) → (or_absent kind plan o).exists ≡ standing kind o
exists_of kind plan quiet None = refl
exists_of kind plan quiet (Some x) = quiet x

module _ {X : Type 0} (M : State Extent) (t : ℕ) (f : Flight) (body : Body Extent) (form : Form M t f body X) (who : Caller) (asks : who ≡ caller_of M (Some f.token)) where
  -- the rules of the policy, for who asks
  abbrev policy_on : List Check
  policy_on = upload_rules M t who f.upload (standing form.absent form.thing)

  -- those of its own
  abbrev own_of : List Check
  own_of = (or_absent form.absent form.plan form.thing).own

  rules_are : end_refusals extent_len M t f body ≡ policy_on ++ own_of
  rules_are = form.refusals
      ∙ ap (λ exists. upload_rules M t (caller_of M (Some f.token)) f.upload exists ++ own_of) (exists_of form.absent form.plan form.quiet form.thing)
      ∙ ap (λ w. upload_rules M t w f.upload (standing form.absent form.thing) ++ own_of) (sym asks)

  -- the policy refuses it
  pub denied : (fault : Fault) (d : Decision) → d ≡ decision.Reply (answer.Refused fault) → Some fault ≡ first_fault policy_on → IsEnd M t f body d
  denied fault d refused is = subst (IsEnd M t f body) (sym refused) (refused_is M t f body fault (ap first_fault rules_are ∙ sym (by_first policy_on own_of fault is)))

  -- a rule of its own refuses it
  pub refused_found : (x : X) (fault : Fault) (d : Decision) → d ≡ decision.Reply (answer.Refused fault) → None ≡ first_fault policy_on → form.thing ≡ Some x → Some fault ≡ first_fault (form.plan x).own → IsEnd M t f body d
  refused_found x fault d refused passes found is =
      subst (IsEnd M t f body) (sym refused)
      (refused_is M t f body fault (ap first_fault rules_are ∙ sym (by_next policy_on own_of passes) ∙ sym (is ∙ ap (λ o. first_fault (or_absent form.absent form.plan o).own) (sym found))))

  -- its record is written
  pub written : (x : X) (r : RecordOf Extent) (own : List Check) (change : ChangeOf Extent) (shown : Shown) → None ≡ first_fault policy_on → form.thing ≡ Some x → None ≡ first_fault (form.plan x).own
      → form.plan x ≡ writes own change shown → Some r.change ≡ (form.plan x).change → brought change ≡ body.content ∷ [] → r.at ≡ t → IsEnd M t f body (decision.Write r (answer.Json shown))
  written x r own change shown passes found none plan is brings at =
      let same = some_is r.change change (is ∙ ap (λ (p : Plan Extent). p.change) plan) in
      written_is M t f body r own shown
      (ap first_fault rules_are ∙ sym (by_next policy_on own_of passes) ∙ sym (none ∙ ap (λ o. first_fault (or_absent form.absent form.plan o).own) (sym found)))
      (form.is ∙ ap (or_absent form.absent form.plan) found ∙ plan ∙ ap (λ ch. writes own ch shown) (sym same)) (ap brought same ∙ brings) at

-- ---- the two kinds

-- an upload of a flight
abbrev pub with_upload : Flight → UploadCall → Flight
with_upload f u = record f { upload = u }

abbrev pub file_form : (M : State Extent) (t : ℕ) (f : Flight) (body : Body Extent) (u : FileUpload) → Form M t (with_upload f (upload.File u)) body Bucket
file_form M t f body u = record {
  absent = NoBucket;
  thing = bucket_at M u.bucket;
  plan = file_end extent_len M t (caller_of M (Some f.token)).key body u;
  quiet = λ b. refl;
  refusals = refl;
  is = refl;
}

abbrev pub part_form : (M : State Extent) (t : ℕ) (f : Flight) (body : Body Extent) (u : PartUpload) → Form M t (with_upload f (upload.Part u)) body (VersionOf Extent)
part_form M t f body u = record {
  absent = NoFile;
  thing = version_at M u.bucket u.file;
  plan = part_end extent_len t body u;
  quiet = λ v. refl;
  refusals = refl;
  is = refl;
}

-- of a flight with this upload
pub of_upload : (M : State Extent) (t : ℕ) (f : Flight) (body : Body Extent) (u : UploadCall) (d : Decision) → f.upload ≡ u → IsEnd M t (with_upload f u) body d → IsEnd M t f body d
of_upload M t f body u d is end = subst (λ v. IsEnd M t (with_upload f v) body d) (sym is) end

-- no upload that is amiss is under way
pub never_bad : (M : State Extent) (conn : ℕ) (f : Flight) (c : BadCall) → IsSound M → Some f ≡ flight_of M conn → f.upload ≡ upload.Bad c → ⊥
never_bad M conn f c sound is bad =
    let under_way = (found_has (λ g. g.conn == conn) (IsUnderWay M.grants) M.flights f sound.flights.under_way (sym is)).1 in
    subst (λ u. IsFor u under_way.token) bad under_way.purpose
