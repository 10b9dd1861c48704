-- The end of an upload sends no content.
use Rattle.std.proofs.Common.{ℕ, List, [], ◌++◌, Option, Some, None, ap, subst}
use Rattle.b2_base.specs.declared.extent.Extent.{Extent}
use Rattle.rule_table.specs.declared.fault.FaultKind.{FaultKind}
use Rattle.rule_table.specs.declared.fault.FaultKind.TheVariants.{NoBucket, NoFile}
use Rattle.b2_types.specs.declared.answer.AnswerOf.{AnswerOf}
use Rattle.b2_types.specs.declared.fault.Fault.{Fault}
use Rattle.b2_types.specs.declared.key.Flight.{Flight}
use Rattle.b2_types.specs.declared.key.Key.{Key}
use Rattle.b2_types.specs.declared.upload.UploadCall.{UploadCall}
use Rattle.b2_types.specs.declared.upload.UploadCall.TheVariants as upload
use Rattle.b2_model.specs.Ask.{Outcome, outcome_or_refusal}
use Rattle.b2_model.specs.Body.{Body}
use Rattle.b2_model.specs.Checks.{first_fault}
use Rattle.b2_model.specs.Plan.{Plan, or_absent}
use Rattle.b2_model.specs.Policy.{caller_of}
use Rattle.b2_model.specs.Rows.{version_at}
use Rattle.b2_model.specs.State.{State, bucket_at}
use Rattle.b2_model.specs.UploadSteps.{end, end_plan, file_end, part_end, upload_rules, without_flight}
use Rattle.new_versions.specs.Decided.{extent_len}
use Rattle.durable_store.specs.Ends.{IsDecided, IsPlain}

looked_up : {X : Type 0} (kind : FaultKind) (p : X → Plan Extent) (o : Option X) → ((x : X) → IsPlain (p x).answer) → IsPlain (or_absent kind p o).answer
looked_up kind p None each = tt
looked_up kind p (Some x) each = each x

planned : (M : State Extent) (t : ℕ) (key : Option Key) (body : Body Extent) (u : UploadCall) → IsPlain (end_plan extent_len M t key body u).answer
planned M t key body (upload.File u) = looked_up NoBucket (file_end extent_len M t key body u) (bucket_at M u.bucket) (λ b. tt)
planned M t key body (upload.Part u) = looked_up NoFile (part_end extent_len t body u) (version_at M u.bucket u.file) (λ v. tt)
planned M t key body (upload.Bad c) = tt

carried_out : (M : State Extent) (t : ℕ) (words : List ℕ) (p : Plan Extent) (o : Option Fault) → IsPlain p.answer → IsPlain (outcome_or_refusal M t words p o).answer
carried_out M t words p None plain = plain
carried_out M t words p (Some fault) plain = tt

at_end : (M : State Extent) (t : ℕ) (f : Flight) (body : Body Extent) (words : List ℕ) → IsPlain (end extent_len M t f body words).answer
at_end M t f body words =
    let N = without_flight M t f.conn in
    let who = caller_of N (Some f.token) in
    let p = end_plan extent_len N t who.key body f.upload in
    carried_out N t words p (first_fault (upload_rules N t who f.upload p.exists ++ p.own)) (planned N t who.key body f.upload)

pub told_plain : (M : State Extent) (t : ℕ) (f : Flight) (body : Body Extent) (N : State Extent) (told : AnswerOf Extent) → IsDecided M t f body N told → IsPlain told
told_plain M t f body N told decided = subst IsPlain (ap (λ (o : Outcome Extent). o.answer) (decided [])) (at_end M t f body [])
