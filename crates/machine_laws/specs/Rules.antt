-- The order of refusals: which rules a call, the begin or the end of an upload is judged by, one after the
-- other (the B2 reference, "Application keys" and "API calls").
use Rattle.std.specs.Prelude.{⊤, ℕ, List, [], ◌∷◌, ◌++◌, Some, map}
use Rattle.rule_table.specs.declared.fault.FaultKind.{FaultKind}
use Rattle.rule_table.specs.declared.fault.FaultKind.TheVariants.{P1, P2, P3, P4, P5, P6, P7, P8, P9, P10, NoBucket, NoFile, NoKey}
use Rattle.b2_types.specs.declared.key.Flight.{Flight}
use Rattle.b2_types.specs.declared.call.Call.{Call}
use Rattle.b2_types.specs.declared.call.Call.TheVariants as call
use Rattle.b2_types.specs.declared.upload.UploadCall.{UploadCall}
use Rattle.b2_types.specs.declared.upload.UploadCall.TheVariants as upload
use Rattle.b2_model.specs.Body.{Body}
use Rattle.b2_model.specs.Checks.{Check}
use Rattle.b2_model.specs.State.{State}
use Rattle.b2_model.specs.Policy.{caller_of}
use Rattle.b2_model.specs.UploadSteps.{without_flight, end_plan, upload_rules}

-- the kinds of the rules, in their order
abbrev pub kinds_of : List Check → List FaultKind
kinds_of checks = map (λ c. c.fault.kind) checks

-- the kinds of the token's rules
abbrev pub token_kinds : List FaultKind
token_kinds = P1 ∷ P2 ∷ P3 ∷ P4 ∷ P5 ∷ P6 ∷ []

-- the kinds of all ten, where these are those of what must stand
abbrev pub policy_kinds : List FaultKind → List FaultKind
policy_kinds exists = token_kinds ++ P7 ∷ P8 ∷ P9 ∷ exists ++ P10 ∷ []

-- something that is named is not there
abbrev pub IsOfExistence : FaultKind → Type 0
IsOfExistence NoBucket = ⊤
IsOfExistence NoFile = ⊤
IsOfExistence NoKey = ⊤
IsOfExistence other = ⊥

-- a call that the policy judges: it is in form, and gives a token
abbrev pub IsJudged : Call → Type 0
IsJudged (call.AuthorizeAccount c) = ⊥
IsJudged (call.Bad c) = ⊥
IsJudged other = ⊤

-- an upload that the policy judges: it is in form
abbrev pub IsJudgedUpload : UploadCall → Type 0
IsJudgedUpload (upload.Bad u) = ⊥
IsJudgedUpload other = ⊤

-- all refusals of an end, in their order. The flight is gone
abbrev pub end_refusals : {C : Type 0} → (C → ℕ) → State C → ℕ → Flight → Body C → List Check
end_refusals size M t f body =
    let N = without_flight M t f.conn in
    let who = caller_of N (Some f.token) in
    let p = end_plan size N t who.key body f.upload in
    upload_rules N t who f.upload p.exists ++ p.own
