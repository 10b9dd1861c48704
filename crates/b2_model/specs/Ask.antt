-- One call at one moment: its answer, and the state after it. The refusals of a call are one list, in the
-- order of refusals, and the first that holds is the answer; then the state's moment alone has moved. Else
-- the call's plan is carried out.
use Rattle.std.specs.Prelude.{ℕ, Bool, true, false, ◌&&◌, List, [], ◌∷◌, ◌++◌, Option, Some, None, if◌then◌else◌, drop, ◌+◌, option_and_then}
use Rattle.rule_table.specs.declared.call.CallName.{CallName}
use Rattle.rule_table.specs.declared.call.CallName.TheVariants as calls
use Rattle.b2_types.specs.declared.fault.Fault.{Fault}
use Rattle.b2_types.specs.declared.key.Key.{Key}
use Rattle.b2_types.specs.declared.key.Grant.{Grant}
use Rattle.b2_types.specs.declared.call.Call.{Call}
use Rattle.b2_types.specs.declared.call.Call.TheVariants as call
use Rattle.b2_types.specs.declared.record.ChangeOf.{ChangeOf}
use Rattle.b2_types.specs.declared.answer.AnswerOf.{AnswerOf}
use Rattle.b2_types.specs.declared.answer.AnswerOf.TheVariants as answer
use Rattle.b2_types.specs.Need.{need}
use Rattle.b2_model.specs.Checks.{Check, first_fault, some_and}
use Rattle.b2_model.specs.State.{State, Pieces, bucket_at}
use Rattle.b2_model.specs.Policy.{Caller, caller_of, token_rules, authorize_rules, judged_call, policy_rules, bucket_named}
use Rattle.b2_model.specs.Plan.{Plan, answers}
use Rattle.b2_model.specs.Changes.{after_record}
use Rattle.b2_model.specs.AskBuckets.{create_bucket, update_bucket, delete_bucket, list_buckets}
use Rattle.b2_model.specs.AskKeys.{authorize, create_key, delete_key, list_keys}
use Rattle.b2_model.specs.AskFiles.{get_upload_url, get_file_info, hide_file, delete_version, update_retention, update_hold}
use Rattle.b2_model.specs.AskLarge.{start_large_file, get_upload_part_url, list_parts, finish_large_file, cancel_large_file}
use Rattle.b2_model.specs.AskListings.{list_file_names, list_file_versions, list_unfinished}
use Rattle.b2_model.specs.AskDownloads.{get_download_authorization, download_by_id, download_by_name}
use Rattle.b2_model.specs.AskCopies.{copy_file, copy_part}

-- a call that is amiss is told so after the token's rules
abbrev pub bad_plan : {C : Type 0} → Fault → Plan C
bad_plan fault = answers (record { fails = true; fault = fault } ∷ []) (answer.Refused fault)

-- what the call comes to
abbrev pub plan : {C : Type 0} → Pieces C → State C → ℕ → List ℕ → Option Key → Call → Plan C
plan P M t words key (call.AuthorizeAccount c) = authorize M t words c
plan P M t words key (call.CreateBucket c) = create_bucket M key c
plan P M t words key (call.UpdateBucket c) = update_bucket M key c
plan P M t words key (call.DeleteBucket c) = delete_bucket M key c
plan P M t words key (call.ListBuckets c) = list_buckets M key c
plan P M t words key (call.CreateKey c) = create_key M key t words c
plan P M t words key (call.DeleteKey c) = delete_key M c
plan P M t words key (call.ListKeys c) = list_keys M c
plan P M t words key (call.GetUploadUrl c) = get_upload_url M key t words c
plan P M t words key (call.StartLargeFile c) = start_large_file P.size M key t c
plan P M t words key (call.GetUploadPartUrl c) = get_upload_part_url M key t words c
plan P M t words key (call.ListParts c) = list_parts P.size M c
plan P M t words key (call.FinishLargeFile c) = finish_large_file P.size M key t c
plan P M t words key (call.CancelLargeFile c) = cancel_large_file M c
plan P M t words key (call.ListUnfinishedLargeFiles c) = list_unfinished P.size M key c
plan P M t words key (call.ListFileNames c) = list_file_names P.size M key c
plan P M t words key (call.ListFileVersions c) = list_file_versions P.size M key c
plan P M t words key (call.GetFileInfo c) = get_file_info P.size M key c
plan P M t words key (call.HideFile c) = hide_file P.size M key t c
plan P M t words key (call.DeleteFileVersion c) = delete_version M key t c
plan P M t words key (call.GetDownloadAuthorization c) = get_download_authorization M key t words c
plan P M t words key (call.DownloadFileById c) = download_by_id P.size M key c
plan P M t words key (call.DownloadFileByName c) = download_by_name P.size M key c
plan P M t words key (call.UpdateFileRetention c) = update_retention M key t c
plan P M t words key (call.UpdateFileLegalHold c) = update_hold M c
plan P M t words key (call.CopyFile c) = copy_file P M key t c
plan P M t words key (call.CopyPart c) = copy_part P M t c
plan P M t words key (call.Bad c) = bad_plan c.fault

-- a call of this name is a download
abbrev pub is_download_call : CallName → Bool
is_download_call calls.DownloadFileById = true
is_download_call calls.DownloadFileByName = true
is_download_call other = false

-- a download from a bucket that stands and is public: no rule of the policy is judged
abbrev pub is_open : {C : Type 0} → State C → Call → Bool
is_open M (call.DownloadFileById c) = some_and (λ b. b.public) (bucket_at M c.bucket)
is_open M (call.DownloadFileByName c) = some_and (λ b. b.public) (bucket_named M c.bucket)
is_open M (call.Bad c) = is_download_call c.name && some_and (λ b. b.public) (option_and_then (bucket_named M) c.bucket)
is_open M other = false

-- the rules that stand before those of the state; a call that is amiss reaches those of the token alone
abbrev pub first_rules : {C : Type 0} → State C → ℕ → Caller → Call → List Check → List Check
first_rules M t who (call.AuthorizeAccount c) exists = authorize_rules M t c.credentials
first_rules M t who (call.Bad c) exists = token_rules t (need c.name).tokens (λ g. true) who
first_rules M t who c exists = policy_rules M t (judged_call c) (λ g. true) who exists

-- all refusals of a call, in their order
abbrev pub refusals : {C : Type 0} → State C → ℕ → Caller → Call → Plan C → List Check
refusals M t who c p = (if is_open M c then p.exists else first_rules M t who c p.exists) ++ p.own

-- an answer, the state after it and the words that are left
pub record Outcome (C : Type 0) : Type 0 where
  pub state : State C
  pub answer : AnswerOf C
  pub words : List ℕ

abbrev pub at_moment : {C : Type 0} → State C → ℕ → State C
at_moment M t = record M { now = t }

abbrev pub with_change : {C : Type 0} → State C → ℕ → Option (ChangeOf C) → State C
with_change M t None = M
with_change M t (Some change) = after_record M (record { at = t; change = change })

abbrev pub with_grant : {C : Type 0} → Option Grant → State C → State C
with_grant None M = M
with_grant (Some g) M = record M { grants = M.grants ++ g ∷ []; serial = M.serial + 1 }

-- an accepted call
abbrev pub outcome_of : {C : Type 0} → State C → ℕ → List ℕ → Plan C → Outcome C
outcome_of M t words p = record {
  state = with_grant p.grant (with_change (at_moment M t) t p.change);
  answer = p.answer;
  words = drop p.words words;
}

-- the first refusal, or what is carried out
abbrev pub outcome_or_refusal : {C : Type 0} → State C → ℕ → List ℕ → Plan C → Option Fault → Outcome C
outcome_or_refusal M t words p (Some fault) = record { state = at_moment M t; answer = answer.Refused fault; words = words }
outcome_or_refusal M t words p None = outcome_of M t words p

-- by whose key things are shown: by none, where none was judged
abbrev pub shown_by : {C : Type 0} → State C → Option (List ℕ) → Call → Option Key
shown_by M token c = if is_open M c then None else (caller_of M token).key

-- what a call comes to for who asks
abbrev pub plan_of : {C : Type 0} → Pieces C → State C → ℕ → List ℕ → Option (List ℕ) → Call → Plan C
plan_of P M t words token c = plan P M t words (shown_by M token c) c

abbrev pub refusals_of : {C : Type 0} → Pieces C → State C → ℕ → List ℕ → Option (List ℕ) → Call → List Check
refusals_of P M t words token c = refusals M t (caller_of M token) c (plan_of P M t words token c)

-- what is asked is a token, where one is given, and a call
abbrev pub ask : {C : Type 0} → Pieces C → State C → ℕ → List ℕ → Option (List ℕ) → Call → Outcome C
ask P M t words token c =
    outcome_or_refusal M t words (plan_of P M t words token c) (first_fault (refusals_of P M t words token c))
