-- Calls that show files and buckets and change nothing, and what they name (the B2 reference,
-- "Application keys").
use Rattle.std.specs.Prelude.{◌≡◌, ⊤, ℕ, true, false, List, [], unwrap_or}
use Rattle.std.specs.List.{list_any}
use Rattle.name_rules.specs.Folder.{begins_with}
use Rattle.b2_types.specs.declared.call.Call.{Call}
use Rattle.b2_types.specs.declared.call.Call.TheVariants as call
use Rattle.b2_types.specs.Naming.{places}
use Rattle.b2_model.specs.Checks.{some_and}
use Rattle.b2_model.specs.Lists.{is_empty, is_among}
use Rattle.b2_model.specs.State.{State}
use Rattle.b2_model.specs.Rows.{version_at}
use Rattle.b2_model.specs.Policy.{Caller, limits, judged_call, is_outside}

-- the call lists files of this bucket, or asks for what is known of one
abbrev pub LooksInto : ℕ → Call → Type 0
LooksInto bucket (call.ListFileNames c) = c.bucket ≡ bucket
LooksInto bucket (call.ListFileVersions c) = c.bucket ≡ bucket
LooksInto bucket (call.ListUnfinishedLargeFiles c) = c.bucket ≡ bucket
LooksInto bucket (call.ListParts c) = c.bucket ≡ bucket
LooksInto bucket (call.GetFileInfo c) = c.bucket ≡ bucket
LooksInto bucket other = ⊥

-- the caller is limited to buckets, and this is none of them
abbrev pub IsLimitedToOthers : Caller → ℕ → Type 0
IsLimitedToOthers who bucket = (is_empty (limits who) ≡ false) × (is_among (limits who) bucket ≡ false)

-- the call shows buckets, files or parts, or sends a content
abbrev pub IsLook : Call → Type 0
IsLook (call.ListBuckets c) = ⊤
IsLook (call.ListFileNames c) = ⊤
IsLook (call.ListFileVersions c) = ⊤
IsLook (call.ListUnfinishedLargeFiles c) = ⊤
IsLook (call.ListParts c) = ⊤
IsLook (call.GetFileInfo c) = ⊤
IsLook (call.DownloadFileById c) = ⊤
IsLook (call.DownloadFileByName c) = ⊤
IsLook other = ⊥

-- each bucket that the call names is one of these
abbrev pub NamesWithin : {C : Type 0} → State C → List ℕ → Call → Type 0
NamesWithin M own c = list_any (is_outside M own) (places (judged_call c).row.things (judged_call c).fields) ≡ false

-- the call names no other files than such whose names begin with the prefix
abbrev pub NamesUnder : {C : Type 0} → State C → List ℕ → Call → Type 0
NamesUnder M prefix (call.ListFileNames c) = begins_with prefix (unwrap_or c.prefix []) ≡ true
NamesUnder M prefix (call.ListFileVersions c) = begins_with prefix (unwrap_or c.prefix []) ≡ true
NamesUnder M prefix (call.ListUnfinishedLargeFiles c) = begins_with prefix (unwrap_or c.prefix []) ≡ true
NamesUnder M prefix (call.ListParts c) = some_and (λ v. begins_with prefix v.name) (version_at M c.bucket c.file) ≡ true
NamesUnder M prefix (call.GetFileInfo c) = some_and (λ v. begins_with prefix v.name) (version_at M c.bucket c.file) ≡ true
NamesUnder M prefix (call.DownloadFileById c) = some_and (λ v. begins_with prefix v.name) (version_at M c.bucket c.file) ≡ true
NamesUnder M prefix (call.DownloadFileByName c) = begins_with prefix c.name ≡ true
NamesUnder M prefix other = ⊤
