-- The lifecycle pass.
use Rattle.std.specs.Prelude.{ℕ, Bool, true, false, List, [], ◌∷◌, Some, codes, map}
use Rattle.b2_types.specs.declared.bucket.Rule.{Rule}
use Rattle.b2_model.specs.State.{State}
use Rattle.b2_model.specs.Version.{marker}
use Rattle.b2_model.specs.Run.{with_pass}
use Rattle.worked_rows.specs.Store.{Bytes, photos_1, with_bucket, with_versions, upload_at, start_at}

-- a day to hiding and a day more to deletion, two days to the cancelling of a start
abbrev pub rule : Rule
rule = record { prefix = []; hide_days = Some 1; delete_days = Some 1; cancel_days = Some 2 }

-- `a` was uploaded at moment 0
abbrev pub rule_store : Bool → State Bytes
rule_store hold = with_versions (record (upload_at 0 1 (codes "a") (codes "abc")) { hold = hold } ∷ []) (with_bucket (record photos_1 { rules = rule ∷ [] }))

-- numbers and stamps
abbrev pub faces : State Bytes → List (ℕ × ℕ)
faces M = map (λ v. (v.num, v.stamp)) M.versions

abbrev pub day_before : State Bytes
day_before = with_pass (rule_store false) 86399999

abbrev pub first_day : State Bytes
first_day = with_pass (rule_store false) 86400000

abbrev pub second_day : State Bytes
second_day = with_pass first_day 172800000

abbrev pub after_two_days_held : State Bytes
after_two_days_held = with_pass (with_pass (rule_store true) 86400000) 172800000

-- a start that is two days old
abbrev pub begun_at_0 : State Bytes
begun_at_0 = with_versions (start_at 0 1 (codes "l") ∷ []) (with_bucket (record photos_1 { rules = rule ∷ [] }))

-- no number is left for a marker
abbrev pub without_numbers : State Bytes
without_numbers = let M = rule_store false in record M { settings = record M.settings { last_version = 1 } }

-- a marker of the second day stands alone
abbrev pub lone_marker : State Bytes
lone_marker = with_versions (marker 1 1 (codes "a") 86400000 ∷ []) (with_bucket (record photos_1 { rules = rule ∷ [] }))
