-- What keeps a version standing, a hold or a retention up to a moment, and the steps that take it off (the
-- B2 reference, "Object Lock").
use Rattle.std.specs.Prelude.{◌≡◌, ⊤, ℕ, ◌<◌, ◌≤◌, ◌==◌, ◌&&◌, not, Bool, true, false, List, [], ◌∷◌, Option, Some, None, unwrap_or}
use Rattle.rule_table.specs.declared.cap.Cap.TheVariants.{BypassGovernance}
use Rattle.b2_types.specs.declared.kinds.Retention.{Retention}
use Rattle.b2_types.specs.declared.key.Key.{Key}
use Rattle.b2_types.specs.declared.call.Call.{Call}
use Rattle.b2_types.specs.declared.call.Call.TheVariants as call
use Rattle.b2_types.specs.declared.record.VersionId.{VersionId}
use Rattle.b2_types.specs.declared.version.VersionOf.{VersionOf}
use Rattle.b2_model.specs.Kinds.{is_upload}
use Rattle.b2_model.specs.Checks.{first_fault}
use Rattle.b2_model.specs.State.{State, Pieces}
use Rattle.b2_model.specs.Rows.{version_at}
use Rattle.b2_model.specs.Shown.{may}
use Rattle.b2_model.specs.Ask.{shown_by, refusals_of}
use Rattle.b2_model.specs.Run.{Step, asks, Progress, moment, start_of, step}

pub data Lock : Type 0 where
  on_hold : Lock
  kept_until : ℕ → Lock

-- the retention ends at this moment, or after it
abbrev pub IsRetainedTo : ℕ → Option Retention → Type 0
IsRetainedTo n None = ⊥
IsRetainedTo n (Some r) = n ≤ r.until

-- an upload with the lock on it
abbrev pub IsLocked : {C : Type 0} → Lock → VersionOf C → Type 0
IsLocked on_hold v = (is_upload v.action ≡ true) × (v.hold ≡ true)
IsLocked (kept_until n) v = (is_upload v.action ≡ true) × IsRetainedTo n v.retention

-- the lock does not end by this moment; a hold has no end
abbrev pub IsInTime : Lock → ℕ → Type 0
IsInTime on_hold t = ⊤
IsInTime (kept_until n) t = t < n

-- the version stands with its lock, and nothing of it has changed but its hold and its retention
pub record Stands {C : Type 0} (lock : Lock) (v : VersionOf C) (M : State C) : Type 0 where
  pub version : VersionOf C
  pub there : version_at M v.bucket v.num ≡ Some version
  pub same : version ≡ record v { hold = version.hold; retention = version.retention }
  pub locked : IsLocked lock version

-- ---- what takes a lock off

abbrev pub is_named : ℕ → ℕ → VersionId → Bool
is_named bucket num id = bucket == id.bucket && num == id.num

-- the bypass of governance is asked for, by a key that may
abbrev pub bypasses : Option Bool → Option Key → Bool
bypasses asked key = unwrap_or asked false && may key BypassGovernance

-- the call puts the hold off
abbrev pub ends_hold : VersionId → Call → Bool
ends_hold id (call.UpdateFileLegalHold c) = is_named c.bucket c.file id && not c.hold
ends_hold id other = false

-- the call deletes the version, or changes its retention, in spite of governance
abbrev pub ends_retention : VersionId → Option Key → Call → Bool
ends_retention id key (call.DeleteFileVersion c) = is_named c.bucket c.file id && bypasses c.bypass key
ends_retention id key (call.UpdateFileRetention c) = is_named c.bucket c.file id && bypasses c.bypass key
ends_retention id key other = false

abbrev pub takes_off : Lock → VersionId → Option Key → Call → Bool
takes_off on_hold id key c = ends_hold id c
takes_off (kept_until n) id key c = ends_retention id key c

-- the step is no accepted call that takes the lock off the version
abbrev pub IsSparing : {C : Type 0} → Pieces C → Lock → VersionId → Progress C → Step C → Type 0
IsSparing K lock id P (asks reading token c) =
    first_fault (refusals_of K (start_of P reading) (moment P.state reading) P.words token c) ≡ None
    → takes_off lock id (shown_by (start_of P reading) token c) c ≡ false
IsSparing K lock id P other = ⊤

-- nor is any of these steps, one after the other
abbrev pub AreSparing : {C : Type 0} → Pieces C → Lock → VersionId → Progress C → List (Step C) → Type 0
AreSparing K lock id P [] = ⊤
AreSparing K lock id P (s ∷ steps) = IsSparing K lock id P s × AreSparing K lock id (step K P s) steps
