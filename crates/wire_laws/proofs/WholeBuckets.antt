-- The body of a bucket tells all of it.
use Rattle.std.proofs.Common.{◌≡◌, ℕ, List, [], ◌∷◌, length, Bool, true, false, Option, Some, None, sym, ap, ◌∙◌, refl}
use Rattle.std.specs.Prelude.{All, codes, ◌==◌}
use Rattle.std.proofs.lemmas.Bool.{false≢true}
use Rattle.std.proofs.lemmas.List.{map-id}
use Rattle.std.proofs.lemmas.List.Elements.{All-nil, All-cons}
use Rattle.serde_json.specs.Data.{Data}
use Rattle.json_shape.specs.Fields.{field}
use Rattle.b2_types.specs.declared.bucket.DefaultRetention.{DefaultRetention}
use Rattle.b2_types.specs.declared.bucket.Rule.{Rule}
use Rattle.b2_types.specs.declared.kinds.Period.{Period}
use Rattle.b2_types.specs.declared.kinds.Period.TheVariants as period
use Rattle.b2_types.specs.declared.shown.ShownBucket.{ShownBucket}
use Rattle.b2_types.specs.declared.shown.ShownLock.{ShownLock}
use Rattle.wire_forms.specs.Body.{period_json, default_json, lock_json, rule_json, bucket_type, bucket_json, list_of}
use Rattle.wire_laws.specs.Told.{IsBucket}
use Rattle.wire_laws.proofs.Plain.{text, count, flag, is_null, same_list, same_bucket, same_amount}
use Rattle.wire_laws.proofs.Information.{same_info}
use Rattle.wire_laws.proofs.Rows.{mode_of, mode_back, mode_some, same_readable}

-- a year's unit has one letter more
abbrev in_days : Data → Bool
in_days d = length (text (field (codes "unit") d)) == 4

abbrev duration : Data → ℕ
duration d = count (field (codes "duration") d)

same_period : (a b : Period) → period_json a ≡ period_json b → a ≡ b
same_period (period.Days m) (period.Days n) same = ap (λ d. period.Days (duration d)) same
same_period (period.Years m) (period.Years n) same = ap (λ d. period.Years (duration d)) same
same_period (period.Days m) (period.Years n) same = absurd (false≢true (ap in_days (sym same)))
same_period (period.Years m) (period.Days n) same = absurd (false≢true (ap in_days same))

mode_given : (d : DefaultRetention) → is_null (field (codes "mode") (default_json (Some d))) ≡ false
mode_given d = mode_some d.mode

same_default : (a b : Option DefaultRetention) → default_json a ≡ default_json b → a ≡ b
same_default None None same = refl
same_default None (Some e) same = absurd (false≢true (sym (mode_given e) ∙ ap (λ d. is_null (field (codes "mode") d)) (sym same)))
same_default (Some d) None same = absurd (false≢true (sym (mode_given d) ∙ ap (λ d. is_null (field (codes "mode") d)) same))
same_default (Some d) (Some e) same =
    let mode : d.mode ≡ e.mode = sym (mode_back d.mode) ∙ ap (λ d. mode_of (text (field (codes "mode") d))) same ∙ mode_back e.mode in
    let period : d.period ≡ e.period = same_period d.period e.period (ap (field (codes "period")) same) in
    λ i. Some (record { mode = mode i; period = period i })

same_lock : (a b : ShownLock) → lock_json a ≡ lock_json b → a ≡ b
same_lock a b same =
    let enabled : a.enabled ≡ b.enabled = ap (λ d. flag (field (codes "isFileLockEnabled") d)) same in
    let default : a.default ≡ b.default = same_default a.default b.default (ap (field (codes "defaultRetention")) same) in
    λ i. record { enabled = enabled i; default = default i }

same_rule : (a b : Rule) → Unit {0} → Unit {0} → rule_json a ≡ rule_json b → a ≡ b
same_rule a b any other same =
    let delete : a.delete_days ≡ b.delete_days = same_amount a.delete_days b.delete_days (ap (field (codes "daysFromHidingToDeleting")) same) in
    let cancel : a.cancel_days ≡ b.cancel_days = same_amount a.cancel_days b.cancel_days (ap (field (codes "daysFromStartingToCancelingUnfinishedLargeFiles")) same) in
    let hide : a.hide_days ≡ b.hide_days = same_amount a.hide_days b.hide_days (ap (field (codes "daysFromUploadingToHiding")) same) in
    let prefix : a.prefix ≡ b.prefix = ap (λ d. text (field (codes "fileNamePrefix") d)) same in
    λ i. record { prefix = prefix i; hide_days = hide i; delete_days = delete i; cancel_days = cancel i }

any_rules : (rs : List Rule) → All (λ r. Unit {0}) rs
any_rules [] = All-nil (λ r. Unit {0})
any_rules (r ∷ rs) = All-cons (λ r. Unit {0}) r rs tt (any_rules rs)

same_rules : (xs ys : List Rule) → list_of rule_json xs ≡ list_of rule_json ys → xs ≡ ys
same_rules xs ys same =
    sym (map-id xs) ∙ same_list rule_json (λ r. r) (λ r. Unit {0}) same_rule xs ys (any_rules xs) (any_rules ys) same ∙ map-id ys

type_back : (public : Bool) → (length (bucket_type public) == 9) ≡ public
type_back true = refl
type_back false = refl

pub tells_bucket : (a b : ShownBucket) → IsBucket a → IsBucket b → bucket_json a ≡ bucket_json b → a ≡ b
tells_bucket a b first second same =
    let account : a.account ≡ b.account = ap (λ d. text (field (codes "accountId") d)) same in
    let num : a.num ≡ b.num = same_bucket a.num b.num first.num second.num (ap (λ d. text (field (codes "bucketId") d)) same) in
    let name : a.name ≡ b.name = ap (λ d. text (field (codes "bucketName") d)) same in
    let public : a.public ≡ b.public = sym (type_back a.public) ∙ ap (λ d. length (text (field (codes "bucketType") d)) == 9) same ∙ type_back b.public in
    let revision : a.revision ≡ b.revision = ap (λ d. count (field (codes "revision") d)) same in
    let lock : a.lock ≡ b.lock = same_readable lock_json same_lock a.lock b.lock (ap (field (codes "fileLockConfiguration")) same) in
    let info : a.info ≡ b.info = same_info a.info b.info first.info second.info (ap (field (codes "bucketInfo")) same) in
    let rules : a.rules ≡ b.rules = same_rules a.rules b.rules (ap (field (codes "lifecycleRules")) same) in
    λ i. record {
      account = account i;
      num = num i;
      name = name i;
      public = public i;
      revision = revision i;
      lock = lock i;
      info = info i;
      rules = rules i;
    }
