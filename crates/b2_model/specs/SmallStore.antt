-- A small store, for the rows that the definitions compute.
use Rattle.std.specs.Prelude.{ℕ, ◌*◌, true, false, List, [], ◌∷◌, Option, Some, None, codes, map, option_map, replicate, length}
use Rattle.b2_base.specs.declared.settings.Settings.{Settings}
use Rattle.b2_types.specs.declared.kinds.Action.TheVariants as action
use Rattle.b2_types.specs.declared.kinds.Mark.TheVariants as mark
use Rattle.b2_types.specs.declared.bucket.Bucket.{Bucket}
use Rattle.b2_types.specs.declared.version.VersionOf.{VersionOf}
use Rattle.b2_types.specs.declared.record.NewVersion.{NewVersion}
use Rattle.b2_model.specs.Kinds.{day}
use Rattle.b2_model.specs.State.{State}
use Rattle.b2_model.specs.Version.{no_digest, version_from, with_version, marker}
use Rattle.b2_model.specs.Current.{current}
use Rattle.b2_model.specs.Pages.{keys_page}
use Rattle.b2_model.specs.Pass.{pass}
use Rattle.b2_model.specs.Changes.{new_store, master_key}

abbrev pub small_settings : Settings
small_settings = record { account = codes "a1b2c3d4e5f6"; secret_hash = []; url = []; part_min = 10; last_version = 9; area_end = 4096 }

-- files are hidden after a day, and go a day later
abbrev pub small_bucket : Bucket
small_bucket = record {
  num = 1;
  name = codes "photos-1";
  public = false;
  revision = 1;
  lock = true;
  default = None;
  info = [];
  rules = record { prefix = []; hide_days = Some 1; delete_days = Some 1; cancel_days = None } ∷ [];
}

abbrev pub small_store : State (List ℕ)
small_store = record (new_store small_settings 0) { buckets = small_bucket ∷ []; next_bucket = 2 }

abbrev pub new_file : ℕ → NewVersion
new_file num = record { bucket = 1; num = num; name = codes "a"; kind = codes "text/plain"; info = []; retention = None; hold = false }

abbrev pub upload_1 : VersionOf (List ℕ)
upload_1 = version_from 0 action.Upload (codes "abc" ∷ []) mark.Verified no_digest (new_file 1)

abbrev pub start_2 : VersionOf (List ℕ)
start_2 = version_from 0 action.Start [] mark.Large no_digest (new_file 2)

-- the upload and a newer start, with a part
abbrev pub with_start : State (List ℕ)
with_start =
    with_version (record start_2 { parts = record { number = 1; content = codes "abc"; mark = mark.Verified; digest = no_digest; stamp = 0 } ∷ [] })
    (with_version upload_1 small_store)

-- the number of the current version of the name
abbrev pub current_number : Option ℕ
current_number = option_map (λ v. v.num) (current with_start 1 (codes "a"))

-- the upload has a hold, and is hidden for a day
abbrev pub held_for_a_day : State (List ℕ)
held_for_a_day = with_version (marker 1 2 (codes "a") day) (with_version (record upload_1 { hold = true }) small_store)

abbrev pub numbers_after_pass : List ℕ
numbers_after_pass = map (λ v. v.num) (pass (2 * day) held_for_a_day).versions

-- how many of 1,001 keys a page of 10,000 shows
abbrev pub keys_shown : ℕ
keys_shown = length (keys_page (record small_store { keys = replicate 1001 (record (master_key small_settings) { num = 1 }) }) 0 (Some 10000)).rows
