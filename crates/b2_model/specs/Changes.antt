-- What a record makes of the state. Each change of a store's buckets, versions and keys is one record.
use Rattle.std.specs.Prelude.{ℕ, not, ◌==◌, ◌+◌, ◌/◌, max, [], ◌∷◌, ◌++◌, None, if◌then◌else◌, map, filter}
use Rattle.b2_base.specs.declared.settings.Settings.{Settings}
use Rattle.rule_table.specs.Cap.{cap_order}
use Rattle.rule_table.specs.CapSet.{set_of}
use Rattle.b2_types.specs.declared.kinds.Action.TheVariants as action
use Rattle.b2_types.specs.declared.kinds.Mark.TheVariants as mark
use Rattle.b2_types.specs.declared.key.Key.{Key}
use Rattle.b2_types.specs.declared.record.Numbers.{Numbers}
use Rattle.b2_types.specs.declared.record.RecordOf.{RecordOf}
use Rattle.b2_types.specs.declared.record.ChangeOf.{ChangeOf}
use Rattle.b2_types.specs.declared.record.ChangeOf.TheVariants as change
use Rattle.b2_model.specs.Kinds.{day}
use Rattle.b2_model.specs.State.{State}
use Rattle.b2_model.specs.Lists.{put_by}
use Rattle.b2_model.specs.Version.{no_digest, marker, version_from, with_version, at_version, without_version, with_part}
use Rattle.b2_model.specs.Pass.{pass}
use Rattle.b2_model.specs.Finish.{finished_file}

-- what a change does at its moment
abbrev pub after_change : {C : Type 0} → ℕ → ChangeOf C → State C → State C
after_change t (change.Settings s) M = M
after_change t (change.Boot n) M = record M { boot = n; serial = 0; grants = []; flights = [] }
after_change t change.Pass M = pass t M
after_change t (change.BucketMake b) M = record M { buckets = put_by (λ a. a.num) b M.buckets; next_bucket = max M.next_bucket (b.num + 1) }
after_change t (change.BucketUpdate b) M = record M { buckets = map (λ a. if a.num == b.num then b else a) M.buckets }
after_change t (change.BucketDrop n) M = record M { buckets = filter (λ a. not (a.num == n)) M.buckets }
after_change t (change.Upload v content m digest) M = with_version (version_from t action.Upload (content ∷ []) m digest v) M
after_change t (change.Hide id name) M = with_version (marker id.bucket id.num name t) M
after_change t (change.Start v) M = with_version (version_from t action.Start [] mark.Large no_digest v) M
after_change t (change.PartPut id n content m digest) M = at_version id (with_part (record { number = n; content = content; mark = m; digest = digest; stamp = t })) M
after_change t (change.Finish id retention) M = at_version id (finished_file retention) M
after_change t (change.Cancel id) M = without_version id M
after_change t (change.VersionDrop id) M = without_version id M
after_change t (change.Retain id retention) M = at_version id (λ v. record v { retention = retention }) M
after_change t (change.Hold id hold) M = at_version id (λ v. record v { hold = hold }) M
after_change t (change.KeyMake k) M = record M { keys = put_by (λ a. a.num) k M.keys; next_key = max M.next_key (k.num + 1) }
after_change t (change.KeyDrop n) M = record M { keys = filter (λ k. not (k.num == n)) M.keys }
-- (its number of boots is another, so no token of the opening before stands)
after_change t (change.SnapState n) M = record M {
  pass_day = n.pass_day;
  boot = n.boot;
  serial = 0;
  next_bucket = n.next_bucket;
  next_key = n.next_key;
  next_version = n.next_version;
  grants = [];
  flights = [];
}
after_change t (change.SnapLarge v) M = with_version (version_from t action.Upload [] mark.Large no_digest v) M
after_change t (change.SnapExtents id pieces) M = at_version id (λ v. record v { content = v.content ++ pieces }) M

-- applying a record makes its moment that of the state
abbrev pub after_record : {C : Type 0} → State C → RecordOf C → State C
after_record M r = record (after_change r.at r.change M) { now = r.at; kept = r.at }

-- the key that always stands
abbrev pub master_key : Settings → Key
master_key settings = record { num = 0; name = []; caps = set_of cap_order; buckets = []; prefix = []; end = None; hash = settings.secret_hash }

-- the state that the settings begin
abbrev pub state_of_settings : {C : Type 0} → Settings → ℕ → State C
state_of_settings settings t = record {
  settings = settings;
  now = t;
  kept = t;
  pass_day = 0;
  boot = 0;
  serial = 0;
  next_bucket = 1;
  next_key = 1;
  next_version = 1;
  buckets = [];
  versions = [];
  keys = master_key settings ∷ [];
  grants = [];
  flights = [];
}

-- ---- a store that is made

-- its settings, and then its numbers with the day of its moment
abbrev pub first_numbers : ℕ → Numbers
first_numbers t = record { pass_day = t / day; boot = 0; next_bucket = 1; next_key = 1; next_version = 1 }

abbrev pub new_store : {C : Type 0} → Settings → ℕ → State C
new_store settings t = after_record (state_of_settings settings t) (record { at = t; change = change.SnapState (first_numbers t) })
