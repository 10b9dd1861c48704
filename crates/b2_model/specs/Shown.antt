-- What answers show of versions, buckets, keys and parts (the B2 reference, the responses of the calls).
use Rattle.std.specs.Prelude.{ℕ, Bool, List, [], Option, Some, None, if◌then◌else◌, option_map, map}
use Rattle.rule_table.specs.declared.cap.Cap.{Cap}
use Rattle.rule_table.specs.declared.cap.Cap.TheVariants.{ReadBucketRetentions, ReadFileRetentions, ReadFileLegalHolds}
use Rattle.rule_table.specs.CapSet.{has}
use Rattle.b2_base.specs.declared.settings.Settings.{Settings}
use Rattle.b2_types.specs.declared.kinds.Action.{Action}
use Rattle.b2_types.specs.declared.kinds.Action.TheVariants as action
use Rattle.b2_types.specs.declared.kinds.Mark.{Mark}
use Rattle.b2_types.specs.declared.kinds.Mark.TheVariants as mark
use Rattle.b2_types.specs.declared.bucket.Bucket.{Bucket}
use Rattle.b2_types.specs.declared.key.Key.{Key}
use Rattle.b2_types.specs.declared.version.VersionOf.{VersionOf}
use Rattle.b2_types.specs.declared.version.PartOf.{PartOf}
use Rattle.b2_types.specs.declared.shown.RowKind.{RowKind}
use Rattle.b2_types.specs.declared.shown.RowKind.TheVariants as row
use Rattle.b2_types.specs.declared.shown.ShownDigest.{ShownDigest}
use Rattle.b2_types.specs.declared.shown.ShownFile.{ShownFile}
use Rattle.b2_types.specs.declared.shown.ShownBucket.{ShownBucket}
use Rattle.b2_types.specs.declared.shown.ShownKey.{ShownKey}
use Rattle.b2_types.specs.declared.shown.ShownPart.{ShownPart}
use Rattle.b2_types.specs.declared.shown.ShownName.{ShownName}
use Rattle.b2_types.specs.declared.shown.ShownAccount.{ShownAccount}
use Rattle.b2_types.specs.declared.shown.ShownLimit.{ShownLimit}
use Rattle.b2_types.specs.declared.kinds.ApiVersion.{ApiVersion}
use Rattle.b2_model.specs.Checks.{some_and}
use Rattle.b2_model.specs.State.{State, bucket_at, length_of}
use Rattle.b2_model.specs.Pages.{Row, file, folder}

-- the key may read this; where no key asks nothing may be read
abbrev pub may : Option Key → Cap → Bool
may key c = some_and (λ k. has k.caps c) key

-- shown where it may be read
abbrev pub if_may : {X : Type 0} → Bool → X → Option X
if_may allowed x = if allowed then Some x else None

abbrev pub row_kind : Action → RowKind
row_kind action.Upload = row.Upload
row_kind action.Hide = row.Hide
row_kind action.Start = row.Start

-- a marker has no digest to show
abbrev pub shown_digest : Mark → List ℕ → Option ShownDigest
shown_digest mark.Marker digest = None
shown_digest mark.Verified digest = Some (record { mark = mark.Verified; digest = digest })
shown_digest mark.Unverified digest = Some (record { mark = mark.Unverified; digest = digest })
shown_digest mark.Large digest = Some (record { mark = mark.Large; digest = digest })

abbrev pub shown_file : {C : Type 0} → (C → ℕ) → Settings → Option Key → VersionOf C → ShownFile
shown_file size settings key v = record {
  account = settings.account;
  action = row_kind v.action;
  bucket = v.bucket;
  length = length_of size v.content;
  digest = shown_digest v.mark v.digest;
  kind = Some v.kind;
  num = v.num;
  info = v.info;
  name = v.name;
  retention = if_may (may key ReadFileRetentions) v.retention;
  hold = if_may (may key ReadFileLegalHolds) v.hold;
  stamp = v.stamp;
}

abbrev pub shown_folder : Settings → ℕ → List ℕ → ShownFile
shown_folder settings bucket name = record {
  account = settings.account;
  action = row.Folder;
  bucket = bucket;
  length = 0;
  digest = None;
  kind = None;
  num = 0;
  info = [];
  name = name;
  retention = None;
  hold = None;
  stamp = 0;
}

abbrev pub shown_row : {C : Type 0} → (C → ℕ) → Settings → Option Key → ℕ → Row C → ShownFile
shown_row size settings key bucket (file v) = shown_file size settings key v
shown_row size settings key bucket (folder name) = shown_folder settings bucket name

abbrev pub shown_bucket : Settings → Option Key → Bucket → ShownBucket
shown_bucket settings key b = record {
  account = settings.account;
  num = b.num;
  name = b.name;
  public = b.public;
  revision = b.revision;
  lock = if_may (may key ReadBucketRetentions) (record { enabled = b.lock; default = b.default });
  info = b.info;
  rules = b.rules;
}

abbrev pub shown_key : ApiVersion → Settings → Key → ShownKey
shown_key version settings k = record {
  version = version;
  account = settings.account;
  num = k.num;
  name = k.name;
  caps = k.caps;
  buckets = k.buckets;
  prefix = k.prefix;
  end = k.end;
}

abbrev pub shown_part : {C : Type 0} → (C → ℕ) → ℕ → ℕ → PartOf C → ShownPart
shown_part size bucket num p = record {
  bucket = bucket;
  file = num;
  number = p.number;
  length = size p.content;
  digest = record { mark = p.mark; digest = p.digest };
  stamp = p.stamp;
}

abbrev pub shown_name : {C : Type 0} → VersionOf C → ShownName
shown_name v = record { bucket = v.bucket; num = v.num; name = v.name }

-- the name of a bucket that is gone is not known
abbrev pub shown_limit : {C : Type 0} → State C → ℕ → ShownLimit
shown_limit M bucket = record { bucket = bucket; name = option_map (λ b. b.name) (bucket_at M bucket) }

abbrev pub shown_account : {C : Type 0} → ApiVersion → State C → Key → List ℕ → ShownAccount
shown_account version M k token = record {
  version = version;
  account = M.settings.account;
  token = token;
  url = M.settings.url;
  part_min = M.settings.part_min;
  caps = k.caps;
  buckets = map (shown_limit M) k.buckets;
  prefix = k.prefix;
  end = k.end;
}
