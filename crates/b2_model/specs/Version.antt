-- Versions: how they are made, and where they stand.
use Rattle.std.specs.Prelude.{ℕ, Bool, false, not, ◌&&◌, ◌==◌, ◌+◌, max, List, [], None, if◌then◌else◌, map, filter, replicate, codes}
use Rattle.b2_types.specs.declared.kinds.Action.{Action}
use Rattle.b2_types.specs.declared.kinds.Action.TheVariants as action
use Rattle.b2_types.specs.declared.kinds.Mark.{Mark}
use Rattle.b2_types.specs.declared.kinds.Mark.TheVariants as mark
use Rattle.b2_types.specs.declared.version.VersionOf.{VersionOf}
use Rattle.b2_types.specs.declared.version.PartOf.{PartOf}
use Rattle.b2_types.specs.declared.record.NewVersion.{NewVersion}
use Rattle.b2_types.specs.declared.record.VersionId.{VersionId}
use Rattle.b2_model.specs.Lists.{put_by}
use Rattle.b2_model.specs.State.{State}

-- what stands in place of a digest where a version has none
abbrev pub no_digest : List ℕ
no_digest = replicate 20 0

-- what a marker has in place of a content type
abbrev pub marker_kind : List ℕ
marker_kind = codes "application/x-bz-hide-marker"

-- the marker of this number that hides the name
abbrev pub marker : {C : Type 0} → ℕ → ℕ → List ℕ → ℕ → VersionOf C
marker bucket num name t = record {
  bucket = bucket;
  num = num;
  name = name;
  action = action.Hide;
  stamp = t;
  kind = marker_kind;
  info = [];
  content = [];
  mark = mark.Marker;
  digest = no_digest;
  retention = None;
  hold = false;
  parts = [];
}

-- the version that an upload, a start or a joined large file makes
abbrev pub version_from : {C : Type 0} → ℕ → Action → List C → Mark → List ℕ → NewVersion → VersionOf C
version_from t act content m digest v = record {
  bucket = v.bucket;
  num = v.num;
  name = v.name;
  action = act;
  stamp = t;
  kind = v.kind;
  info = v.info;
  content = content;
  mark = m;
  digest = digest;
  retention = v.retention;
  hold = v.hold;
  parts = [];
}

-- the version stands at its place, and the next number is above its own
abbrev pub with_version : {C : Type 0} → VersionOf C → State C → State C
with_version v M = record M { versions = put_by (λ w. w.num) v M.versions; next_version = max M.next_version (v.num + 1) }

abbrev pub is_it : {C : Type 0} → VersionId → VersionOf C → Bool
is_it id v = v.bucket == id.bucket && v.num == id.num

-- this version is changed
abbrev pub at_version : {C : Type 0} → VersionId → (VersionOf C → VersionOf C) → State C → State C
at_version id f M = record M { versions = map (λ v. if is_it id v then f v else v) M.versions }

abbrev pub without_version : {C : Type 0} → VersionId → State C → State C
without_version id M = record M { versions = filter (λ v. not (is_it id v)) M.versions }

-- the part stands at its place, and none other of its number
abbrev pub with_part : {C : Type 0} → PartOf C → VersionOf C → VersionOf C
with_part p v = record v { parts = put_by (λ q. q.number) p (filter (λ q. not (q.number == p.number)) v.parts) }
