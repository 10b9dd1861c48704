-- The machine under a change of what stands for a piece of content, such as from bytes to extents.
use Rattle.std.specs.Prelude.{◌≡◌, ℕ, List, map, option_map}
use Rattle.b2_types.specs.declared.version.PartOf.{PartOf}
use Rattle.b2_types.specs.declared.version.VersionOf.{VersionOf}
use Rattle.b2_types.specs.declared.record.ChangeOf.{ChangeOf}
use Rattle.b2_types.specs.declared.record.ChangeOf.TheVariants as change
use Rattle.b2_types.specs.declared.answer.ContentOf.{ContentOf}
use Rattle.b2_types.specs.declared.answer.AnswerOf.{AnswerOf}
use Rattle.b2_types.specs.declared.answer.AnswerOf.TheVariants as answer
use Rattle.b2_model.specs.State.{State, Pieces}
use Rattle.b2_model.specs.Pages.{Row, file, folder}
use Rattle.b2_model.specs.Plan.{Plan}
use Rattle.b2_model.specs.Ask.{Outcome}
use Rattle.b2_model.specs.UploadSteps.{Body, Begun}
use Rattle.b2_model.specs.Run.{Step, asks, begins, ends, loses, passes, restarts, Progress}

abbrev pub part_by : {C D : Type 0} → (C → D) → PartOf C → PartOf D
part_by f p = record { number = p.number; content = f p.content; mark = p.mark; digest = p.digest; stamp = p.stamp }

abbrev pub version_by : {C D : Type 0} → (C → D) → VersionOf C → VersionOf D
version_by f v = record {
  bucket = v.bucket;
  num = v.num;
  name = v.name;
  action = v.action;
  stamp = v.stamp;
  kind = v.kind;
  info = v.info;
  content = map f v.content;
  mark = v.mark;
  digest = v.digest;
  retention = v.retention;
  hold = v.hold;
  parts = map (part_by f) v.parts;
}

-- the state with each piece changed
abbrev pub state_by : {C D : Type 0} → (C → D) → State C → State D
state_by f M = record {
  settings = M.settings;
  now = M.now;
  kept = M.kept;
  pass_day = M.pass_day;
  boot = M.boot;
  serial = M.serial;
  next_bucket = M.next_bucket;
  next_key = M.next_key;
  next_version = M.next_version;
  buckets = M.buckets;
  versions = map (version_by f) M.versions;
  keys = M.keys;
  grants = M.grants;
  flights = M.flights;
}

abbrev pub row_by : {C D : Type 0} → (C → D) → Row C → Row D
row_by f (file v) = file (version_by f v)
row_by f (folder name) = folder name

abbrev pub change_by : {C D : Type 0} → (C → D) → ChangeOf C → ChangeOf D
change_by f (change.Settings s) = change.Settings s
change_by f (change.Boot n) = change.Boot n
change_by f change.Pass = change.Pass
change_by f (change.BucketMake b) = change.BucketMake b
change_by f (change.BucketUpdate b) = change.BucketUpdate b
change_by f (change.BucketDrop n) = change.BucketDrop n
change_by f (change.Upload v content m digest) = change.Upload v (f content) m digest
change_by f (change.Hide id name) = change.Hide id name
change_by f (change.Start v) = change.Start v
change_by f (change.PartPut id n content m digest) = change.PartPut id n (f content) m digest
change_by f (change.Finish id retention) = change.Finish id retention
change_by f (change.Cancel id) = change.Cancel id
change_by f (change.VersionDrop id) = change.VersionDrop id
change_by f (change.Retain id retention) = change.Retain id retention
change_by f (change.Hold id hold) = change.Hold id hold
change_by f (change.KeyMake k) = change.KeyMake k
change_by f (change.KeyDrop n) = change.KeyDrop n
change_by f (change.SnapState n) = change.SnapState n
change_by f (change.SnapLarge v) = change.SnapLarge v
change_by f (change.SnapExtents id pieces) = change.SnapExtents id (map f pieces)

abbrev pub content_by : {C D : Type 0} → (C → D) → ContentOf C → ContentOf D
content_by f c = record { file = c.file; content = map f c.content; range = c.range }

-- an answer differs where a content is sent alone
abbrev pub answer_by : {C D : Type 0} → (C → D) → AnswerOf C → AnswerOf D
answer_by f (answer.Json shown) = answer.Json shown
answer_by f (answer.Content c) = answer.Content (content_by f c)
answer_by f (answer.Refused fault) = answer.Refused fault

abbrev pub plan_by : {C D : Type 0} → (C → D) → Plan C → Plan D
plan_by f p = record {
  exists = p.exists;
  own = p.own;
  words = p.words;
  grant = p.grant;
  change = option_map (change_by f) p.change;
  answer = answer_by f p.answer;
}

abbrev pub outcome_by : {C D : Type 0} → (C → D) → Outcome C → Outcome D
outcome_by f o = record { state = state_by f o.state; answer = answer_by f o.answer; words = o.words }

abbrev pub body_by : {C D : Type 0} → (C → D) → Body C → Body D
body_by f b = record { content = f b.content; digest = b.digest; told = b.told }

abbrev pub begun_by : {C D : Type 0} → (C → D) → Begun C → Begun D
begun_by f b = record { state = state_by f b.state; fault = b.fault }

abbrev pub step_by : {C D : Type 0} → (C → D) → Step C → Step D
step_by f (asks reading token c) = asks reading token c
step_by f (begins reading conn token u) = begins reading conn token u
step_by f (ends reading conn body) = ends reading conn (body_by f body)
step_by f (loses reading conn) = loses reading conn
step_by f (passes reading) = passes reading
step_by f (restarts reading) = restarts reading

abbrev pub progress_by : {C D : Type 0} → (C → D) → Progress C → Progress D
progress_by f P = record { state = state_by f P.state; words = P.words; answers = map (answer_by f) P.answers }

-- two kinds of pieces go along with the change: it keeps lengths, and what is copied
pub record GoAlong {C D : Type 0} (f : C → D) (P : Pieces C) (Q : Pieces D) : Type 0 where
  pub size : (c : C) → Q.size (f c) ≡ P.size c
  pub copy : (pieces : List C) (at len : ℕ) → Q.copy (map f pieces) at len ≡ body_by f (P.copy pieces at len)
