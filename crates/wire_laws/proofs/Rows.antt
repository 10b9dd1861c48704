-- Rows of files whose bodies are the same are the same but for what is not told.
use Rattle.std.proofs.Common.{◌≡◌, ℕ, List, length, Bool, true, false, Option, Some, None, sym, ap, ◌∙◌, refl, codes}
use Rattle.std.specs.Prelude.{option_map, slice_index, ◌==◌, if◌then◌else◌}
use Rattle.std.proofs.lemmas.Bool.{false≢true}
use Rattle.serde_json.specs.Data.{Data, string}
use Rattle.json_shape.specs.Fields.{field}
use Rattle.b2_base.specs.FileId.{file_id}
use Rattle.b2_types.specs.declared.kinds.Mode.{Mode}
use Rattle.b2_types.specs.declared.kinds.Mode.TheVariants as mode
use Rattle.b2_types.specs.declared.kinds.Retention.{Retention}
use Rattle.b2_types.specs.declared.shown.RowKind.{RowKind}
use Rattle.b2_types.specs.declared.shown.RowKind.TheVariants as row
use Rattle.b2_types.specs.declared.shown.ShownDigest.{ShownDigest}
use Rattle.b2_types.specs.declared.shown.ShownFile.{ShownFile}
use Rattle.wire_forms.specs.Body.{or_null, action_name, mode_json, retention_json, hold_json, readable, id_by, digest_text, file_json}
use Rattle.wire_laws.specs.Told.{num_by, told_digest, told_file, IsDigest, IsFile}
use Rattle.wire_laws.proofs.Plain.{text, count, flag, is_null, same_option, same_text, same_bucket, same_version}
use Rattle.wire_laws.proofs.Information.{same_info}
use Rattle.wire_laws.proofs.Files.{tells_digest, keeps_digest}

-- ---- small kinds

abbrev row_of : List ℕ → RowKind
row_of t = if slice_index t 0 == 117 then row.Upload else if slice_index t 0 == 104 then row.Hide else if slice_index t 0 == 115 then row.Start else row.Folder

row_back : (r : RowKind) → row_of (action_name r) ≡ r
row_back row.Upload = refl
row_back row.Hide = refl
row_back row.Start = refl
row_back row.Folder = refl

abbrev pub mode_of : List ℕ → Mode
mode_of t = if slice_index t 0 == 103 then mode.Governance else mode.Compliance

pub mode_back : (m : Mode) → mode_of (text (mode_json m)) ≡ m
mode_back mode.Governance = refl
mode_back mode.Compliance = refl

pub mode_some : (m : Mode) → is_null (mode_json m) ≡ false
mode_some mode.Governance = refl
mode_some mode.Compliance = refl

hold_back : (on : Bool) → (length (text (hold_json on)) == 2) ≡ on
hold_back true = refl
hold_back false = refl

pub same_hold : (a b : Bool) → hold_json a ≡ hold_json b → a ≡ b
same_hold a b same = sym (hold_back a) ∙ ap (λ d. length (text d) == 2) same ∙ hold_back b

pub same_retention : (a b : Option Retention) → retention_json a ≡ retention_json b → a ≡ b
same_retention None None same = refl
same_retention None (Some s) same = absurd (false≢true (sym (mode_some s.mode) ∙ ap (λ d. is_null (field (codes "mode") d)) (sym same)))
same_retention (Some r) None same = absurd (false≢true (sym (mode_some r.mode) ∙ ap (λ d. is_null (field (codes "mode") d)) same))
same_retention (Some r) (Some s) same =
    let kind : r.mode ≡ s.mode = sym (mode_back r.mode) ∙ ap (λ d. mode_of (text (field (codes "mode") d))) same ∙ mode_back s.mode in
    let until : r.until ≡ s.until = ap (λ d. count (field (codes "retainUntilTimestamp") d)) same in
    λ i. Some (record { mode = kind i; until = until i })

-- a value that not every key may read
pub same_readable : {X : Type 0} (json : X → Data) → ((x y : X) → json x ≡ json y → x ≡ y) → (a b : Option X) → readable json a ≡ readable json b → a ≡ b
same_readable json tells None None same = refl
same_readable json tells None (Some y) same = absurd (false≢true (ap (λ d. flag (field (codes "isClientAuthorizedToRead") d)) same))
same_readable json tells (Some x) None same = absurd (false≢true (ap (λ d. flag (field (codes "isClientAuthorizedToRead") d)) (sym same)))
same_readable json tells (Some x) (Some y) same = ap Some (tells x y (ap (field (codes "value")) same))

same_digest : (a b : Option ShownDigest) → ((d : ShownDigest) → a ≡ Some d → IsDigest d) → ((d : ShownDigest) → b ≡ Some d → IsDigest d)
    → or_null (λ d. string (digest_text d)) a ≡ or_null (λ d. string (digest_text d)) b → option_map told_digest a ≡ option_map told_digest b
same_digest a b first second same =
    same_option (λ d. string (digest_text d)) told_digest IsDigest (λ d. refl) (λ x y is_x is_y both. tells_digest x y is_x is_y (ap text both)) a b first second same

-- ---- files

same_num : (r : RowKind) (m n : ℕ) (x y : List ℕ) → (x ≡ y → m ≡ n) → id_by (string x) r ≡ id_by (string y) r → num_by m r ≡ num_by n r
same_num row.Folder m n x y tells same = refl
same_num row.Upload m n x y tells same = tells (ap text same)
same_num row.Hide m n x y tells same = tells (ap text same)
same_num row.Start m n x y tells same = tells (ap text same)

pub tells_file : (a b : ShownFile) → IsFile a → IsFile b → file_json a ≡ file_json b → told_file a ≡ told_file b
tells_file a b first second same =
    let account : a.account ≡ b.account = ap (λ d. text (field (codes "accountId") d)) same in
    let action : a.action ≡ b.action = sym (row_back a.action) ∙ ap (λ d. row_of (text (field (codes "action") d))) same ∙ row_back b.action in
    let bucket : a.bucket ≡ b.bucket = same_bucket a.bucket b.bucket first.bucket second.bucket (ap (λ d. text (field (codes "bucketId") d)) same) in
    let len : a.length ≡ b.length = ap (λ d. count (field (codes "contentLength") d)) same in
    let digest : option_map told_digest a.digest ≡ option_map told_digest b.digest = same_digest a.digest b.digest first.digest second.digest (ap (field (codes "contentSha1")) same) in
    let kind : a.kind ≡ b.kind = same_text a.kind b.kind (ap (field (codes "contentType")) same) in
    let ids : id_by (string (file_id a.bucket a.num)) a.action ≡ id_by (string (file_id b.bucket b.num)) b.action = ap (field (codes "fileId")) same in
    let alike : id_by (string (file_id a.bucket a.num)) b.action ≡ id_by (string (file_id b.bucket b.num)) b.action = ap (id_by (string (file_id a.bucket a.num))) (sym action) ∙ ids in
    let num : num_by a.num a.action ≡ num_by b.num b.action =
    ap (num_by a.num) action ∙ same_num b.action a.num b.num (file_id a.bucket a.num) (file_id b.bucket b.num) (λ id. same_version a.bucket a.num b.bucket b.num first.num second.num id) alike in
    let info : a.info ≡ b.info = same_info a.info b.info first.info second.info (ap (field (codes "fileInfo")) same) in
    let name : a.name ≡ b.name = ap (λ d. text (field (codes "fileName") d)) same in
    let retention : a.retention ≡ b.retention = same_readable retention_json same_retention a.retention b.retention (ap (field (codes "fileRetention")) same) in
    let hold : a.hold ≡ b.hold = same_readable hold_json same_hold a.hold b.hold (ap (field (codes "legalHold")) same) in
    let stamp : a.stamp ≡ b.stamp = ap (λ d. count (field (codes "uploadTimestamp") d)) same in
    λ i. record {
      account = account i;
      action = action i;
      bucket = bucket i;
      length = len i;
      digest = digest i;
      kind = kind i;
      num = num i;
      info = info i;
      name = name i;
      retention = retention i;
      hold = hold i;
      stamp = stamp i;
    }

keeps_id : (r : RowKind) (b n : ℕ) → id_by (string (file_id b (num_by n r))) r ≡ id_by (string (file_id b n)) r
keeps_id row.Folder b n = refl
keeps_id row.Upload b n = refl
keeps_id row.Hide b n = refl
keeps_id row.Start b n = refl

keeps_sha : (o : Option ShownDigest) → or_null (λ d. string (digest_text d)) (option_map told_digest o) ≡ or_null (λ d. string (digest_text d)) o
keeps_sha None = refl
keeps_sha (Some d) = ap string (keeps_digest d)

pub keeps_file : (f : ShownFile) → file_json (told_file f) ≡ file_json f
keeps_file f = rw (keeps_sha f.digest, keeps_id f.action f.bucket f.num) refl
