-- Calls on large files (the B2 reference, b2_start_large_file, b2_get_upload_part_url, b2_list_parts,
-- b2_finish_large_file, b2_cancel_large_file).
use Rattle.std.specs.Prelude.{ℕ, false, not, List, [], ◌∷◌, ◌++◌, Option, unwrap_or, option_map, option_and_then, map, codes}
use Rattle.rule_table.specs.declared.fault.FaultKind.TheVariants.{NotLarge}
use Rattle.b2_base.specs.FileId.{file_id}
use Rattle.b2_types.specs.declared.kinds.TokenKind.TheVariants as token
use Rattle.b2_types.specs.declared.kinds.Action.TheVariants as action
use Rattle.b2_types.specs.declared.kinds.Mark.TheVariants as mark
use Rattle.b2_types.specs.declared.kinds.Retention.{Retention}
use Rattle.b2_types.specs.declared.key.Key.{Key}
use Rattle.b2_types.specs.declared.key.Grant.{Grant}
use Rattle.b2_types.specs.declared.version.VersionOf.{VersionOf}
use Rattle.b2_types.specs.declared.call.StartCall.{StartCall}
use Rattle.b2_types.specs.declared.call.FileCall.{FileCall}
use Rattle.b2_types.specs.declared.call.ListParts.{ListParts}
use Rattle.b2_types.specs.declared.call.FinishCall.{FinishCall}
use Rattle.b2_types.specs.declared.record.NewVersion.{NewVersion}
use Rattle.b2_types.specs.declared.record.ChangeOf.TheVariants as change
use Rattle.b2_types.specs.declared.shown.Shown.TheVariants as shown
use Rattle.b2_model.specs.Kinds.{is_start, day, later}
use Rattle.b2_model.specs.Checks.{Check, check}
use Rattle.b2_model.specs.State.{State, bucket_at}
use Rattle.b2_model.specs.Locks.{own_or_default}
use Rattle.b2_model.specs.Pages.{parts_page}
use Rattle.b2_model.specs.Finish.{finish_rules, finished_file}
use Rattle.b2_model.specs.MediaTypes.{resolved_type}
use Rattle.b2_model.specs.Version.{no_digest, version_from}
use Rattle.b2_model.specs.Shown.{shown_file, shown_part, shown_name}
use Rattle.b2_model.specs.Plan.{Plan, shows, writes, grants, on_bucket, on_file, id_of, no_serial, no_version, lock_off, bad_until, new_token, key_num}

abbrev pub not_large : {C : Type 0} → VersionOf C → Check
not_large v = check NotLarge (not (is_start v.action))

abbrev pub new_start : {C : Type 0} → State C → StartCall → NewVersion
new_start M c = record {
  bucket = c.bucket;
  num = M.next_version;
  name = c.name;
  kind = resolved_type c.kind c.name;
  info = unwrap_or c.info [];
  retention = c.retention;
  hold = unwrap_or c.hold false;
}

abbrev pub start_large_file : {C : Type 0} → (C → ℕ) → State C → Option Key → ℕ → StartCall → Plan C
start_large_file size M key t c = on_bucket M c.bucket (λ b. writes
    (lock_off c.retention (unwrap_or c.hold false) b.lock ∷ bad_until t c.retention ∷ no_version M ∷ [])
    (change.Start (new_start M c))
    (shown.File (shown_file size M.settings key (version_from t action.Start [] mark.Large no_digest (new_start M c)))))

abbrev pub part_grant : {C : Type 0} → State C → ℕ → List ℕ → Option Key → VersionOf C → Grant
part_grant M t words key v = record {
  text = new_token M words;
  kind = token.PartUrl;
  key = key_num key;
  bucket = v.bucket;
  file = v.num;
  prefix = [];
  end = later t day;
}

abbrev pub part_url : {C : Type 0} → State C → VersionOf C → List ℕ
part_url M v = M.settings.url ++ codes "/b2api/v3/b2_upload_part/" ++ file_id v.bucket v.num

abbrev pub get_upload_part_url : {C : Type 0} → State C → Option Key → ℕ → List ℕ → FileCall → Plan C
get_upload_part_url M key t words c = on_file M c.bucket c.file (λ v. grants
    (not_large v ∷ no_serial M ∷ [])
    (part_grant M t words key v)
    (shown.PartUrl (record { file = id_of v; token = new_token M words; url = part_url M v })))

abbrev pub list_parts : {C : Type 0} → (C → ℕ) → State C → ListParts → Plan C
list_parts size M c = on_file M c.bucket c.file (λ v.
    let page = parts_page v (unwrap_or c.start 0) c.max in
    shows (not_large v ∷ [])
    (shown.Parts (map (shown_part size v.bucket v.num) page.rows) (option_map (λ p. p.number) page.next)))

-- the retention of a finished file: its own, or the bucket's default from now on
abbrev pub at_finish : {C : Type 0} → State C → ℕ → VersionOf C → Option Retention
at_finish M t v = own_or_default t v.retention (option_and_then (λ b. b.default) (bucket_at M v.bucket))

abbrev pub finish_large_file : {C : Type 0} → (C → ℕ) → State C → Option Key → ℕ → FinishCall → Plan C
finish_large_file size M key t c = on_file M c.bucket c.file (λ v. writes
    (finish_rules size M.settings.part_min c.digests v)
    (change.Finish (id_of v) (at_finish M t v))
    (shown.File (shown_file size M.settings key (finished_file (at_finish M t v) v))))

abbrev pub cancel_large_file : {C : Type 0} → State C → FileCall → Plan C
cancel_large_file M c = on_file M c.bucket c.file (λ v. writes
    (not_large v ∷ [])
    (change.Cancel (id_of v))
    (shown.Cancelled (record { account = M.settings.account; file = shown_name v })))
