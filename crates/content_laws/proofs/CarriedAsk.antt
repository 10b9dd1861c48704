-- Calls under a change of contents.
use Rattle.std.proofs.Common.{◌≡◌, ℕ, ◌+◌, Bool, true, false, not, ◌&&◌, ◌==◌, List, [], ◌∷◌, ◌++◌, Option, Some, None, map, option_map, option_and_then, drop, bytes_eq, nat_lt, if◌then◌else◌, unwrap_or, refl, ap, ◌∙◌}
use Rattle.std.specs.Option.{is_none}
use Rattle.b2_model.specs.Lists.{is_empty}
use Rattle.std.specs.List.{flat_map, list_any}
use Rattle.std.proofs.lemmas.List.{length-map}
use Rattle.rule_table.specs.declared.fault.FaultKind.{FaultKind}
use Rattle.rule_table.specs.declared.fault.FaultKind.TheVariants.{P2, P7, P8, P9, P10, NoKey}
use Rattle.name_rules.specs.Folder.{begins_with}
use Rattle.b2_base.specs.declared.settings.Settings.{Settings}
use Rattle.b2_types.specs.declared.fault.Fault.{Fault}
use Rattle.b2_types.specs.declared.bucket.Bucket.{Bucket}
use Rattle.b2_types.specs.declared.key.Key.{Key}
use Rattle.b2_types.specs.declared.key.Grant.{Grant}
use Rattle.b2_types.specs.declared.kinds.Action.TheVariants as action
use Rattle.b2_types.specs.declared.kinds.Mark.TheVariants as mark
use Rattle.b2_types.specs.declared.kinds.Retention.{Retention}
use Rattle.b2_types.specs.declared.call.Call.{Call}
use Rattle.b2_types.specs.declared.call.Call.TheVariants as call
use Rattle.b2_types.specs.declared.call.ByteRange.{ByteRange}
use Rattle.b2_types.specs.declared.call.CopyFile.{CopyFile}
use Rattle.b2_types.specs.declared.call.CopyPart.{CopyPart}
use Rattle.b2_types.specs.declared.call.CopyMetadata.{CopyMetadata}
use Rattle.b2_types.specs.declared.call.CopyMetadata.TheVariants as metadata
use Rattle.b2_types.specs.declared.record.NewVersion.{NewVersion}
use Rattle.b2_types.specs.declared.record.VersionId.{VersionId}
use Rattle.b2_types.specs.declared.shown.ShownFile.{ShownFile}
use Rattle.b2_types.specs.declared.shown.ShownPart.{ShownPart}
use Rattle.b2_types.specs.declared.record.ChangeOf.{ChangeOf}
use Rattle.b2_types.specs.declared.record.ChangeOf.TheVariants as change
use Rattle.b2_types.specs.declared.shown.Shown.TheVariants as shown
use Rattle.b2_types.specs.declared.need_table.Thing.{Thing}
use Rattle.b2_types.specs.declared.need_table.Thing.TheVariants as thing
use Rattle.b2_types.specs.declared.version.PartOf.{PartOf}
use Rattle.b2_types.specs.declared.version.VersionOf.{VersionOf}
use Rattle.b2_types.specs.Naming.{Named, Place, of_number, filtered, by_name, places}
use Rattle.b2_model.specs.Kinds.{is_hide}
use Rattle.b2_model.specs.Body.{Body}
use Rattle.b2_model.specs.Checks.{Check, check, first_fault, some_and}
use Rattle.b2_model.specs.State.{State, Pieces, bucket_at}
use Rattle.b2_model.specs.Rows.{version_at}
use Rattle.b2_model.specs.Current.{current}
use Rattle.b2_model.specs.Version.{version_from}
use Rattle.b2_model.specs.Policy.{key_by, is_for_downloads, lacks, Caller, caller_of, Judged, judged_call, is_outside, limits, prefix_limit, call_rules, name_at, names_at, name_rule, token_rules, policy_rules, items, bucket_named}
use Rattle.b2_model.specs.Pages.{row_name, Row, file, folder, Page, names_page, versions_page, unfinished_page, parts_page}
use Rattle.b2_model.specs.Shown.{shown_file, shown_row, shown_part}
use Rattle.b2_model.specs.Finish.{gap_from, first_differing, first_small, finish_rules, finished_file}
use Rattle.b2_model.specs.Plan.{Plan, shows, writes, id_of, lock_off, bad_until, no_version, or_absent, on_bucket, on_file}
use Rattle.b2_model.specs.AskKeys.{authorize_plan, key_of_id, drop_key}
use Rattle.b2_model.specs.AskLarge.{not_large, at_finish}
use Rattle.b2_model.specs.AskListings.{listing_of, next_row}
use Rattle.b2_model.specs.AskDownloads.{content, or_refused}
use Rattle.b2_model.specs.AskCopies.{copied_span, copied_version, copied_type, copied_info, copy_body, no_upload, span_rules, file_copy, file_copy_on, part_copy, part_copy_on}
use Rattle.b2_model.specs.Ask.{plan, plan_of, shown_by, is_open, first_rules, refusals, refusals_of, at_moment, with_change, with_grant, outcome_or_refusal, ask}
use Rattle.b2_model.specs.Contents.{part_by, version_by, state_by, row_by, change_by, plan_by, outcome_by, answer_by, body_by, GoAlong}
use Rattle.content_laws.proofs.Mapped.{any-map}
use Rattle.content_laws.proofs.Carried.{version_at-by, current-by, name_at-by, names_page-by, versions_page-by, unfinished-by, parts_page-by, length_of-by, shown_file-by, shown_rows-by, shown_files-by, shown_parts-by, shown_part-by}
use Rattle.content_laws.proofs.CarriedPass.{finished-by, changed-by}

-- the rules of the buckets and of the prefix, from what they judge
abbrev rules_with : {C : Type 0} → State C → Judged → Caller → (Place → Bool) → List Check
rules_with M j who outside =
    check P7 (not (is_for_downloads who) && some_and (lacks j.caps) who.key)
    ∷ check P8 (some_and (λ a. not (bytes_eq a M.settings.account)) j.fields.account)
    ∷ check P9 (not (is_empty (limits who)) && list_any outside (places j.row.things j.fields))
    ∷ []

abbrev name_rule_with : Judged → Caller → (Thing → List (List ℕ)) → List Check
name_rule_with j who names = check P10 (list_any (λ name. not (begins_with (prefix_limit who) name)) (flat_map names j.row.things)) ∷ []

-- a copy, from its rules, what it makes and what it shows
abbrev late_rules : {C : Type 0} → State C → ℕ → CopyFile → Bucket → List Check
late_rules M t c b = lock_off c.retention (unwrap_or c.hold false) b.lock ∷ bad_until t c.retention ∷ no_version M ∷ []

abbrev file_copy_shown : {C : Type 0} → Check → List Check → List Check → NewVersion → Body C → ShownFile → Plan C
file_copy_shown first rules late new body row = writes (first ∷ rules ++ late) (change.Upload new body.content mark.Verified body.digest) (shown.File row)

abbrev file_copy_with : {C : Type 0} → (C → ℕ) → Settings → Option Key → ℕ → Check → List Check → List Check → NewVersion → Body C → Plan C
file_copy_with size settings key t first rules late new body =
    file_copy_shown first rules late new body (shown_file size settings key (version_from t action.Upload (body.content ∷ []) mark.Verified body.digest new))

abbrev copied_part : {C : Type 0} → ℕ → CopyPart → Body C → PartOf C
copied_part t c body = record { number = c.number; content = body.content; mark = mark.Verified; digest = body.digest; stamp = t }

abbrev part_copy_with : {C : Type 0} → Check → Check → List Check → VersionId → ℕ → Body C → ShownPart → Plan C
part_copy_with first second rules id number body part = writes (first ∷ second ∷ rules) (change.PartPut id number body.content mark.Verified body.digest) (shown.Part part)

module _ {C D : Type 0} (f : C → D) where
  -- ---- plans on what stands

  pub or_absent-by : {X : Type 0} (kind : FaultKind) (P : X → Plan D) (Q : X → Plan C) → ((x : X) → P x ≡ plan_by f (Q x)) → (o : Option X) → or_absent kind P o ≡ plan_by f (or_absent kind Q o)
  or_absent-by kind P Q same None = refl
  or_absent-by kind P Q same (Some x) = same x

  pub on_bucket-by : (M : State C) (b : ℕ) (P : Bucket → Plan D) (Q : Bucket → Plan C) → ((x : Bucket) → P x ≡ plan_by f (Q x)) → on_bucket (state_by f M) b P ≡ plan_by f (on_bucket M b Q)
  on_bucket-by M b P Q same = or_absent-by _ P Q same (bucket_at M b)

  mapped-by : (kind : FaultKind) (P : VersionOf D → Plan D) (Q : VersionOf C → Plan C) → ((v : VersionOf C) → P (version_by f v) ≡ plan_by f (Q v)) → (o : Option (VersionOf C))
      → or_absent kind P (option_map (version_by f) o) ≡ plan_by f (or_absent kind Q o)
  mapped-by kind P Q same None = refl
  mapped-by kind P Q same (Some v) = same v

  pub on_file-by : (M : State C) (b n : ℕ) (P : VersionOf D → Plan D) (Q : VersionOf C → Plan C) → ((v : VersionOf C) → P (version_by f v) ≡ plan_by f (Q v)) → on_file (state_by f M) b n P ≡ plan_by f (on_file M b n Q)
  on_file-by M b n P Q same = ap (or_absent _ P) (version_at-by f M b n) ∙ mapped-by _ P Q same (version_at M b n)

  or_refused-by : (kind : FaultKind) (P : VersionOf D → Plan D) (Q : VersionOf C → Plan C) → ((v : VersionOf C) → P (version_by f v) ≡ plan_by f (Q v)) → (o : Option (VersionOf C))
      → or_refused kind P (option_map (version_by f) o) ≡ plan_by f (or_refused kind Q o)
  or_refused-by kind P Q same None = refl
  or_refused-by kind P Q same (Some v) = same v

  pub none-by : (o : Option (VersionOf C)) → is_none (option_map (version_by f) o) ≡ is_none o
  none-by None = refl
  none-by (Some v) = refl

  hide-by : (o : Option (VersionOf C)) → some_and (λ v. is_hide v.action) (option_map (version_by f) o) ≡ some_and (λ v. is_hide v.action) o
  hide-by None = refl
  hide-by (Some v) = refl

  -- ---- the next row of a page

  name-by : (o : Option (Row C)) → option_map row_name (option_map (row_by f) o) ≡ option_map row_name o
  name-by None = refl
  name-by (Some (file v)) = refl
  name-by (Some (folder name)) = refl

  next-by : (o : Option (Row C)) → option_map next_row (option_map (row_by f) o) ≡ option_map next_row o
  next-by None = refl
  next-by (Some (file v)) = refl
  next-by (Some (folder name)) = refl

  id-by : (o : Option (VersionOf C)) → option_map id_of (option_map (version_by f) o) ≡ option_map id_of o
  id-by None = refl
  id-by (Some v) = refl

  number-by : (o : Option (PartOf C)) → option_map (λ p. p.number) (option_map (part_by f) o) ≡ option_map (λ p. p.number) o
  number-by None = refl
  number-by (Some p) = refl

  -- ---- parts of a large file

  gap-by : (k : ℕ) (ps : List (PartOf C)) → gap_from k (map (part_by f) ps) ≡ gap_from k ps
  gap-by k [] = refl
  gap-by k (p ∷ ps) = ap (λ rest. if p.number == k then rest else Some k) (gap-by (k + 1) ps)

  differs-by : (ps : List (PartOf C)) (digests : List (List ℕ)) → first_differing (map (part_by f) ps) digests ≡ first_differing ps digests
  differs-by [] digests = refl
  differs-by (p ∷ ps) [] = refl
  differs-by (p ∷ ps) (d ∷ ds) = ap (λ rest. if bytes_eq p.digest d then rest else Some p.number) (differs-by ps ds)

  -- ---- the policy

  outside-by : (M : State C) (limits : List ℕ) (place : Place) → is_outside (state_by f M) limits place ≡ is_outside M limits place
  outside-by M limits (of_number n) = refl
  outside-by M limits (filtered n name) = refl
  outside-by M limits (by_name name) = refl

  pub call_rules-by : (M : State C) (j : Judged) (who : Caller) → call_rules (state_by f M) j who ≡ call_rules M j who
  call_rules-by M j who = ap (λ outside. rules_with M j who outside) (λ i place. outside-by M (limits who) place i)

  file_name-by : (M : State C) (file : Option (ℕ × ℕ)) → items (option_and_then (name_at (state_by f M)) file) ≡ items (option_and_then (name_at M) file)
  file_name-by M None = refl
  file_name-by M (Some id) = ap items (name_at-by f M id)

  names-at-by : (M : State C) (n : Named) (t : Thing) → names_at (state_by f M) n t ≡ names_at M n t
  names-at-by M n thing.Account = refl
  names-at-by M n thing.Bucket = refl
  names-at-by M n thing.SomeBucket = refl
  names-at-by M n thing.PathBucket = refl
  names-at-by M n thing.File = file_name-by M n.file
  names-at-by M n thing.Source = file_name-by M n.source
  names-at-by M n thing.Name = refl
  names-at-by M n thing.Prefix = refl

  pub name_rule-by : (M : State C) (j : Judged) (who : Caller) → name_rule (state_by f M) j who ≡ name_rule M j who
  name_rule-by M j who = ap (λ names. name_rule_with j who names) (λ i t. names-at-by M j.fields t i)

  pub policy-by : (M : State C) (t : ℕ) (j : Judged) (fits : Grant → Bool) (who : Caller) (exists : List Check)
      → policy_rules (state_by f M) t j fits who exists ≡ policy_rules M t j fits who exists
  policy-by M t j fits who exists =
      ap (λ rules. token_rules t j.row.tokens fits who ++ rules ++ exists ++ name_rule (state_by f M) j who) (call_rules-by M j who)
      ∙ ap (λ rules. token_rules t j.row.tokens fits who ++ call_rules M j who ++ exists ++ rules) (name_rule-by M j who)

  grant-by : (M : State C) (g : Option Grant) → with_grant g (state_by f M) ≡ state_by f (with_grant g M)
  grant-by M None = refl
  grant-by M (Some g) = refl

  abbrev record_at : {E : Type 0} → ℕ → State E → State E
  record_at t N = record N { now = t; kept = t }

  change-by : (M : State C) (t : ℕ) (ch : Option (ChangeOf C)) → with_change (state_by f M) t (option_map (change_by f) ch) ≡ state_by f (with_change M t ch)
  change-by M t None = refl
  change-by M t (Some ch) = ap (record_at t) (changed-by f t ch M)

  pub judged-by : (M : State C) (t : ℕ) (words : List ℕ) (p : Plan C) (fault : Option Fault) → outcome_or_refusal (state_by f M) t words (plan_by f p) fault ≡ outcome_by f (outcome_or_refusal M t words p fault)
  judged-by M t words p (Some fault) = refl
  judged-by M t words p None =
      ap (λ N. record { state = with_grant p.grant N; answer = answer_by f p.answer; words = drop p.words words }) (change-by (at_moment M t) t p.change)
      ∙ ap (λ N. record { state = N; answer = answer_by f p.answer; words = drop p.words words }) (grant-by (with_change (at_moment M t) t p.change) p.grant)

  module _ (size : D → ℕ) (length_c : C → ℕ) (same : (c : C) → size (f c) ≡ length_c c) where
    small-by : (least : ℕ) (ps : List (PartOf C)) → first_small size least (map (part_by f) ps) ≡ first_small length_c least ps
    small-by least [] = refl
    small-by least (p ∷ []) = refl
    small-by least (p ∷ q ∷ ps) =
        ap (λ n. if nat_lt n least then Some p.number else first_small size least (map (part_by f) (q ∷ ps))) (same p.content)
        ∙ ap (λ rest. if nat_lt (length_c p.content) least then Some p.number else rest) (small-by least (q ∷ ps))

    rules-by : (least : ℕ) (digests : List (List ℕ)) (v : VersionOf C) → finish_rules size least digests (version_by f v) ≡ finish_rules length_c least digests v
    rules-by least digests v =
        rw (length-map v.parts (part_by f), gap-by 1 v.parts, differs-by v.parts digests, small-by least v.parts) refl

    content-by : (M : State C) (key : Option Key) (asked : Option ByteRange) (v : VersionOf C) → content size (state_by f M) key asked (version_by f v) ≡ plan_by f (content length_c M key asked v)
    content-by M key asked v = rw (length_of-by f size length_c same v.content) refl

    shown_finished-by : (settings : Settings) (key : Option Key) (retention : Option Retention) (v : VersionOf C)
        → shown_file size settings key (finished_file retention (version_by f v)) ≡ shown_file length_c settings key (finished_file retention v)
    shown_finished-by settings key retention v = ap (shown_file size settings key) (finished-by f retention v) ∙ shown_file-by f size length_c same settings key (finished_file retention v)

    -- the listings, from the page
    parts-by : (v : VersionOf C) (page : Page (PartOf C)) → shows {C = D} (not_large v ∷ []) (shown.Parts (map (shown_part size v.bucket v.num) (map (part_by f) page.rows)) (option_map (λ p. p.number) (option_map (part_by f) page.next)))
        ≡ plan_by f (shows (not_large v ∷ []) (shown.Parts (map (shown_part length_c v.bucket v.num) page.rows) (option_map (λ p. p.number) page.next)))
    parts-by v page = rw (shown_parts-by f size length_c same v.bucket v.num page.rows, number-by page.next) refl

    unfinished_files-by : (settings : Settings) (key : Option Key) (page : Page (VersionOf C))
        → shows {C = D} [] (shown.Unfinished (map (shown_file size settings key) (map (version_by f) page.rows)) (option_map id_of (option_map (version_by f) page.next)))
        ≡ plan_by f (shows [] (shown.Unfinished (map (shown_file length_c settings key) page.rows) (option_map id_of page.next)))
    unfinished_files-by settings key page = rw (shown_files-by f size length_c same settings key page.rows, id-by page.next) refl

    names-by : (settings : Settings) (key : Option Key) (b : ℕ) (page : Page (Row C))
        → shows {C = D} [] (shown.FileNames (map (shown_row size settings key b) (map (row_by f) page.rows)) (option_map row_name (option_map (row_by f) page.next)))
        ≡ plan_by f (shows [] (shown.FileNames (map (shown_row length_c settings key b) page.rows) (option_map row_name page.next)))
    names-by settings key b page = rw (shown_rows-by f size length_c same settings key b page.rows, name-by page.next) refl

    versions-by : (settings : Settings) (key : Option Key) (b : ℕ) (page : Page (Row C))
        → shows {C = D} [] (shown.FileVersions (map (shown_row size settings key b) (map (row_by f) page.rows)) (option_map next_row (option_map (row_by f) page.next)))
        ≡ plan_by f (shows [] (shown.FileVersions (map (shown_row length_c settings key b) page.rows) (option_map next_row page.next)))
    versions-by settings key b page = rw (shown_rows-by f size length_c same settings key b page.rows, next-by page.next) refl

  module _ (P : Pieces C) (Q : Pieces D) (along : GoAlong f P Q) where
    -- ---- copies

    span-by : (v : VersionOf C) (range : Option ByteRange) → copied_span Q.size (version_by f v) range ≡ copied_span P.size v range
    span-by v range = rw (length_of-by f Q.size P.size along.size v.content) refl

    copy_body-by : (v : VersionOf C) (range : Option ByteRange) → copy_body Q (version_by f v) range ≡ body_by f (copy_body P v range)
    copy_body-by v range =
        ap (λ span. Q.copy (map f v.content) span.at span.len) (span-by v range)
        ∙ along.copy v.content (copied_span P.size v range).at (copied_span P.size v range).len

    span_rules-by : (v : VersionOf C) (range : Option ByteRange) → span_rules Q.size (version_by f v) range ≡ span_rules P.size v range
    span_rules-by v range = rw (length_of-by f Q.size P.size along.size v.content) refl

    type-by : (v : VersionOf C) (m : CopyMetadata) → copied_type (version_by f v) m ≡ copied_type v m
    type-by v metadata.Kept = refl
    type-by v (metadata.Replaced kind info) = refl

    info-by : (v : VersionOf C) (m : CopyMetadata) → copied_info (version_by f v) m ≡ copied_info v m
    info-by v metadata.Kept = refl
    info-by v (metadata.Replaced kind info) = refl

    copied-by : (M : State C) (t : ℕ) (b : Bucket) (v : VersionOf C) (c : CopyFile) → copied_version (state_by f M) t b (version_by f v) c ≡ copied_version M t b v c
    copied-by M t b v c = rw (type-by v c.metadata, info-by v c.metadata) refl

    file_copy-by : (M : State C) (key : Option Key) (t : ℕ) (c : CopyFile) (b : Bucket) (v : VersionOf C) (body : Body C)
        → file_copy Q.size (state_by f M) key t c b (version_by f v) (body_by f body) ≡ plan_by f (file_copy P.size M key t c b v body)
    file_copy-by M key t c b v body =
        ap (λ rules. file_copy_with Q.size M.settings key t (no_upload v) rules (late_rules M t c b) (copied_version (state_by f M) t b (version_by f v) c) (body_by f body)) (span_rules-by v c.range)
        ∙ ap (λ new. file_copy_with Q.size M.settings key t (no_upload v) (span_rules P.size v c.range) (late_rules M t c b) new (body_by f body)) (copied-by M t b v c)
        ∙ ap {B = Plan D} (λ row. file_copy_shown (no_upload v) (span_rules P.size v c.range) (late_rules M t c b) (copied_version M t b v c) (body_by f body) row)
        (shown_file-by f Q.size P.size along.size M.settings key (version_from t action.Upload (body.content ∷ []) mark.Verified body.digest (copied_version M t b v c)))

    file_copy_on-by : (M : State C) (key : Option Key) (t : ℕ) (c : CopyFile) (b : Option Bucket) (v : Option (VersionOf C))
        → file_copy_on Q (state_by f M) key t c b (option_map (version_by f) v) ≡ plan_by f (file_copy_on P M key t c b v)
    file_copy_on-by M key t c None v = refl
    file_copy_on-by M key t c (Some b) None = refl
    file_copy_on-by M key t c (Some b) (Some v) =
        ap (file_copy Q.size (state_by f M) key t c b (version_by f v)) (copy_body-by v c.range) ∙ file_copy-by M key t c b v (copy_body P v c.range)

    part_copy-by : (t : ℕ) (c : CopyPart) (v large : VersionOf C) (body : Body C)
        → part_copy Q.size t c (version_by f v) (version_by f large) (body_by f body) ≡ plan_by f (part_copy P.size t c v large body)
    part_copy-by t c v large body =
        ap (λ rules. part_copy_with (no_upload v) (not_large large) rules (id_of large) c.number (body_by f body) (shown_part Q.size large.bucket large.num (copied_part t c (body_by f body)))) (span_rules-by v c.range)
        ∙ ap (part_copy_with (no_upload v) (not_large large) (span_rules P.size v c.range) (id_of large) c.number (body_by f body))
        (shown_part-by f Q.size P.size along.size large.bucket large.num (copied_part t c body))

    part_copy_on-by : (t : ℕ) (c : CopyPart) (v large : Option (VersionOf C))
        → part_copy_on Q t c (option_map (version_by f) v) (option_map (version_by f) large) ≡ plan_by f (part_copy_on P t c v large)
    part_copy_on-by t c None large = refl
    part_copy_on-by t c (Some v) None = refl
    part_copy_on-by t c (Some v) (Some large) =
        ap (part_copy Q.size t c (version_by f v) (version_by f large)) (copy_body-by v c.range) ∙ part_copy-by t c v large (copy_body P v c.range)

    -- ---- plans

    pub plan-by : (M : State C) (t : ℕ) (words : List ℕ) (key : Option Key) (c : Call) → plan Q (state_by f M) t words key c ≡ plan_by f (plan P M t words key c)
    plan-by M t words key (call.AuthorizeAccount c) = or_absent-by P2 (authorize_plan c.version (state_by f M) t words) (authorize_plan c.version M t words) (λ k. refl) (option_and_then (key_by M) c.credentials)
    plan-by M t words key (call.CreateBucket c) = refl
    plan-by M t words key (call.UpdateBucket c) = on_bucket-by M c.bucket _ _ (λ b. refl)
    plan-by M t words key (call.DeleteBucket c) = on_bucket-by M c.bucket _ _ (λ b. rw (any-map (version_by f) (λ v. v.bucket == b.num) M.versions) refl)
    plan-by M t words key (call.ListBuckets c) = refl
    plan-by M t words key (call.CreateKey c) = refl
    plan-by M t words key (call.DeleteKey c) = or_absent-by NoKey (drop_key c.version (state_by f M)) (drop_key c.version M) (λ k. refl) (key_of_id M c.key)
    plan-by M t words key (call.ListKeys c) = refl
    plan-by M t words key (call.GetUploadUrl c) = on_bucket-by M c.bucket _ _ (λ b. refl)
    plan-by M t words key (call.StartLargeFile c) = on_bucket-by M c.bucket _ _ (λ b. refl)
    plan-by M t words key (call.GetUploadPartUrl c) = on_file-by M c.bucket c.file _ _ (λ v. refl)
    plan-by M t words key (call.ListParts c) = on_file-by M c.bucket c.file _ _ (λ v.
        ap {A = Page (PartOf D)} {B = Plan D} (λ page. shows (not_large v ∷ []) (shown.Parts (map (shown_part Q.size v.bucket v.num) page.rows) (option_map (λ p. p.number) page.next))) (parts_page-by f v (unwrap_or c.start 0) c.max)
        ∙ parts-by Q.size P.size along.size v (parts_page v (unwrap_or c.start 0) c.max))
    plan-by M t words key (call.FinishLargeFile c) = on_file-by M c.bucket c.file _ _ (λ v.
        ap {B = Plan D} (λ own. writes own (change.Finish (id_of v) (at_finish M t v)) (shown.File (shown_file Q.size M.settings key (finished_file (at_finish M t v) (version_by f v))))) (rules-by Q.size P.size along.size M.settings.part_min c.digests v)
        ∙ ap {B = Plan D} (λ row. writes (finish_rules P.size M.settings.part_min c.digests v) (change.Finish (id_of v) (at_finish M t v)) (shown.File row)) (shown_finished-by Q.size P.size along.size M.settings key (at_finish M t v) v))
    plan-by M t words key (call.CancelLargeFile c) = on_file-by M c.bucket c.file _ _ (λ v. refl)
    plan-by M t words key (call.ListUnfinishedLargeFiles c) = on_bucket-by M c.bucket _ _ (λ b.
        ap {A = Page (VersionOf D)} {B = Plan D} (λ page. shows [] (shown.Unfinished (map (shown_file Q.size M.settings key) page.rows) (option_map id_of page.next))) (unfinished-by f M b.num (unwrap_or c.prefix []) (unwrap_or c.start 0) c.max)
        ∙ unfinished_files-by Q.size P.size along.size M.settings key (unfinished_page M b.num (unwrap_or c.prefix []) (unwrap_or c.start 0) c.max))
    plan-by M t words key (call.ListFileNames c) = on_bucket-by M c.bucket _ _ (λ b.
        ap {A = Page (Row D)} {B = Plan D} (λ page. shows [] (shown.FileNames (map (shown_row Q.size M.settings key b.num) page.rows) (option_map row_name page.next))) (names_page-by f M b.num (listing_of c))
        ∙ names-by Q.size P.size along.size M.settings key b.num (names_page M b.num (listing_of c)))
    plan-by M t words key (call.ListFileVersions c) = on_bucket-by M c.bucket _ _ (λ b.
        ap {A = Page (Row D)} {B = Plan D} (λ page. shows [] (shown.FileVersions (map (shown_row Q.size M.settings key b.num) page.rows) (option_map next_row page.next))) (versions_page-by f M b.num (listing_of c))
        ∙ versions-by Q.size P.size along.size M.settings key b.num (versions_page M b.num (listing_of c)))
    plan-by M t words key (call.GetFileInfo c) = on_file-by M c.bucket c.file _ _ (λ v. rw (shown_file-by f Q.size P.size along.size M.settings key v) refl)
    plan-by M t words key (call.HideFile c) = on_bucket-by M c.bucket _ _ (λ b. rw (current-by f M b.num c.name, none-by _, hide-by _) refl)
    plan-by M t words key (call.DeleteFileVersion c) = on_file-by M c.bucket c.file _ _ (λ v. refl)
    plan-by M t words key (call.GetDownloadAuthorization c) = on_bucket-by M c.bucket _ _ (λ b. refl)
    plan-by M t words key (call.DownloadFileById c) = on_file-by M c.bucket c.file _ _ (content-by Q.size P.size along.size M key c.range)
    plan-by M t words key (call.DownloadFileByName c) = or_absent-by _ _ _
        (λ b. ap (or_refused _ _) (current-by f M b.num c.name) ∙ or_refused-by _ _ _ (content-by Q.size P.size along.size M key c.range) (current M b.num c.name)) (bucket_named M c.bucket)
    plan-by M t words key (call.UpdateFileRetention c) = on_file-by M c.bucket c.file _ _ (λ v. refl)
    plan-by M t words key (call.UpdateFileLegalHold c) = on_file-by M c.bucket c.file _ _ (λ v. refl)
    plan-by M t words key (call.CopyFile c) =
        ap (file_copy_on Q (state_by f M) key t c (bucket_at M (unwrap_or c.bucket c.source.bucket))) (version_at-by f M c.source.bucket c.source.num)
        ∙ file_copy_on-by M key t c (bucket_at M (unwrap_or c.bucket c.source.bucket)) (version_at M c.source.bucket c.source.num)
    plan-by M t words key (call.CopyPart c) =
        ap (λ v. part_copy_on Q t c v (version_at (state_by f M) c.bucket c.file)) (version_at-by f M c.source.bucket c.source.num)
        ∙ ap (part_copy_on Q t c (option_map (version_by f) (version_at M c.source.bucket c.source.num))) (version_at-by f M c.bucket c.file)
        ∙ part_copy_on-by t c (version_at M c.source.bucket c.source.num) (version_at M c.bucket c.file)
    plan-by M t words key (call.Bad c) = refl

    -- ---- refusals

    open-by : (M : State C) (c : Call) → is_open (state_by f M) c ≡ is_open M c
    open-by M (call.DownloadFileById c) = refl
    open-by M (call.DownloadFileByName c) = refl
    open-by M (call.Bad c) = refl
    open-by M other = refl

    first-by : (M : State C) (t : ℕ) (who : Caller) (c : Call) (exists : List Check) → first_rules (state_by f M) t who c exists ≡ first_rules M t who c exists
    first-by M t who (call.AuthorizeAccount c) exists = refl
    first-by M t who (call.Bad c) exists = refl
    first-by M t who other exists = policy-by M t (judged_call other) (λ g. true) who exists

    refusals-by : (M : State C) (t : ℕ) (who : Caller) (c : Call) (p : Plan C) → refusals (state_by f M) t who c (plan_by f p) ≡ refusals M t who c p
    refusals-by M t who c p =
        ap (λ public. (if public then p.exists else first_rules (state_by f M) t who c p.exists) ++ p.own) (open-by M c)
        ∙ ap (λ rules. (if is_open M c then p.exists else rules) ++ p.own) (first-by M t who c p.exists)

    shown_by-by : (M : State C) (token : Option (List ℕ)) (c : Call) → shown_by (state_by f M) token c ≡ shown_by M token c
    shown_by-by M token c = ap (λ public. if public then None else (caller_of M token).key) (open-by M c)

    plan_of-by : (M : State C) (t : ℕ) (words : List ℕ) (token : Option (List ℕ)) (c : Call) → plan_of Q (state_by f M) t words token c ≡ plan_by f (plan_of P M t words token c)
    plan_of-by M t words token c = ap (λ key. plan Q (state_by f M) t words key c) (shown_by-by M token c) ∙ plan-by M t words (shown_by M token c) c

    ask_with : (M : State C) (t : ℕ) (words : List ℕ) (token : Option (List ℕ)) (c : Call) → ask Q (state_by f M) t words token c ≡ outcome_by f (ask P M t words token c)
    ask_with M t words token c =
        ap (λ p. outcome_or_refusal (state_by f M) t words p (first_fault (refusals (state_by f M) t (caller_of M token) c p))) (plan_of-by M t words token c)
        ∙ ap (λ checks. outcome_or_refusal (state_by f M) t words (plan_by f (plan_of P M t words token c)) (first_fault checks)) (refusals-by M t (caller_of M token) c (plan_of P M t words token c))
        ∙ judged-by M t words (plan_of P M t words token c) (first_fault (refusals_of P M t words token c))

-- what is answered is the same but for contents that are sent, and the states differ in contents alone
pub ask_by : {C D : Type 0} (f : C → D) (P : Pieces C) (Q : Pieces D) → GoAlong f P Q → (M : State C) (t : ℕ) (words : List ℕ) (token : Option (List ℕ)) (c : Call)
    → ask Q (state_by f M) t words token c ≡ outcome_by f (ask P M t words token c)
ask_by f P Q along M t words token c = ask_with f P Q along M t words token c
