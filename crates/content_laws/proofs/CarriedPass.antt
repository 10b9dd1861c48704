-- The lifecycle pass, and what records make of a state, under a change of contents.
use Rattle.std.proofs.Common.{◌≡◌, ℕ, ◌/◌, Bool, not, ◌&&◌, ◌==◌, nat_le, List, [], ◌∷◌, ◌++◌, Option, Some, None, map, filter, fold, bytes_eq, if◌then◌else◌, refl, sym, ap, ◌∙◌}
use Rattle.std.specs.List.{list_any}
use Rattle.std.proofs.lemmas.List.{map-append}
use Rattle.std.proofs.lemmas.Simd.{map-map}
use Rattle.b2_types.specs.declared.bucket.Bucket.{Bucket}
use Rattle.b2_types.specs.declared.bucket.Rule.{Rule}
use Rattle.b2_types.specs.declared.kinds.Retention.{Retention}
use Rattle.b2_types.specs.declared.kinds.Action.TheVariants as action
use Rattle.b2_types.specs.declared.kinds.Mark.TheVariants as mark
use Rattle.b2_types.specs.declared.record.VersionId.{VersionId}
use Rattle.b2_types.specs.declared.record.ChangeOf.{ChangeOf}
use Rattle.b2_types.specs.declared.record.ChangeOf.TheVariants as change
use Rattle.b2_types.specs.declared.version.PartOf.{PartOf}
use Rattle.b2_types.specs.declared.version.VersionOf.{VersionOf}
use Rattle.b2_model.specs.Kinds.{is_hide, is_start, day}
use Rattle.b2_model.specs.State.{State}
use Rattle.b2_model.specs.Rows.{rows}
use Rattle.b2_model.specs.Pass.{has_aged, rule_for, is_due, goes_under, lower_drops, all_go, drops, is_same, without_versions, names_in, with_due_hide, of_name, cancels, pass_on, pass_names, without_old_grants, pass}
use Rattle.b2_model.specs.Finish.{finished_file}
use Rattle.b2_model.specs.Version.{no_digest, marker, version_from, with_version, is_it, at_version, without_version, with_part}
use Rattle.b2_model.specs.Changes.{after_change}
use Rattle.b2_model.specs.Contents.{part_by, version_by, state_by, change_by}
use Rattle.content_laws.proofs.Mapped.{if_under, filter-map, any-map, put_by-map}
use Rattle.content_laws.proofs.Carried.{rows-by}

module _ {C D : Type 0} (f : C → D) where
  lower_drops-by : (t : ℕ) (rule : Rule) (above : VersionOf C) (vs : List (VersionOf C)) → lower_drops t rule (version_by f above) (map (version_by f) vs) ≡ map (version_by f) (lower_drops t rule above vs)
  lower_drops-by t rule above [] = refl
  lower_drops-by t rule above (v ∷ vs) =
      ap (λ rest. if goes_under t rule above v then version_by f v ∷ rest else rest) (lower_drops-by t rule v vs)
      ∙ if_under (map (version_by f)) (goes_under t rule above v) (v ∷ lower_drops t rule v vs) (lower_drops t rule v vs)

  all_go-by : (t : ℕ) (rule : Rule) (above : VersionOf C) (vs : List (VersionOf C)) → all_go t rule (version_by f above) (map (version_by f) vs) ≡ all_go t rule above vs
  all_go-by t rule above [] = refl
  all_go-by t rule above (v ∷ vs) = ap (λ rest. goes_under t rule above v && rest) (all_go-by t rule v vs)

  drops-by : (t : ℕ) (rule : Rule) (vs : List (VersionOf C)) → drops t rule (map (version_by f) vs) ≡ map (version_by f) (drops t rule vs)
  drops-by t rule [] = refl
  drops-by t rule (v ∷ vs) =
      ap (λ go. if is_hide v.action && go && has_aged t v.stamp rule.delete_days then version_by f v ∷ lower_drops t rule (version_by f v) (map (version_by f) vs) else lower_drops t rule (version_by f v) (map (version_by f) vs)) (all_go-by t rule v vs)
      ∙ ap (λ rest. if is_hide v.action && all_go t rule v vs && has_aged t v.stamp rule.delete_days then version_by f v ∷ rest else rest) (lower_drops-by t rule v vs)
      ∙ if_under (map (version_by f)) (is_hide v.action && all_go t rule v vs && has_aged t v.stamp rule.delete_days) (v ∷ lower_drops t rule v vs) (lower_drops t rule v vs)

  without-by : (gone vs : List (VersionOf C)) → without_versions (map (version_by f) gone) (map (version_by f) vs) ≡ map (version_by f) (without_versions gone vs)
  without-by gone vs =
      filter-map (version_by f) (λ v. not (list_any (is_same v) (map (version_by f) gone))) vs
      ∙ ap (λ p. map (version_by f) (filter p vs)) (λ i v. not (any-map (version_by f) (is_same (version_by f v)) gone i))

  names_in-by : (vs : List (VersionOf C)) → names_in (map (version_by f) vs) ≡ names_in vs
  names_in-by [] = refl
  names_in-by (v ∷ vs) = ap (λ names. v.name ∷ filter (λ name. not (bytes_eq name v.name)) names) (names_in-by vs)

  is_due-by : (t : ℕ) (rule : Rule) (vs : List (VersionOf C)) → is_due t rule (map (version_by f) vs) ≡ is_due t rule vs
  is_due-by t rule [] = refl
  is_due-by t rule (v ∷ vs) = refl

  abbrev with_versions : State C → List (VersionOf D) → State D
  with_versions M vs = record (state_by f M) { versions = vs }

  with_version-by : (v : VersionOf C) (M : State C) → with_version (version_by f v) (state_by f M) ≡ state_by f (with_version v M)
  with_version-by v M = rw (put_by-map (version_by f) (λ w. w.num) v M.versions) refl

  hidden-by : (t b : ℕ) (name : List ℕ) (due : Bool) (M : State C) → with_due_hide t b name due (state_by f M) ≡ state_by f (with_due_hide t b name due M)
  hidden-by t b name due M =
      ap (λ N. if due && nat_le M.next_version M.settings.last_version then N else state_by f M) (with_version-by (marker b M.next_version name t) M)
      ∙ if_under (state_by f) (due && nat_le M.next_version M.settings.last_version) (with_version (marker b M.next_version name t) M) M

  of_name-by : (M : State C) (b : ℕ) (name : List ℕ) → of_name (state_by f M) b name ≡ map (version_by f) (of_name M b name)
  of_name-by M b name =
      ap (filter (λ v. bytes_eq v.name name && not (is_start v.action))) (rows-by f M b) ∙ filter-map (version_by f) (λ v. bytes_eq v.name name && not (is_start v.action)) (rows M b)

  cancels-by : (M : State C) (t b : ℕ) (rule : Rule) (name : List ℕ) → cancels (state_by f M) t b rule name ≡ map (version_by f) (cancels M t b rule name)
  cancels-by M t b rule name = filter-map (version_by f) (λ v. v.bucket == b && bytes_eq v.name name && is_start v.action && has_aged t v.stamp rule.cancel_days) M.versions

  gone-by : (t b : ℕ) (name : List ℕ) (rule : Rule) (M N : State C)
      → without_versions (cancels (state_by f M) t b rule name ++ drops t rule (of_name (state_by f N) b name)) (map (version_by f) N.versions)
      ≡ map (version_by f) (without_versions (cancels M t b rule name ++ drops t rule (of_name N b name)) N.versions)
  gone-by t b name rule M N =
      rw (cancels-by M t b rule name, of_name-by N b name, drops-by t rule (of_name N b name), sym (map-append (version_by f) (cancels M t b rule name) (drops t rule (of_name N b name))))
      (without-by (cancels M t b rule name ++ drops t rule (of_name N b name)) N.versions)

  -- the state after a part of the pass, from the state after its hiding
  abbrev after : {E : Type 0} → ℕ → ℕ → List ℕ → Rule → State E → State E → State E
  after t b name rule M N = record N { versions = without_versions (cancels M t b rule name ++ drops t rule (of_name N b name)) N.versions }

  pass_on-by : (t b : ℕ) (name : List ℕ) (rule : Option Rule) (M : State C) → pass_on t b name rule (state_by f M) ≡ state_by f (pass_on t b name rule M)
  pass_on-by t b name None M = refl
  pass_on-by t b name (Some rule) M =
      ap (λ due. after t b name rule (state_by f M) (with_due_hide t b name due (state_by f M))) (ap (is_due t rule) (of_name-by M b name) ∙ is_due-by t rule (of_name M b name))
      ∙ ap (after t b name rule (state_by f M)) (hidden-by t b name (is_due t rule (of_name M b name)) M)
      ∙ ap (with_versions (with_due_hide t b name (is_due t rule (of_name M b name)) M)) (gone-by t b name rule M (with_due_hide t b name (is_due t rule (of_name M b name)) M))

  pass_names-by : (t : ℕ) (bucket : Bucket) (names : List (List ℕ)) (M : State C) → pass_names t bucket names (state_by f M) ≡ state_by f (pass_names t bucket names M)
  pass_names-by t bucket [] M = refl
  pass_names-by t bucket (name ∷ names) M =
      ap (pass_names t bucket names) (pass_on-by t bucket.num name (rule_for bucket name) M) ∙ pass_names-by t bucket names (pass_on t bucket.num name (rule_for bucket name) M)

  abbrev pass_each : {E : Type 0} → ℕ → List Bucket → State E → State E
  pass_each t buckets M = fold (λ N bucket. pass_names t bucket (names_in (rows N bucket.num)) N) M buckets

  pass_each-by : (t : ℕ) (buckets : List Bucket) (M : State C) → pass_each t buckets (state_by f M) ≡ state_by f (pass_each t buckets M)
  pass_each-by t [] M = refl
  pass_each-by t (bucket ∷ buckets) M =
      ap (λ names. pass_each t buckets (pass_names t bucket names (state_by f M))) (ap names_in (rows-by f M bucket.num) ∙ names_in-by (rows M bucket.num))
      ∙ ap (pass_each t buckets) (pass_names-by t bucket (names_in (rows M bucket.num)) M) ∙ pass_each-by t buckets (pass_names t bucket (names_in (rows M bucket.num)) M)

  pub pass-by : (t : ℕ) (M : State C) → pass t (state_by f M) ≡ state_by f (pass t M)
  pass-by t M = ap (λ N. without_old_grants t (record N { pass_day = t / day })) (pass_each-by t M.buckets M)

  -- ---- finish

  contents-by : (ps : List (PartOf C)) → map (λ p. p.content) (map (part_by f) ps) ≡ map f (map (λ p. p.content) ps)
  contents-by ps = map-map (λ p. p.content) (part_by f) ps ∙ sym (map-map f (λ p. p.content) ps)

  pub finished-by : (retention : Option Retention) (v : VersionOf C) → finished_file retention (version_by f v) ≡ version_by f (finished_file retention v)
  finished-by retention v = rw (contents-by v.parts) refl

  -- ---- records

  at_version-by : (id : VersionId) (g : VersionOf D → VersionOf D) (h : VersionOf C → VersionOf C) → ((v : VersionOf C) → g (version_by f v) ≡ version_by f (h v)) → (M : State C)
      → at_version id g (state_by f M) ≡ state_by f (at_version id h M)
  at_version-by id g h same M = ap (with_versions M) (
      map-map (λ v. if is_it id v then g v else v) (version_by f) M.versions
      ∙ ap (λ k. map k M.versions) (λ i v. (ap (λ w. if is_it id v then w else version_by f v) (same v) ∙ if_under (version_by f) (is_it id v) (h v) v) i)
      ∙ sym (map-map (version_by f) (λ v. if is_it id v then h v else v) M.versions))

  without_version-by : (id : VersionId) (M : State C) → without_version id (state_by f M) ≡ state_by f (without_version id M)
  without_version-by id M = ap (with_versions M) (filter-map (version_by f) (λ v. not (is_it id v)) M.versions)

  with_part-by : (p : PartOf C) (v : VersionOf C) → with_part (part_by f p) (version_by f v) ≡ version_by f (with_part p v)
  with_part-by p v =
      rw (filter-map (part_by f) (λ q. not (q.number == p.number)) v.parts, put_by-map (part_by f) (λ q. q.number) p (filter (λ q. not (q.number == p.number)) v.parts)) refl

  pieces-by : (pieces : List C) (v : VersionOf C) → record (version_by f v) { content = map f v.content ++ map f pieces } ≡ version_by f (record v { content = v.content ++ pieces })
  pieces-by pieces v = rw (map-append f v.content pieces) refl

  pub changed-by : (t : ℕ) (ch : ChangeOf C) (M : State C) → after_change t (change_by f ch) (state_by f M) ≡ state_by f (after_change t ch M)
  changed-by t (change.Settings s) M = refl
  changed-by t (change.Boot n) M = refl
  changed-by t change.Pass M = pass-by t M
  changed-by t (change.BucketMake b) M = refl
  changed-by t (change.BucketUpdate b) M = refl
  changed-by t (change.BucketDrop n) M = refl
  changed-by t (change.Upload v content m digest) M = with_version-by (version_from t action.Upload (content ∷ []) m digest v) M
  changed-by t (change.Hide id name) M = with_version-by (marker id.bucket id.num name t) M
  changed-by t (change.Start v) M = with_version-by (version_from t action.Start [] mark.Large no_digest v) M
  changed-by t (change.PartPut id n content m digest) M = at_version-by id _ _ (with_part-by (record { number = n; content = content; mark = m; digest = digest; stamp = t })) M
  changed-by t (change.Finish id retention) M = at_version-by id _ _ (finished-by retention) M
  changed-by t (change.Cancel id) M = without_version-by id M
  changed-by t (change.VersionDrop id) M = without_version-by id M
  changed-by t (change.Retain id retention) M = at_version-by id _ (λ v. record v { retention = retention }) (λ v. refl) M
  changed-by t (change.Hold id hold) M = at_version-by id _ (λ v. record v { hold = hold }) (λ v. refl) M
  changed-by t (change.KeyMake k) M = refl
  changed-by t (change.KeyDrop n) M = refl
  changed-by t (change.SnapState n) M = refl
  changed-by t (change.SnapLarge v) M = with_version-by (version_from t action.Upload [] mark.Large no_digest v) M
  changed-by t (change.SnapExtents id pieces) M = at_version-by id _ (λ v. record v { content = v.content ++ pieces }) (pieces-by pieces) M
