-- What holds of each content of a state holds of each after a change that brings such contents alone.
use Rattle.std.proofs.Common.{◌≡◌, ◌⊎◌, inl, inr, ℕ, Bool, true, false, not, ◌&&◌, ◌==◌, nat_le, List, [], ◌∷◌, ◌++◌, All, Contains, Option, Some, None, map, filter, flat_map, if◌then◌else◌, refl}
use Rattle.std.specs.List.{list_any}
use Rattle.std.proofs.lemmas.List.Elements.{All-nil, All-cons, All-head, All-tail, All-append, All-map, All-weaker, All-contains, All-contains_itself, All-filter, Contains-append_left, Contains-append_right}
use Rattle.b2_types.specs.declared.bucket.Bucket.{Bucket}
use Rattle.b2_types.specs.declared.bucket.Rule.{Rule}
use Rattle.b2_types.specs.declared.kinds.Action.TheVariants as action
use Rattle.b2_types.specs.declared.kinds.Mark.TheVariants as mark
use Rattle.b2_types.specs.declared.kinds.Retention.{Retention}
use Rattle.b2_types.specs.declared.record.VersionId.{VersionId}
use Rattle.b2_types.specs.declared.record.ChangeOf.{ChangeOf}
use Rattle.b2_types.specs.declared.record.ChangeOf.TheVariants as change
use Rattle.b2_types.specs.declared.version.PartOf.{PartOf}
use Rattle.b2_types.specs.declared.version.VersionOf.{VersionOf}
use Rattle.b2_model.specs.State.{State}
use Rattle.b2_model.specs.Rows.{rows}
use Rattle.b2_model.specs.Version.{no_digest, marker, version_from, with_version, is_it, with_part}
use Rattle.b2_model.specs.Finish.{finished_file}
use Rattle.b2_model.specs.Changes.{after_change}
use Rattle.b2_model.specs.Pass.{rule_for, is_due, drops, is_same, names_in, with_due_hide, of_name, cancels, pass_on, pass_names, pass}
use Rattle.machine_laws.proofs.PassKeeps.{pass_each}
use Rattle.sound_states.proofs.Ascending.{put_all}
use Rattle.contents_agree.specs.ContentsOf.{contents_in, contents_of, brought}

-- ---- lists of lists

module _ {X : Type 0} (P : X → Type 0) where
  pub All-left : (xs ys : List X) → All P (xs ++ ys) → All P xs
  All-left xs ys all = All-weaker (Contains xs) P (λ x at. All-contains P (xs ++ ys) x all (Contains-append_left xs ys x at)) xs (All-contains_itself xs)

  pub All-right : (xs ys : List X) → All P (xs ++ ys) → All P ys
  All-right xs ys all = All-weaker (Contains ys) P (λ y at. All-contains P (xs ++ ys) y all (Contains-append_right xs ys y at)) ys (All-contains_itself ys)

  pub all_mapped : {Y : Type 0} (f : Y → X) (ys : List Y) → All P (map f ys) → All (λ y. P (f y)) ys
  all_mapped f [] all = All-nil _
  all_mapped f (y ∷ ys) all = All-cons (λ y. P (f y)) y ys (All-head P (f y) (map f ys) all) (all_mapped f ys (All-tail P (f y) (map f ys) all))

  pub each_flat : {Y : Type 0} (g : Y → List X) (ys : List Y) → All P (flat_map g ys) → All (λ y. All P (g y)) ys
  each_flat g [] all = All-nil _
  each_flat g (y ∷ ys) all = All-cons (λ y. All P (g y)) y ys (All-left (g y) (flat_map g ys) all) (each_flat g ys (All-right (g y) (flat_map g ys) all))

  pub flat_each : {Y : Type 0} (g : Y → List X) (ys : List Y) → All (λ y. All P (g y)) ys → All P (flat_map g ys)
  flat_each g [] each = All-nil P
  flat_each g (y ∷ ys) each = All-append P (g y) (flat_map g ys) (All-head (λ y. All P (g y)) y ys each) (flat_each g ys (All-tail (λ y. All P (g y)) y ys each))

-- ---- versions

module _ {C : Type 0} (P : C → Type 0) where
  abbrev pub Each : VersionOf C → Type 0
  Each v = All P v.content × All (λ p. P p.content) v.parts

  pub each_in : (v : VersionOf C) → All P (contents_in v) → Each v
  each_in v all = (All-left P v.content (map (λ p. p.content) v.parts) all, all_mapped P (λ p. p.content) v.parts (All-right P v.content (map (λ p. p.content) v.parts) all))

  in_each : (v : VersionOf C) → Each v → All P (contents_in v)
  in_each v each = All-append P v.content (map (λ p. p.content) v.parts) each.0 (All-map P (λ p. p.content) v.parts each.1)

  pub each_version : (M : State C) → All P (contents_of M) → All Each M.versions
  each_version M all = All-weaker (λ v. All P (contents_in v)) Each each_in M.versions (each_flat P contents_in M.versions all)

  each_content : (M : State C) → All Each M.versions → All P (contents_of M)
  each_content M each = flat_each P contents_in M.versions (All-weaker Each (λ v. All P (contents_in v)) in_each M.versions each)

  empty : (v : VersionOf C) → v.content ≡ [] → v.parts ≡ [] → Each v
  empty v content parts = (rw content (All-nil P), rw parts (All-nil (λ p. P p.content)))

  -- ---- the lifecycle pass

  if_each : (b : Bool) (M N : State C) → All Each M.versions → All Each N.versions → All Each (if b then N else M).versions
  if_each true M N old new = new
  if_each false M N old new = old

  on_name_each : (t bucket : ℕ) (name : List ℕ) (rule : Option Rule) (M : State C) → All Each M.versions → All Each (pass_on t bucket name rule M).versions
  on_name_each t bucket name None M each = each
  on_name_each t bucket name (Some rule) M each =
      let due = is_due t rule (of_name M bucket name) in
      let N = with_due_hide t bucket name due M in
      let hides = marker bucket M.next_version name t in
      All-filter (λ v. not (list_any (is_same v) (cancels M t bucket rule name ++ drops t rule (of_name N bucket name)))) Each N.versions
      (if_each (due && nat_le M.next_version M.settings.last_version) M (with_version hides M) each (put_all (λ w. w.num) Each hides M.versions (empty hides refl refl) each))

  on_names_each : (t : ℕ) (bucket : Bucket) (names : List (List ℕ)) (M : State C) → All Each M.versions → All Each (pass_names t bucket names M).versions
  on_names_each t bucket [] M each = each
  on_names_each t bucket (name ∷ names) M each =
      on_names_each t bucket names (pass_on t bucket.num name (rule_for bucket name) M) (on_name_each t bucket.num name (rule_for bucket name) M each)

  on_buckets_each : (t : ℕ) (buckets : List Bucket) (M : State C) → All Each M.versions → All Each (pass_each t buckets M).versions
  on_buckets_each t [] M each = each
  on_buckets_each t (bucket ∷ buckets) M each =
      on_buckets_each t buckets (pass_names t bucket (names_in (rows M bucket.num)) M) (on_names_each t bucket (names_in (rows M bucket.num)) M each)

  -- ---- one version changed

  if_it : (f : VersionOf C → VersionOf C) → ((v : VersionOf C) → Each v → Each (f v)) → (b : Bool) (v : VersionOf C) → Each v → Each (if b then f v else v)
  if_it f keeps true v each = keeps v each
  if_it f keeps false v each = each

  at_it : (id : VersionId) (f : VersionOf C → VersionOf C) → ((v : VersionOf C) → Each v → Each (f v)) → (vs : List (VersionOf C)) → All Each vs → All Each (map (λ v. if is_it id v then f v else v) vs)
  at_it id f keeps vs each = All-map Each (λ v. if is_it id v then f v else v) vs (All-weaker Each (λ v. Each (if is_it id v then f v else v)) (λ v old. if_it f keeps (is_it id v) v old) vs each)

  with_part_each : (p : PartOf C) (v : VersionOf C) → P p.content → Each v → Each (with_part p v)
  with_part_each p v new each =
      (each.0, put_all (λ q. q.number) (λ q. P q.content) p (filter (λ q. not (q.number == p.number)) v.parts) new (All-filter (λ q. not (q.number == p.number)) (λ q. P q.content) v.parts each.1))

  finished_each : (retention : Option Retention) (v : VersionOf C) → Each v → Each (finished_file retention v)
  finished_each retention v each = (All-map P (λ p. p.content) v.parts each.1, All-nil (λ p. P p.content))

  changed_each : (t : ℕ) (ch : ChangeOf C) (M : State C) → All P (brought ch) → All Each M.versions → All Each (after_change t ch M).versions
  changed_each t (change.Settings s) M new each = each
  changed_each t (change.Boot n) M new each = each
  changed_each t change.Pass M new each = on_buckets_each t M.buckets M each
  changed_each t (change.BucketMake b) M new each = each
  changed_each t (change.BucketUpdate b) M new each = each
  changed_each t (change.BucketDrop n) M new each = each
  changed_each t (change.Upload v content m digest) M new each =
      put_all (λ w. w.num) Each (version_from t action.Upload (content ∷ []) m digest v) M.versions (new, All-nil (λ p. P p.content)) each
  changed_each t (change.Hide id name) M new each = let hides = marker id.bucket id.num name t in put_all (λ w. w.num) Each hides M.versions (empty hides refl refl) each
  changed_each t (change.Start v) M new each = let start = version_from t action.Start [] mark.Large no_digest v in put_all (λ w. w.num) Each start M.versions (empty start refl refl) each
  changed_each t (change.PartPut id n content m digest) M new each =
      let p : PartOf C = record { number = n; content = content; mark = m; digest = digest; stamp = t } in
      at_it id (with_part p) (λ v. with_part_each p v (All-head P content [] new)) M.versions each
  changed_each t (change.Finish id retention) M new each = at_it id (finished_file retention) (finished_each retention) M.versions each
  changed_each t (change.Cancel id) M new each = All-filter (λ v. not (is_it id v)) Each M.versions each
  changed_each t (change.VersionDrop id) M new each = All-filter (λ v. not (is_it id v)) Each M.versions each
  changed_each t (change.Retain id retention) M new each = at_it id (λ v. record v { retention = retention }) (λ v old. old) M.versions each
  changed_each t (change.Hold id hold) M new each = at_it id (λ v. record v { hold = hold }) (λ v old. old) M.versions each
  changed_each t (change.KeyMake k) M new each = each
  changed_each t (change.KeyDrop n) M new each = each
  changed_each t (change.SnapState n) M new each = each
  changed_each t (change.SnapLarge v) M new each = let large = version_from t action.Upload [] mark.Large no_digest v in put_all (λ w. w.num) Each large M.versions (empty large refl refl) each
  changed_each t (change.SnapExtents id pieces) M new each =
      at_it id (λ v. record v { content = v.content ++ pieces }) (λ v old. (All-append P v.content pieces old.0 new, old.1)) M.versions each

  pub each_after : (t : ℕ) (ch : ChangeOf C) (M : State C) → All P (contents_of M) → All P (brought ch) → All P (contents_of (after_change t ch M))
  each_after t ch M old new = each_content (after_change t ch M) (changed_each t ch M new (each_version M old))

pub old_or_brought : {C : Type 0} (t : ℕ) (ch : ChangeOf C) (M : State C) (c : C) → Contains (contents_of (after_change t ch M)) c → Contains (contents_of M) c ⊎ Contains (brought ch) c
old_or_brought {C} t ch M c at =
    let P : C → Type 0 = λ d. Contains (contents_of M) d ⊎ Contains (brought ch) d in
    All-contains P (contents_of (after_change t ch M)) c
    (each_after P t ch M
    (All-weaker (Contains (contents_of M)) P (λ d old. inl old) (contents_of M) (All-contains_itself (contents_of M)))
    (All-weaker (Contains (brought ch)) P (λ d new. inr new) (brought ch) (All-contains_itself (brought ch))))
    at
