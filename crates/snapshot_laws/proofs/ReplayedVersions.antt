-- The replay of a snapshot: its versions.
use Rattle.std.proofs.Common.{◌≡◌, ℕ, ◌+◌, ◌<◌, ◌≤◌, ◌==◌, max, Bool, true, false, not, ◌&&◌, List, [], ◌∷◌, ◌++◌, All, Option, map, filter, length, if◌then◌else◌, refl, sym, ap, subst, ◌∙◌, arith, append_assoc, append-nil}
use Rattle.std.specs.Option.{is_some}
use Rattle.std.specs.List.{AllPairs, list_any, flat_map}
use Rattle.std.proofs.lemmas.Bool.Decides.{nat_tests}
use Rattle.b2_base.specs.declared.settings.Settings.{Settings}
use Rattle.b2_types.specs.declared.kinds.Action.{Action}
use Rattle.b2_types.specs.declared.kinds.Action.TheVariants as action
use Rattle.b2_types.specs.declared.kinds.Mark.{Mark}
use Rattle.b2_types.specs.declared.kinds.Mark.TheVariants as mark
use Rattle.b2_types.specs.declared.bucket.Bucket.{Bucket}
use Rattle.b2_types.specs.declared.key.Key.{Key}
use Rattle.b2_types.specs.declared.version.PartOf.{PartOf}
use Rattle.b2_types.specs.declared.version.VersionOf.{VersionOf}
use Rattle.b2_types.specs.declared.record.RecordOf.{RecordOf}
use Rattle.b2_types.specs.declared.record.ChangeOf.{ChangeOf}
use Rattle.b2_types.specs.declared.record.ChangeOf.TheVariants as change
use Rattle.b2_model.specs.Kinds.{is_upload, is_hide, is_start}
use Rattle.b2_model.specs.Checks.{some_and}
use Rattle.b2_model.specs.State.{State, bucket_at}
use Rattle.b2_model.specs.Lists.{put_by}
use Rattle.b2_model.specs.Plan.{id_of}
use Rattle.b2_model.specs.Version.{no_digest, marker, is_it, with_part}
use Rattle.b2_model.specs.Changes.{after_record}
use Rattle.b2_model.specs.Stored.{is_large, is_snap_state, stands, may_make, applies_change, Replayed, replay_on, as_new, record_at, pieces_of, part_record, large_records, upload_records, version_records}
use Rattle.sound_states.specs.Sound.{IsAscending, IsGiven, IsAmong, IsUpload, Holds, AreVersions}
use Rattle.sound_states.proofs.Ascending.{all_from, put_last}
use Rattle.sound_states.proofs.Tests.{holds_both, not_equal}
use Rattle.sound_states.proofs.Found.{some_found}
use Rattle.snapshot_laws.proofs.Ends.{at_item, before_item, find_last, map_last, filter_all, joined, joined_pieces}
use Rattle.snapshot_laws.proofs.Replayed.{none_at, before_numbers, goes, partial}

itself : (n : ℕ) → (n == n) ≡ true
itself n = grind (arith, nat_tests)

module _ {C : Type 0} where
  -- a version with other contents and parts
  abbrev built : VersionOf C → Action → List C → Mark → List ℕ → List (PartOf C) → VersionOf C
  built v act content m digest parts = record v { action = act; content = content; mark = m; digest = digest; parts = parts }

  is_built : (v : VersionOf C) (act : Action) (content : List C) (m : Mark) (digest : List ℕ) (parts : List (PartOf C))
      → v.action ≡ act → v.content ≡ content → v.mark ≡ m → v.digest ≡ digest → v.parts ≡ parts → built v act content m digest parts ≡ v
  is_built v act content m digest parts acts contents marks digests all_parts =
      sym (ap (λ a. built v a v.content v.mark v.digest v.parts) acts
      ∙ ap (λ c. built v act c v.mark v.digest v.parts) contents
      ∙ ap (λ n. built v act content n v.digest v.parts) marks
      ∙ ap (λ d. built v act content m d v.parts) digests
      ∙ ap (λ ps. built v act content m digest ps) all_parts)

  module _ (settings : Settings) (buckets_next keys_next last : ℕ) (buckets : List Bucket) (keys : List Key) (all : List (VersionOf C)) (sound : AreVersions buckets last all)
      (rest : List (RecordOf C)) (G : Option (Replayed C)) where
    -- the state with these versions
    abbrev with_versions : ℕ → ℕ → List (VersionOf C) → State C
    with_versions at next versions = partial settings at buckets_next keys_next next buckets versions keys

    -- what comes once these versions stand
    abbrev Goes : List (VersionOf C) → List (RecordOf C) → Type 0
    Goes versions more = (at n : ℕ) → n ≤ last → replay_on (before_numbers (with_versions at n versions)) more ≡ G

    -- ---- one version at the end

    module _ (before : List (VersionOf C)) (v : VersionOf C) (below : All (λ w. w.num < v.num) before) (given : IsGiven last v.num) (placed : IsAmong buckets v.bucket) where
      may : (at next : ℕ) → may_make (with_versions at next before) v.bucket v.num ≡ true
      may at next =
          let M = with_versions at next before in
          let above : not (v.num == 0) ≡ true = ap not (not_equal v.num 0 (λ same. absurd (omega (arith, given.0, same)))) in
          holds_both (is_some (bucket_at M v.bucket) && not (v.num == 0)) (not (list_any (λ w. w.num == v.num) before))
          (holds_both (is_some (bucket_at M v.bucket)) (not (v.num == 0)) (some_found (λ b. b.num == v.bucket) buckets placed) above)
          (ap not (none_at (λ w. w.num) v.num before below))

      -- a record that makes the version w of its number
      makes : (at next : ℕ) (ch : ChangeOf C) (w : VersionOf C) (more : List (RecordOf C)) → w.num ≡ v.num → next ≤ last → applies_change (with_versions at next before) ch ≡ true → is_snap_state ch ≡ false
          → after_record (with_versions at next before) (record_at v.stamp ch) ≡ with_versions v.stamp (max next (v.num + 1)) (put_by (λ x. x.num) w before) → Goes (before ++ w ∷ []) more
          → replay_on (before_numbers (with_versions at next before)) (record_at v.stamp ch ∷ more) ≡ G
      makes at next ch w more same within applies other made go =
          goes (with_versions at next before) v.stamp ch more applies other
          ∙ ap (λ M. replay_on (before_numbers M) more) (made ∙ ap (with_versions v.stamp (max next (v.num + 1))) (put_last (λ x. x.num) w before (subst (λ n. All (λ x. x.num < n) before) (sym same) below)))
          ∙ go v.stamp (max next (v.num + 1)) (omega (arith, within, given.1))

      -- the others are not of its id
      others : All (λ w. is_it (id_of v) w ≡ false) before
      others = all_from (λ w. w.num < v.num) (λ w. is_it (id_of v) w ≡ false) before (λ w lt. no_and (w.bucket == v.bucket) (w.num == v.num) (not_equal w.num v.num (λ same. absurd (omega (arith, lt, same))))) below
        where
          no_and : (x y : Bool) → y ≡ false → (x && y) ≡ false
          no_and true y is = is
          no_and false y is = refl

      -- a record that changes the version at the end
      changes : (at next t : ℕ) (ch : ChangeOf C) (test : VersionOf C → Bool) (f : VersionOf C → VersionOf C) (w : VersionOf C) (more : List (RecordOf C)) → w.bucket ≡ v.bucket → w.num ≡ v.num → test w ≡ true
          → applies_change (with_versions at next (before ++ w ∷ [])) ch ≡ stands (with_versions at next (before ++ w ∷ [])) (id_of v) test → is_snap_state ch ≡ false
          → after_record (with_versions at next (before ++ w ∷ [])) (record_at t ch) ≡ with_versions t next (map (λ x. if is_it (id_of v) x then f x else x) (before ++ w ∷ []))
          → replay_on (before_numbers (with_versions at next (before ++ w ∷ []))) (record_at t ch ∷ more) ≡ replay_on (before_numbers (with_versions t next (before ++ f w ∷ []))) more
      changes at next t ch test f w more same_bucket same_num passes applies other changed =
          let it : is_it (id_of v) w ≡ true = holds_both (w.bucket == v.bucket) (w.num == v.num)
          (ap (λ n. n == v.bucket) same_bucket ∙ itself v.bucket) (ap (λ n. n == v.num) same_num ∙ itself v.num) in
          goes (with_versions at next (before ++ w ∷ [])) t ch more (applies ∙ ap (some_and test) (find_last (is_it (id_of v)) before w others it) ∙ passes) other
          ∙ ap (λ M. replay_on (before_numbers M) more) (changed ∙ ap (with_versions t next) (map_last (is_it (id_of v)) f before w others it))

      -- ---- a large file

      pieces_on : (at next : ℕ) (done : List C) (pieces : List (List C)) (more : List (RecordOf C)) → next ≤ last → Goes (before ++ built v action.Upload (done ++ joined pieces) mark.Large no_digest [] ∷ []) more
          → replay_on (before_numbers (with_versions at next (before ++ built v action.Upload done mark.Large no_digest [] ∷ []))) (map (λ piece. record_at v.stamp (change.SnapExtents (id_of v) piece)) pieces ++ more) ≡ G
      pieces_on at next done [] more within go =
          ap (λ content. replay_on (before_numbers (with_versions at next (before ++ built v action.Upload content mark.Large no_digest [] ∷ []))) more) (sym (append-nil done)) ∙ go at next within
      pieces_on at next done (piece ∷ pieces) more within go =
          changes at next v.stamp (change.SnapExtents (id_of v) piece) (λ w. is_large w.mark && is_upload w.action) (λ w. record w { content = w.content ++ piece })
          (built v action.Upload done mark.Large no_digest []) (map (λ piece. record_at v.stamp (change.SnapExtents (id_of v) piece)) pieces ++ more) refl refl refl refl refl refl
          ∙ pieces_on v.stamp next (done ++ piece) pieces more within (λ at n bound.
          ap (λ content. replay_on (before_numbers (with_versions at n (before ++ built v action.Upload content mark.Large no_digest [] ∷ []))) more) (append_assoc done piece (joined pieces)) ∙ go at n bound)

      large_on : (at next : ℕ) (more : List (RecordOf C)) → next ≤ last → v.action ≡ action.Upload → v.mark ≡ mark.Large → v.digest ≡ no_digest → v.parts ≡ [] → Goes (before ++ v ∷ []) more
          → replay_on (before_numbers (with_versions at next before)) (large_records v ++ more) ≡ G
      large_on at next more within acts marks digests no_parts go =
          let pieces = pieces_of (length v.content) 2000 v.content in
          let whole = is_built v action.Upload v.content mark.Large no_digest [] acts refl marks digests no_parts in
          makes at next (change.SnapLarge (as_new v)) (built v action.Upload [] mark.Large no_digest []) (map (λ piece. record_at v.stamp (change.SnapExtents (id_of v) piece)) pieces ++ more)
          refl within (may at next) refl refl (λ at n bound. pieces_on at n [] pieces more bound (λ at n bound.
          ap (λ w. replay_on (before_numbers (with_versions at n (before ++ w ∷ []))) more)
          (ap (λ content. built v action.Upload content mark.Large no_digest []) (joined_pieces (length v.content) 2000 v.content (omega arith) (omega arith)) ∙ whole)
          ∙ go at n bound))

      -- ---- a start

      part_added : (p : PartOf C) (done : List (PartOf C)) → All (λ q. q.number < p.number) done
          → put_by (λ q. q.number) p (filter (λ q. not (q.number == p.number)) done) ≡ done ++ p ∷ []
      part_added p done lower =
          let apart = all_from (λ q. q.number < p.number) (λ q. not (q.number == p.number) ≡ true) done (λ q lt. ap not (not_equal q.number p.number (λ same. absurd (omega (arith, lt, same))))) lower in
          ap (put_by (λ q. q.number) p) (filter_all (λ q. not (q.number == p.number)) done apart) ∙ put_last (λ q. q.number) p done lower

      parts_on : (at next : ℕ) (done parts : List (PartOf C)) (more : List (RecordOf C)) → next ≤ last → IsAscending (λ p. p.number) (done ++ parts)
          → Goes (before ++ built v action.Start [] mark.Large no_digest (done ++ parts) ∷ []) more
          → replay_on (before_numbers (with_versions at next (before ++ built v action.Start [] mark.Large no_digest done ∷ []))) (map (part_record v) parts ++ more) ≡ G
      parts_on at next done [] more within order go =
          ap (λ parts. replay_on (before_numbers (with_versions at next (before ++ built v action.Start [] mark.Large no_digest parts ∷ []))) more) (sym (append-nil done)) ∙ go at next within
      parts_on at next done (p ∷ parts) more within order go =
          let lower = before_item (λ a b. a.number < b.number) done p parts order in
          let joins = append_assoc done (p ∷ []) parts in
          changes at next p.stamp (change.PartPut (id_of v) p.number p.content p.mark p.digest) (λ w. is_start w.action) (with_part p)
          (built v action.Start [] mark.Large no_digest done) (map (part_record v) parts ++ more) refl refl refl refl refl refl
          ∙ ap (λ parts_now. replay_on (before_numbers (with_versions p.stamp next (before ++ built v action.Start [] mark.Large no_digest parts_now ∷ []))) (map (part_record v) parts ++ more)) (part_added p done lower)
          ∙ parts_on p.stamp next (done ++ p ∷ []) parts more within (subst (IsAscending (λ p. p.number)) (sym joins) order) (λ at n bound.
          ap (λ all_parts. replay_on (before_numbers (with_versions at n (before ++ built v action.Start [] mark.Large no_digest all_parts ∷ []))) more) joins ∙ go at n bound)

      start_on : (at next : ℕ) (more : List (RecordOf C)) → next ≤ last → v.action ≡ action.Start → Holds action.Start v → Goes (before ++ v ∷ []) more
          → replay_on (before_numbers (with_versions at next before)) ((record_at v.stamp (change.Start (as_new v)) ∷ map (part_record v) v.parts) ++ more) ≡ G
      start_on at next more within acts holds go =
          makes at next (change.Start (as_new v)) (built v action.Start [] mark.Large no_digest []) (map (part_record v) v.parts ++ more) refl within (may at next) refl refl (λ at n bound.
          parts_on at n [] v.parts more bound holds.parts (λ at n bound.
          ap (λ w. replay_on (before_numbers (with_versions at n (before ++ w ∷ []))) more)
          (is_built v action.Start [] mark.Large no_digest v.parts acts holds.content holds.mark holds.digest refl) ∙ go at n bound))

      -- ---- an upload, and a marker

      upload_on : (at next : ℕ) (content : List C) (more : List (RecordOf C)) → next ≤ last → v.content ≡ content → v.action ≡ action.Upload → length content ≡ 1 → v.parts ≡ [] → Goes (before ++ v ∷ []) more
          → replay_on (before_numbers (with_versions at next before)) (map (λ piece. record_at v.stamp (change.Upload (as_new v) piece v.mark v.digest)) content ++ more) ≡ G
      upload_on at next [] more within is acts one no_parts go = absurd (omega (arith, one))
      upload_on at next (c ∷ []) more within is acts one no_parts go =
          makes at next (change.Upload (as_new v) c v.mark v.digest) (built v action.Upload (c ∷ []) v.mark v.digest []) more refl within (may at next) refl refl (λ at n bound.
          ap (λ w. replay_on (before_numbers (with_versions at n (before ++ w ∷ []))) more) (is_built v action.Upload (c ∷ []) v.mark v.digest [] acts is refl refl no_parts) ∙ go at n bound)
      upload_on at next (c ∷ d ∷ cs) more within is acts one no_parts go = absurd (omega (arith, one))

      hide_on : (at next : ℕ) (more : List (RecordOf C)) → next ≤ last → v ≡ marker v.bucket v.num v.name v.stamp → Goes (before ++ v ∷ []) more
          → replay_on (before_numbers (with_versions at next before)) (record_at v.stamp (change.Hide (id_of v) v.name) ∷ more) ≡ G
      hide_on at next more within is go =
          makes at next (change.Hide (id_of v) v.name) (marker v.bucket v.num v.name v.stamp) more refl within (may at next) refl refl (λ at n bound.
          ap (λ w. replay_on (before_numbers (with_versions at n (before ++ w ∷ []))) more) (sym is) ∙ go at n bound)

      by_mark : (at next : ℕ) (m : Mark) (more : List (RecordOf C)) → next ≤ last → v.mark ≡ m → v.action ≡ action.Upload → IsUpload m v → v.parts ≡ [] → Goes (before ++ v ∷ []) more
          → replay_on (before_numbers (with_versions at next before)) ((if is_large m then large_records v else upload_records v) ++ more) ≡ G
      by_mark at next mark.Verified more within marks acts holds no_parts go = upload_on at next v.content more within refl acts holds no_parts go
      by_mark at next mark.Unverified more within marks acts holds no_parts go = upload_on at next v.content more within refl acts holds no_parts go
      by_mark at next mark.Large more within marks acts holds no_parts go = large_on at next more within acts marks holds no_parts go
      by_mark at next mark.Marker more within marks acts holds no_parts go = absurd holds

      -- the records of a version of this action
      abbrev records_as : Action → List (RecordOf C)
      records_as act =
          if is_start act then record_at v.stamp (change.Start (as_new v)) ∷ map (part_record v) v.parts
          else (if is_hide act then record_at v.stamp (change.Hide (id_of v) v.name) ∷ []
          else (if is_large v.mark then large_records v else upload_records v))

      by_action : (at next : ℕ) (act : Action) (more : List (RecordOf C)) → next ≤ last → v.action ≡ act → Holds act v → Goes (before ++ v ∷ []) more
          → replay_on (before_numbers (with_versions at next before)) (records_as act ++ more) ≡ G
      by_action at next action.Upload more within acts holds go = by_mark at next v.mark more within refl acts holds.0 holds.1 go
      by_action at next action.Hide more within acts holds go = hide_on at next more within holds go
      by_action at next action.Start more within acts holds go = start_on at next more within acts holds go

      pub version_on : (at next : ℕ) (more : List (RecordOf C)) → next ≤ last → Holds v.action v → Goes (before ++ v ∷ []) more
          → replay_on (before_numbers (with_versions at next before)) (version_records v ++ more) ≡ G
      version_on at next more within holds go = by_action at next v.action more within refl holds go

    -- ---- all of them

    pub versions_on : (before after : List (VersionOf C)) (at next : ℕ) → before ++ after ≡ all → next ≤ last → Goes all rest
        → replay_on (before_numbers (with_versions at next before)) (flat_map version_records after ++ rest) ≡ G
    versions_on before [] at next is within go =
        ap (λ versions. replay_on (before_numbers (with_versions at next versions)) rest) (sym (append-nil before) ∙ is) ∙ go at next within
    versions_on before (v ∷ after) at next is within go =
        let below = before_item (λ x y. x.num < y.num) before v after (subst (AllPairs (λ x y. x.num < y.num)) (sym is) sound.order) in
        let given = at_item (λ x. IsGiven last x.num) before v after (subst (All (λ x. IsGiven last x.num)) (sym is) sound.given) in
        let placed = at_item (λ x. IsAmong buckets x.bucket) before v after (subst (All (λ x. IsAmong buckets x.bucket)) (sym is) sound.placed) in
        let holds = at_item (λ x. Holds x.action x) before v after (subst (All (λ x. Holds x.action x)) (sym is) sound.hold) in
        ap (replay_on (before_numbers (with_versions at next before))) (append_assoc (version_records v) (flat_map version_records after) rest)
        ∙ version_on before v below given placed at next (flat_map version_records after ++ rest) within holds
        (λ at n bound. versions_on (before ++ v ∷ []) after at n (append_assoc before (v ∷ []) after ∙ is) bound go)
