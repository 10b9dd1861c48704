-- What a change brings to a sound state and what stood there is what the change gives up and what stands after.
use Rattle.std.proofs.Common.{◌≡◌, ℕ, ◌<◌, ◌==◌, Bool, true, false, not, ◌&&◌, List, [], ◌∷◌, ◌++◌, All, Option, Some, None, map, filter, find, flat_map, option_and_then, refl, sym, ap, subst, arith}
use Rattle.std.specs.List.Sorted.{IsPermutation}
use Rattle.std.proofs.lemmas.Bool.{false≢true, and_right}
use Rattle.std.proofs.lemmas.Bool.Decides.{nat_tests}
use Rattle.std.proofs.lemmas.List.Sorted.{IsPermutation-refl}
use Rattle.b2_types.specs.declared.kinds.Action.{Action}
use Rattle.b2_types.specs.declared.kinds.Action.TheVariants as action
use Rattle.b2_types.specs.declared.kinds.Mark.TheVariants as mark
use Rattle.b2_types.specs.declared.record.ChangeOf.{ChangeOf}
use Rattle.b2_types.specs.declared.record.ChangeOf.TheVariants as change
use Rattle.b2_types.specs.declared.record.RecordOf.{RecordOf}
use Rattle.b2_types.specs.declared.record.VersionId.{VersionId}
use Rattle.b2_types.specs.declared.version.PartOf.{PartOf}
use Rattle.b2_types.specs.declared.version.VersionOf.{VersionOf}
use Rattle.b2_model.specs.Kinds.{is_start}
use Rattle.b2_model.specs.Checks.{some_and}
use Rattle.b2_model.specs.Policy.{items}
use Rattle.b2_model.specs.State.{State}
use Rattle.b2_model.specs.Version.{no_digest, marker, version_from, with_version, is_it, at_version, without_version, with_part}
use Rattle.b2_model.specs.Finish.{finished_file}
use Rattle.b2_model.specs.Changes.{after_record}
use Rattle.b2_model.specs.Stored.{stands, applies_change}
use Rattle.contents_agree.specs.ContentsOf.{contents_in, contents_of, brought}
use Rattle.core_state.specs.GivenUp.{part_content}
use Rattle.sound_states.specs.Sound.{IsSound, IsAscending, IsStart, Holds}
use Rattle.sound_states.proofs.Tests.{both_hold, equal_numbers}
use Rattle.sound_states.proofs.Found.{found_has}
use Rattle.core_records.specs.GivenUp.{AreGivenUp, held_at}
use Rattle.core_records.proofs.Conserve.{taken_conserves}
use Rattle.given_up.proofs.Items.{pairs_from, IsOne, put_holds, changed_holds}
use Rattle.given_up.proofs.Held.{part_replaced, parts_joined, pieces_joined}

module _ {C : Type 0} where
  above : (id : VersionId) (v w : VersionOf C) → v.num < w.num → is_it id v ≡ true → is_it id w ≡ false
  above id v w low is =
      let here = equal_numbers v.num id.num (both_hold (v.bucket == id.bucket) (v.num == id.num) is).1 in
      let other : (w.num == id.num) ≡ false = grind (arith, nat_tests, low, here) in
      and_right (w.bucket == id.bucket) (w.num == id.num) other

  one_version : (id : VersionId) (vs : List (VersionOf C)) → IsAscending (λ v. v.num) vs → IsOne contents_in (is_it id) vs
  one_version id vs order = pairs_from (λ v w. v.num < w.num) (λ v w. is_it id v ≡ true → is_it id w ≡ false) (above id) vs order

  -- ---- a version is changed

  -- what the version that is found holds changes so
  abbrev Changes : List C → List C → (VersionOf C → VersionOf C) → VersionOf C → Type 0
  Changes before after f v = IsPermutation (before ++ contents_in v) (after ++ contents_in (f v))

  found_changes : (M : State C) (id : VersionId) (test : VersionOf C → Bool) (f : VersionOf C → VersionOf C) (before after : List C)
      → IsSound M → (o : Option (VersionOf C)) → find (is_it id) M.versions ≡ o → some_and test o ≡ true
      → ((v : VersionOf C) → find (is_it id) M.versions ≡ Some v → test v ≡ true → Holds v.action v → Changes before after f v)
      → IsPermutation (before ++ contents_of M) (after ++ contents_of (at_version id f M))
  found_changes M id test f before after sound None found stands changes = absurd (false≢true stands)
  found_changes M id test f before after sound (Some v) found stands changes =
      let holds = (found_has (is_it id) (λ w. Holds w.action w) M.versions v sound.versions.hold found).1 in
      changed_holds contents_in (is_it id) f before after v M.versions (one_version id M.versions sound.versions.order) found (changes v found stands holds)

  version_changes : (M : State C) (id : VersionId) (test : VersionOf C → Bool) (f : VersionOf C → VersionOf C) (before after : List C)
      → IsSound M → stands M id test ≡ true
      → ((v : VersionOf C) → find (is_it id) M.versions ≡ Some v → test v ≡ true → Holds v.action v → Changes before after f v)
      → IsPermutation (before ++ contents_of M) (after ++ contents_of (at_version id f M))
  version_changes M id test f before after sound there changes =
      found_changes M id test f before after sound (find (is_it id) M.versions) refl there changes

  starts : (a : Action) (v : VersionOf C) → is_start a ≡ true → Holds a v → IsStart v
  starts action.Upload v is holds = absurd (false≢true is)
  starts action.Hide v is holds = absurd (false≢true is)
  starts action.Start v is holds = holds

  -- ---- each change

  -- nothing is given up, where the contents are what came and what stood
  nothing : (before : List C) (M N : State C) (freed : List C) → freed ≡ [] → IsPermutation (before ++ contents_of M) (contents_of N)
      → IsPermutation (before ++ contents_of M) (freed ++ contents_of N)
  nothing before M N freed none holds = subst (λ l. IsPermutation (before ++ contents_of M) (l ++ contents_of N)) (sym none) holds

  put_conserves : (M : State C) (v : VersionOf C) (freed : List C) → freed ≡ [] → IsPermutation (contents_in v ++ contents_of M) (freed ++ contents_of (with_version v M))
  put_conserves M v freed none = nothing (contents_in v) M (with_version v M) freed none (put_holds contents_in (λ w. w.num) v M.versions)

  same_conserves : (M : State C) (freed : List C) → freed ≡ [] → IsPermutation (contents_of M) (freed ++ contents_of M)
  same_conserves M freed none = nothing [] M M freed none (IsPermutation-refl (contents_of M))

  part_conserves : (M : State C) (id : VersionId) (p : PartOf C) (freed : List C) → IsSound M → stands M id (λ v. is_start v.action) ≡ true
      → freed ≡ items (option_and_then (part_content p.number) (find (is_it id) M.versions))
      → IsPermutation (p.content ∷ contents_of M) (freed ++ contents_of (at_version id (with_part p) M))
  part_conserves M id p freed sound there is =
      version_changes M id (λ v. is_start v.action) (with_part p) (p.content ∷ []) freed sound there (λ v found test holds.
      let start = starts v.action v test holds in
      let gone : freed ≡ items (part_content p.number v) = subst (λ o. freed ≡ items (option_and_then (part_content p.number) o)) found is in
      subst (λ l. IsPermutation (p.content ∷ contents_in v) (l ++ contents_in (with_part p v))) (sym gone) (part_replaced p v start.content start.parts))

  conserves : (M : State C) (t : ℕ) (ch : ChangeOf C) (freed : List C) → IsSound M → applies_change M ch ≡ true
      → AreGivenUp ch M (after_record M (record { at = t; change = ch })) freed
      → IsPermutation (brought ch ++ contents_of M) (freed ++ contents_of (after_record M (record { at = t; change = ch })))
  conserves M t (change.Settings s) freed sound fits is = absurd (false≢true fits)
  conserves M t (change.Boot n) freed sound fits is = same_conserves M freed is
  conserves M t change.Pass freed sound fits is = is
  conserves M t (change.BucketMake b) freed sound fits is = same_conserves M freed is
  conserves M t (change.BucketUpdate b) freed sound fits is = same_conserves M freed is
  conserves M t (change.BucketDrop n) freed sound fits is = same_conserves M freed is
  conserves M t (change.Upload v content m digest) freed sound fits is = put_conserves M (version_from t action.Upload (content ∷ []) m digest v) freed is
  conserves M t (change.Hide id name) freed sound fits is = put_conserves M (marker id.bucket id.num name t) freed is
  conserves M t (change.Start v) freed sound fits is = put_conserves M (version_from t action.Start [] mark.Large no_digest v) freed is
  conserves M t (change.PartPut id n content m digest) freed sound fits is =
      part_conserves M id (record { number = n; content = content; mark = m; digest = digest; stamp = t }) freed sound fits is
  conserves M t (change.Finish id retention) freed sound fits is =
      let f = finished_file retention in
      nothing [] M (at_version id f M) freed is
      (version_changes M id (λ v. is_start v.action) f [] [] sound fits (λ v found test holds. parts_joined retention v (starts v.action v test holds).content))
  conserves M t (change.Cancel id) freed sound fits is = taken_conserves M id [] freed sound.versions.order is
  conserves M t (change.VersionDrop id) freed sound fits is = taken_conserves M id [] freed sound.versions.order is
  conserves M t (change.Retain id retention) freed sound fits is =
      let f : VersionOf C → VersionOf C = λ v. record v { retention = retention } in
      nothing [] M (at_version id f M) freed is
      (version_changes M id _ f [] [] sound fits (λ v found test holds. IsPermutation-refl (contents_in v)))
  conserves M t (change.Hold id hold) freed sound fits is =
      let f : VersionOf C → VersionOf C = λ v. record v { hold = hold } in
      nothing [] M (at_version id f M) freed is
      (version_changes M id _ f [] [] sound fits (λ v found test holds. IsPermutation-refl (contents_in v)))
  conserves M t (change.KeyMake k) freed sound fits is = same_conserves M freed is
  conserves M t (change.KeyDrop n) freed sound fits is = same_conserves M freed is
  conserves M t (change.SnapState n) freed sound fits is = same_conserves M freed is
  conserves M t (change.SnapLarge v) freed sound fits is = put_conserves M (version_from t action.Upload [] mark.Large no_digest v) freed is
  conserves M t (change.SnapExtents id pieces) freed sound fits is =
      let f : VersionOf C → VersionOf C = λ v. record v { content = v.content ++ pieces } in
      nothing pieces M (at_version id f M) freed is
      (version_changes M id _ f pieces [] sound fits (λ v found test holds. pieces_joined pieces v))

  pub record_conserves : (M : State C) (r : RecordOf C) (freed : List C) → IsSound M → applies_change M r.change ≡ true → AreGivenUp r.change M (after_record M r) freed
      → IsPermutation (brought r.change ++ contents_of M) (freed ++ contents_of (after_record M r))
  record_conserves M r freed sound fits is = conserves M r.at r.change freed sound fits is
