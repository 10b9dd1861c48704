-- The records that calls and uploads write keep what is locked.
use Rattle.std.proofs.Common.{◌≡◌, ℕ, ◌<◌, ◌==◌, Bool, true, false, not, ◌&&◌, ◌++◌, List, [], ◌∷◌, All, Option, Some, None, map, if◌then◌else◌, refl, sym, ap, subst, ◌∙◌, arith}
use Rattle.std.specs.Prelude.{⊤}
use Rattle.std.specs.List.{list_any}
use Rattle.std.proofs.lemmas.Bool.{false≢true}
use Rattle.std.proofs.lemmas.List.Elements.{All-map}
use Rattle.b2_types.specs.declared.kinds.Retention.{Retention}
use Rattle.b2_types.specs.declared.record.VersionId.{VersionId}
use Rattle.b2_types.specs.declared.record.ChangeOf.{ChangeOf}
use Rattle.b2_types.specs.declared.record.ChangeOf.TheVariants as change
use Rattle.b2_types.specs.declared.version.PartOf.{PartOf}
use Rattle.b2_types.specs.declared.version.VersionOf.{VersionOf}
use Rattle.b2_model.specs.State.{State}
use Rattle.b2_model.specs.Version.{with_version, is_it, at_version, without_version, with_part}
use Rattle.b2_model.specs.Plan.{id_of}
use Rattle.b2_model.specs.Finish.{finished_file}
use Rattle.b2_model.specs.Changes.{after_record}
use Rattle.sound_states.proofs.Ascending.{all_from}
use Rattle.sound_states.proofs.Tests.{both_hold, equal_numbers, any_map, any_same}
use Rattle.lasting_laws.specs.Locked.{on_hold, kept_until, Lock, IsRetainedTo, IsLocked}
use Rattle.lasting_laws.proofs.Kept.{by_test, IsSame, Good, Keeps}
use Rattle.lasting_laws.proofs.KeptPass.{more_keeps, fewer_keeps}

-- the retention that takes the place of another keeps the lock
abbrev pub HoldsOut : Lock → Option Retention → Type 0
HoldsOut on_hold retention = ⊤
HoldsOut (kept_until n) retention = IsRetainedTo n retention

abbrev pub HoldsOn : Lock → Bool → Type 0
HoldsOn on_hold hold = hold ≡ true
HoldsOn (kept_until n) hold = ⊤

module _ {C : Type 0} where
  -- what a change may be that keeps the lock on the version
  abbrev pub Allows : Lock → VersionOf C → State C → Option (ChangeOf C) → Type 0
  Allows lock v M None = ⊤
  Allows lock v M (Some (change.Boot n)) = ⊥
  Allows lock v M (Some change.Pass) = ⊥
  Allows lock v M (Some (change.Upload w content m digest)) = w.num ≡ M.next_version
  Allows lock v M (Some (change.Hide id name)) = id.num ≡ M.next_version
  Allows lock v M (Some (change.Start w)) = w.num ≡ M.next_version
  Allows lock v M (Some (change.PartPut id n content m digest)) = is_it id v ≡ false
  Allows lock v M (Some (change.Finish id retention)) = is_it id v ≡ false
  Allows lock v M (Some (change.Cancel id)) = is_it id v ≡ false
  Allows lock v M (Some (change.VersionDrop id)) = is_it id v ≡ false
  Allows lock v M (Some (change.Retain id retention)) = is_it id v ≡ true → HoldsOut lock retention
  Allows lock v M (Some (change.Hold id hold)) = is_it id v ≡ true → HoldsOn lock hold
  Allows lock v M (Some (change.SnapState n)) = ⊥
  Allows lock v M (Some (change.SnapLarge w)) = ⊥
  Allows lock v M (Some (change.SnapExtents id pieces)) = ⊥
  Allows lock v M (Some other) = ⊤

  retained_locked : (lock : Lock) (retention : Option Retention) (w : VersionOf C) → HoldsOut lock retention → IsLocked lock w → IsLocked lock (record w { retention = retention })
  retained_locked on_hold retention w out locked = locked
  retained_locked (kept_until n) retention w out locked = (locked.0, out)

  held_locked : (lock : Lock) (hold : Bool) (w : VersionOf C) → HoldsOn lock hold → IsLocked lock w → IsLocked lock (record w { hold = hold })
  held_locked on_hold hold w on locked = (locked.0, on)
  held_locked (kept_until n) hold w on locked = locked

  retained_same : (v w : VersionOf C) (retention : Option Retention) → IsSame v w → IsSame v (record w { retention = retention })
  retained_same v w retention same = ap (λ (u : VersionOf C). record u { retention = retention }) same

  held_same : (v w : VersionOf C) (hold : Bool) → IsSame v w → IsSame v (record w { hold = hold })
  held_same v w hold same = ap (λ (u : VersionOf C). record u { hold = hold }) same

module _ {C : Type 0} (lock : Lock) (v : VersionOf C) where
  -- another id of the version's
  same_id : (id : VersionId) (w : VersionOf C) → is_it (id_of v) w ≡ true → is_it id w ≡ is_it id v
  same_id id w it =
      let both = both_hold (w.bucket == v.bucket) (w.num == v.num) it in
      rw (equal_numbers w.bucket v.bucket both.0, equal_numbers w.num v.num both.1) refl

  if_numbers : (f : VersionOf C → VersionOf C) → ((w : VersionOf C) → is_it (id_of v) (f w) ≡ is_it (id_of v) w) → (b : Bool) (w : VersionOf C) → is_it (id_of v) (if b then f w else w) ≡ is_it (id_of v) w
  if_numbers f same true w = same w
  if_numbers f same false w = refl

  if_good : (f : VersionOf C → VersionOf C) (b : Bool) (w : VersionOf C) → (b ≡ true → IsLocked lock w → IsSame v w → IsLocked lock (f w) × IsSame v (f w)) → IsLocked lock w × IsSame v w → IsLocked lock (if b then f w else w) × IsSame v (if b then f w else w)
  if_good f true w changed old = changed refl old.0 old.1
  if_good f false w changed old = old

  changed_keeps : (id : VersionId) (f : VersionOf C → VersionOf C) (M : State C) → ((w : VersionOf C) → is_it (id_of v) (f w) ≡ is_it (id_of v) w)
      → ((w : VersionOf C) → is_it id v ≡ true → IsLocked lock w → IsSame v w → IsLocked lock (f w) × IsSame v (f w)) → Keeps lock v M → Keeps lock v (at_version id f M)
  changed_keeps id f M numbers good keeps =
      let g : VersionOf C → VersionOf C = λ w. if is_it id w then f w else w in
      record {
        each = All-map (Good lock v) g M.versions (all_from (Good lock v) (λ w. Good lock v (g w)) M.versions (λ w old it.
            let was = sym (if_numbers f numbers (is_it id w) w) ∙ it in
            if_good f (is_it id w) w (λ here. good w (sym (same_id id w was) ∙ here)) (old was)) keeps.each);
        there = any_map (is_it (id_of v)) g M.versions ∙ any_same (λ w. is_it (id_of v) (g w)) (is_it (id_of v)) (λ w. if_numbers f numbers (is_it id w) w) M.versions ∙ keeps.there;
        given = keeps.given;
      }

  apart_keeps : (id : VersionId) (f : VersionOf C → VersionOf C) (M : State C) → ((w : VersionOf C) → is_it (id_of v) (f w) ≡ is_it (id_of v) w) → is_it id v ≡ false → Keeps lock v M → Keeps lock v (at_version id f M)
  apart_keeps id f M numbers apart keeps = changed_keeps id f M numbers (λ w it locked same. absurd (false≢true (sym apart ∙ it))) keeps

  gone_keeps : (id : VersionId) (M : State C) → is_it id v ≡ false → Keeps lock v M → Keeps lock v (without_version id M)
  gone_keeps id M apart keeps =
      fewer_keeps lock v (λ w. not (is_it id w)) M (all_from (Good lock v) (λ w. is_it (id_of v) w ≡ true → not (is_it id w) ≡ true) M.versions (λ w good it. ap not (same_id id w it ∙ apart)) keeps.each) keeps

  abbrev timed : ℕ → State C → State C
  timed t N = record N { now = t; kept = t }

  at_time : (N : State C) (t : ℕ) → Keeps lock v N → Keeps lock v (timed t N)
  at_time N t keeps = record { each = keeps.each; there = keeps.there; given = keeps.given }

  new_keeps : (w : VersionOf C) (M : State C) → w.num ≡ M.next_version → Keeps lock v M → Keeps lock v (with_version w M)
  new_keeps w M num keeps = let given = keeps.given in more_keeps lock v w M (omega (arith, given, num)) keeps

  others_keep : (M N : State C) → N.versions ≡ M.versions → N.next_version ≡ M.next_version → Keeps lock v M → Keeps lock v N
  others_keep M N versions next keeps = record {
    each = subst (All (Good lock v)) (sym versions) keeps.each;
    there = ap (list_any (is_it (id_of v))) versions ∙ keeps.there;
    given = subst (λ n. v.num < n) (sym next) keeps.given;
  }

  pub record_keeps : (M : State C) (t : ℕ) (ch : ChangeOf C) → Allows lock v M (Some ch) → Keeps lock v M → Keeps lock v (after_record M (record { at = t; change = ch }))
  record_keeps M t (change.Settings s) allows keeps = at_time M t keeps
  record_keeps M t (change.Boot n) allows keeps = absurd allows
  record_keeps M t change.Pass allows keeps = absurd allows
  record_keeps M t (change.BucketMake b) allows keeps = record { each = keeps.each; there = keeps.there; given = keeps.given }
  record_keeps M t (change.BucketUpdate b) allows keeps = record { each = keeps.each; there = keeps.there; given = keeps.given }
  record_keeps M t (change.BucketDrop n) allows keeps = record { each = keeps.each; there = keeps.there; given = keeps.given }
  record_keeps M t (change.Upload w content m digest) allows keeps = at_time _ t (new_keeps _ M allows keeps)
  record_keeps M t (change.Hide id name) allows keeps = at_time _ t (new_keeps _ M allows keeps)
  record_keeps M t (change.Start w) allows keeps = at_time _ t (new_keeps _ M allows keeps)
  record_keeps M t (change.PartPut id n content m digest) allows keeps =
      let p : PartOf C = record { number = n; content = content; mark = m; digest = digest; stamp = t } in
      at_time _ t (apart_keeps id (with_part p) M (λ w. refl) allows keeps)
  record_keeps M t (change.Finish id retention) allows keeps = at_time _ t (apart_keeps id (finished_file retention) M (λ w. refl) allows keeps)
  record_keeps M t (change.Cancel id) allows keeps = at_time _ t (gone_keeps id M allows keeps)
  record_keeps M t (change.VersionDrop id) allows keeps = at_time _ t (gone_keeps id M allows keeps)
  record_keeps M t (change.Retain id retention) allows keeps =
      at_time _ t (changed_keeps id (λ w. record w { retention = retention }) M (λ w. refl) (λ w it locked same. (retained_locked lock retention w (allows it) locked, retained_same v w retention same)) keeps)
  record_keeps M t (change.Hold id hold) allows keeps =
      at_time _ t (changed_keeps id (λ w. record w { hold = hold }) M (λ w. refl) (λ w it locked same. (held_locked lock hold w (allows it) locked, held_same v w hold same)) keeps)
  record_keeps M t (change.KeyMake k) allows keeps = record { each = keeps.each; there = keeps.there; given = keeps.given }
  record_keeps M t (change.KeyDrop n) allows keeps = record { each = keeps.each; there = keeps.there; given = keeps.given }
  record_keeps M t (change.SnapState n) allows keeps = absurd allows
  record_keeps M t (change.SnapLarge w) allows keeps = absurd allows
  record_keeps M t (change.SnapExtents id pieces) allows keeps = absurd allows
