-- The versions of an id in a list: each is the one that is kept, and there is one.
use Rattle.std.proofs.Common.{◌≡◌, ◌⊎◌, inl, inr, ℕ, ◌<◌, ◌≤◌, ◌==◌, nat_lt, Bool, true, false, not, ◌&&◌, ◌||◌, List, [], ◌∷◌, All, Option, Some, None, map, filter, find, if◌then◌else◌, refl, sym, ap, subst, ◌∙◌, arith}
use Rattle.std.specs.Option.{is_some}
use Rattle.std.specs.List.{list_any}
use Rattle.std.proofs.lemmas.Bool.{false≢true}
use Rattle.std.proofs.lemmas.Bool.Decides.{nat_tests}
use Rattle.std.proofs.lemmas.Option.{none-some}
use Rattle.std.proofs.lemmas.List.Elements.{All-nil, All-cons, All-head, All-tail, All-map, All-filter}
use Rattle.b2_types.specs.declared.kinds.Action.{Action}
use Rattle.b2_types.specs.declared.kinds.Action.TheVariants as action
use Rattle.b2_types.specs.declared.kinds.Retention.{Retention}
use Rattle.b2_types.specs.declared.record.VersionId.{VersionId}
use Rattle.b2_types.specs.declared.version.VersionOf.{VersionOf}
use Rattle.b2_model.specs.Kinds.{is_upload, is_hide, is_start}
use Rattle.b2_model.specs.Checks.{some_and}
use Rattle.b2_model.specs.Locks.{is_active, active_retention, is_held, is_protected}
use Rattle.b2_model.specs.State.{State}
use Rattle.b2_model.specs.Rows.{version_at}
use Rattle.b2_model.specs.Version.{is_it}
use Rattle.b2_model.specs.Plan.{id_of}
use Rattle.sound_states.specs.Sound.{IsAscending, IsGiven, IsSound}
use Rattle.sound_states.proofs.Ascending.{all_from, all_from_both, pairs_head, pairs_tail}
use Rattle.sound_states.proofs.Tests.{both_hold, holds_both, equal_numbers, less}
use Rattle.sound_states.proofs.Found.{found_has, found_passes, any_of, some_found, same_found}
use Rattle.lasting_laws.specs.Locked.{on_hold, kept_until, Lock, IsRetainedTo, IsLocked, IsInTime, Stands}

-- ---- tests

pub by_test : {P : Type 0} (b : Bool) → (b ≡ true → P) → (b ≡ false → P) → P
by_test true when unless = when refl
by_test false when unless = unless refl

pub same_itself : (n : ℕ) → (n == n) ≡ true
same_itself n = grind (arith, nat_tests)

pub start_or_upload : (a : Action) → is_upload a ≡ true → is_start a ≡ true → ⊥
start_or_upload action.Upload up start = false≢true start
start_or_upload action.Hide up start = false≢true up
start_or_upload action.Start up start = false≢true up

pub hide_or_upload : (a : Action) → is_upload a ≡ true → is_hide a ≡ true → ⊥
hide_or_upload action.Upload up hide = false≢true hide
hide_or_upload action.Hide up hide = false≢true up
hide_or_upload action.Start up hide = false≢true up

some_is : (o : Option Retention) (r : Retention) → o ≡ Some r → is_some o ≡ true
some_is o r is = ap is_some is

or_true : (a b : Bool) → b ≡ true → (a || b) ≡ true
or_true true b is = refl
or_true false b is = is

module _ {X : Type 0} where
  pub any_stays : (q p : X → Bool) (xs : List X) → All (λ x. q x ≡ true → p x ≡ true) xs → list_any q xs ≡ true → list_any q (filter p xs) ≡ true
  any_stays q p [] each there = there
  any_stays q p (x ∷ xs) each there =
      here (q x) (p x) refl refl (All-head (λ y. q y ≡ true → p y ≡ true) x xs each) there (any_stays q p xs (All-tail (λ y. q y ≡ true → p y ≡ true) x xs each))
    where
      here : (a b : Bool) → q x ≡ a → p x ≡ b → (q x ≡ true → p x ≡ true) → (a || list_any q xs) ≡ true → (list_any q xs ≡ true → list_any q (filter p xs) ≡ true) → list_any q (if b then x ∷ filter p xs else filter p xs) ≡ true
      here true true is kept stays there rest = rw is refl
      here true false is kept stays there rest = absurd (false≢true (sym kept ∙ stays is))
      here false true is kept stays there rest = rw is (rest there)
      here false false is kept stays there rest = rest there

  pub filter_with : (P : X → Type 0) (p : X → Bool) (xs : List X) → All P xs → All (λ x. P x × (p x ≡ true)) (filter p xs)
  filter_with P p [] each = All-nil _
  filter_with P p (x ∷ xs) each = here (p x) refl (All-head P x xs each) (filter_with P p xs (All-tail P x xs each))
    where
      here : (b : Bool) → p x ≡ b → P x → All (λ y. P y × (p y ≡ true)) (filter p xs) → All (λ y. P y × (p y ≡ true)) (if b then x ∷ filter p xs else filter p xs)
      here true is one rest = All-cons (λ y. P y × (p y ≡ true)) x (filter p xs) (one, is) rest
      here false is one rest = rest

-- ---- locks

module _ {C : Type 0} where
  pub locked_upload : (lock : Lock) (v : VersionOf C) → IsLocked lock v → is_upload v.action ≡ true
  locked_upload on_hold v locked = locked.0
  locked_upload (kept_until n) v locked = locked.0

  -- the retention of a version that is retained up to a moment to come is active
  pub active_for : (n t : ℕ) (v : VersionOf C) (o : Option Retention) → v.retention ≡ o → is_upload v.action ≡ true → IsRetainedTo n o → t < n → (r : Retention) × (active_retention t v ≡ Some r) × (n ≤ r.until)
  active_for n t v None is up retained before = absurd retained
  active_for n t v (Some r) is up retained before =
      let active : is_active t r ≡ true = grind (arith, nat_tests, retained, before) in
      (r, rw (up, is, active) refl, retained)

  pub locked_protected : (lock : Lock) (t : ℕ) (v : VersionOf C) → IsLocked lock v → IsInTime lock t → is_protected t v ≡ true
  locked_protected on_hold t v locked before = rw (locked.0, locked.1) refl
  locked_protected (kept_until n) t v locked before =
      let active = active_for n t v v.retention refl locked.0 locked.1 before in
      or_true (is_held v) (is_some (active_retention t v)) (some_is (active_retention t v) active.0 active.1)

  -- ---- the versions of an id

  abbrev pub IsSame : VersionOf C → VersionOf C → Type 0
  IsSame v w = w ≡ record v { hold = w.hold; retention = w.retention }

  abbrev pub Good : Lock → VersionOf C → VersionOf C → Type 0
  Good lock v w = is_it (id_of v) w ≡ true → IsLocked lock w × IsSame v w

  pub record Keeps (lock : Lock) (v : VersionOf C) (M : State C) : Type 0 where
    pub each : All (Good lock v) M.versions
    pub there : list_any (is_it (id_of v)) M.versions ≡ true
    pub given : v.num < M.next_version

  -- of the same bucket and number, both ways
  pub it_back : (v w : VersionOf C) → is_it (id_of v) w ≡ true → is_it (id_of w) v ≡ true
  it_back v w it =
      let both = both_hold (w.bucket == v.bucket) (w.num == v.num) it in
      let bucket = equal_numbers w.bucket v.bucket both.0 in
      let num = equal_numbers w.num v.num both.1 in
      rw (bucket, num) (holds_both (v.bucket == v.bucket) (v.num == v.num) (same_itself v.bucket) (same_itself v.num))

  pub other_than : (lock : Lock) (v w : VersionOf C) → Good lock v w → (IsLocked lock w → ⊥) → is_it (id_of w) v ≡ false
  other_than lock v w good apart = by_test (is_it (id_of w) v) (λ it. absurd (apart (good (it_back w v it)).0)) (λ no. no)

  pub not_it : (lock : Lock) (v w : VersionOf C) → Good lock v w → (IsLocked lock w → ⊥) → is_it (id_of v) w ≡ false
  not_it lock v w good apart = by_test (is_it (id_of v) w) (λ it. absurd (apart (good it).0)) (λ no. no)

  pub apart_num : (v w : VersionOf C) → v.num < w.num → is_it (id_of v) w ≡ false
  apart_num v w before = by_test (is_it (id_of v) w) (λ it. let same = equal_numbers w.num v.num (both_hold (w.bucket == v.bucket) (w.num == v.num) it).1 in absurd (omega (arith, before, same))) (λ no. no)

  -- ---- one stands, and each is that one

  later_apart : (v w : VersionOf C) (vs : List (VersionOf C)) → is_it (id_of v) w ≡ true → All (λ u. w.num < u.num) vs → All (λ u. is_it (id_of v) u ≡ true → u ≡ w) vs
  later_apart v w vs is later = all_from (λ u. w.num < u.num) (λ u. is_it (id_of v) u ≡ true → u ≡ w) vs (λ u before it.
      let one = equal_numbers w.num v.num (both_hold (w.bucket == v.bucket) (w.num == v.num) is).1 in
      let other = equal_numbers u.num v.num (both_hold (u.bucket == v.bucket) (u.num == v.num) it).1 in
      absurd (omega (arith, one, other, before))) later

  found_only : (v w : VersionOf C) (vs : List (VersionOf C)) → IsAscending (λ u. u.num) vs → find (is_it (id_of v)) vs ≡ Some w → All (λ u. is_it (id_of v) u ≡ true → u ≡ w) vs
  found_only v w [] order is = absurd (none-some w is)
  found_only v w (u ∷ us) order is = here (is_it (id_of v) u) refl is (found_only v w us (pairs_tail (λ a b. a.num < b.num) u us order))
    where
      here : (b : Bool) → is_it (id_of v) u ≡ b → (if b then Some u else find (is_it (id_of v)) us) ≡ Some w → (find (is_it (id_of v)) us ≡ Some w → All (λ z. is_it (id_of v) z ≡ true → z ≡ w) us) → All (λ z. is_it (id_of v) z ≡ true → z ≡ w) (u ∷ us)
      here true passes at rest =
          let same = same_found u w at in
          subst (λ x. All (λ z. is_it (id_of v) z ≡ true → z ≡ x) (u ∷ us)) same
          (All-cons (λ z. is_it (id_of v) z ≡ true → z ≡ u) u us (λ it. refl) (later_apart v u us passes (pairs_head (λ a b. a.num < b.num) u us order)))
      here false passes at rest = All-cons (λ z. is_it (id_of v) z ≡ true → z ≡ w) u us (λ it. absurd (false≢true (sym passes ∙ it))) (rest at)

  pub keeps_from : (lock : Lock) (v : VersionOf C) (M : State C) → IsSound M → Stands lock v M → Keeps lock v M
  keeps_from lock v M sound stands =
      let w = stands.version in
      let only = found_only v w M.versions sound.versions.order stands.there in
      let found = found_has (is_it (id_of v)) (λ u. IsGiven M.next_version u.num) M.versions w sound.versions.given stands.there in
      let num = equal_numbers w.num v.num (both_hold (w.bucket == v.bucket) (w.num == v.num) found.0).1 in
      let given = found.1.1 in
      record {
        each = all_from (λ u. is_it (id_of v) u ≡ true → u ≡ w) (Good lock v) M.versions (λ u is it. subst (λ z. IsLocked lock z × IsSame v z) (sym (is it)) (stands.locked, stands.same)) only;
        there = any_of (is_it (id_of v)) (is_it (id_of v)) M.versions w stands.there found.0;
        given = omega (arith, given, num);
      }

  pub keeps_stands : (lock : Lock) (v : VersionOf C) (M : State C) → Keeps lock v M → Stands lock v M
  keeps_stands lock v M keeps = found_one (find (is_it (id_of v)) M.versions) refl (some_found (is_it (id_of v)) M.versions keeps.there)
    where
      found_one : (o : Option (VersionOf C)) → find (is_it (id_of v)) M.versions ≡ o → is_some o ≡ true → Stands lock v M
      found_one None is there = absurd (false≢true there)
      found_one (Some w) is there =
          let found = found_has (is_it (id_of v)) (Good lock v) M.versions w keeps.each is in
          let good = found.1 found.0 in
          record { version = w; there = is; same = good.1; locked = good.0 }
