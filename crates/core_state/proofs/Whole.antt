-- What every change leaves whole.
use Rattle.std.proofs.Common.{◌≡◌, ℕ, ◌+◌, ◌≤◌, ◌==◌, ◌&&◌, max, Bool, true, false, not, cond, Option, None, Some, IsSome, List, find, filter, map, subst, sym, ap, ◌∙◌, refl}
use Rattle.std.specs.List.{list_any}
use Rattle.std.proofs.lemmas.Bool.{false≢true}
use Rattle.b2_base.specs.declared.extent.Extent.{Extent}
use Rattle.b2_base.specs.declared.numbers.TheConstants.{LAST_VERSION}
use Rattle.b2_base.specs.declared.settings.Settings.{Settings}
use Rattle.b2_types.specs.declared.record.ChangeOf.{ChangeOf}
use Rattle.b2_types.specs.declared.record.RecordOf.{RecordOf}
use Rattle.b2_types.specs.declared.record.VersionId.{VersionId}
use Rattle.b2_types.specs.declared.version.VersionOf.{VersionOf}
use Rattle.b2_model.specs.Changes.{after_change, after_record}
use Rattle.b2_model.specs.Checks.{some_and}
use Rattle.b2_model.specs.Lists.{put_by}
use Rattle.b2_model.specs.State.{State}
use Rattle.b2_model.specs.Stored.{applies_change, may_make, stands}
use Rattle.b2_model.specs.Version.{at_version, with_version, without_version}
use Rattle.sound_states.specs.Sound.{IsFitChange, IsSound}
use Rattle.sound_states.proofs.Records.{may_tells, record_sound}
use Rattle.auth_grants.specs.Tokens.{tokens_of}
use Rattle.core_state.specs.declared.parts.Parts.{Parts}
use Rattle.core_state.specs.View.{IsWhole, state_of}
use Rattle.core_state.proofs.PutBack.{gone_free, put_back}

-- where the tokens and the uploads under way are as before
pub whole_after : (p q : Parts) (r : RecordOf Extent) → IsWhole p → applies_change (state_of p) r.change ≡ true → IsFitChange r.change
    → state_of q ≡ after_record (state_of p) r → q.tokens ≡ p.tokens → tokens_of (after_record (state_of p) r) ≡ tokens_of (state_of p) → q.settings ≡ p.settings → IsWhole q
whole_after p q r whole applies fit is tokens same settings = record {
  sound = subst IsSound (sym is) (record_sound (state_of p) r.at r.change whole.sound applies fit);
  tokens = tokens ∙ whole.tokens ∙ sym same ∙ ap tokens_of (sym is);
  last = subst (λ (s : Settings). s.last_version ≤ LAST_VERSION) (sym settings) whole.last;
}

-- the parts are those after the record
pub record Made (p q : Parts) (t : ℕ) (change : ChangeOf Extent) : Type 0 where
  pub whole : IsWhole q
  pub state : state_of q ≡ after_record (state_of p) (record { at = t; change = change })

-- the state at the moment of a record
abbrev at_record : ℕ → State Extent → State Extent
at_record t M = record M { now = t; kept = t }

-- a change of versions and of their next number
from_state : (p q : Parts) (t : ℕ) (change : ChangeOf Extent) (N : State Extent) → IsWhole p → applies_change (state_of p) change ≡ true → IsFitChange change
    → state_of q ≡ at_record t N → q.tokens ≡ p.tokens → tokens_of (at_record t N) ≡ tokens_of (state_of p) → q.settings ≡ p.settings → N ≡ after_change t change (state_of p) → Made p q t change
from_state p q t change N whole applies fit is tokens same settings after =
    let state = is ∙ ap (at_record t) after in
    record {
      whole = whole_after p q (record { at = t; change = change }) whole applies fit state tokens (ap (λ M. tokens_of (at_record t M)) (sym after) ∙ same) settings;
      state = state;
    }

pub made : (p q : Parts) (t : ℕ) (change : ChangeOf Extent) (v : VersionOf Extent) → IsWhole p → applies_change (state_of p) change ≡ true → IsFitChange change
    → q ≡ record p { now = t; kept = t; versions = put_by (λ w. w.num) v p.versions; next_version = max p.next_version (v.num + 1) }
    → with_version v (state_of p) ≡ after_change t change (state_of p) → Made p q t change
made p q t change v whole applies fit is after = from_state p q t change (with_version v (state_of p)) whole applies fit (ap state_of is) (ap (λ x. x.tokens) is) refl (ap (λ x. x.settings) is) after

-- the number of a version that may be made is free
pub free_of : (p : Parts) (M : State Extent) (bucket num : ℕ) (v : VersionOf Extent) → state_of p ≡ M → may_make M bucket num ≡ true → v.num ≡ num → list_any (λ w. w.num == v.num) p.versions ≡ false
free_of p M bucket num v is may same = subst (λ n. list_any (λ w. w.num == n) p.versions ≡ false) (sym same) (may_tells (state_of p) bucket num (subst (λ N. may_make N bucket num ≡ true) (sym is) may)).free

-- ---- a version that stands

stands_some : (test : VersionOf Extent → Bool) (o : Option (VersionOf Extent)) → some_and test o ≡ true → IsSome o
stands_some test None is = absurd (false≢true is)
stands_some test (Some v) is = refl

pub there : (p : Parts) (M : State Extent) (id : VersionId) (test : VersionOf Extent → Bool) → state_of p ≡ M → stands M id test ≡ true → IsSome (find (λ v. v.bucket == id.bucket && v.num == id.num) p.versions)
there p M id test is stand = stands_some test (find (λ v. v.bucket == id.bucket && v.num == id.num) p.versions) (subst (λ N. stands N id test ≡ true) (sym is) stand)

-- it is taken out
pub gone : (p q : Parts) (t : ℕ) (change : ChangeOf Extent) (id : VersionId) → IsWhole p → applies_change (state_of p) change ≡ true → IsFitChange change
    → q ≡ record p { now = t; kept = t; versions = filter (λ v. not (v.bucket == id.bucket && v.num == id.num)) p.versions }
    → without_version id (state_of p) ≡ after_change t change (state_of p) → Made p q t change
gone p q t change id whole applies fit is after = from_state p q t change (without_version id (state_of p)) whole applies fit (ap state_of is) (ap (λ x. x.tokens) is) refl (ap (λ x. x.settings) is) after

-- it is taken out, and put back in another form
pub changed : (p m q : Parts) (t : ℕ) (change : ChangeOf Extent) (id : VersionId) (f : VersionOf Extent → VersionOf Extent) (v u : VersionOf Extent) → IsWhole p → applies_change (state_of p) change ≡ true → IsFitChange change
    → find (λ w. w.bucket == id.bucket && w.num == id.num) p.versions ≡ Some v
    → m ≡ record p { versions = filter (λ w. not (w.bucket == id.bucket && w.num == id.num)) p.versions }
    → u.num ≡ id.num → u ≡ f v
    → q ≡ record m { now = t; kept = t; versions = put_by (λ w. w.num) u m.versions }
    → at_version id f (state_of p) ≡ after_change t change (state_of p) → Made p q t change
changed p m q t change id f v u whole applies fit found less num is more after =
    let back = put_back id.bucket id.num f v u p.versions whole.sound.versions.order found num is in
    let all : q ≡ record p { now = t; kept = t; versions = map (λ w. cond (w.bucket == id.bucket && w.num == id.num) (f w) w) p.versions } =
    more ∙ ap (λ (x : Parts). record x { now = t; kept = t; versions = put_by (λ w. w.num) u x.versions }) less
    ∙ ap (λ (vs : List (VersionOf Extent)). record p { now = t; kept = t; versions = vs }) back in
    from_state p q t change (at_version id f (state_of p)) whole applies fit (ap state_of all) (ap (λ x. x.tokens) all) refl (ap (λ x. x.settings) all) after

-- its number is free meanwhile
pub free_again : (p m : Parts) (id : VersionId) (v u : VersionOf Extent) → IsWhole p
    → find (λ w. w.bucket == id.bucket && w.num == id.num) p.versions ≡ Some v
    → m ≡ record p { versions = filter (λ w. not (w.bucket == id.bucket && w.num == id.num)) p.versions }
    → u.num ≡ id.num → list_any (λ w. w.num == u.num) m.versions ≡ false
free_again p m id v u whole found less num =
    subst (λ n. list_any (λ w. w.num == n) m.versions ≡ false) (sym num)
    (subst (λ (x : Parts). list_any (λ w. w.num == id.num) x.versions ≡ false) (sym less) (gone_free id.bucket id.num p.versions v whole.sound.versions.order found))
