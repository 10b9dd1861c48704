-- The steps of a pass leave the state whole.
use Rattle.std.proofs.Common.{◌≡◌, ℕ, ◌+◌, ◌≤◌, ◌<◌, ◌/◌, ◌==◌, max, true, false, not, ◌&&◌, IsSome, List, [], ◌∷◌, filter, map, subst, sym, ap, ◌∙◌, refl, arith}
use Rattle.std.specs.List.{list_any}
use Rattle.std.specs.Option.{is_some}
use Rattle.b2_base.specs.declared.extent.Extent.{Extent}
use Rattle.b2_base.specs.declared.numbers.TheConstants.{LAST_VERSION}
use Rattle.b2_base.specs.declared.settings.Settings.{Settings}
use Rattle.b2_types.specs.declared.key.Grant.{Grant}
use Rattle.b2_types.specs.declared.record.ChangeOf.TheVariants as change
use Rattle.b2_types.specs.declared.record.VersionId.{VersionId}
use Rattle.b2_types.specs.declared.version.VersionOf.{VersionOf}
use Rattle.b2_model.specs.Kinds.{day}
use Rattle.b2_model.specs.Lists.{put_by}
use Rattle.b2_model.specs.Pass.{without_old_grants}
use Rattle.b2_model.specs.State.{State, bucket_at}
use Rattle.b2_model.specs.Stored.{may_make, numbers_of}
use Rattle.b2_model.specs.Version.{is_it, marker, with_version, without_version}
use Rattle.sound_states.specs.Sound.{IsGiven, IsSound}
use Rattle.sound_states.proofs.Ascending.{all_from}
use Rattle.sound_states.proofs.Passed.{free_number}
use Rattle.sound_states.proofs.Records.{record_sound}
use Rattle.sound_states.proofs.Tests.{holds_both, not_equal}
use Rattle.sound_states.proofs.Tokens.{fewer_tokens, is_kept, kept_flights, tokens_later}
use Rattle.sound_states.proofs.Versions.{fewer}
use Rattle.auth_grants.specs.Tokens.{Tokens, grants_of, held_of, tokens_of}
use Rattle.core_state.specs.declared.parts.Parts.{Parts}
use Rattle.core_state.specs.View.{IsWhole, state_of}

-- the parts are this state
pub record WholeAs (q : Parts) (N : State Extent) : Type 0 where
  pub whole : IsWhole q
  pub state : state_of q ≡ N

-- where the tokens and the uploads under way are as before
as_whole : (p q : Parts) (N : State Extent) → IsWhole p → state_of q ≡ N → q.tokens ≡ p.tokens → tokens_of N ≡ tokens_of (state_of p) → q.settings ≡ p.settings → IsSound N → WholeAs q N
as_whole p q N whole is tokens same settings sound = record {
  whole = record {
    sound = subst IsSound (sym is) sound;
    tokens = tokens ∙ whole.tokens ∙ sym same ∙ ap tokens_of (sym is);
    last = subst (λ (s : Settings). s.last_version ≤ LAST_VERSION) (sym settings) whole.last;
  };
  state = is;
}

-- ---- a version goes

less_sound : (M : State Extent) (id : VersionId) → IsSound M → IsSound (without_version id M)
less_sound M id sound = record {
  buckets = sound.buckets;
  versions = fewer M.buckets M.next_version (λ v. not (is_it id v)) M.versions sound.versions;
  keys = sound.keys;
  tokens = sound.tokens;
  flights = sound.flights;
  moments = sound.moments;
}

pub taken_out : (p q : Parts) (id : VersionId) → IsWhole p
    → q ≡ record p { versions = filter (λ v. not (v.bucket == id.bucket && v.num == id.num)) p.versions } → WholeAs q (without_version id (state_of p))
taken_out p q id whole is =
    as_whole p q (without_version id (state_of p)) whole (ap state_of is) (ap (λ x. x.tokens) is) refl (ap (λ x. x.settings) is) (less_sound (state_of p) id whole.sound)

-- ---- a name is hidden

-- the next number is free
pub next_free : (M : State Extent) → IsSound M → list_any (λ v. v.num == M.next_version) M.versions ≡ false
next_free M sound =
    free_number (λ v. v.num) M.next_version M.versions
    (all_from (λ v. IsGiven M.next_version v.num) (λ v. v.num < M.next_version) M.versions (λ v given. given.1) sound.versions.given)

may_hide : (M : State Extent) (bucket : ℕ) → IsSound M → IsSome (bucket_at M bucket) → may_make M bucket M.next_version ≡ true
may_hide M bucket sound stands =
    let first = sound.versions.first in
    let some : is_some (bucket_at M bucket) ≡ true = stands in
    let positive : not (M.next_version == 0) ≡ true = ap not (not_equal M.next_version 0 (λ same. absurd (omega (arith, first, same)))) in
    holds_both (is_some (bucket_at M bucket) && not (M.next_version == 0)) (not (list_any (λ v. v.num == M.next_version) M.versions))
    (holds_both (is_some (bucket_at M bucket)) (not (M.next_version == 0)) some positive) (ap not (next_free M sound))

hidden_sound : (M : State Extent) (t bucket : ℕ) (name : List ℕ) → IsSound M → IsSome (bucket_at M bucket) → IsSound (with_version (marker bucket M.next_version name t) M)
hidden_sound M t bucket name sound stands =
    let made = record_sound M t (change.Hide (record { bucket = bucket; num = M.next_version }) name) sound (may_hide M bucket sound stands) tt in
    record {
      buckets = made.buckets;
      versions = made.versions;
      keys = made.keys;
      tokens = made.tokens;
      flights = made.flights;
      moments = sound.moments;
    }

pub hidden : (p m q : Parts) (t bucket num : ℕ) (name : List ℕ) (v : VersionOf Extent) → IsWhole p → IsSome (bucket_at (state_of p) bucket)
    → num ≡ p.next_version → v ≡ marker bucket num name t
    → m ≡ record p { now = t; kept = t; versions = put_by (λ w. w.num) v p.versions; next_version = max p.next_version (v.num + 1) }
    → q ≡ record m { now = p.now; kept = p.kept } → WholeAs q (with_version (marker bucket p.next_version name t) (state_of p))
hidden p m q t bucket num name v whole stands next made more still =
    let is : v ≡ marker bucket p.next_version name t = made ∙ ap (λ n. marker bucket n name t) next in
    let before : q ≡ record p { versions = put_by (λ w. w.num) v p.versions; next_version = max p.next_version (v.num + 1) } =
    still ∙ ap (λ (x : Parts). record x { now = p.now; kept = p.kept }) more in
    let all : q ≡ record p { versions = put_by (λ w. w.num) (marker bucket p.next_version name t) p.versions; next_version = max p.next_version (p.next_version + 1) } =
    before ∙ ap (λ (w : VersionOf Extent). record p { versions = put_by (λ x. x.num) w p.versions; next_version = max p.next_version (w.num + 1) }) is in
    as_whole p q (with_version (marker bucket p.next_version name t) (state_of p)) whole (ap state_of all) (ap (λ x. x.tokens) all) refl (ap (λ x. x.settings) all)
    (hidden_sound (state_of p) t bucket name whole.sound stands)

pub its_number_free : (p : Parts) (bucket num t : ℕ) (name : List ℕ) (v : VersionOf Extent) → IsWhole p → num ≡ p.next_version → v ≡ marker bucket num name t
    → list_any (λ w. w.num == v.num) p.versions ≡ false
its_number_free p bucket num t name v whole next made =
    subst (λ n. list_any (λ (w : VersionOf Extent). w.num == n) p.versions ≡ false) (sym (ap (λ (w : VersionOf Extent). w.num) made ∙ next)) (next_free (state_of p) whole.sound)

-- ---- the end of a pass

grants_kept : (M : State Extent) (gs : List Grant) → grants_of (map (held_of M) gs) ≡ gs
grants_kept M [] = refl
grants_kept M (g ∷ gs) = ap (λ l. g ∷ l) (grants_kept M gs)

abbrev pub ended_at : ℕ → State Extent → State Extent
ended_at t M = record (without_old_grants t (record M { pass_day = t / day })) { now = t; kept = t }

ended_sound : (M : State Extent) (t : ℕ) → IsSound M → IsSound (ended_at t M)
ended_sound M t sound = record {
  buckets = sound.buckets;
  versions = sound.versions;
  keys = sound.keys;
  tokens = fewer_tokens (numbers_of (ended_at t M)) M.serial (is_kept t M.flights) M.grants
      (tokens_later (numbers_of M) (numbers_of (ended_at t M)) M.serial M.grants (record { boot = refl; buckets = omega arith; keys = omega arith; versions = omega arith }) sound.tokens);
  flights = kept_flights t M.grants M.flights sound.flights;
  moments = omega arith;
}

pub ended : (p q : Parts) (t : ℕ) (T : Tokens) → IsWhole p → T ≡ tokens_of (without_old_grants t (state_of p))
    → q ≡ record p { now = t; kept = t; pass_day = t / day; tokens = T } → WholeAs q (ended_at t (state_of p))
ended p q t T whole swept is =
    let M = state_of p in
    let grants : grants_of T.held ≡ (without_old_grants t M).grants = ap (λ (U : Tokens). grants_of U.held) swept ∙ grants_kept (without_old_grants t M) (without_old_grants t M).grants in
    let serial : T.serial ≡ M.serial = ap (λ (U : Tokens). U.serial) swept in
    let with_serial : ℕ → State Extent = λ n. record (ended_at t M) { serial = n; grants = grants_of T.held } in
    let with_grants : List Grant → State Extent = λ gs. record (ended_at t M) { grants = gs } in
    let state : state_of q ≡ ended_at t M = ap state_of is ∙ ap with_serial serial ∙ ap with_grants grants in
    record {
      whole = record {
        sound = subst IsSound (sym state) (ended_sound M t whole.sound);
        tokens = ap (λ (x : Parts). x.tokens) is ∙ swept ∙ ap tokens_of (sym state);
        last = subst (λ (s : Settings). s.last_version ≤ LAST_VERSION) (sym (ap (λ (x : Parts). x.settings) is)) whole.last;
      };
      state = state;
    }
