-- Replays under a change of contents, and replays that go on.
use Rattle.std.proofs.Common.{◌≡◌, ℕ, nat_lt, Bool, true, false, not, ◌&&◌, ◌||◌, List, [], ◌∷◌, ◌++◌, All, Option, Some, None, map, option_map, option_and_then, if◌then◌else◌, refl, ap, ◌∙◌}
use Rattle.b2_types.specs.declared.record.RecordOf.{RecordOf}
use Rattle.b2_types.specs.declared.record.ChangeOf.{ChangeOf}
use Rattle.b2_types.specs.declared.record.ChangeOf.TheVariants as change
use Rattle.b2_model.specs.State.{State}
use Rattle.b2_model.specs.Changes.{state_of_settings}
use Rattle.b2_model.specs.Contents.{state_by, change_by}
use Rattle.b2_model.specs.Stored.{applies_change, is_snap_state, Replayed, applies, replay_one, replay_on, replay_from, replay}
use Rattle.content_laws.proofs.Mapped.{if_under}
use Rattle.contents_agree.specs.ContentsOf.{contents_of}
use Rattle.contents_steps.specs.Entries.{record_by, replayed_by, Entry, AreEntries, entries, entries_by, final_meaning}
use Rattle.contents_steps.proofs.Records.{applies-by, snap-by, record-by}

abbrev replayed_so : {E : Type 0} → State E → Bool → Replayed E
replayed_so N settled = record { state = N; settled = settled }

module _ {C D : Type 0} where
  -- ---- one record

  applies_one : (f g : C → D) (R : Replayed C) (r : RecordOf C) → applies (replayed_by f R) (record_by g r) ≡ applies R r
  applies_one f g R r =
      ap (λ b. b && not (R.settled && (is_snap_state (change_by g r.change) || nat_lt r.at R.state.kept))) (applies-by f g R.state r.change)
      ∙ ap (λ b. applies_change R.state r.change && not (R.settled && (b || nat_lt r.at R.state.kept))) (snap-by g r.change)

  after_one : (f g : C → D) (R : Replayed C) (r : RecordOf C) → All (λ c. f c ≡ g c) (contents_of R.state) → replay_one (replayed_by f R) (record_by g r) ≡ replayed_by g (replay_one R r)
  after_one f g R r agree =
      ap (λ N. replayed_so N (R.settled || is_snap_state (change_by g r.change))) (record-by f g R.state r agree)
      ∙ ap (λ b. replayed_so (state_by g (replay_one R r).state) (R.settled || b)) (snap-by g r.change)

  -- one record, and what follows it
  one_more : (f g h : C → D) (R : Replayed C) (r : RecordOf C) (rs : List (RecordOf C)) (others : List (RecordOf D)) → All (λ c. f c ≡ g c) (contents_of R.state)
      → replay_on (replayed_by g (replay_one R r)) others ≡ option_map (replayed_by h) (replay_on (replay_one R r) rs)
      → replay_on (replayed_by f R) (record_by g r ∷ others) ≡ option_map (replayed_by h) (replay_on R (r ∷ rs))
  one_more f g h R r rs others agree rest =
      ap (λ b. if b then replay_on (replay_one (replayed_by f R) (record_by g r)) others else None) (applies_one f g R r)
      ∙ ap (λ S. if applies R r then replay_on S others else None) (after_one f g R r agree)
      ∙ ap (λ o. if applies R r then o else None) rest
      ∙ if_under (option_map (replayed_by h)) (applies R r) (replay_on (replay_one R r) rs) None

  pub many-by : (f : C → D) (R : Replayed C) (es : List (Entry C D)) → AreEntries f R es → replay_on (replayed_by f R) (entries_by es) ≡ option_map (replayed_by (final_meaning f es)) (replay_on R (entries es))
  many-by f R [] agree = refl
  many-by f R (e ∷ es) agree =
      one_more f e.meaning (final_meaning e.meaning es) R e.entry (entries es) (entries_by es) agree.0 (many-by e.meaning (replay_one R e.entry) es agree.1)

  -- ---- one map

  agrees : (f : C → D) (cs : List C) → All (λ c. f c ≡ f c) cs
  agrees f cs k d within = refl

  on-by : (f : C → D) (R : Replayed C) (rs : List (RecordOf C)) → replay_on (replayed_by f R) (map (record_by f) rs) ≡ option_map (replayed_by f) (replay_on R rs)
  on-by f R [] = refl
  on-by f R (r ∷ rs) = one_more f f f R r rs (map (record_by f) rs) (agrees f (contents_of R.state)) (on-by f (replay_one R r) rs)

  its_state : (f : C → D) (o : Option (Replayed C)) → option_map (λ R. R.state) (option_map (replayed_by f) o) ≡ option_map (state_by f) (option_map (λ R. R.state) o)
  its_state f None = refl
  its_state f (Some R) = refl

  from-by : (f : C → D) (t : ℕ) (ch : ChangeOf C) (rs : List (RecordOf C)) → replay_from t (change_by f ch) (map (record_by f) rs) ≡ option_map (replayed_by f) (replay_from t ch rs)
  from-by f t (change.Settings s) rs = on-by f (record { state = state_of_settings s t; settled = false }) rs
  from-by f t other rs = refl

  pub replay-by : (f : C → D) (rs : List (RecordOf C)) → replay (map (record_by f) rs) ≡ option_map (state_by f) (replay rs)
  replay-by f [] = refl
  replay-by f (r ∷ rs) = ap (option_map (λ R. R.state)) (from-by f r.at r.change rs) ∙ its_state f (replay_from r.at r.change rs)

-- ---- more records

then_if : {X Y : Type 0} (g : X → Option Y) (b : Bool) (o : Option X) → (if b then option_and_then g o else None) ≡ option_and_then g (if b then o else None)
then_if g true o = refl
then_if g false o = refl

module _ {C : Type 0} where
  pub on_more : (R : Replayed C) (rs more : List (RecordOf C)) → replay_on R (rs ++ more) ≡ option_and_then (λ S. replay_on S more) (replay_on R rs)
  on_more R [] more = refl
  on_more R (r ∷ rs) more =
      ap (λ o. if applies R r then o else None) (on_more (replay_one R r) rs more)
      ∙ then_if (λ S. replay_on S more) (applies R r) (replay_on (replay_one R r) rs)

  pub from_more : (t : ℕ) (ch : ChangeOf C) (rs more : List (RecordOf C)) → replay_from t ch (rs ++ more) ≡ option_and_then (λ S. replay_on S more) (replay_from t ch rs)
  from_more t (change.Settings s) rs more = on_more (record { state = state_of_settings s t; settled = false }) rs more
  from_more t other rs more = refl
