-- A snapshot's replay is the state that it was taken of.
use Rattle.std.proofs.Common.{◌≡◌, ℕ, ◌<◌, ◌≤◌, ◌==◌, nat_le, true, not, ◌&&◌, List, [], ◌∷◌, ◌++◌, All, Option, Some, None, map, filter, option_map, if◌then◌else◌, refl, sym, ap, subst, ◌∙◌, arith, append_assoc}
use Rattle.std.specs.List.{AllPairs, flat_map}
use Rattle.std.proofs.lemmas.Bool.Decides.{nat_tests}
use Rattle.b2_types.specs.declared.key.Key.{Key}
use Rattle.b2_types.specs.declared.record.RecordOf.{RecordOf}
use Rattle.b2_types.specs.declared.record.ChangeOf.TheVariants as change
use Rattle.b2_model.specs.State.{State}
use Rattle.b2_model.specs.Changes.{master_key, state_of_settings}
use Rattle.b2_model.specs.Stored.{Replayed, replay_on, replay, record_at, numbers_of, version_records, snapshot, stored_part}
use Rattle.sound_states.specs.Sound.{IsSound}
use Rattle.sound_states.proofs.Ascending.{all_from, pairs_head}
use Rattle.sound_states.proofs.Tests.{holds_both, not_equal}
use Rattle.snapshot_laws.proofs.Ends.{filter_all}
use Rattle.snapshot_laws.proofs.Replayed.{before_numbers, partial, buckets_on, keys_on}
use Rattle.snapshot_laws.proofs.ReplayedVersions.{versions_on}

-- the keys but the master key
other_keys : (m : Key) (ks others : List Key) → m.num ≡ 0 → ks ≡ m ∷ others → AllPairs (λ a b. a.num < b.num) ks → (All (λ k. 0 < k.num) others) × (filter (λ k. not (k.num == 0)) ks ≡ others)
other_keys m ks others zero is order =
    let later = pairs_head (λ a b. a.num < b.num) m others (subst (AllPairs (λ a b. a.num < b.num)) is order) in
    let above = all_from (λ k. m.num < k.num) (λ k. 0 < k.num) others (λ k lt. omega (arith, lt, zero)) later in
    let master : (m.num == 0) ≡ true = grind (arith, nat_tests, zero) in (
      above,
      ap (filter (λ k. not (k.num == 0))) is
          ∙ ap (λ b. if not b then m ∷ filter (λ k. not (k.num == 0)) others else filter (λ k. not (k.num == 0)) others) master
          ∙ filter_all (λ k. not (k.num == 0)) others
          (all_from (λ k. 0 < k.num) (λ k. not (k.num == 0) ≡ true) others (λ k lt. ap not (not_equal k.num 0 (λ same. absurd (omega (arith, lt, same))))) above),
    )

at_least : (m n : ℕ) → m ≤ n → nat_le m n ≡ true
at_least m n le = grind (arith, nat_tests, le)

module _ {C : Type 0} where
  -- the numbers come last
  numbers_on : (M : State C) (at buckets_next keys_next versions_next : ℕ) → buckets_next ≤ M.next_bucket → keys_next ≤ M.next_key → versions_next ≤ M.next_version
      → replay_on (before_numbers (partial M.settings at buckets_next keys_next versions_next M.buckets M.versions M.keys)) (record_at M.kept (change.SnapState (numbers_of (stored_part M))) ∷ [])
      ≡ Some (record { state = stored_part M; settled = true })
  numbers_on M at buckets_next keys_next versions_next first second third =
      let applies : (nat_le buckets_next M.next_bucket && nat_le keys_next M.next_key && nat_le versions_next M.next_version) ≡ true =
      holds_both (nat_le buckets_next M.next_bucket && nat_le keys_next M.next_key) (nat_le versions_next M.next_version)
      (holds_both (nat_le buckets_next M.next_bucket) (nat_le keys_next M.next_key) (at_least buckets_next M.next_bucket first) (at_least keys_next M.next_key second))
      (at_least versions_next M.next_version third) in
      ap {B = Option (Replayed C)} (λ b. if b && true then Some (record { state = stored_part M; settled = true }) else None) applies

  flat : (bs vs ks last : List (RecordOf C)) → ((bs ++ vs) ++ ks) ++ last ≡ bs ++ (vs ++ (ks ++ last))
  flat bs vs ks last = append_assoc (bs ++ vs) ks last ∙ append_assoc bs vs (ks ++ last)

  -- what follows the settings, and the whole snapshot
  abbrev pub entries_after : State C → List (RecordOf C)
  entries_after S =
      map (λ b. record_at S.now (change.BucketMake b)) S.buckets
      ++ flat_map version_records S.versions
      ++ map (λ k. record_at S.now (change.KeyMake k)) (filter (λ k. not (k.num == 0)) S.keys)
      ++ record_at S.now (change.SnapState (numbers_of S)) ∷ []

  -- the numbers have come by its end
  pub settles : (M : State C) → IsSound M → replay_on (before_numbers (state_of_settings M.settings M.kept)) (entries_after (stored_part M)) ≡ Some (record { state = stored_part M; settled = true })
  settles M sound =
      let t = M.kept in
      let G : Option (Replayed C) = Some (record { state = stored_part M; settled = true }) in
      let making : List (RecordOf C) = map (λ b. record_at t (change.BucketMake b)) M.buckets in
      let versions : List (RecordOf C) = flat_map version_records M.versions in
      let keys : List Key → List (RecordOf C) = λ ks. map (λ k. record_at t (change.KeyMake k)) ks in
      let numbers : List (RecordOf C) = record_at t (change.SnapState (numbers_of (stored_part M))) ∷ [] in
      let others = other_keys (master_key M.settings) M.keys sound.keys.others refl sound.keys.all sound.keys.order in
      let begins = before_numbers (partial {C = C} M.settings t 1 1 1 [] [] (master_key M.settings ∷ [])) in
      ap (replay_on begins) (flat making versions (keys (filter (λ k. not (k.num == 0)) M.keys)) numbers)
      ∙ ap (λ ks. replay_on begins (making ++ (versions ++ (keys ks ++ numbers)))) others.1
      ∙ buckets_on M.settings t M.next_bucket M.buckets sound.buckets (master_key M.settings ∷ []) (versions ++ (keys sound.keys.others ++ numbers)) G [] M.buckets 1 refl sound.buckets.first (λ buckets_next few_buckets.
      versions_on M.settings buckets_next 1 M.next_version M.buckets (master_key M.settings ∷ []) M.versions sound.versions (keys sound.keys.others ++ numbers) G [] M.versions t 1 refl sound.versions.first (λ at versions_next few_versions.
      keys_on M.settings t buckets_next M.next_key versions_next M.buckets M.versions M.keys sound.keys numbers G at (master_key M.settings ∷ []) sound.keys.others 1 (sym sound.keys.all) others.0 sound.keys.first (λ at keys_next few_keys.
      numbers_on M at buckets_next keys_next versions_next few_buckets few_keys few_versions)))

  pub replays : (M : State C) → IsSound M → replay (snapshot (stored_part M)) ≡ Some (stored_part M)
  replays M sound = ap (option_map (λ R. R.state)) (settles M sound)
