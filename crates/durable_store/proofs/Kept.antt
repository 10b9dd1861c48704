-- What is owned after a record.
use Rattle.std.proofs.Common.{◌≡◌, ℕ, List, ◌++◌, None, true, refl, sym, ap, subst}
use Rattle.std.specs.List.Sorted.{IsPermutation}
use Rattle.std.proofs.lemmas.List.{append_assoc}
use Rattle.std.proofs.lemmas.List.Sorted.{IsPermutation-append, IsPermutation-append_comm, IsPermutation-append_left, IsPermutation-refl, IsPermutation-trans}
use Rattle.b2_base.specs.declared.extent.Extent.{Extent}
use Rattle.b2_base.specs.declared.settings.Settings.{Settings}
use Rattle.b2_types.specs.declared.record.RecordOf.{RecordOf}
use Rattle.b2_model.specs.State.{State}
use Rattle.b2_model.specs.Changes.{after_record, state_of_settings}
use Rattle.b2_model.specs.Contents.{state_by}
use Rattle.b2_model.specs.UploadSteps.{flight_of}
use Rattle.b2_model.specs.Stored.{applies_change}
use Rattle.sound_states.specs.Sound.{IsSound}
use Rattle.contents_agree.specs.ContentsOf.{brought, contents_of}
use Rattle.core_records.specs.GivenUp.{AreGivenUp}
use Rattle.given_up.proofs.Changes.{record_conserves}
use Rattle.disk_model.specs.State.{DiskState}
use Rattle.stored_contents.specs.declared.contents.Contents.{Contents}
use Rattle.stored_contents.specs.Held.{Holding, IsHeld, none_held}
use Rattle.stored_contents.proofs.Orders.{held_in_order}
use Rattle.durable_store.specs.Store.{IsStore, IsUnderWay, none_came, none_read}

-- what is owned in some order
pub moved : (t : Contents) (d : DiskState) (h : Holding) (owned other : List Extent) → h.owned ≡ owned → IsPermutation owned other → IsHeld t d h → IsHeld t d (record h { owned = other })
moved t d h owned other is order held = held_in_order t d h other (subst (λ xs. IsPermutation xs other) (sym is) order) held

-- what a record brings and what stood before is what it gives up and what stands after
pub conserved_by : (M N : State Extent) (r : RecordOf Extent) (freed : List Extent) → IsSound M → (applies_change M r.change ≡ true) × (N ≡ after_record M r) × AreGivenUp r.change M N freed
    → IsPermutation (brought r.change ++ contents_of M) (freed ++ contents_of N)
conserved_by M N r freed sound done =
    let P : State Extent → Type 0 = λ X. IsPermutation (brought r.change ++ contents_of M) (freed ++ contents_of X) in
    subst P (sym done.1) (record_conserves M r freed sound done.0 (subst (λ X. AreGivenUp r.change M X freed) done.1 done.2))

-- with others beside, of which what is given up is told first
pub beside : (others before freed after : List Extent) → IsPermutation before (freed ++ after) → IsPermutation (others ++ before) (freed ++ (others ++ after))
beside others before freed after order =
    let first : IsPermutation (others ++ before) (others ++ (freed ++ after)) = IsPermutation-append others others before (freed ++ after) (IsPermutation-refl others) order in
    let front : IsPermutation (others ++ freed ++ after) (freed ++ others ++ after) = IsPermutation-append_left after (others ++ freed) (freed ++ others) (IsPermutation-append_comm others freed) in
    IsPermutation-trans (others ++ before) (others ++ (freed ++ after)) (freed ++ (others ++ after)) first
    (subst (λ xs. IsPermutation xs (freed ++ (others ++ after))) (append_assoc others freed after) (subst (IsPermutation (others ++ freed ++ after)) (append_assoc freed others after) front))

-- nothing is owned by the state that settings begin
pub new_store : (M : State Extent) (t : Contents) (d : DiskState) (settings : Settings) (at : ℕ) {meaning : Extent → List ℕ} → IsHeld t d (none_held meaning) → M ≡ state_of_settings settings at
    → IsStore (record { core = M; contents = t }) d (state_of_settings settings at) none_came none_read
new_store M t d settings at {meaning} held is = record {
  holding = none_held meaning;
  kept = record { held = held; owned = sym (ap contents_of is) };
  state = sym (ap (state_by meaning) is);
  uploads = λ c conn. subst (λ N. IsUnderWay (flight_of N c) None None) (sym is) refl;
  readers = λ c conn. refl;
}
