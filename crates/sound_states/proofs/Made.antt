-- The made store is sound.
use Rattle.std.proofs.Common.{◌≡◌, ℕ, ◌<◌, false, [], ◌∷◌, refl, arith}
use Rattle.std.proofs.lemmas.List.Elements.{All-nil, All-cons}
use Rattle.std.proofs.lemmas.List.Kept.{AllPairs-cons}
use Rattle.b2_base.specs.declared.settings.Settings.{Settings}
use Rattle.b2_model.specs.Policy.{is_same_name}
use Rattle.b2_model.specs.Changes.{master_key, state_of_settings, new_store}
use Rattle.sound_states.specs.Sound.{AreKeys, IsSound}
use Rattle.sound_states.proofs.Ascending.{pairs_nil, ascends_nil}
use Rattle.sound_states.proofs.Tokens.{no_tokens, no_flights}

first_keys : (settings : Settings) → AreKeys settings 1 (master_key settings ∷ [])
first_keys settings = record {
  others = [];
  all = refl;
  order = AllPairs-cons (λ a b. a.num < b.num) (master_key settings) [] (All-nil _) (ascends_nil (λ a. a.num));
  given = All-cons (λ k. k.num < 1) (master_key settings) [] (omega arith) (All-nil _);
  first = omega arith;
  last = omega arith;
}

-- the state that the settings begin
pub settings_sound : {C : Type 0} (settings : Settings) (t : ℕ) → IsSound {C = C} (state_of_settings settings t)
settings_sound settings t = record {
  buckets = record { order = ascends_nil (λ a. a.num); given = All-nil _; names = pairs_nil (λ a b. is_same_name a.name b.name ≡ false); rules = All-nil _; first = omega arith; last = omega arith };
  versions = record { order = ascends_nil (λ a. a.num); given = All-nil _; placed = All-nil _; hold = All-nil _; first = omega arith };
  keys = first_keys settings;
  tokens = no_tokens _ 0 (omega arith);
  flights = no_flights [];
  moments = omega arith;
}

pub new_store_sound : {C : Type 0} (settings : Settings) (t : ℕ) → IsSound {C = C} (new_store settings t)
new_store_sound settings t = record {
  buckets = record { order = ascends_nil (λ a. a.num); given = All-nil _; names = pairs_nil (λ a b. is_same_name a.name b.name ≡ false); rules = All-nil _; first = omega arith; last = omega arith };
  versions = record { order = ascends_nil (λ a. a.num); given = All-nil _; placed = All-nil _; hold = All-nil _; first = omega arith };
  keys = first_keys settings;
  tokens = no_tokens _ 0 (omega arith);
  flights = no_flights [];
  moments = omega arith;
}
