-- Changes of keys keep them sound.
use Rattle.std.proofs.Common.{◌≡◌, ℕ, ◌+◌, ◌<◌, ◌≤◌, ◌==◌, max, nat_lt, Bool, true, false, not, List, ◌∷◌, filter, refl, ap, ◌∙◌, arith}
use Rattle.std.specs.List.{list_any}
use Rattle.std.proofs.lemmas.Bool.Decides.{nat_tests}
use Rattle.std.proofs.lemmas.List.Elements.{All-filter}
use Rattle.std.proofs.lemmas.List.Kept.{AllPairs-filter}
use Rattle.b2_base.specs.declared.settings.Settings.{Settings}
use Rattle.b2_types.specs.declared.key.Key.{Key}
use Rattle.b2_model.specs.Lists.{put_by}
use Rattle.b2_model.specs.Plan.{number_end}
use Rattle.b2_model.specs.Changes.{master_key}
use Rattle.sound_states.specs.Sound.{AreKeys}
use Rattle.sound_states.proofs.Ascending.{put_all, put_ascends, not_among}

put_after : (m k : Key) (ks : List Key) → nat_lt k.num m.num ≡ false → put_by (λ a. a.num) k (m ∷ ks) ≡ m ∷ put_by (λ a. a.num) k ks
put_after m k ks after = rw after refl

kept_first : (m : Key) (p : Key → Bool) (ks : List Key) → p m ≡ true → filter p (m ∷ ks) ≡ m ∷ filter p ks
kept_first m p ks keeps = rw keeps refl

pub made : (settings : Settings) (next : ℕ) (ks : List Key) (k : Key) → AreKeys settings next ks → 0 < k.num → k.num < number_end → list_any (λ a. a.num == k.num) ks ≡ false
    → AreKeys settings (max next (k.num + 1)) (put_by (λ a. a.num) k ks)
made settings next ks k sound above below free =
    let first = sound.first in
    let last = sound.last in
    let after : nat_lt k.num 0 ≡ false = grind (arith, nat_tests) in
    record {
      others = put_by (λ a. a.num) k sound.others;
      all = ap (put_by (λ a. a.num) k) sound.all ∙ put_after (master_key settings) k sound.others after;
      order = put_ascends (λ a. a.num) k ks sound.order (not_among (λ a. a.num) k.num ks free);
      given = put_all (λ a. a.num) (λ a. a.num < max next (k.num + 1)) k ks (omega arith) (λ i d within. let old = sound.given i d within in omega (arith, old));
      first = omega (arith, first);
      last = omega (arith, last, below);
    }

pub dropped : (settings : Settings) (next n : ℕ) (ks : List Key) → AreKeys settings next ks → 0 < n → AreKeys settings next (filter (λ k. not (k.num == n)) ks)
dropped settings next n ks sound above =
    let other : (0 == n) ≡ false = grind (arith, nat_tests, above) in
    record {
      others = filter (λ k. not (k.num == n)) sound.others;
      all = ap (filter (λ k. not (k.num == n))) sound.all ∙ kept_first (master_key settings) (λ k. not (k.num == n)) sound.others (ap not other);
      order = AllPairs-filter (λ a b. a.num < b.num) (λ k. not (k.num == n)) ks sound.order;
      given = All-filter (λ k. not (k.num == n)) (λ a. a.num < next) ks sound.given;
      first = sound.first;
      last = sound.last;
    }

pub renumbered : (settings : Settings) (next more : ℕ) (ks : List Key) → next ≤ more → more ≤ number_end → AreKeys settings next ks → AreKeys settings more ks
renumbered settings next more ks rises last sound =
    let first = sound.first in
    record {
      others = sound.others;
      all = sound.all;
      order = sound.order;
      given = λ k d within. let old = sound.given k d within in omega (arith, old, rises);
      first = omega (arith, first, rises);
      last = last;
    }
