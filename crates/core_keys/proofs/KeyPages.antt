-- Pages of keys from a number on.
use Rattle.std.proofs.Common.{◌≡◌, ℕ, ◌<◌, ◌==◌, min, nat_le, not, Bool, List, [], ◌∷◌, All, Option, filter, map, option_map, unwrap_or, refl, sym, ap, ◌∙◌, arith}
use Rattle.std.proofs.lemmas.Bool.Decides.{nat_tests}
use Rattle.std.specs.List.{AllByRecursion}
use Rattle.std.proofs.lemmas.List.Elements.{All-cons, All-filter, All-head, All-nil, All-tail}
use Rattle.b2_base.specs.declared.extent.Extent.{Extent}
use Rattle.b2_types.specs.KeyId.{key_id}
use Rattle.b2_types.specs.declared.call.ListKeys.{ListKeys}
use Rattle.b2_types.specs.declared.key.Key.{Key}
use Rattle.b2_types.specs.declared.shown.Shown.TheVariants as shown
use Rattle.b2_types.specs.declared.shown.ShownKey.{ShownKey}
use Rattle.b2_model.specs.AskKeys.{key_number, list_keys}
use Rattle.b2_model.specs.Pages.{Page, keys_page, most_rows, page_of, page_size}
use Rattle.b2_model.specs.Plan.{number_end, shows}
use Rattle.b2_model.specs.Shown.{shown_key}
use Rattle.b2_model.specs.State.{State}
use Rattle.sound_states.specs.Sound.{IsSound}
use Rattle.sound_states.proofs.Ascending.{all_from}

filter_same : {X : Type 0} (p q : X → Bool) (xs : List X) → All (λ x. p x ≡ q x) xs → filter p xs ≡ filter q xs
filter_same p q [] each = refl
filter_same p q (x ∷ xs) each = rw (All-head (λ x. p x ≡ q x) x xs each, filter_same p q xs (All-tail (λ x. p x ≡ q x) x xs each)) refl

-- a number past all others leaves none, as the last does
same_from : (n e k : ℕ) → k < e → nat_le (min n e) k ≡ nat_le n k
same_from n e k small = grind (arith, nat_tests, small)

pub same_page : (M : State Extent) (n : ℕ) (most : Option ℕ) → IsSound M → keys_page M (min n number_end) most ≡ keys_page M n most
same_page M n most sound =
    let last = sound.keys.last in
    let others = filter (λ (k : Key). not (k.num == 0)) M.keys in
    ap (page_of (page_size most_rows most))
    (filter_same (λ (k : Key). nat_le (min n number_end) k.num) (λ k. nat_le n k.num) others
    (All-filter (λ (k : Key). not (k.num == 0)) (λ k. nat_le (min n number_end) k.num ≡ nat_le n k.num) M.keys
    (all_from (λ (k : Key). k.num < M.next_key) (λ k. nat_le (min n number_end) k.num ≡ nat_le n k.num) M.keys (λ k given. same_from n number_end k.num (omega (arith, given, last))) sound.keys.given)))

pub all_by : {X : Type 0} (P : X → Type 0) (xs : List X) → AllByRecursion P xs → All P xs
all_by P [] each = All-nil P
all_by P (x ∷ xs) each = All-cons P x xs each.0 (all_by P xs each.1)

-- what is shown is the page
pub shows_page : (M : State Extent) (q : ListKeys) (P : Page Key) (rows : List ShownKey) (next : Option (List ℕ)) → P ≡ keys_page M (unwrap_or (option_map key_number q.start) 0) q.max
    → rows ≡ map (shown_key q.version M.settings) P.rows → next ≡ option_map (λ k. key_id M.settings.account k.num) P.next → list_keys M q ≡ shows [] (shown.Keys rows next)
shows_page M q P rows next page_is rows_are next_is = sym
    (ap (λ r. shows [] (shown.Keys r next)) rows_are
    ∙ ap (λ o. shows [] (shown.Keys (map (shown_key q.version M.settings) P.rows) o)) next_is
    ∙ ap (λ (p : Page Key). shows [] (shown.Keys (map (shown_key q.version M.settings) p.rows) (option_map (λ k. key_id M.settings.account k.num) p.next))) page_is)
