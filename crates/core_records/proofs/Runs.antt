-- One more name, and one more bucket, of a pass.
use Rattle.std.proofs.Common.{◌≡◌, ℕ, zero, suc, ◌+◌, ◌<◌, ◌≤◌, ◌==◌, true, IsSome, Some, List, [], ◌∷◌, get_or, length, take, drop, find, subst, sym, ap, ◌∙◌, refl, add-one, drop-cons, arith}
use Rattle.std.specs.Prelude.{if◌then◌else◌, slice_get}
use Rattle.std.proofs.lemmas.List.Sums.{fold_more}
use Rattle.b2_types.specs.declared.bucket.Bucket.{Bucket}
use Rattle.b2_model.specs.Pass.{names_in, pass_names}
use Rattle.b2_model.specs.Rows.{rows}
use Rattle.b2_model.specs.State.{State, bucket_at}
use Rattle.lifecycle_pass.specs.Names.{after_plan}
use Rattle.machine_laws.proofs.PassKeeps.{on_names, pass_each}
use Rattle.bucket_pass.specs.Changes.{after_changes}
use Rattle.bucket_pass.specs.declared.walk.NamePlan.{NamePlan}
use Rattle.core_records.specs.Steps.{HaveRoom}
use Rattle.core_records.proofs.Steps.{next_number, same_buckets}

-- ---- names

room_step : (last next i : ℕ) (xs : List NamePlan) (x : NamePlan) → i < length xs → x ≡ get_or xs i x → HaveRoom last next (drop i xs)
    → (x.plan.hide ≡ true → next ≤ last) × HaveRoom last (if x.plan.hide then next + 1 else next) (drop (i + 1) xs)
room_step last next i xs x within is room =
    let cons : drop i xs ≡ x ∷ drop (suc i) xs = drop-cons xs i x within ∙ ap (λ (y : NamePlan). y ∷ drop (suc i) xs) (sym is) in
    let one : suc i ≡ i + 1 = sym (add-one i) in
    let all : drop i xs ≡ x ∷ drop (i + 1) xs = cons ∙ ap (λ k. x ∷ drop k xs) one in
    subst (HaveRoom last next) all room

-- how far the names of a bucket have come
pub record AreDone {C : Type 0} (t bucket last : ℕ) (xs : List NamePlan) (i : ℕ) (M N : State C) : Type 0 where
  pub state : N ≡ after_changes t bucket (take i xs) M
  pub room : HaveRoom last N.next_version (drop i xs)
  pub stands : IsSome (bucket_at N bucket)

pub one_more_name : {C : Type 0} (t bucket last : ℕ) (xs : List NamePlan) (i : ℕ) (x : NamePlan) (M N O : State C) → i < length xs → x ≡ get_or xs i x
    → AreDone t bucket last xs i M N → O ≡ after_plan t bucket x.name x.plan N → AreDone t bucket last xs (i + 1) M O
one_more_name {C} t bucket last xs i x M N O within is done step =
    let f : State C → NamePlan → State C = λ P c. after_plan t bucket c.name c.plan P in
    let before = after_changes t bucket (take i xs) M in
    let next : O.next_version ≡ (if x.plan.hide then N.next_version + 1 else N.next_version) = ap (λ (P : State C). P.next_version) step ∙ next_number t bucket x.name x.plan N in
    let buckets : O.buckets ≡ N.buckets = ap (λ (P : State C). P.buckets) step ∙ same_buckets t bucket x.name x.plan N in
    record {
      state = step ∙ ap (λ P. f P x) done.state ∙ ap (f before) is ∙ sym (fold_more f M xs i x within);
      room = subst (λ n. HaveRoom last n (drop (i + 1) xs)) (sym next) (room_step last N.next_version i xs x within is done.room).1;
      stands = subst (λ (bs : List Bucket). IsSome (find (λ b. b.num == bucket) bs)) (sym buckets) done.stands;
    }

-- ---- buckets

pub record IsAt (bs : List Bucket) (at : ℕ) : Type 0 where
  pub bucket : Bucket
  pub there : slice_get bs at ≡ Some bucket
  pub left : drop at bs ≡ bucket ∷ drop (at + 1) bs

is_at : (bs : List Bucket) (at : ℕ) → at < length bs → IsAt bs at
is_at [] at within = absurd (omega (arith, within))
is_at (b ∷ bs) zero within = record { bucket = b; there = refl; left = refl }
is_at (b ∷ bs) (suc at) within =
    let rest = is_at bs at (omega (arith, within)) in
    let one : suc at + 1 ≡ suc (at + 1) = omega arith in
    record { bucket = rest.bucket; there = rest.there; left = rest.left ∙ ap (λ k. rest.bucket ∷ drop k (b ∷ bs)) (sym one) }

pub record IsLeft {C : Type 0} (t : ℕ) (bs : List Bucket) (at : ℕ) (N O : State C) : Type 0 where
  pub left : pass_each t (drop (at + 1) bs) O ≡ pass_each t (drop at bs) N
  pub same : O.buckets ≡ bs

pub one_more_bucket : {C : Type 0} (t : ℕ) (bs : List Bucket) (at : ℕ) (N O : State C) → at < length bs → N.buckets ≡ bs
    → ((b : Bucket) → slice_get N.buckets at ≡ Some b → O ≡ pass_names t b (names_in (rows N b.num)) N) → IsLeft t bs at N O
one_more_bucket {C} t bs at N O within same step =
    let here = is_at bs at within in
    let b = here.bucket in
    let next = step b (ap (λ (cs : List Bucket). slice_get cs at) same ∙ here.there) in
    record {
      left = ap (pass_each t (drop (at + 1) bs)) next ∙ sym (ap (λ (cs : List Bucket). pass_each t cs N) here.left);
      same = ap (λ (P : State C). P.buckets) next ∙ ap (λ (P : State C). P.buckets) (on_names t b (names_in (rows N b.num)) N) ∙ same;
    }
