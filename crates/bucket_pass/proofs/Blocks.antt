-- The versions of a name in front of those of other names.
use Rattle.std.proofs.Common.{◌≡◌, ℕ, Bool, true, false, not, nat_le, List, [], ◌∷◌, ◌++◌, Option, filter, bytes_eq, subst, sym, ap, ◌∙◌, ⊎_elim, refl}
use Rattle.std.specs.List.{AllByRecursion}
use Rattle.std.proofs.lemmas.Bool.{cases_Bool, false≢true}
use Rattle.std.proofs.lemmas.Slice.Eq.{bytes_eq-Decides}
use Rattle.b2_types.specs.declared.bucket.Bucket.{Bucket}
use Rattle.b2_model.specs.Pass.{names_in, rule_for}
use Rattle.lifecycle_pass.specs.declared.plans.Plan.{Plan}
use Rattle.lifecycle_pass.specs.Buckets.{next_after}
use Rattle.bucket_pass.specs.declared.walk.NamePlan.{NamePlan}
use Rattle.bucket_pass.specs.Changes.{IsPlanFor, change, changed}
use Rattle.bucket_pass.specs.Walked.{V, ArePlansFor, IsPlanned}

module _ {X : Type 0} (p : X → Bool) where
  filter_none : (xs : List X) → AllByRecursion (λ x. p x ≡ false) xs → filter p xs ≡ []
  filter_none [] all = refl
  filter_none (x ∷ xs) all = rw all.0 (filter_none xs all.1)

  all_filter : (P : X → Type 0) (xs : List X) → AllByRecursion P xs → AllByRecursion P (filter p xs)
  all_filter P [] all = tt
  all_filter P (x ∷ xs) all = ⊎_elim
      (λ (is : p x ≡ true). rw is (all.0, all_filter P xs all.1))
      (λ (is : p x ≡ false). rw is (all_filter P xs all.1))
      (cases_Bool (p x))

other_text : (m n : List ℕ) → bytes_eq m n ≡ false → bytes_eq n m ≡ false
other_text m n other = ⊎_elim
    (λ (is : bytes_eq n m ≡ true). absurd (false≢true (sym other ∙ (bytes_eq-Decides m n).1 (sym ((bytes_eq-Decides n m).0 is)))))
    (λ (is : bytes_eq n m ≡ false). is)
    (cases_Bool (bytes_eq n m))

module _ (n : List ℕ) where
  abbrev Named : List V → Type 0
  Named vs = AllByRecursion (λ v. v.name ≡ n) vs

  abbrev NoneNamed : List V → Type 0
  NoneNamed vs = AllByRecursion (λ v. bytes_eq v.name n ≡ false) vs

  abbrev AreOthers : List (List ℕ) → Type 0
  AreOthers names = AllByRecursion (λ m. bytes_eq m n ≡ false) names

  others_in : (vs : List V) → NoneNamed vs → AreOthers (names_in vs)
  others_in [] none = tt
  others_in (v ∷ vs) none = (none.0, all_filter (λ m. not (bytes_eq m v.name)) (λ m. bytes_eq m n ≡ false) (names_in vs) (others_in vs none.1))

  others_stay : (names : List (List ℕ)) → AreOthers names → filter (λ m. not (bytes_eq m n)) names ≡ names
  others_stay [] others = refl
  others_stay (m ∷ names) others = rw others.0 (ap (λ l. m ∷ l) (others_stay names others.1))

  names_of : (v : V) (block rest : List V) → v.name ≡ n → Named block → NoneNamed rest → names_in (v ∷ (block ++ rest)) ≡ n ∷ names_in rest
  names_of v [] rest is all none = subst (λ m. m ∷ filter (λ k. not (bytes_eq k m)) (names_in rest) ≡ n ∷ names_in rest) (sym is) (ap (λ l. n ∷ l) (others_stay (names_in rest) (others_in rest none)))
  names_of v (w ∷ block) rest is all none =
      let inner = names_of w block rest all.0 all.1 none in
      let own : bytes_eq n n ≡ true = (bytes_eq-Decides n n).1 refl in
      let stays : filter (λ k. not (bytes_eq k n)) (n ∷ names_in rest) ≡ names_in rest = rw own (others_stay (names_in rest) (others_in rest none)) in
      subst (λ m. m ∷ filter (λ k. not (bytes_eq k m)) (names_in (w ∷ (block ++ rest))) ≡ n ∷ names_in rest) (sym is)
      (ap (λ l. n ∷ filter (λ k. not (bytes_eq k n)) l) inner ∙ ap (λ l. n ∷ l) stays)

  of_name : (block rest : List V) → Named block → NoneNamed rest → filter (λ v. bytes_eq v.name n) (block ++ rest) ≡ block
  of_name [] rest all none = filter_none (λ v. bytes_eq v.name n) rest none
  of_name (v ∷ block) rest all none = rw ((bytes_eq-Decides v.name n).1 all.0) (ap (λ l. v ∷ l) (of_name block rest all.1 none))

  of_other : (m : List ℕ) → bytes_eq m n ≡ false → (block rest : List V) → Named block → filter (λ v. bytes_eq v.name m) (block ++ rest) ≡ filter (λ v. bytes_eq v.name m) rest
  of_other m other [] rest all = refl
  of_other m other (v ∷ block) rest all =
      let apart : bytes_eq v.name m ≡ false = subst (λ k. bytes_eq k m ≡ false) (sym all.0) (other_text m n other) in
      rw apart (of_other m other block rest all.1)

  carried : (t : ℕ) (bucket : Bucket) (last next : ℕ) (block rest : List V) → Named block → (names : List (List ℕ)) → AreOthers names → (plans : List (Option Plan))
      → ArePlansFor t bucket last next rest names plans → ArePlansFor t bucket last next (block ++ rest) names plans
  carried t bucket last next block rest all [] others plans are = are
  carried t bucket last next block rest all (name ∷ names) others [] are = are
  carried t bucket last next block rest all (name ∷ names) others (plan ∷ plans) are = (
    subst (λ vs. IsPlanFor t (rule_for bucket name) (nat_le next last) vs plan) (sym (of_other name others.0 block rest all)) are.0,
    carried t bucket last (next_after plan next) block rest all names others.1 plans are.1,
  )

  -- the plan of the name, and then those of the others
  pub planned_first : (t : ℕ) (bucket : Bucket) (last next : ℕ) (v : V) (block rest : List V) (plan : Option Plan) (more : List NamePlan) → v.name ≡ n → Named block → NoneNamed rest
      → IsPlanFor t (rule_for bucket n) (nat_le next last) (v ∷ block) plan
      → IsPlanned t bucket last (next_after plan next) rest more → IsPlanned t bucket last next (v ∷ (block ++ rest)) (change n plan ++ more)
  planned_first t bucket last next v block rest plan more is all none drawn p =
      let names = names_of v block rest is all none in
      record {
        plans = plan ∷ p.plans;
        drawn = subst (λ ns. ArePlansFor t bucket last next (v ∷ (block ++ rest)) ns (plan ∷ p.plans)) (sym names) (
          subst (λ vs. IsPlanFor t (rule_for bucket n) (nat_le next last) vs plan) (sym (of_name (v ∷ block) rest (is, all) none)) drawn,
          carried t bucket last (next_after plan next) (v ∷ block) rest (is, all) (names_in rest) (others_in rest none) p.plans p.drawn,
        );
        kept = subst (λ ns. change n plan ++ more ≡ changed ns (plan ∷ p.plans)) (sym names) (ap (λ l. change n plan ++ l) p.kept);
      }
