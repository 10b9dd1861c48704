-- The upload of one number changes, and no other.
use Rattle.std.proofs.Common.{◌≡◌, ◌⊎◌, inl, inr, ℕ, nat_eq, Bool, true, false, cond, List, Option, None, refl, sym, ap, ◌∙◌, subst}
use Rattle.std.specs.Map.{update, lookup}
use Rattle.std.specs.BTreeMap.{UpdatesBy, is_at}
use Rattle.std.specs.Ordering.{nat_cmp}
use Rattle.std.specs.Cmp.{unsigned_tied}
use Rattle.std.proofs.lemmas.Bool.{cases_eq, eq-eqb, ne_eqb}
use Rattle.stored_contents.specs.declared.contents.Contents.{Contents}
use Rattle.stored_contents.specs.declared.incoming.Incoming.{Incoming}
use Rattle.stored_contents.specs.Room.{incoming_at}

pub record SetsUpload (old new : Contents) (c : ℕ) (w : Option Incoming) : Type 0 where
  pub here : incoming_at new c ≡ w
  pub others : (q : ℕ) → (c ≡ q → ⊥) → incoming_at new q ≡ incoming_at old q

-- as the map's calls tell it
pub set_by_map : (old new : Contents) (c : ℕ) (w : Option Incoming) → UpdatesBy nat_cmp (nat_cmp c) old.incoming new.incoming w → SetsUpload old new c w
set_by_map old new c w up = record { here = up.1; others = λ q apart. up.2 q (unsigned_tied c q ∙ ne_eqb c q apart) }

pub set_twice : (old mid new : Contents) (c : ℕ) (v w : Option Incoming) → SetsUpload old mid c v → SetsUpload mid new c w → SetsUpload old new c w
set_twice old mid new c v w first last = record { here = last.here; others = λ q apart. last.others q apart ∙ first.others q apart }

-- none stands there, before and after
pub set_none : (old new : Contents) (c : ℕ) → incoming_at old c ≡ None → new.incoming.entries ≡ old.incoming.entries → SetsUpload old new c None
set_none old new c none same = record { here = ap (at c) same ∙ none; others = λ q apart. ap (at q) same }
  where
    at : ℕ → List (ℕ × Incoming) → Option Incoming
    at q es = lookup (is_at (nat_cmp q)) es

-- what holds there and at all others holds of each
pub each_upload : (old new : Contents) (c : ℕ) (w : Option Incoming) (P : ℕ → Option Incoming → Type 0) → SetsUpload old new c w → P c w → ((q : ℕ) → (c ≡ q → ⊥) → P q (incoming_at old q)) → (q : ℕ) → P q (incoming_at new q)
each_upload old new c w P set here others q = by_case (cases_eq c q)
  where
    by_case : (c ≡ q) ⊎ (c ≡ q → ⊥) → P q (incoming_at new q)
    by_case (inl same) = subst (λ n. P n (incoming_at new n)) same (subst (P c) (sym set.here) here)
    by_case (inr apart) = subst (P q) (sym (set.others q apart)) (others q apart)

-- a function that changes at one number
pub updated_here : {X : Type 0} (f : ℕ → Option X) (c : ℕ) (x : Option X) → update nat_eq f c x c ≡ x
updated_here f c x = ap (λ b. cond b x (f c)) (eq-eqb c c refl)

pub updated_other : {X : Type 0} (f : ℕ → Option X) (c : ℕ) (x : Option X) (q : ℕ) → (c ≡ q → ⊥) → update nat_eq f c x q ≡ f q
updated_other f c x q apart = ap (λ b. cond b x (f q)) (ne_eqb c q apart)

-- a number that changes twice
pub updated_twice : {X : Type 0} (f : ℕ → Option X) (c : ℕ) (x y : Option X) (q : ℕ) → update nat_eq f c y q ≡ update nat_eq (update nat_eq f c x) c y q
updated_twice f c x y q = by (nat_eq c q)
  where
    by : (b : Bool) → cond b y (f q) ≡ cond b y (cond b x (f q))
    by true = refl
    by false = refl
