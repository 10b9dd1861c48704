-- Functions of a connection's number, of which one value changes.
use Rattle.std.proofs.Common.{◌≡◌, ℕ, nat_eq, cond, List, Option, refl, ap}
use Rattle.std.specs.Map.{update}
use Rattle.std.proofs.lemmas.Bool.{eq-eqb, ne_eqb}
use Rattle.request_acts.specs.Answering.{Contents, with_content}

-- the values at all other numbers stay
abbrev pub Keeps : {X : Type 0} → ℕ → (ℕ → X) → (ℕ → X) → Type 0
Keeps c f g = (d : ℕ) → (c ≡ d → ⊥) → g d ≡ f d

pub updated_others : {X : Type 0} (f : ℕ → Option X) (c : ℕ) (x : Option X) → Keeps c f (update nat_eq f c x)
updated_others f c x d apart = ap (λ b. cond b x (f d)) (ne_eqb c d apart)

pub updated_here : {X : Type 0} (f : ℕ → Option X) (c : ℕ) (x : Option X) → update nat_eq f c x c ≡ x
updated_here f c x = ap (λ b. cond b x (f c)) (eq-eqb c c refl)

pub content_others : (outs : Contents) (c : ℕ) (content : List ℕ) → Keeps c outs (with_content outs c content)
content_others outs c content d apart = ap (λ b. cond b content (outs d)) (ne_eqb c d apart)

pub content_here : (outs : Contents) (c : ℕ) (content : List ℕ) → with_content outs c content c ≡ content
content_here outs c content = ap (λ b. cond b content (outs c)) (eq-eqb c c refl)
