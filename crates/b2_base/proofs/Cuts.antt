-- Lists that are cut at the first byte of a kind.
use Rattle.std.proofs.Common.{◌≡◌, ◌≢◌, ℕ, List, [], ◌∷◌, ◌++◌, refl}
use Rattle.std.specs.List.{All}
use Rattle.std.proofs.lemmas.List.Elements.{All-head, All-tail}

-- what is cut at its first such byte is cut one way
pub cut_once : (b : ℕ) (xs us ys vs : List ℕ) → All (λ c. c ≢ b) xs → All (λ c. c ≢ b) us → xs ++ b ∷ ys ≡ us ++ b ∷ vs → (xs ≡ us) × (ys ≡ vs)
cut_once b [] [] ys vs clean_x clean_u e = (refl, cc e)
cut_once b [] (u ∷ us) ys vs clean_x clean_u e = absurd (All-head (λ c. c ≢ b) u us clean_u (cc e))
cut_once b (x ∷ xs) [] ys vs clean_x clean_u e = absurd (All-head (λ c. c ≢ b) x xs clean_x (cc e))
cut_once b (x ∷ xs) (u ∷ us) ys vs clean_x clean_u e =
    let tails : xs ++ b ∷ ys ≡ us ++ b ∷ vs = cc e in
    let heads : x ≡ u = cc e in
    let rest = cut_once b xs us ys vs (All-tail (λ c. c ≢ b) x xs clean_x) (All-tail (λ c. c ≢ b) u us clean_u) tails in
    (cc (heads, rest.0), rest.1)

-- a list with the byte has the byte
pub has_byte : (b : ℕ) (xs ys : List ℕ) → All (λ c. c ≢ b) (xs ++ b ∷ ys) → ⊥
has_byte b [] ys clean = All-head (λ c. c ≢ b) b ys clean refl
has_byte b (x ∷ xs) ys clean = has_byte b xs ys (All-tail (λ c. c ≢ b) x (xs ++ b ∷ ys) clean)
