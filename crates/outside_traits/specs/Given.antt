-- The next of a list of readings or words.
use Rattle.std.specs.Prelude.{◌≡◌, ℕ, List, [], ◌∷◌, drop, Option, None, Some}

-- the first of the list, or what stands for it where there is none
abbrev pub first_or : ℕ → List ℕ → ℕ
first_or n [] = n
first_or n (x ∷ xs) = x

-- a clock gave the first of its readings ahead, or the last one again
abbrev pub GivesReading : Option (List ℕ) → ℕ → ℕ → Option (List ℕ) → ℕ → Type 0
GivesReading None last result new now = Unit {0}
GivesReading (Some ahead) last result None now = ⊥
GivesReading (Some ahead) last result (Some rest) now = (result ≡ first_or last ahead) × (rest ≡ drop 1 ahead) × (now ≡ result)

-- a giver of words gave the first of those ahead, or 0
abbrev pub GivesWord : Option (List ℕ) → ℕ → Option (List ℕ) → Type 0
GivesWord None result new = Unit {0}
GivesWord (Some ahead) result None = ⊥
GivesWord (Some ahead) result (Some rest) = (result ≡ first_or 0 ahead) × (rest ≡ drop 1 ahead)
