-- Parts of texts that are given as bytes.
use Rattle.std.specs.Prelude.{◌≡◌, ◌≢◌, ℕ, List, ◌∷◌, ◌++◌, All}

-- the text is cut at its first such byte
abbrev pub IsCutAt : ℕ → List ℕ → List ℕ → List ℕ → Type 0
IsCutAt byte text front rest = All (λ b. b ≢ byte) front × (text ≡ front ++ byte ∷ rest)
