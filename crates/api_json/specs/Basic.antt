-- A pair that is joined by a colon.
use Rattle.std.specs.Prelude.{◌≡◌, ◌≢◌, ℕ, List, ◌∷◌, ◌++◌, All, IsUtf8}

pub record IsPair (bytes id secret : List ℕ) : Type 0 where
  pub joined : bytes ≡ id ++ 58 ∷ secret
  pub text : IsUtf8 bytes
  pub first_colon : All (λ b. b ≢ 58) id
