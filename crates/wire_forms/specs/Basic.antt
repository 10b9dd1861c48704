-- Basic credentials (RFC 7617, section 2).
use Rattle.std.specs.Prelude.{◌≡◌, ◌≢◌, ℕ, List, ◌∷◌, ◌++◌, All, codes, IsUtf8}
use Rattle.base64.specs.Engines.{standard}
use Rattle.base64.specs.GeneralPurpose.{encode_of, IsBytes}

-- The value is `Basic`, a space and the standard base64 (RFC 4648, section 4) of this pair in UTF-8,
-- joined by a colon; the first part has no colon.
pub record IsBasic (value user secret : List ℕ) : Type 0 where
  pub written : value ≡ codes "Basic " ++ encode_of standard (user ++ 58 ∷ secret)
  pub bytes : IsBytes (user ++ 58 ∷ secret)
  pub text : IsUtf8 (user ++ 58 ∷ secret)
  pub first_colon : All (λ b. b ≢ 58) user
