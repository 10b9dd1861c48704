-- Which uploads a step leaves under way.
use Rattle.std.specs.Prelude.{◌≡◌, ℕ, None}
use Rattle.b2_model.specs.State.{State}
use Rattle.b2_model.specs.UploadSteps.{flight_of}

-- the upload of each connection is what it was
abbrev pub AreLeft : {C : Type 0} → State C → State C → Type 0
AreLeft M N = (d : ℕ) → flight_of N d ≡ flight_of M d

-- and so is that of each but this one
abbrev pub OthersAreLeft : {C : Type 0} → ℕ → State C → State C → Type 0
OthersAreLeft c M N = (d : ℕ) → (c ≡ d → ⊥) → flight_of N d ≡ flight_of M d

-- the upload of this connection is under way no longer, and those of the others are what they were
abbrev pub IsOver : {C : Type 0} → ℕ → State C → State C → Type 0
IsOver c M N = (flight_of N c ≡ None) × OthersAreLeft c M N
