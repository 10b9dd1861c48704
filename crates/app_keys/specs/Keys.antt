-- Keys that are made, and why they are not.
use Rattle.std.specs.Prelude.{◌≡◌, ⊤, ℕ, List, [], ◌∷◌, ◌++◌, map, drop, Option, Some, None, slice_index, codes}
use Rattle.rule_table.specs.declared.fault.FaultKind.{FaultKind}
use Rattle.rule_table.specs.declared.fault.FaultKind.TheVariants as kind
use Rattle.b2_base.specs.declared.extent.Extent.{Extent}
use Rattle.b2_base.specs.Digits.{eight_digits}
use Rattle.b2_types.specs.declared.call.CreateKey.{CreateKey}
use Rattle.b2_model.specs.State.{State}
use Rattle.b2_model.specs.AskKeys.{secret_text, new_key}
use Rattle.app_keys.specs.declared.refusal.KeyRefusal.{KeyRefusal}
use Rattle.app_keys.specs.declared.refusal.KeyRefusal.TheVariants as refusal
use Rattle.app_keys.specs.declared.create.NewKey.{NewKey}

-- the kind of fault of a refusal
abbrev pub kind_of : KeyRefusal → FaultKind
kind_of refusal.KeyCaps = kind.KeyCaps
kind_of refusal.KeyLimit = kind.KeyLimit
kind_of refusal.Cap = kind.Cap
kind_of refusal.Master = kind.Master

-- the id of a key that isn't the master key
abbrev pub long_id : List ℕ → ℕ → List ℕ
long_id account num = codes "001" ++ account ++ codes "00" ++ eight_digits num

-- the key and the secret that a state with this next number makes of the call, with these words
pub record IsMade (next t : ℕ) (c : CreateKey) (words : List ℕ) (made : NewKey) : Type 0 where
  pub key : (M : State Extent) → M.next_key ≡ next → made.key ≡ new_key M t words c
  pub secret : made.secret ≡ secret_text words

-- of the words ahead, where they are told, the first four were drawn, zeros standing after the last, and
-- these are left
abbrev pub AreDrawn : Option (List ℕ) → List ℕ → Option (List ℕ) → Type 0
AreDrawn None words left = ⊤
AreDrawn (Some ahead) words None = ⊥
AreDrawn (Some ahead) words (Some rest) = (words ≡ map (slice_index ahead) (0 ∷ 1 ∷ 2 ∷ 3 ∷ [])) × (rest ≡ drop 4 ahead)

pub record IsCreated (ahead left : Option (List ℕ)) (next t : ℕ) (c : CreateKey) (made : NewKey) : Type 0 where
  pub words : List ℕ
  pub drawn : AreDrawn ahead words left
  pub is : IsMade next t c words made
