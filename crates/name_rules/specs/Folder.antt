-- Prefixes of names, and folders by a delimiter (the B2 reference, b2_list_file_names).
use Rattle.std.specs.Prelude.{◌≡◌, ℕ, ◌+◌, ◌<◌, ◌≤◌, Bool, IsTrue, List, [], ◌∷◌, Option, None, Some, option_map, if◌then◌else◌, length, take, drop, bytes_eq}

-- the name begins with the prefix
abbrev pub begins_with : List ℕ → List ℕ → Bool
begins_with prefix name = bytes_eq (take (length prefix) name) prefix

-- where the first delimiter ends in a name whose bytes from this place on are these
abbrev pub folder_end : List ℕ → ℕ → List ℕ → Option ℕ
folder_end delimiter at [] = None
folder_end delimiter at (b ∷ bs) = if begins_with delimiter (b ∷ bs) then Some (at + length delimiter) else folder_end delimiter (at + 1) bs

-- the name up to the end of the first delimiter after the prefix
abbrev pub folder_in : List ℕ → List ℕ → List ℕ → Option (List ℕ)
folder_in prefix delimiter name = option_map (λ end. take end name) (folder_end delimiter (length prefix) (drop (length prefix) name))

-- the delimiter stands at this place of the name
abbrev pub StandsAt : List ℕ → List ℕ → ℕ → Type 0
StandsAt delimiter name at = IsTrue (begins_with delimiter (drop at name))

-- the delimiter stands at no place from `start` up to `end`
abbrev pub HasNone : List ℕ → List ℕ → ℕ → ℕ → Type 0
HasNone name delimiter start end = (at : ℕ) → start ≤ at → at < end → StandsAt delimiter name at → ⊥

-- the first delimiter from `start` on ends here
pub record IsFolderEnd (name delimiter : List ℕ) (start end : ℕ) : Type 0 where
  pub at : ℕ
  pub end_is : end ≡ at + length delimiter
  pub from : start ≤ at
  pub stands : StandsAt delimiter name at
  pub none : HasNone name delimiter start at

-- there is no delimiter from `start` on
abbrev pub HasNoFolder : List ℕ → List ℕ → ℕ → Type 0
HasNoFolder name delimiter start = (at : ℕ) → start ≤ at → StandsAt delimiter name at → ⊥
