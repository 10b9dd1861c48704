-- Information in a field: an object of texts, whose pairs keep the rules (the B2 reference, "File information").
use Rattle.std.specs.Prelude.{◌≡◌, ⊤, ℕ, List, [], ◌∷◌, codes, Option, Some, None, option_and_then, option_map}
use Rattle.serde_json.specs.Data.{Data, Members, no_members, member}
use Rattle.serde_json.specs.Find.{as_str, as_object}
use Rattle.json_shape.specs.Fields.{field}
use Rattle.name_rules.specs.InfoPairs.{AreInfo, IsArranged}
use Rattle.field_kinds.specs.Kinds.{with_front}

abbrev pub Pairs : Type 0
Pairs = List (List ℕ × List ℕ)

-- the members, where each is a text
abbrev pub texts_of : Members → Option Pairs
texts_of no_members = Some []
texts_of (member key d ms) = option_and_then (λ t. with_front ((key, t) ∷ []) (texts_of ms)) (as_str d)

abbrev pub pairs_of : Data → Option Pairs
pairs_of d = option_and_then texts_of (as_object d)

-- what a value of JSON is as information: its pairs with lower-case keys in order, where they keep the rules
abbrev pub IsInfo : Data → Option Pairs → Type 0
IsInfo d None = (pairs : Pairs) → pairs_of d ≡ Some pairs → AreInfo pairs → ⊥
IsInfo d (Some info) = (pairs : Pairs) × (pairs_of d ≡ Some pairs) × AreInfo pairs × IsArranged pairs info
