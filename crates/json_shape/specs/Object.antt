-- Bodies that are one object of JSON (RFC 8259).
use Rattle.std.specs.Prelude.{◌≡◌, ℕ, List, Some, IsSome}
use Rattle.std.specs.Str.{IsUtf8}
use Rattle.serde_json.specs.Data.{Data}
use Rattle.serde_json.specs.Read.{read}
use Rattle.serde_json.specs.Find.{as_object}
use Rattle.json_shape.specs.declared.body.ShapeFault.{ShapeFault}
use Rattle.json_shape.specs.declared.body.ShapeFault.TheVariants.{NotJson, NotObject}

-- the bytes are UTF-8, and the grammar reads them as this
pub record Reads (bytes : List ℕ) (d : Data) : Type 0 where
  pub text : IsUtf8 bytes
  pub is : read bytes ≡ Some d

abbrev pub IsObject : Data → Type 0
IsObject d = IsSome (as_object d)

abbrev pub ReadsObject : List ℕ → Data → Type 0
ReadsObject bytes d = Reads bytes d × IsObject d

-- why the bytes are no object
abbrev pub IsShapeFault : List ℕ → ShapeFault → Type 0
IsShapeFault bytes NotJson = (d : Data) → Reads bytes d → ⊥
IsShapeFault bytes NotObject = (d : Data) × Reads bytes d × (IsObject d → ⊥)
