-- Fields that are put into an object one after the other.
use Rattle.std.specs.Prelude.{ℕ, List, [], ◌∷◌, fold, codes}
use Rattle.serde_json.specs.Data.{Data, Members, string, put}
use Rattle.b2_base.specs.FileId.{file_id}
use Rattle.b2_types.specs.declared.shown.ShownName.{ShownName}

-- the members with these fields put in order
abbrev pub put_all : Members → List (List ℕ × Data) → Members
put_all members pairs = fold (λ members pair. put pair.0 pair.1 members) members pairs

-- the id of a file and its name
abbrev pub name_fields : ShownName → List (List ℕ × Data)
name_fields v = (codes "fileId", string (file_id v.bucket v.num)) ∷ (codes "fileName", string v.name) ∷ []
