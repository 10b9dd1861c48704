-- Listings that are shown, of one row each.
use Rattle.std.specs.Prelude.{ℕ, List, [], ◌∷◌, Option, Some, None, codes}
use Rattle.b2_types.specs.declared.version.PartOf.{PartOf}
use Rattle.b2_types.specs.declared.call.ListFiles.{ListFiles}
use Rattle.b2_types.specs.declared.call.Call.TheVariants as call
use Rattle.b2_model.specs.Version.{no_digest}
use Rattle.b2_model.specs.Ask.{Outcome}
use Rattle.worked_rows.specs.Store.{Bytes, by_master}
use Rattle.worked_rows.specs.Large.{part, ten, large}
use Rattle.worked_rows.specs.Listings.{file_store}

abbrev pub slash : Option (List ℕ)
slash = Some (codes "/")

abbrev pub one_row : List ℕ → Option (List ℕ) → ListFiles
one_row start delimiter = record { bucket = 1; start = Some start; max = Some 1; prefix = None; delimiter = delimiter; start_file = None }

abbrev pub names : List ℕ → Outcome Bytes
names start = by_master file_store 1000 (call.ListFileNames (one_row start slash))

abbrev pub versions : List ℕ → Option (List ℕ) → Outcome Bytes
versions start delimiter = by_master file_store 1000 (call.ListFileVersions (one_row start delimiter))

abbrev pub starts : Outcome Bytes
starts = by_master file_store 1000 (call.ListUnfinishedLargeFiles (record { bucket = 1; prefix = None; start = None; max = None }))

-- a part whose digest is not computed here
abbrev pub part_at : ℕ → PartOf Bytes
part_at number = record (part number (ten 97) 0) { digest = no_digest }

-- two of three parts
abbrev pub parts : Outcome Bytes
parts = by_master (large (part_at 1 ∷ part_at 2 ∷ part_at 3 ∷ [])) 2000 (call.ListParts (record { bucket = 1; file = 1; start = None; max = Some 2 }))
