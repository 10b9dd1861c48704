-- What a folder holds, and what stands after it.
use Rattle.std.specs.Prelude.{ℕ, Bool, not, ◌&&◌, List}
use Rattle.std.specs.Ordering.{is_lt, nat_cmp}
use Rattle.std.specs.Cmp.Lexicographic.{slice_cmp}
use Rattle.name_rules.specs.Folder.{begins_with}

-- the name stands after all names that begin with the folder
abbrev pub is_past : List ℕ → List ℕ → Bool
is_past folder name = is_lt (slice_cmp nat_cmp folder name) && not (begins_with folder name)
