-- Places in listing order.
use Rattle.std.specs.Prelude.{ℕ, ◌+◌, ◌-◌, suc, zero, Bool, List, [], ◌∷◌, ◌++◌, Option, None, Some, if◌then◌else◌, length, bytes_eq, slice_index, slice_set}
use Rattle.std.specs.Ordering.{is_lt, nat_cmp}
use Rattle.std.specs.Cmp.Lexicographic.{slice_cmp}
use Rattle.listing_pages.specs.declared.ask.Ask.{Ask}
use Rattle.listing_pages.specs.PageOf.{folder_of_name}
use Rattle.b2_base.specs.declared.numbers.TheConstants.{LAST_VERSION}
use Rattle.b2_types.specs.declared.version.VersionOf.{VersionOf}
use Rattle.b2_model.specs.Pages.{file, is_from}
use Rattle.version_index.specs.declared.spot.Spot.{Spot}

-- the version stands at this place of its bucket or after it
abbrev pub at_or_after : {C : Type 0} → Spot → VersionOf C → Bool
at_or_after s v = is_from s.name (Some s.num) (file v)

-- before all versions of the name
abbrev pub first_of_name : ℕ → List ℕ → Spot
first_of_name bucket name = record { bucket = bucket; name = name; num = LAST_VERSION }

-- after all versions of the name
abbrev pub after_name : ℕ → List ℕ → Spot
after_name bucket name = first_of_name bucket (name ++ 0 ∷ [])

-- after the version of this number
abbrev pub after_version : ℕ → List ℕ → ℕ → Spot
after_version bucket name zero = after_name bucket name
after_version bucket name (suc num) = record { bucket = bucket; name = name; num = num }

-- the bytes with one more in the last
abbrev pub raised : List ℕ → List ℕ
raised bytes = slice_set bytes (length bytes - 1) (slice_index bytes (length bytes - 1) + 1)

-- after all names of the folder
abbrev pub after_folder : ℕ → List ℕ → Spot
after_folder bucket folder = first_of_name bucket (raised folder)

-- at the number of the name where one is given
abbrev pub at_number : ℕ → List ℕ → Option ℕ → Spot
at_number bucket name None = first_of_name bucket name
at_number bucket name (Some num) = record { bucket = bucket; name = name; num = num }

-- a start inside of a folder lies after it; the name of a folder lies before all of it
abbrev pub in_folder : ℕ → List ℕ → Option ℕ → Option (List ℕ) → Spot
in_folder bucket start num None = at_number bucket start num
in_folder bucket start num (Some folder) = if bytes_eq folder start then first_of_name bucket start else after_folder bucket folder

-- where a listing begins
abbrev pub begin_at : Ask → Option ℕ → Spot
begin_at a num =
    if is_lt (slice_cmp nat_cmp a.start a.prefix) then first_of_name a.bucket a.prefix
    else in_folder a.bucket a.start num (folder_of_name a.prefix a.delimiter a.start)

-- after the folder of the name, where it is in one
abbrev pub after_row : ℕ → Option (List ℕ) → Spot → Spot
after_row bucket None s = s
after_row bucket (Some folder) s = after_folder bucket folder
