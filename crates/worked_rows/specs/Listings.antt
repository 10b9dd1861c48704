-- Listings with folders, and pages by number.
use Rattle.std.specs.Prelude.{ℕ, List, [], ◌∷◌, Option, Some, None, codes, map, option_map}
use Rattle.b2_types.specs.declared.version.VersionOf.{VersionOf}
use Rattle.b2_model.specs.State.{State}
use Rattle.b2_model.specs.Version.{marker}
use Rattle.b2_model.specs.Pages.{Listing, Row, Page, names_page, versions_page, unfinished_page, row_name, row_num}
use Rattle.worked_rows.specs.Store.{Bytes, photos_1, with_bucket, with_versions, upload_at, start_at}

-- `a.txt`, `d/x`, `d/y`, `h`, which is hidden, `s`, an upload and a newer start, and `z`
abbrev pub file_store : State Bytes
file_store = with_versions
    (upload_at 1 1 (codes "z") [] ∷ upload_at 2 2 (codes "d/y") [] ∷ upload_at 3 3 (codes "a.txt") [] ∷ upload_at 4 4 (codes "h") []
    ∷ marker 1 5 (codes "h") 5 ∷ upload_at 6 6 (codes "s") [] ∷ start_at 7 7 (codes "s") ∷ upload_at 8 8 (codes "d/x") [] ∷ [])
    (with_bucket photos_1)

abbrev pub listing : List ℕ → Option (List ℕ) → Option ℕ → Listing
listing start delimiter most = record { prefix = []; delimiter = delimiter; start = start; start_num = None; most = most }

-- a page as its rows' names and numbers
abbrev pub shown : Page (Row Bytes) → List (List ℕ × ℕ) × Option (List ℕ)
shown page = (map (λ r. (row_name r, row_num r)) page.rows, option_map row_name page.next)

abbrev pub first : List (List ℕ × ℕ) × Option (List ℕ)
first = shown (names_page file_store 1 (listing [] (Some (codes "/")) (Some 2)))

abbrev pub second : List (List ℕ × ℕ) × Option (List ℕ)
second = shown (names_page file_store 1 (listing (codes "s") (Some (codes "/")) (Some 2)))

-- all of them, the newest of a name first
abbrev pub all_rows : List (List ℕ × ℕ)
all_rows =
    (codes "a.txt", 3)
    ∷ (codes "d/x", 8)
    ∷ (codes "d/y", 2)
    ∷ (codes "h", 5)
    ∷ (codes "h", 4)
    ∷ (codes "s", 7)
    ∷ (codes "s", 6)
    ∷ (codes "z", 1)
    ∷ []

abbrev pub all_versions : List (List ℕ × ℕ) × Option (List ℕ)
all_versions = shown (versions_page file_store 1 (listing [] None None))

-- from a number of the very name that is the start
abbrev pub from_number : List (List ℕ × ℕ) × Option (List ℕ)
from_number = shown (versions_page file_store 1 (record { prefix = []; delimiter = None; start = codes "s"; start_num = Some 6; most = Some 1 }))

abbrev pub starts_page : Page (VersionOf Bytes)
starts_page = unfinished_page file_store 1 [] 0 None
