-- Large files that were begun and are not finished, in an index of their own that goes by number.
use Rattle.std.specs.Prelude.{◌≡◌, ℕ, ◌-◌, Bool, true, ◌==◌, ◌&&◌, nat_le, List, [], Option, None, Some, map, filter, option_map}
use Rattle.std.specs.List.{AllByRecursion}
use Rattle.b2_base.specs.declared.numbers.TheConstants.{LAST_VERSION}
use Rattle.b2_types.specs.declared.version.VersionOf.{VersionOf}
use Rattle.b2_model.specs.Kinds.{is_start}
use Rattle.b2_model.specs.Pages.{Page}
use Rattle.name_rules.specs.Folder.{begins_with}
use Rattle.version_index.specs.declared.spot.Spot.{Spot}
use Rattle.listing_pages.specs.declared.page.PageRow.{PageRow}
use Rattle.listing_pages.specs.declared.page.PageRow.TheVariants.{File, Folder}

-- where the start of this number stands: without a name and counted down, so that the rows of a bucket
-- ascend by number
abbrev pub start_spot : ℕ → ℕ → Spot
start_spot bucket num = record { bucket = bucket; name = []; num = LAST_VERSION - num }

-- the rows of an index of starts have no names, and the names of the starts as values
abbrev pub AreStarts : List (Spot × List ℕ) → Type 0
AreStarts rows = AllByRecursion (λ r. r.0.name ≡ []) rows

-- the starts of a bucket: how far their numbers are from the last, and their names
abbrev pub starts_in : ℕ → List (Spot × List ℕ) → List (ℕ × List ℕ)
starts_in bucket rows = map (λ r. (r.0.num, r.1)) (filter (λ r. r.0.bucket == bucket) rows)

-- the number of a start
abbrev pub number_of : ℕ × List ℕ → ℕ
number_of p = LAST_VERSION - p.0

-- the row of a page
abbrev pub start_row : ℕ × List ℕ → PageRow
start_row p = File p.1 (number_of p)

-- those that begin with the prefix, from a number on
abbrev pub asked_starts : List ℕ → ℕ → List (ℕ × List ℕ) → List (ℕ × List ℕ)
asked_starts prefix start starts = filter (λ p. nat_le start (number_of p)) (filter (λ p. begins_with prefix p.1) starts)

-- up to the number of the row
abbrev pub is_upto_row : PageRow → ℕ × List ℕ → Bool
is_upto_row (File name num) p = nat_le (number_of p) num
is_upto_row (Folder name) p = true

abbrev pub is_upto_next : Option PageRow → ℕ × List ℕ → Bool
is_upto_next None p = true
is_upto_next (Some row) p = is_upto_row row p

-- those from a number on up to the next row, whatever their names
abbrev pub starts_upto : ℕ → Option PageRow → List (ℕ × List ℕ) → List (ℕ × List ℕ)
starts_upto start next starts = filter (λ p. nat_le start (number_of p) && is_upto_next next p) starts

-- the row of a version
abbrev pub version_row : {C : Type 0} → VersionOf C → PageRow
version_row v = File v.name v.num

abbrev pub shown_starts : {C : Type 0} → Page (VersionOf C) → Page PageRow
shown_starts p = record { rows = map version_row p.rows; next = option_map version_row p.next }

-- the rows of a bucket are the starts among the versions, by number
abbrev pub AreStartsOf : {C : Type 0} → List (VersionOf C) → ℕ → List (Spot × List ℕ) → Type 0
AreStartsOf versions bucket rows =
    map start_row (starts_in bucket rows) ≡ map version_row (filter (λ v. v.bucket == bucket && is_start v.action) versions)
