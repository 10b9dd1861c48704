-- What the listing of names shows of a version, and where it goes on.
use Rattle.std.specs.Prelude.{◌≡◌, ℕ, Bool, true, false, ◌&&◌, nat_lt, List, Option, None, Some, bytes_eq, if◌then◌else◌}
use Rattle.std.specs.List.{AllByRecursion}
use Rattle.b2_types.specs.declared.kinds.Action.{Action}
use Rattle.b2_types.specs.declared.kinds.Action.TheVariants as action
use Rattle.b2_types.specs.declared.version.VersionOf.{VersionOf}
use Rattle.b2_model.specs.Checks.{some_and}
use Rattle.b2_model.specs.Kinds.{is_start, is_upload}
use Rattle.b2_model.specs.Pages.{is_current}
use Rattle.version_index.specs.declared.spot.Spot.{Spot}
use Rattle.listing_pages.specs.declared.ask.Ask.{Ask}
use Rattle.listing_pages.specs.declared.page.PageRow.{PageRow}
use Rattle.listing_pages.specs.declared.page.PageRow.TheVariants.{File, Folder}
use Rattle.listing_pages.specs.PageOf.{folder_of_name}
use Rattle.listing_pages.specs.Places.{after_name, after_row, after_version, at_or_after}

-- a version of the very name that is the start, with a greater number than is asked for
abbrev pub is_late : {C : Type 0} → Ask → VersionOf C → Bool
is_late a v = some_and (λ n. nat_lt n v.num) a.start_num && bytes_eq v.name a.start

-- the row of an upload that counts
abbrev pub upload_row : {C : Type 0} → Ask → Option (List ℕ) → VersionOf C → Option PageRow
upload_row a None v = if is_late a v then None else Some (File v.name v.num)
upload_row a (Some folder) v = Some (Folder folder)

abbrev pub row_by : {C : Type 0} → Action → Ask → VersionOf C → Option PageRow
row_by action.Upload a v = upload_row a (folder_of_name a.prefix a.delimiter v.name) v
row_by action.Hide a v = None
row_by action.Start a v = None

-- the other versions of a name follow a start; none of them counts after an upload or a marker
abbrev pub next_by : {C : Type 0} → Action → Ask → VersionOf C → Spot
next_by action.Upload a v = after_row a.bucket (folder_of_name a.prefix a.delimiter v.name) (after_name a.bucket v.name)
next_by action.Hide a v = after_name a.bucket v.name
next_by action.Start a v = after_version a.bucket v.name v.num

-- the current version of a name that can be seen
abbrev pub is_visible : {C : Type 0} → List (VersionOf C) → VersionOf C → Bool
is_visible versions v = is_upload v.action && is_current versions v

-- where the version stands before the place and has its name, it is a start
abbrev pub IsStartBefore : {C : Type 0} → Spot → VersionOf C → Type 0
IsStartBefore s v = at_or_after s v ≡ false → v.name ≡ s.name → is_start v.action ≡ true

-- only starts of its name stand before the place
abbrev pub StartsBefore : {C : Type 0} → Spot → List (VersionOf C) → Type 0
StartsBefore s versions = AllByRecursion (IsStartBefore s) versions
