-- The rows that a listing of names passes over, as it shows nothing of them.
use Rattle.std.specs.Prelude.{Bool, true, false, ◌&&◌, ◌==◌, nat_lt, List, Option, None, Some, bytes_eq, filter, find}
use Rattle.b2_types.specs.declared.kinds.Action.{Action}
use Rattle.b2_types.specs.declared.kinds.Action.TheVariants as action
use Rattle.b2_types.specs.declared.version.VersionOf.{VersionOf}
use Rattle.b2_model.specs.Current.{current_in}
use Rattle.b2_model.specs.Pages.{is_current, is_from, row_of}
use Rattle.b2_model.specs.Rows.{is_before}
use Rattle.name_rules.specs.Folder.{begins_with}
use Rattle.listing_pages.specs.declared.ask.Ask.{Ask}
use Rattle.listing_pages.specs.declared.page.PageRow.{PageRow}
use Rattle.listing_pages.specs.declared.page.PageRow.TheVariants.{File, Folder}
use Rattle.listing_pages.specs.NameRows.{is_visible}

-- newer than the current version, where there is one
abbrev pub is_newer : {C : Type 0} → VersionOf C → Option (VersionOf C) → Bool
is_newer v None = true
is_newer v (Some current) = nat_lt current.num v.num

-- a start that is newer than the current version of its name, or a current version that hides its name
abbrev pub is_skipped : {C : Type 0} → Action → List (VersionOf C) → VersionOf C → Bool
is_skipped action.Upload versions v = false
is_skipped action.Hide versions v = is_current versions v
is_skipped action.Start versions v = is_newer v (current_in versions v.name)

-- the row is that of the version, or of a folder that it is in
abbrev pub stands_for : {C : Type 0} → PageRow → VersionOf C → Bool
stands_for (File name num) v = bytes_eq v.name name && v.num == num
stands_for (Folder folder) v = begins_with folder v.name

-- before the other version, where there is one
abbrev pub is_before_one : {C : Type 0} → Option (VersionOf C) → VersionOf C → Bool
is_before_one None v = true
is_before_one (Some w) v = is_before v w

-- before the first version that the next row stands for, where there is a next row
abbrev pub is_before_next : {C : Type 0} → List (VersionOf C) → Option PageRow → VersionOf C → Bool
is_before_next versions None v = true
is_before_next versions (Some row) v = is_before_one (find (λ w. is_visible versions w && stands_for row w) versions) v

-- those with the prefix, from the start up to the next row
abbrev pub passed_over : {C : Type 0} → Ask → List (VersionOf C) → Option PageRow → List (VersionOf C)
passed_over a versions next =
    filter (λ v. is_before_next versions next v && (is_from a.start None (row_of a.prefix a.delimiter v) && (begins_with a.prefix v.name && is_skipped v.action versions v))) versions
