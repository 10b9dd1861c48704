-- What is asked for by the calls that list files, and what is shown of the rows of a page.
use Rattle.std.specs.Prelude.{⊤, ℕ, [], Option, None, Some, IsSome, map, option_map, unwrap_or}
use Rattle.b2_base.specs.declared.extent.Extent.{Extent}
use Rattle.b2_types.specs.declared.key.Key.{Key}
use Rattle.b2_types.specs.declared.call.ListFiles.{ListFiles}
use Rattle.b2_types.specs.declared.call.ListUnfinished.{ListUnfinished}
use Rattle.b2_types.specs.declared.shown.ShownFile.{ShownFile}
use Rattle.b2_types.specs.declared.record.VersionId.{VersionId}
use Rattle.b2_types.specs.declared.shown.NextRow.{NextRow}
use Rattle.b2_types.specs.declared.shown.Shown.{Shown}
use Rattle.b2_types.specs.declared.shown.Shown.TheVariants as shown
use Rattle.b2_types.specs.declared.version.VersionOf.{VersionOf}
use Rattle.b2_model.specs.AskListings.{next_row}
use Rattle.b2_model.specs.Pages.{Page, Row, row_name}
use Rattle.b2_model.specs.Plan.{id_of}
use Rattle.b2_model.specs.Rows.{version_at}
use Rattle.b2_model.specs.Shown.{shown_file, shown_folder, shown_row}
use Rattle.b2_model.specs.State.{State}
use Rattle.new_versions.specs.Decided.{extent_len}
use Rattle.listing_pages.specs.declared.ask.Ask.{Ask}
use Rattle.listing_pages.specs.declared.page.PageRow.{PageRow}
use Rattle.listing_pages.specs.declared.page.PageRow.TheVariants.{File, Folder}

-- a prefix or a start that is not given is empty, and a number of rows that is not given is 0
abbrev pub files_asked : ℕ → ListFiles → Ask
files_asked bucket c = record {
  bucket = bucket;
  prefix = unwrap_or c.prefix [];
  delimiter = c.delimiter;
  start = unwrap_or c.start [];
  start_num = c.start_file;
  max = unwrap_or c.max 0;
}

abbrev pub starts_asked : ℕ → ListUnfinished → Ask
starts_asked bucket c = record {
  bucket = bucket;
  prefix = unwrap_or c.prefix [];
  delimiter = None;
  start = [];
  start_num = c.start;
  max = unwrap_or c.max 0;
}

-- the version of the row stands
abbrev pub IsThere : State Extent → ℕ → PageRow → Type 0
IsThere M bucket (File name num) = IsSome (version_at M bucket num)
IsThere M bucket (Folder name) = ⊤

-- what is shown of a row; nothing, where its version doesn't stand
abbrev pub shown_at : State Extent → Option Key → ℕ → PageRow → Option ShownFile
shown_at M key bucket (File name num) = option_map (shown_file extent_len M.settings key) (version_at M bucket num)
shown_at M key bucket (Folder name) = Some (shown_folder M.settings bucket name)

-- the version of a row; a folder has none
abbrev pub id_at : ℕ → PageRow → Option VersionId
id_at bucket (File name num) = Some (record { bucket = bucket; num = num })
id_at bucket (Folder name) = None

abbrev pub next_at : ℕ → PageRow → NextRow
next_at bucket (File name num) = record { name = name; version = id_at bucket (File name num) }
next_at bucket (Folder name) = record { name = name; version = None }

-- ---- pages as they are shown

abbrev pub versions_shown : State Extent → Option Key → ℕ → Page (Row Extent) → Shown
versions_shown M key bucket page = shown.FileVersions (map (shown_row extent_len M.settings key bucket) page.rows) (option_map next_row page.next)

abbrev pub names_shown : State Extent → Option Key → ℕ → Page (Row Extent) → Shown
names_shown M key bucket page = shown.FileNames (map (shown_row extent_len M.settings key bucket) page.rows) (option_map row_name page.next)

abbrev pub starts_shown : State Extent → Option Key → Page (VersionOf Extent) → Shown
starts_shown M key page = shown.Unfinished (map (shown_file extent_len M.settings key) page.rows) (option_map id_of page.next)
