-- The listings of files (the B2 reference, b2_list_file_names, b2_list_file_versions,
-- b2_list_unfinished_large_files).
use Rattle.std.specs.Prelude.{ℕ, [], Option, Some, None, unwrap_or, option_map, map}
use Rattle.b2_types.specs.declared.key.Key.{Key}
use Rattle.b2_types.specs.declared.call.ListFiles.{ListFiles}
use Rattle.b2_types.specs.declared.call.ListUnfinished.{ListUnfinished}
use Rattle.b2_types.specs.declared.record.VersionId.{VersionId}
use Rattle.b2_types.specs.declared.shown.NextRow.{NextRow}
use Rattle.b2_types.specs.declared.shown.Shown.TheVariants as shown
use Rattle.b2_model.specs.State.{State}
use Rattle.b2_model.specs.Pages.{Row, file, folder, Listing, names_page, versions_page, unfinished_page, row_name}
use Rattle.b2_model.specs.Shown.{shown_file, shown_row}
use Rattle.b2_model.specs.Plan.{Plan, shows, on_bucket, id_of}

abbrev pub listing_of : ListFiles → Listing
listing_of c = record {
  prefix = unwrap_or c.prefix [];
  delimiter = c.delimiter;
  start = unwrap_or c.start [];
  start_num = c.start_file;
  most = c.max;
}

abbrev pub list_file_names : {C : Type 0} → (C → ℕ) → State C → Option Key → ListFiles → Plan C
list_file_names size M key c = on_bucket M c.bucket (λ b.
    let page = names_page M b.num (listing_of c) in
    shows [] (shown.FileNames (map (shown_row size M.settings key b.num) page.rows) (option_map row_name page.next)))

-- the version of a row; a folder has none
abbrev pub row_id : {C : Type 0} → Row C → Option VersionId
row_id (file v) = Some (id_of v)
row_id (folder name) = None

abbrev pub next_row : {C : Type 0} → Row C → NextRow
next_row r = record { name = row_name r; version = row_id r }

abbrev pub list_file_versions : {C : Type 0} → (C → ℕ) → State C → Option Key → ListFiles → Plan C
list_file_versions size M key c = on_bucket M c.bucket (λ b.
    let page = versions_page M b.num (listing_of c) in
    shows [] (shown.FileVersions (map (shown_row size M.settings key b.num) page.rows) (option_map next_row page.next)))

abbrev pub list_unfinished : {C : Type 0} → (C → ℕ) → State C → Option Key → ListUnfinished → Plan C
list_unfinished size M key c = on_bucket M c.bucket (λ b.
    let page = unfinished_page M b.num (unwrap_or c.prefix []) (unwrap_or c.start 0) c.max in
    shows [] (shown.Unfinished (map (shown_file size M.settings key) page.rows) (option_map id_of page.next)))
