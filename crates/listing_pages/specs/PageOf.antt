-- The pages of the machine, as they are handed out.
use Rattle.std.specs.Prelude.{ℕ, ◌<◌, List, Option, None, Some, IfSome, filter, length, map, option_map}
use Rattle.name_rules.specs.Folder.{folder_in}
use Rattle.b2_types.specs.declared.version.VersionOf.{VersionOf}
use Rattle.b2_model.specs.Pages.{Listing, Page, Row, file, folder, is_from, with_folders, with_prefix}
use Rattle.listing_pages.specs.declared.ask.Ask.{Ask}
use Rattle.listing_pages.specs.declared.page.PageRow.{PageRow}
use Rattle.listing_pages.specs.declared.page.PageRow.TheVariants.{File, Folder}

-- what is asked for, as the machine has it
abbrev pub listing_of : Ask → Listing
listing_of a = record {
  prefix = a.prefix;
  delimiter = a.delimiter;
  start = a.start;
  start_num = a.start_num;
  most = Some a.max;
}

-- all rows that it asks for, were there no bound
abbrev pub asked_rows : {C : Type 0} → Listing → List (VersionOf C) → List (Row C)
asked_rows ask versions =
    filter (is_from ask.start ask.start_num) (with_folders ask.prefix ask.delimiter (with_prefix ask.prefix versions))

-- a delimiter that is given is not empty
abbrev pub IsDelimiter : Option (List ℕ) → Type 0
IsDelimiter delimiter = IfSome delimiter (λ d. 0 < length d)

-- the folder that the name is in
abbrev pub folder_of_name : List ℕ → Option (List ℕ) → List ℕ → Option (List ℕ)
folder_of_name prefix None name = None
folder_of_name prefix (Some delimiter) name = folder_in prefix delimiter name

-- of a version its name and number
abbrev pub page_row : {C : Type 0} → Row C → PageRow
page_row (file v) = File v.name v.num
page_row (folder name) = Folder name

abbrev pub shown_page : {C : Type 0} → Page (Row C) → Page PageRow
shown_page p = record { rows = map page_row p.rows; next = option_map page_row p.next }

-- the name and the number of a row; a folder has no number
abbrev pub row_place : PageRow → List ℕ × ℕ
row_place (File name num) = (name, num)
row_place (Folder name) = (name, 0)
