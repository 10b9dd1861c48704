-- Pages of the parts of a large file.
use Rattle.std.specs.Option.{option_copied}
use Rattle.b2_base.specs.declared.extent.Extent.{Extent}
use Rattle.b2_types.specs.declared.version.PartOf.{PartOf}
use Rattle.b2_model.specs.Pages.{Page}
use Rattle.large_files.specs.declared.page.PartsPage.{PartsPage}

-- the page, as the machine has it
abbrev pub page : PartsPage → Page (PartOf Extent)
page p = record { rows = p.rows.now; next = option_copied p.next }
