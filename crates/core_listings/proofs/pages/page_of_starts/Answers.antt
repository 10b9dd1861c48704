use Rattle.std.proofs.Common.{Some, unwrap_or, ◌∙◌}
use Rattle.listing_pages.proofs.Machine.{machine_starts}
use Rattle.core_listings.proofs.pages.page_of_starts.Goals as goal

pub returns : goal.returns
returns g c =
    let a = c.args.ask.now in
    c.in_ok-page.ensures.page
    ∙ machine_starts c.args.core.now a.bucket a.prefix (unwrap_or a.start_num 0) (Some a.max) c.starts.result.now (c.starts.ensures.listed a.bucket)
