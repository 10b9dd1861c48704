use Rattle.std.proofs.Common.{◌+◌, arith, ap, ◌∙◌}
use Rattle.b2_model.specs.Pages.{page_of}
use Rattle.index_rows.specs.OwnRows.{of_bucket}
use Rattle.listing_pages.specs.PageOf.{asked_rows, listing_of, shown_page}
use Rattle.listing_pages.proofs.Paged.{few_taken, one_less, paged}
use Rattle.listing_pages.proofs.versions.versions_page.Goals as goal

pub of-requires : goal.of-requires
of-requires g c = few_taken (c.page_size-size.result + 1) c.in_ok-rows.rows.items _ c.in_ok-rows.ensures.rows

pub returns-clause-page : goal.returns-clause-page
returns-clause-page g c =
    let all = asked_rows (listing_of c.args.ask.now) (of_bucket c.args.ask.now.bucket c.args.index.now) in
    c.of.ensures ∙ paged c.page_size-size.result all c.in_ok-rows.rows.items c.in_ok-rows.ensures.rows
    ∙ ap (λ n. shown_page (page_of n all)) c.page_size-size.ensures.size

pub returns-clause-steps : goal.returns-clause-steps
returns-clause-steps g c =
    let few = few_taken (c.page_size-size.result + 1) c.in_ok-rows.rows.items _ c.in_ok-rows.ensures.rows in
    omega (arith, c.in_ok-rows.ensures.steps, one_less c.page_size-size.result c.in_ok-rows.rows.items c.of.result few c.of.ensures)
