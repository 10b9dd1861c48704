use Rattle.std.proofs.Common.{◌+◌, ap, ◌∙◌}
use Rattle.b2_model.specs.Pages.{page_of, visible_versions}
use Rattle.index_rows.specs.OwnRows.{of_bucket}
use Rattle.listing_pages.specs.PageOf.{asked_rows, listing_of, shown_page}
use Rattle.listing_pages.proofs.Paged.{few_taken, paged}
use Rattle.listing_pages.proofs.Passed.{counted_page}
use Rattle.listing_pages.proofs.visible.names_page.Goals as goal

pub of-requires : goal.of-requires
of-requires g c = few_taken (c.page_size-size.result + 1) c.in_ok-rows.rows.items _ c.in_ok-rows.ensures.rows

pub returns : goal.returns
returns g c =
    let R = of_bucket c.args.ask.now.bucket c.args.index.now in
    let all = asked_rows (listing_of c.args.ask.now) (visible_versions (of_bucket c.args.ask.now.bucket c.args.index.now)) in
    record {
      page = c.of.ensures ∙ paged c.page_size-size.result all c.in_ok-rows.rows.items c.in_ok-rows.ensures.rows
          ∙ ap (λ n. shown_page (page_of n all)) c.page_size-size.ensures.size;
      steps = counted_page c.args.ask.now R c.page_size-size.result _ _ c.in_ok-rows.rows.items c.of.result c.of.ensures c.in_ok-rows.ensures.steps;
    }
