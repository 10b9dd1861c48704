use Rattle.std.proofs.Common.{◌+◌, map, ap, ◌∙◌}
use Rattle.std.specs.Prelude.{unwrap_or}
use Rattle.b2_model.specs.Pages.{page_of}
use Rattle.listing_pages.specs.Unfinished.{asked_starts, start_row, starts_in}
use Rattle.listing_pages.proofs.Looked.{looked_page}
use Rattle.listing_pages.proofs.Paged.{few_taken, page_taken}
use Rattle.listing_pages.proofs.unfinished.unfinished_page.Goals as goal

pub of-requires : goal.of-requires
of-requires g c = few_taken (c.unfinished_size-size.result + 1) c.in_ok-rows.rows.items _ c.in_ok-rows.ensures.rows

pub returns : goal.returns
returns g c =
    let all = map start_row (asked_starts c.args.ask.now.prefix (unwrap_or c.args.ask.now.start_num 0) (starts_in c.args.ask.now.bucket c.args.starts.now)) in
    let N = starts_in c.args.ask.now.bucket c.args.starts.now in
    record {
      page = c.of.ensures ∙ page_taken c.unfinished_size-size.result all c.in_ok-rows.rows.items c.in_ok-rows.ensures.rows
          ∙ ap (λ n. page_of n all) c.unfinished_size-size.ensures.size;
      steps = looked_page N (unwrap_or c.args.ask.now.start_num 0) c.unfinished_size-size.result _ _ c.in_ok-rows.rows.items c.of.result c.of.ensures c.in_ok-rows.ensures.steps;
    }
