use Rattle.std.proofs.Common.{◌≡◌, ◌+◌, arith, length, map, sym, ap, ◌∙◌}
use Rattle.std.specs.Prelude.{option_map, unwrap_or}
use Rattle.version_index.specs.Rows.{row_from}
use Rattle.listing_pages.specs.Unfinished.{asked_starts, start_row, starts_in}
use Rattle.listing_pages.proofs.Gather.{all_taken, enough_taken}
use Rattle.listing_pages.proofs.NameTurns.{few_more}
use Rattle.listing_pages.proofs.Looked.{looks_begin, looks_full, looks_short, looks_turn}
use Rattle.listing_pages.proofs.Numbered.{found_below, none_more_starts, one_more_start, sought_below, starts_begin, starts_down, starts_within}
use Rattle.listing_pages.proofs.unfinished.starts_from.Goals as goal

pub rows-init : goal.rows-init
rows-init g c =
    let N = starts_in c.args.ask.now.bucket c.args.starts.now in
    let within = starts_within c.args.ask.now.bucket c.args.starts.now c.in_order.ensures.in_range in
    let begin = starts_begin c.args.ask.now.prefix c.first_number-first.result N c.first_number-first.ensures.in_range within in
    record {
      rows = c.new-walk.ensures;
      bound = omega (arith, c.first_number-first.ensures.in_range);
      split = rw c.new-rows.ensures.items (begin ∙ ap (λ n. map start_row (asked_starts c.args.ask.now.prefix n N)) c.first_number-first.ensures.value);
      looks = rw c.new-rows.ensures.items (looks_begin N (unwrap_or c.args.ask.now.start_num 0) c.first_number-first.result c.args.size _ c.first_number-first.ensures.in_range c.first_number-first.ensures.value);
      few = rw c.new-rows.ensures.items (omega arith);
    }

pub returns-in_default : goal.returns-in_default
returns-in_default g c =
    let i = c.rows.invariant in
    let N = starts_in c.args.ask.now.bucket c.args.starts.now in
    let found = sought_below c.args.ask.now.bucket c.rows.below c.args.starts.now c.requires.starts
    ∙ ap (λ s. option_map (λ r. (r.0.num, r.1)) (row_from s c.args.starts.now)) (sym c.in_ok-place.ensures)
    ∙ ap (λ rows. option_map (λ r. (r.0.num, r.1)) (row_from c.in_ok-place.place rows)) (sym c.rows.invariant.rows)
    ∙ ap (option_map (λ r. (r.0.num, r.1))) (sym c.in_default.ensures.row) in
    let ends = looks_short c.args.ask.now.prefix N (unwrap_or c.args.ask.now.start_num 0) c.args.size c.args.steps.now c.rows.steps c.rows.below c.rows.rows.items i.looks (omega (arith, c.rows-test.true, c.len.ensures)) in
    record {
      rows = all_taken (c.args.size + 1) c.rows.rows.items _ (none_more_starts c.args.ask.now.prefix c.rows.below N c.rows.rows.items _ found i.split) i.few;
      steps = omega (arith, ends, c.in_default.ensures.steps);
    }

pub rows-smaller : goal.rows-smaller
rows-smaller g c =
    let N = starts_in c.args.ask.now.bucket c.args.starts.now in
    let found = sought_below c.args.ask.now.bucket c.rows.below c.args.starts.now c.requires.starts
    ∙ ap (λ s. option_map (λ r. (r.0.num, r.1)) (row_from s c.args.starts.now)) (sym c.in_ok-place.ensures)
    ∙ ap (λ rows. option_map (λ r. (r.0.num, r.1)) (row_from c.in_ok-place.place rows)) (sym c.rows.invariant.rows)
    ∙ ap (option_map (λ r. (r.0.num, r.1))) (sym c.in-Some.ensures.row) in
    let less = found_below N c.rows.below (c.in-Some.place.now.num, c.in-Some.name.now) found in
    omega (arith, less, c.get-below.ensures.value)

pub rows-preserved : goal.rows-preserved
rows-preserved g c =
    let i = c.rows.invariant in
    let N = starts_in c.args.ask.now.bucket c.args.starts.now in
    let down = starts_down c.args.ask.now.bucket c.args.starts.now c.in_order.ensures.ascending c.requires.starts in
    let found = sought_below c.args.ask.now.bucket c.rows.below c.args.starts.now c.requires.starts
    ∙ ap (λ s. option_map (λ r. (r.0.num, r.1)) (row_from s c.args.starts.now)) (sym c.in_ok-place.ensures)
    ∙ ap (λ rows. option_map (λ r. (r.0.num, r.1)) (row_from c.in_ok-place.place rows)) (sym c.rows.invariant.rows)
    ∙ ap (option_map (λ r. (r.0.num, r.1))) (sym c.in-Some.ensures.row) in
    let more = one_more_start c.args.ask.now.prefix c.rows.below N c.rows.rows.items _ c.push_some.new.rows.items (c.in-Some.place.now.num, c.in-Some.name.now) _ down found c.in_ok-row.ensures c.in_ok-push_some.ensures i.split in
    let looks = looks_turn c.args.ask.now.prefix N (unwrap_or c.args.ask.now.start_num 0) c.args.size _ c.rows.steps c.rows.below c.rows.rows.items i.looks (c.in-Some.place.now.num, c.in-Some.name.now) found (omega (arith, c.rows-test.true, c.len.ensures)) _ c.push_some.new.rows.items _ c.in_ok-row.ensures c.in_ok-push_some.ensures c.seek.ensures.steps in
    let longer = few_more c.rows.rows.items c.push_some.new.rows.items _ c.in_ok-push_some.ensures in
    record {
      rows = c.seek.ensures.rows ∙ i.rows;
      bound = omega (arith, c.get-below.ensures.value, c.get-below.ensures.in_range);
      split = rw c.get-below.ensures.value more;
      looks = rw c.get-below.ensures.value looks;
      few = omega (arith, longer, c.rows-test.true, c.len.ensures);
    }

pub returns : goal.returns
returns g c =
    let i = c.rows.invariant in
    let N = starts_in c.args.ask.now.bucket c.args.starts.now in
    let full : length c.rows.rows.items ≡ c.args.size + 1 = omega (arith, i.few, c.rows-test.false, c.len.ensures) in
    record {
      rows = enough_taken (c.args.size + 1) c.rows.rows.items _ _ i.split full;
      steps = looks_full c.args.ask.now.prefix N (unwrap_or c.args.ask.now.start_num 0) c.args.size _ c.rows.steps c.rows.below c.rows.rows.items i.looks full;
    }
