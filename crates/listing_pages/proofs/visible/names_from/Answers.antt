use Rattle.std.proofs.Common.{◌≡◌, ◌+◌, arith, length, sym, ap, ◌∙◌}
use Rattle.std.specs.Prelude.{option_map}
use Rattle.version_index.specs.Rows.{row_from}
use Rattle.index_rows.specs.OwnRows.{of_bucket}
use Rattle.listing_pages.proofs.Gather.{all_taken, enough_taken, none_begin, none_more}
use Rattle.listing_pages.proofs.Late.{counts}
use Rattle.listing_pages.proofs.NameTurns.{few_more, named, names_begin}
use Rattle.listing_pages.proofs.Passed.{counted_turn, counts_begin, ends_full, ends_short}
use Rattle.listing_pages.proofs.Sought.{bucket_low, bucket_order, sought_in}
use Rattle.listing_pages.proofs.visible.names_from.Goals as goal

pub rows-init : goal.rows-init
rows-init g c =
    let R = of_bucket c.args.ask.now.bucket c.args.index.now in
    let up = bucket_order c.args.ask.now.bucket c.args.index.now c.in_order.ensures.ascending c.requires.own in
    let low = bucket_low c.args.ask.now.bucket c.args.index.now c.in_order.ensures.in_range c.requires.own in
    record {
      rows = c.new-walk.ensures;
      stands = rw (c.in_ok-place.ensures, c.new-rows.ensures.items) (names_begin R up low c.args.ask.now c.requires.delimiter);
      counts = rw (c.in_ok-place.ensures, c.new-rows.ensures.items) (counts_begin R c.args.ask.now c.args.size _);
      few = rw c.new-rows.ensures.items (omega arith);
    }

pub returns-in_default : goal.returns-in_default
returns-in_default g c =
    let i = c.rows.invariant in
    let R = of_bucket c.args.ask.now.bucket c.args.index.now in
    let up = bucket_order c.args.ask.now.bucket c.args.index.now c.in_order.ensures.ascending c.requires.own in
    let low = bucket_low c.args.ask.now.bucket c.args.index.now c.in_order.ensures.in_range c.requires.own in
    let found = sought_in c.args.ask.now.bucket c.rows.place c.args.index.now i.stands.stands.bucket c.requires.own ∙ ap (λ rows. option_map (λ r. r.1) (row_from c.rows.place rows)) (sym i.rows) ∙ ap (option_map (λ r. r.1)) (sym c.in_default.ensures.row) in
    let ends = ends_short R up low c.args.ask.now c.requires.delimiter c.args.size c.args.steps.now c.rows.steps c.rows.rows.items c.rows.place i.counts (omega (arith, c.rows-test.true, c.len.ensures)) in
    record {
      rows = all_taken (c.args.size + 1) c.rows.rows.items _ (none_more (counts R c.args.ask.now) R up low c.args.ask.now c.requires.delimiter _ c.rows.rows.items c.rows.place i.stands.stands found) i.few;
      steps = omega (arith, ends, c.in_default.ensures.steps);
    }

pub returns-then-not-is_prefix : goal.returns-then-not-is_prefix
returns-then-not-is_prefix g c =
    let i = c.rows.invariant in
    let R = of_bucket c.args.ask.now.bucket c.args.index.now in
    let up = bucket_order c.args.ask.now.bucket c.args.index.now c.in_order.ensures.ascending c.requires.own in
    let low = bucket_low c.args.ask.now.bucket c.args.index.now c.in_order.ensures.in_range c.requires.own in
    let found = sought_in c.args.ask.now.bucket c.rows.place c.args.index.now i.stands.stands.bucket c.requires.own ∙ ap (λ rows. option_map (λ r. r.1) (row_from c.rows.place rows)) (sym i.rows) ∙ ap (option_map (λ r. r.1)) (sym c.in-Some.ensures.row) in
    let out = rw (c.as_bytes.ensures.value, c.as_bytes-in-rows.ensures.value, c.get.ensures, c.get-in-rows.ensures.0) at (sym c.is_prefix.ensures ∙ c.if-not-is_prefix.true) in
    let ends = ends_short R up low c.args.ask.now c.requires.delimiter c.args.size c.args.steps.now c.rows.steps c.rows.rows.items c.rows.place i.counts (omega (arith, c.rows-test.true, c.len.ensures)) in
    record {
      rows = all_taken (c.args.size + 1) c.rows.rows.items _ (none_begin (counts R c.args.ask.now) R up low c.args.ask.now c.requires.delimiter _ c.rows.rows.items c.rows.place i.stands.stands c.in-Some.version.now found out) i.few;
      steps = omega (arith, ends, c.seek.ensures.steps);
    }

pub rows-smaller : goal.rows-smaller
rows-smaller g c =
    let i = c.rows.invariant in
    let R = of_bucket c.args.ask.now.bucket c.args.index.now in
    let up = bucket_order c.args.ask.now.bucket c.args.index.now c.in_order.ensures.ascending c.requires.own in
    let low = bucket_low c.args.ask.now.bucket c.args.index.now c.in_order.ensures.in_range c.requires.own in
    let found = sought_in c.args.ask.now.bucket c.rows.place c.args.index.now i.stands.stands.bucket c.requires.own ∙ ap (λ rows. option_map (λ r. r.1) (row_from c.rows.place rows)) (sym i.rows) ∙ ap (option_map (λ r. r.1)) (sym c.in-Some.ensures.row) in
    let begins = rw (c.as_bytes.ensures.value, c.as_bytes-in-rows.ensures.value, c.get.ensures, c.get-in-rows.ensures.0) at (sym c.is_prefix.ensures ∙ c.if-not-is_prefix.false) in
    (named R up low c.args.ask.now c.requires.delimiter _ c.rows.rows.items c.rows.place i.stands c.in-Some.version.now found begins _ _ _ c.in_ok-turn.ensures.row c.in_ok-turn.ensures.next c.in_ok-push_some.ensures).1

pub rows-preserved : goal.rows-preserved
rows-preserved g c =
    let i = c.rows.invariant in
    let R = of_bucket c.args.ask.now.bucket c.args.index.now in
    let up = bucket_order c.args.ask.now.bucket c.args.index.now c.in_order.ensures.ascending c.requires.own in
    let low = bucket_low c.args.ask.now.bucket c.args.index.now c.in_order.ensures.in_range c.requires.own in
    let found = sought_in c.args.ask.now.bucket c.rows.place c.args.index.now i.stands.stands.bucket c.requires.own ∙ ap (λ rows. option_map (λ r. r.1) (row_from c.rows.place rows)) (sym i.rows) ∙ ap (option_map (λ r. r.1)) (sym c.in-Some.ensures.row) in
    let begins = rw (c.as_bytes.ensures.value, c.as_bytes-in-rows.ensures.value, c.get.ensures, c.get-in-rows.ensures.0) at (sym c.is_prefix.ensures ∙ c.if-not-is_prefix.false) in
    let longer = few_more c.rows.rows.items c.push_some.new.rows.items _ c.in_ok-push_some.ensures in
    record {
      rows = c.seek.ensures.rows ∙ i.rows;
      stands = (named R up low c.args.ask.now c.requires.delimiter _ c.rows.rows.items c.rows.place i.stands c.in-Some.version.now found begins _ _ _ c.in_ok-turn.ensures.row c.in_ok-turn.ensures.next c.in_ok-push_some.ensures).0;
      counts = counted_turn R up low c.args.ask.now c.requires.delimiter c.args.size _ c.rows.steps c.rows.rows.items c.rows.place i.counts (omega (arith, c.rows-test.true, c.len.ensures)) i.stands.starts c.in-Some.version.now found begins _ _ _ _ c.in_ok-turn.ensures.row c.in_ok-turn.ensures.next c.in_ok-push_some.ensures c.seek.ensures.steps;
      few = omega (arith, longer, c.rows-test.true, c.len.ensures);
    }

pub returns : goal.returns
returns g c =
    let i = c.rows.invariant in
    let R = of_bucket c.args.ask.now.bucket c.args.index.now in
    let up = bucket_order c.args.ask.now.bucket c.args.index.now c.in_order.ensures.ascending c.requires.own in
    let low = bucket_low c.args.ask.now.bucket c.args.index.now c.in_order.ensures.in_range c.requires.own in
    let full : length c.rows.rows.items ≡ c.args.size + 1 = omega (arith, i.few, c.rows-test.false, c.len.ensures) in
    record {
      rows = enough_taken (c.args.size + 1) c.rows.rows.items _ _ i.stands.stands.split full;
      steps = ends_full R up low c.args.ask.now c.requires.delimiter c.args.size _ c.rows.steps c.rows.rows.items c.rows.place i.counts full;
    }
