use Rattle.std.proofs.Common.{◌+◌, arith, refl, sym, ap, ◌∙◌, true}
use Rattle.std.specs.Prelude.{option_map}
use Rattle.version_index.specs.Rows.{row_from}
use Rattle.index_rows.specs.OwnRows.{of_bucket}
use Rattle.listing_pages.proofs.Gather.{all_taken, counted, enough_taken, none_begin, none_more, turn_of, versions_begin}
use Rattle.listing_pages.proofs.Sought.{bucket_low, bucket_order, sought_in}
use Rattle.listing_pages.proofs.versions.rows_from.Goals as goal

pub rows-init : goal.rows-init
rows-init g c =
    let R = of_bucket c.args.ask.now.bucket c.args.index.now in
    let up = bucket_order c.args.ask.now.bucket c.args.index.now c.in_order.ensures.ascending c.requires.own in
    let low = bucket_low c.args.ask.now.bucket c.args.index.now c.in_order.ensures.in_range c.requires.own in
    let begin = versions_begin R up low c.args.ask.now c.requires.delimiter in
    record {
      rows = c.new-walk.ensures;
      stands = rw (c.in_ok-place.ensures, c.new-rows.ensures.items) begin;
      steps = rw c.new-rows.ensures.items (omega arith);
      few = rw c.new-rows.ensures.items (omega arith);
    }

pub returns-in_default-clause-rows : goal.returns-in_default-clause-rows
returns-in_default-clause-rows g c =
    let i = c.rows.invariant in
    let R = of_bucket c.args.ask.now.bucket c.args.index.now in
    let up = bucket_order c.args.ask.now.bucket c.args.index.now c.in_order.ensures.ascending c.requires.own in
    let low = bucket_low c.args.ask.now.bucket c.args.index.now c.in_order.ensures.in_range c.requires.own in
    let found = sought_in c.args.ask.now.bucket c.rows.place c.args.index.now i.stands.bucket c.requires.own ∙ ap (λ rows. option_map (λ r. r.1) (row_from c.rows.place rows)) (sym i.rows) ∙ ap (option_map (λ r. r.1)) (sym c.in_default.ensures.row) in
    all_taken (c.args.size + 1) c.rows.rows.items _ (none_more (λ v. true) R up low c.args.ask.now c.requires.delimiter _ c.rows.rows.items c.rows.place i.stands found) i.few

pub returns-then-not-is_prefix-clause-rows : goal.returns-then-not-is_prefix-clause-rows
returns-then-not-is_prefix-clause-rows g c =
    let i = c.rows.invariant in
    let R = of_bucket c.args.ask.now.bucket c.args.index.now in
    let up = bucket_order c.args.ask.now.bucket c.args.index.now c.in_order.ensures.ascending c.requires.own in
    let low = bucket_low c.args.ask.now.bucket c.args.index.now c.in_order.ensures.in_range c.requires.own in
    let found = sought_in c.args.ask.now.bucket c.rows.place c.args.index.now i.stands.bucket c.requires.own ∙ ap (λ rows. option_map (λ r. r.1) (row_from c.rows.place rows)) (sym i.rows) ∙ ap (option_map (λ r. r.1)) (sym c.in-Some.ensures.row) in
    let out = rw (c.as_bytes.ensures.value, c.as_bytes-in-rows.ensures.value, c.get.ensures, c.get-in-rows.ensures.0) at (sym c.is_prefix.ensures ∙ c.if-not-is_prefix.true) in
    all_taken (c.args.size + 1) c.rows.rows.items _ (none_begin (λ v. true) R up low c.args.ask.now c.requires.delimiter _ c.rows.rows.items c.rows.place i.stands c.in-Some.version.now found out) i.few

pub rows-preserved : goal.rows-preserved
rows-preserved g c =
    let i = c.rows.invariant in
    let R = of_bucket c.args.ask.now.bucket c.args.index.now in
    let up = bucket_order c.args.ask.now.bucket c.args.index.now c.in_order.ensures.ascending c.requires.own in
    let low = bucket_low c.args.ask.now.bucket c.args.index.now c.in_order.ensures.in_range c.requires.own in
    let found = sought_in c.args.ask.now.bucket c.rows.place c.args.index.now i.stands.bucket c.requires.own ∙ ap (λ rows. option_map (λ r. r.1) (row_from c.rows.place rows)) (sym i.rows) ∙ ap (option_map (λ r. r.1)) (sym c.in-Some.ensures.row) in
    let begins = rw (c.as_bytes.ensures.value, c.as_bytes-in-rows.ensures.value, c.get.ensures, c.get-in-rows.ensures.0) at (sym c.is_prefix.ensures ∙ c.if-not-is_prefix.false) in
    let longer = counted c.rows.rows.items c.push.new.self.items _ c.in_ok-push.ensures.items in
    record {
      rows = c.seek.ensures.rows ∙ i.rows;
      stands = turn_of (λ v. true) R up low c.args.ask.now c.requires.delimiter _ c.rows.rows.items c.rows.place i.stands c.in-Some.version.now _ _ _ found refl begins c.in_ok-turn.ensures.row c.in_ok-turn.ensures.next c.in_ok-push.ensures.items;
      steps = omega (arith, longer, i.steps, c.seek.ensures.steps);
      few = omega (arith, longer, c.rows-test.true, c.len.ensures);
    }

pub returns-clause-rows : goal.returns-clause-rows
returns-clause-rows g c =
    let i = c.rows.invariant in
    enough_taken (c.args.size + 1) c.rows.rows.items _ _ i.stands.split (omega (arith, i.few, c.rows-test.false, c.len.ensures))
