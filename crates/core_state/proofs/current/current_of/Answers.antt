use Rattle.std.proofs.Common.{◌≡◌, ◌<◌, ◌+◌, ◌≤◌, arith, refl, sym, ap, ◌∙◌, subst}
use Rattle.std.specs.Prelude.{bytes_eq, option_map}
use Rattle.b2_base.specs.declared.numbers.TheConstants.{LAST_VERSION}
use Rattle.b2_model.specs.Current.{current_in}
use Rattle.index_rows.specs.OwnRows.{of_bucket}
use Rattle.listing_pages.specs.NameRows.{StartsBefore}
use Rattle.listing_pages.proofs.Currents.{current_is, first_starts}
use Rattle.listing_pages.proofs.InFolders.{bytes_are}
use Rattle.listing_pages.proofs.Sought.{bucket_low, bucket_order, sought_in}
use Rattle.core_state.proofs.CurrentOf.{falls, goes_on, none_below, none_more, other_name}
use Rattle.core_state.proofs.current.current_of.Goals as goal

pub starts-init : goal.starts-init
starts-init g c =
    let R = of_bucket c.args.bucket c.args.index.now in
    let low = bucket_low c.args.bucket c.args.index.now c.in_order.ensures.in_range c.requires.own in
    let first = c.first_spot-place.ensures in
    record {
      bucket = ap (λ p. p.bucket) first;
      name = c.in_ok-place.ensures;
      starts = subst (λ n. StartsBefore (record { bucket = c.first_spot-place.result.bucket; name = c.in_ok-place.field-0; num = n }) R) (sym (ap (λ p. p.num) first)) (first_starts c.args.bucket c.in_ok-place.field-0 R low);
    }

pub returns-then-not-is_named : goal.returns-then-not-is_named
returns-then-not-is_named g c =
    let i = c.starts.invariant in
    let s = c.starts.place in
    let v = c.in-Some.version.now in
    let R = of_bucket c.args.bucket c.args.index.now in
    let up = bucket_order c.args.bucket c.args.index.now c.in_order.ensures.ascending c.requires.own in
    let found = sought_in c.args.bucket s c.args.index.now i.bucket c.requires.own ∙ ap (option_map (λ r. r.1)) (sym c.in-Some.ensures.row) in
    sym (ap (λ n. current_in R n) (sym i.name) ∙ other_name s R v up i.starts found (ap (λ n. bytes_eq v.name n) i.name ∙ sym c.is_named.ensures ∙ c.if-not-is_named.true))

pub returns-then-not-is_start : goal.returns-then-not-is_start
returns-then-not-is_start g c =
    let i = c.starts.invariant in
    let s = c.starts.place in
    let v = c.in-Some.version.now in
    let R = of_bucket c.args.bucket c.args.index.now in
    let found = sought_in c.args.bucket s c.args.index.now i.bucket c.requires.own ∙ ap (option_map (λ r. r.1)) (sym c.in-Some.ensures.row) in
    let name = bytes_are v.name c.args.name.now (sym c.is_named.ensures ∙ c.if-not-is_named.false) in
    sym (ap (λ n. current_in R n) (sym name) ∙ current_is s R v i.starts found (sym c.is_start.ensures ∙ c.if-not-is_start.true))

pub returns-in_default-below : goal.returns-in_default-below
returns-in_default-below g c =
    let i = c.starts.invariant in
    let s = c.starts.place in
    let v = c.in-Some.version.now in
    let R = of_bucket c.args.bucket c.args.index.now in
    let up = bucket_order c.args.bucket c.args.index.now c.in_order.ensures.ascending c.requires.own in
    let found = sought_in c.args.bucket s c.args.index.now i.bucket c.requires.own ∙ ap (option_map (λ r. r.1)) (sym c.in-Some.ensures.row) in
    let name = bytes_are v.name c.args.name.now (sym c.is_named.ensures ∙ c.if-not-is_named.false) in
    sym (ap (λ n. current_in R n) (sym i.name) ∙ none_below s R v up i.starts found (name ∙ sym i.name) (sym c.is_start.ensures ∙ c.if-not-is_start.false) c.in_default-below.ensures)

pub starts-smaller : goal.starts-smaller
starts-smaller g c =
    let i = c.starts.invariant in
    let s = c.starts.place in
    let v = c.in-Some.version.now in
    let R = of_bucket c.args.bucket c.args.index.now in
    let found = sought_in c.args.bucket s c.args.index.now i.bucket c.requires.own ∙ ap (option_map (λ r. r.1)) (sym c.in-Some.ensures.row) in
    let name = bytes_are v.name c.args.name.now (sym c.is_named.ensures ∙ c.if-not-is_named.false) in
    omega (arith, falls s R v found (name ∙ sym i.name), c.in-Some-below.ensures)

pub starts-preserved : goal.starts-preserved
starts-preserved g c =
    let i = c.starts.invariant in
    let s = c.starts.place in
    let v = c.in-Some.version.now in
    let R = of_bucket c.args.bucket c.args.index.now in
    let up = bucket_order c.args.bucket c.args.index.now c.in_order.ensures.ascending c.requires.own in
    let low = bucket_low c.args.bucket c.args.index.now c.in_order.ensures.in_range c.requires.own in
    let found = sought_in c.args.bucket s c.args.index.now i.bucket c.requires.own ∙ ap (option_map (λ r. r.1)) (sym c.in-Some.ensures.row) in
    let name = bytes_are v.name c.args.name.now (sym c.is_named.ensures ∙ c.if-not-is_named.false) in
    record {
      bucket = i.bucket;
      name = i.name;
      starts = goes_on s.bucket s R v c.in-Some-below.num up low i.starts found (name ∙ sym i.name) (sym c.is_start.ensures ∙ c.if-not-is_start.false) c.in-Some-below.ensures;
    }

pub returns : goal.returns
returns g c =
    let i = c.starts.invariant in
    let s = c.starts.place in
    let R = of_bucket c.args.bucket c.args.index.now in
    let found = sought_in c.args.bucket s c.args.index.now i.bucket c.requires.own ∙ ap (option_map (λ r. r.1)) (sym c.in_default.ensures.row) in
    sym (ap (λ n. current_in R n) (sym i.name) ∙ none_more s R i.starts found)
