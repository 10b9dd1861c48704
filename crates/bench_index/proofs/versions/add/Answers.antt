use Rattle.std.proofs.Common.{subst, sym, ◌+◌}
use Rattle.index_rows.specs.OwnRows.{AreOwn}
use Rattle.listing_pages.proofs.Sought.{own_placed}
use Rattle.bench_index.specs.Fresh.{AreBelow}
use Rattle.bench_index.proofs.Placed.{all_below, free}
use Rattle.bench_index.proofs.versions.add.Goals as goal

pub insert-requires : goal.insert-requires
insert-requires c = record { free = free (record { bucket = c.in_ok-bucket.bucket; name = c.of-name.result; num = c.in_ok-num.num }) c.args.index.now (subst (λ n. AreBelow n c.args.index.now) (sym c.in_ok-num.ensures.value) c.requires.below) }

pub returns-clause-below : goal.returns-clause-below
returns-clause-below c = subst (AreBelow (c.args.turn + 1)) (sym c.in-Ok.ensures.ok)
    (all_below (record { bucket = c.in_ok-bucket.bucket; name = c.of-name.result; num = c.in_ok-num.num }, c.in_ok-version.version) c.args.turn c.args.index.now c.in_ok-num.ensures.value c.requires.below)

pub returns-clause-own : goal.returns-clause-own
returns-clause-own c = subst AreOwn (sym c.in-Ok.ensures.ok)
    (own_placed c.args.index.now (record { bucket = c.in_ok-bucket.bucket; name = c.of-name.result; num = c.in_ok-num.num }) c.in_ok-version.version c.requires.own (sym c.in_ok-version.ensures))
