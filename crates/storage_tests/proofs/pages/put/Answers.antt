use Rattle.std.proofs.Common.{◌≡◌, subst, sym, ◌∙◌, refl}
use Rattle.version_index.specs.declared.spot.Spot.{Spot}
use Rattle.index_rows.specs.OwnRows.{AreOwn}
use Rattle.listing_pages.specs.Few.{spot_at}
use Rattle.listing_pages.proofs.Sought.{own_placed}
use Rattle.storage_tests.proofs.pages.put.Goals as goal

pub returns : goal.returns
returns c =
    let spot : Spot = record { bucket = c.bucket.result; name = c.in_ok-place.place; num = c.args.version.num } in
    let same : spot ≡ spot_at c.args.name.now c.args.version.num = rw (c.bucket.ensures, c.in_ok-place.ensures, c.as_bytes.ensures.value) refl in
    subst AreOwn (sym c.in-Ok.ensures.ok) (own_placed c.args.index.now spot c.args.version c.requires.own (same ∙ sym c.requires.spot))

pub returns-in-Err : goal.returns-in-Err
returns-in-Err c = subst AreOwn (sym c.in-Err.ensures.err) c.requires.own
