use Rattle.std.proofs.Common.{◌≡◌, ◌-◌, ◌<◌, ap, arith, length, rules}
use Rattle.listing_pages.proofs.Texts.{low_in_copy}
use Rattle.listing_pages.proofs.places.past_folder.Goals as goal

pub overflow_add-index_mut : goal.overflow_add-index_mut
overflow_add-index_mut c =
    let same : c.in_ok-bytes.bytes.items ≡ c.args.folder.now = search rules in
    let within : c.len-last.result - 1 < length c.in_ok-bytes.bytes.items = omega (arith, ap length same, c.len-last.ensures, c.requires) in
    let low : c.index_mut.result.now < 255 = low_in_copy c.in_ok-bytes.bytes.items c.args.folder.now (c.len-last.result - 1) c.index_mut.result.now same c.utf8.folder within c.index_mut.ensures.value in
    omega (arith, low)
