use Rattle.std.proofs.Common.{sym, ◌∙◌, arith, length}
use Rattle.listing_pages.proofs.Texts.{folder_cut}
use Rattle.listing_pages.proofs.folders.folder_text.Goals as goal

pub range-requires-clause-end_boundary : goal.range-requires-clause-end_boundary
range-requires-clause-end_boundary c =
    let found = rw (c.as_bytes.ensures.value, c.as_bytes-2.ensures.value, c.as_bytes-3.ensures.value) at (sym c.folder_of.ensures ∙ c.in_ok-end.was) in
    (folder_cut c.args.name.now c.args.delimiter.now (length c.args.prefix.now) c.in_ok-end.end c.utf8.name c.utf8.delimiter c.requires found).0

pub returns-clause-some : goal.returns-clause-some
returns-clause-some c =
    let found = rw (c.as_bytes.ensures.value, c.as_bytes-2.ensures.value, c.as_bytes-3.ensures.value) at (sym c.folder_of.ensures ∙ c.in_ok-end.was) in
    let cut = folder_cut c.args.name.now c.args.delimiter.now (length c.args.prefix.now) c.in_ok-end.end c.utf8.name c.utf8.delimiter c.requires found in
    omega (arith, cut.1, cut.2, c.range.ensures.len)
