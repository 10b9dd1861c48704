use Rattle.std.proofs.Common.{[], Some, map, unwrap_or, subst, sym, ap, ◌∙◌}
use Rattle.std.specs.Prelude.{option_and_then}
use Rattle.std.specs.List.{All}
use Rattle.std.specs.Option.{option_copied}
use Rattle.b2_types.specs.declared.shown.Shown.TheVariants as shown
use Rattle.b2_model.specs.Pages.{unfinished_page}
use Rattle.b2_model.specs.Shown.{shown_file}
use Rattle.new_versions.specs.Decided.{extent_len}
use Rattle.listing_pages.specs.Unfinished.{shown_starts}
use Rattle.core_listings.specs.Rows.{IsThere, id_at, shown_at}
use Rattle.core_listings.proofs.OnListings.{asked_page}
use Rattle.core_listings.proofs.ShownRows.{id_shown, starts_shown, starts_there}
use Rattle.core_listings.proofs.Standing.{starts_stand}
use Rattle.core_listings.proofs.shown_pages.show_starts.Goals as goal

pub show_rows-requires : goal.show_rows-requires
show_rows-requires c =
    let M = c.args.core.now in
    let b = c.args.bucket in
    let q = c.args.call.now in
    let p = asked_page M q b in
    let stands = starts_stand M b (unwrap_or q.prefix []) (unwrap_or q.start 0) q.max c.is_sound.ensures.sound.versions.order in
    let page_is = c.in_ok-page.ensures ∙ ap (λ a. shown_starts (unfinished_page M a.bucket a.prefix (unwrap_or a.start_num 0) (Some a.max))) c.in_ok-ask.ensures in
    subst (All (IsThere M b)) (sym c.rows.ensures) (starts_there M b c.in_ok-page.page p page_is stands.0)

pub returns : goal.returns
returns c =
    let M = c.args.core.now in
    let b = c.args.bucket in
    let q = c.args.call.now in
    let p = asked_page M q b in
    let stands = starts_stand M b (unwrap_or q.prefix []) (unwrap_or q.start 0) q.max c.is_sound.ensures.sound.versions.order in
    let page_is = c.in_ok-page.ensures ∙ ap (λ a. shown_starts (unfinished_page M a.bucket a.prefix (unwrap_or a.start_num 0) (Some a.max))) c.in_ok-ask.ensures in
    let key = option_copied c.args.key in
    let rows_are = starts_shown M b key c.in_ok-page.page p c.in_ok-rows.rows page_is stands.0 (ap (map (shown_at M key b)) (sym c.rows.ensures) ∙ c.in_ok-rows.ensures) in
    let next_is = c.next_id-next.ensures ∙ ap (option_and_then (id_at b)) (c.next_row.ensures ∙ ap (λ g. g.next) page_is) ∙ id_shown M b p.next stands.1 in
    ap (λ shown_rows. shown.Unfinished shown_rows c.next_id-next.result) rows_are
    ∙ ap (λ next. shown.Unfinished (map (shown_file extent_len M.settings key) p.rows) next) next_is
