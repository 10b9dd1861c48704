use Rattle.std.proofs.Common.{map, option_map, subst, sym, ap, ◌∙◌}
use Rattle.std.specs.List.{All}
use Rattle.std.specs.Option.{option_copied}
use Rattle.b2_types.specs.declared.shown.Shown.TheVariants as shown
use Rattle.b2_model.specs.AskListings.{listing_of}
use Rattle.b2_model.specs.Pages.{versions_page}
use Rattle.b2_model.specs.Rows.{rows}
use Rattle.b2_model.specs.Shown.{shown_row}
use Rattle.new_versions.specs.Decided.{extent_len}
use Rattle.listing_pages.specs.PageOf.{listing_of as asked_by, shown_page}
use Rattle.core_listings.specs.Rows.{IsThere, next_at, shown_at}
use Rattle.core_listings.proofs.ShownRows.{next_shown, rows_shown, rows_there}
use Rattle.core_listings.proofs.Standing.{page_stands, rows_found}
use Rattle.core_listings.proofs.shown_pages.show_versions.Goals as goal

pub show_rows-requires : goal.show_rows-requires
show_rows-requires c =
    let M = c.args.core.now in
    let b = c.args.bucket in
    let q = c.args.call.now in
    let p = versions_page M b (listing_of q) in
    let order = c.is_sound.ensures.sound.versions.order in
    let stands = page_stands M b (listing_of q) (rows M b) (rows_found M b order) in
    let page_is = c.in_ok-page.ensures ∙ ap (λ a. shown_page (versions_page M a.bucket (asked_by a))) c.in_ok-ask.ensures.asked in
    subst (All (IsThere M b)) (sym c.rows.ensures) (rows_there M b c.in_ok-page.page p page_is stands.0)

pub returns : goal.returns
returns c =
    let M = c.args.core.now in
    let b = c.args.bucket in
    let q = c.args.call.now in
    let p = versions_page M b (listing_of q) in
    let order = c.is_sound.ensures.sound.versions.order in
    let stands = page_stands M b (listing_of q) (rows M b) (rows_found M b order) in
    let page_is = c.in_ok-page.ensures ∙ ap (λ a. shown_page (versions_page M a.bucket (asked_by a))) c.in_ok-ask.ensures.asked in
    let key = option_copied c.args.key in
    let rows_are = rows_shown M b key c.in_ok-page.page p c.in_ok-rows.rows page_is stands.0 (ap (map (shown_at M key b)) (sym c.rows.ensures) ∙ c.in_ok-rows.ensures) in
    let next_is = c.in_ok-next.ensures ∙ ap (option_map (next_at b)) (c.next_row.ensures ∙ ap (λ g. g.next) page_is) ∙ next_shown M b p.next stands.1 in
    ap (λ shown_rows. shown.FileVersions shown_rows c.in_ok-next.next) rows_are
    ∙ ap (λ next. shown.FileVersions (map (shown_row extent_len M.settings key b) p.rows) next) next_is
