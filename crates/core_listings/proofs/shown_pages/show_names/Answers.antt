use Rattle.std.proofs.Common.{◌&&◌, map, option_map, subst, sym, ap, ◌∙◌}
use Rattle.std.specs.List.{All}
use Rattle.std.specs.Option.{option_copied}
use Rattle.b2_types.specs.declared.shown.Shown.TheVariants as shown
use Rattle.b2_model.specs.AskListings.{listing_of}
use Rattle.b2_model.specs.Kinds.{is_upload}
use Rattle.b2_model.specs.Pages.{is_current, names_page, visible_versions}
use Rattle.b2_model.specs.Rows.{rows}
use Rattle.b2_model.specs.Shown.{shown_row}
use Rattle.new_versions.specs.Decided.{extent_len}
use Rattle.listing_pages.specs.PageOf.{listing_of as asked_by, shown_page, row_place}
use Rattle.core_listings.specs.Rows.{IsThere, shown_at}
use Rattle.listing_pages.proofs.Shown.{all_kept}
use Rattle.core_listings.proofs.ShownRows.{name_shown, rows_shown, rows_there}
use Rattle.core_listings.proofs.Standing.{IsFound, page_stands, rows_found}
use Rattle.core_listings.proofs.shown_pages.show_names.Goals as goal

pub show_rows-requires : goal.show_rows-requires
show_rows-requires c =
    let M = c.args.core.now in
    let b = c.args.bucket in
    let q = c.args.call.now in
    let p = names_page M b (listing_of q) in
    let order = c.is_sound.ensures.sound.versions.order in
    let stands = page_stands M b (listing_of q) (visible_versions (rows M b)) (all_kept (IsFound M b) (λ v. is_upload v.action && is_current (rows M b) v) (rows M b) (rows_found M b order)) in
    let page_is = c.in_ok-page.ensures ∙ ap (λ a. shown_page (names_page M a.bucket (asked_by a))) c.in_ok-ask.ensures.asked in
    subst (All (IsThere M b)) (sym c.rows.ensures) (rows_there M b c.in_ok-page.page p page_is stands.0)

pub returns : goal.returns
returns c =
    let M = c.args.core.now in
    let b = c.args.bucket in
    let q = c.args.call.now in
    let p = names_page M b (listing_of q) in
    let order = c.is_sound.ensures.sound.versions.order in
    let stands = page_stands M b (listing_of q) (visible_versions (rows M b)) (all_kept (IsFound M b) (λ v. is_upload v.action && is_current (rows M b) v) (rows M b) (rows_found M b order)) in
    let page_is = c.in_ok-page.ensures ∙ ap (λ a. shown_page (names_page M a.bucket (asked_by a))) c.in_ok-ask.ensures.asked in
    let key = option_copied c.args.key in
    let rows_are = rows_shown M b key c.in_ok-page.page p c.in_ok-rows.rows page_is stands.0 (ap (map (shown_at M key b)) (sym c.rows.ensures) ∙ c.in_ok-rows.ensures) in
    let next_is = c.in_ok-next.ensures ∙ ap (option_map (λ r. (row_place r).0)) (c.next_row.ensures ∙ ap (λ g. g.next) page_is) ∙ name_shown p.next in
    ap (λ shown_rows. shown.FileNames shown_rows c.in_ok-next.next) rows_are
    ∙ ap (λ next. shown.FileNames (map (shown_row extent_len M.settings key b) p.rows) next) next_is
