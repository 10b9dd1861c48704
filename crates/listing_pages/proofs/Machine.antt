-- The page of unfinished files is the machine's.
use Rattle.std.proofs.Common.{◌≡◌, ℕ, ◌==◌, ◌&&◌, nat_le, Bool, true, false, List, [], ◌∷◌, Option, filter, map, sym, ap, ◌∙◌, ⊎_elim, refl}
use Rattle.std.proofs.lemmas.Bool.{cases_Bool}
use Rattle.b2_model.specs.Kinds.{is_start}
use Rattle.b2_model.specs.Pages.{page_of, page_size, unfinished_page, with_prefix}
use Rattle.b2_model.specs.State.{State}
use Rattle.name_rules.specs.Folder.{begins_with}
use Rattle.version_index.specs.declared.spot.Spot.{Spot}
use Rattle.listing_pages.specs.declared.page.PageRow.{PageRow}
use Rattle.listing_pages.specs.declared.page.PageRow.TheVariants.{File, Folder}
use Rattle.listing_pages.specs.Unfinished.{AreStartsOf, asked_starts, shown_starts, start_row, starts_in, version_row}
use Rattle.listing_pages.proofs.Paged.{page_mapped}

map_filter : {X Y : Type 0} (f : X → Y) (q : Y → Bool) (xs : List X) → map f (filter (λ x. q (f x)) xs) ≡ filter q (map f xs)
map_filter f q [] = refl
map_filter f q (x ∷ xs) = ⊎_elim
    (λ (is : q (f x) ≡ true). rw is (ap (λ l. f x ∷ l) (map_filter f q xs)))
    (λ (out : q (f x) ≡ false). rw out (map_filter f q xs))
    (cases_Bool (q (f x)))

abbrev row_begins : List ℕ → PageRow → Bool
row_begins prefix (File name num) = begins_with prefix name
row_begins prefix (Folder name) = false

abbrev row_from : ℕ → PageRow → Bool
row_from start (File name num) = nat_le start num
row_from start (Folder name) = false

pub machine_starts : {C : Type 0} (M : State C) (bucket : ℕ) (prefix : List ℕ) (start : ℕ) (most : Option ℕ) (rows : List (Spot × List ℕ)) → AreStartsOf M.versions bucket rows
    → page_of (page_size 100 most) (map start_row (asked_starts prefix start (starts_in bucket rows))) ≡ shown_starts (unfinished_page M bucket prefix start most)
machine_starts M bucket prefix start most rows are =
    let S = filter (λ v. v.bucket == bucket && is_start v.action) M.versions in
    let N = starts_in bucket rows in
    let ours = map_filter start_row (row_from start) (filter (λ p. begins_with prefix p.1) N) ∙ ap (filter (row_from start)) (map_filter start_row (row_begins prefix) N) in
    let theirs = map_filter version_row (row_from start) (with_prefix prefix S) ∙ ap (filter (row_from start)) (map_filter version_row (row_begins prefix) S) in
    ap (page_of (page_size 100 most)) (ours ∙ ap (λ l. filter (row_from start) (filter (row_begins prefix) l)) are ∙ sym theirs)
    ∙ page_mapped version_row (page_size 100 most) (filter (λ v. nat_le start v.num) (with_prefix prefix S))
