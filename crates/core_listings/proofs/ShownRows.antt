-- What is shown of the rows of a page is what the machine shows of them.
use Rattle.std.proofs.Common.{◌≡◌, ℕ, List, [], ◌∷◌, Option, None, Some, map, option_map, refl, sym, ap, subst, ◌∙◌}
use Rattle.std.specs.Prelude.{option_and_then}
use Rattle.std.specs.List.{All, AllByRecursion}
use Rattle.std.specs.Option.{IfSome, is_some}
use Rattle.std.proofs.lemmas.List.Elements.{All-cons, All-nil}
use Rattle.b2_base.specs.declared.extent.Extent.{Extent}
use Rattle.b2_types.specs.declared.key.Key.{Key}
use Rattle.b2_types.specs.declared.shown.ShownFile.{ShownFile}
use Rattle.b2_types.specs.declared.version.VersionOf.{VersionOf}
use Rattle.b2_model.specs.AskListings.{next_row}
use Rattle.b2_model.specs.Pages.{Page, Row, file, folder, row_name}
use Rattle.b2_model.specs.Plan.{id_of}
use Rattle.b2_model.specs.Shown.{shown_file, shown_row}
use Rattle.b2_model.specs.State.{State}
use Rattle.new_versions.specs.Decided.{extent_len}
use Rattle.listing_pages.specs.declared.page.PageRow.{PageRow}
use Rattle.listing_pages.specs.PageOf.{page_row, row_place, shown_page}
use Rattle.listing_pages.specs.Unfinished.{shown_starts, version_row}
use Rattle.core_listings.specs.Rows.{IsThere, id_at, next_at, shown_at}
use Rattle.core_listings.proofs.Standing.{IsFound, StandsIn, in_bucket}

same_list : {X : Type 0} (xs ys : List X) → map Some xs ≡ map Some ys → xs ≡ ys
same_list [] [] same = refl
same_list [] (y ∷ ys) same = cc
same_list (x ∷ xs) [] same = cc
same_list (x ∷ xs) (y ∷ ys) same =
    let first : x ≡ y = cc in
    let rest : map Some xs ≡ map Some ys = cc in
    rw (first, same_list xs ys rest) refl

-- rows that are handed out, of things that have P
module _ {X : Type 0} (P : X → Type 0) (row : X → PageRow) where
  all_there : (M : State Extent) (bucket : ℕ) → ((x : X) → P x → IsThere M bucket (row x)) → (xs : List X) → AllByRecursion P xs → All (IsThere M bucket) (map row xs)
  all_there M bucket each [] all = All-nil (IsThere M bucket)
  all_there M bucket each (x ∷ xs) all = All-cons (IsThere M bucket) (row x) (map row xs) (each x all.0) (all_there M bucket each xs all.1)

  all_shown : (M : State Extent) (key : Option Key) (bucket : ℕ) (show : X → ShownFile) → ((x : X) → P x → shown_at M key bucket (row x) ≡ Some (show x)) → (xs : List X) → AllByRecursion P xs
      → map (shown_at M key bucket) (map row xs) ≡ map Some (map show xs)
  all_shown M key bucket show each [] all = refl
  all_shown M key bucket show each (x ∷ xs) all = rw (each x all.0, all_shown M key bucket show each xs all.1) refl

module _ (M : State Extent) (bucket : ℕ) where
  file_there : (v : VersionOf Extent) → IsFound M bucket v → IsThere M bucket (version_row v)
  file_there v found = ap is_some found

  file_shown : (key : Option Key) (v : VersionOf Extent) → IsFound M bucket v → shown_at M key bucket (version_row v) ≡ Some (shown_file extent_len M.settings key v)
  file_shown key v found = ap (option_map (shown_file extent_len M.settings key)) found

  row_there : (r : Row Extent) → StandsIn M bucket r → IsThere M bucket (page_row r)
  row_there (file v) found = file_there v found
  row_there (folder name) found = tt

  row_shown : (key : Option Key) (r : Row Extent) → StandsIn M bucket r → shown_at M key bucket (page_row r) ≡ Some (shown_row extent_len M.settings key bucket r)
  row_shown key (file v) found = file_shown key v found
  row_shown key (folder name) found = refl

  -- ---- pages of versions and of names

  pub rows_there : (page : Page PageRow) (p : Page (Row Extent)) → page ≡ shown_page p → AllByRecursion (StandsIn M bucket) p.rows → All (IsThere M bucket) page.rows
  rows_there page p is all = subst (λ (q : Page PageRow). All (IsThere M bucket) q.rows) (sym is) (all_there (StandsIn M bucket) page_row M bucket row_there p.rows all)

  pub rows_shown : (key : Option Key) (page : Page PageRow) (p : Page (Row Extent)) (shown : List ShownFile) → page ≡ shown_page p → AllByRecursion (StandsIn M bucket) p.rows
      → map (shown_at M key bucket) page.rows ≡ map Some shown → shown ≡ map (shown_row extent_len M.settings key bucket) p.rows
  rows_shown key page p shown is all made = same_list shown (map (shown_row extent_len M.settings key bucket) p.rows)
      (sym made ∙ ap (λ (q : Page PageRow). map (shown_at M key bucket) q.rows) is
      ∙ all_shown (StandsIn M bucket) page_row M key bucket (shown_row extent_len M.settings key bucket) (row_shown key) p.rows all)

  pub next_shown : (o : Option (Row Extent)) → IfSome o (StandsIn M bucket) → option_map (next_at bucket) (option_map page_row o) ≡ option_map next_row o
  next_shown None stands = refl
  next_shown (Some (file v)) found = ap (λ b. Some (record { name = v.name; version = Some (record { bucket = b; num = v.num }) })) (sym (in_bucket M bucket v found))
  next_shown (Some (folder name)) found = refl

  -- ---- pages of starts

  pub starts_there : (page : Page PageRow) (p : Page (VersionOf Extent)) → page ≡ shown_starts p → AllByRecursion (IsFound M bucket) p.rows → All (IsThere M bucket) page.rows
  starts_there page p is all = subst (λ (q : Page PageRow). All (IsThere M bucket) q.rows) (sym is) (all_there (IsFound M bucket) version_row M bucket file_there p.rows all)

  pub starts_shown : (key : Option Key) (page : Page PageRow) (p : Page (VersionOf Extent)) (shown : List ShownFile) → page ≡ shown_starts p → AllByRecursion (IsFound M bucket) p.rows
      → map (shown_at M key bucket) page.rows ≡ map Some shown → shown ≡ map (shown_file extent_len M.settings key) p.rows
  starts_shown key page p shown is all made = same_list shown (map (shown_file extent_len M.settings key) p.rows)
      (sym made ∙ ap (λ (q : Page PageRow). map (shown_at M key bucket) q.rows) is
      ∙ all_shown (IsFound M bucket) version_row M key bucket (shown_file extent_len M.settings key) (file_shown key) p.rows all)

  pub id_shown : (o : Option (VersionOf Extent)) → IfSome o (IsFound M bucket) → option_and_then (id_at bucket) (option_map version_row o) ≡ option_map id_of o
  id_shown None stands = refl
  id_shown (Some v) found = ap (λ b. Some (record { bucket = b; num = v.num })) (sym (in_bucket M bucket v found))

pub name_shown : (o : Option (Row Extent)) → option_map (λ r. (row_place r).0) (option_map page_row o) ≡ option_map row_name o
name_shown None = refl
name_shown (Some (file v)) = refl
name_shown (Some (folder name)) = refl
