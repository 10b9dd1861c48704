-- Rows that come to an index of starts.
use Rattle.std.proofs.Common.{◌≡◌, ℕ, true, false, List, [], ◌∷◌, ⊎_elim, is_lt}
use Rattle.std.proofs.lemmas.Bool.{cases_Bool}
use Rattle.version_index.specs.declared.spot.Spot.{Spot}
use Rattle.version_index.specs.Rows.{listing_cmp, placed}
use Rattle.listing_pages.specs.Unfinished.{AreStarts}

pub starts_placed : (row : Spot × List ℕ) (rows : List (Spot × List ℕ)) → row.0.name ≡ [] → AreStarts rows → AreStarts (placed row rows)
starts_placed row [] here all = (here, tt)
starts_placed row (x ∷ xs) here all = ⊎_elim
    (λ (first : is_lt (listing_cmp row.0 x.0) ≡ true). rw first (here, all))
    (λ (later : is_lt (listing_cmp row.0 x.0) ≡ false). rw later (all.0, starts_placed row xs here all.1))
    (cases_Bool (is_lt (listing_cmp row.0 x.0)))
