-- The rows of a page, one turn after the other.
use Rattle.std.proofs.Common.{◌≡◌, ℕ, zero, suc, ◌+◌, ◌<◌, ◌≤◌, Bool, true, false, cond, List, [], ◌∷◌, ◌++◌, Option, None, Some, length, take, filter, find, map, subst, sym, ap, ◌∙◌, ⊎_elim, refl, arith, is_lt, Less, Equal, Greater, append_assoc, append-nil}
use Rattle.std.specs.Prelude.{bytes_eq}
use Rattle.std.specs.declared.cmp.Ordering.{Ordering}
use Rattle.std.specs.List.{AllByRecursion}
use Rattle.std.specs.Ordering.{is_gt}
use Rattle.std.specs.Cmp.{tied_itself}
use Rattle.std.specs.Cmp.Lexicographic.{nat_list_cmp_total}
use Rattle.std.proofs.lemmas.Bool.{cases_Bool, false≢true}
use Rattle.std.proofs.lemmas.List.{length-append, take_all}
use Rattle.std.proofs.Math.Seq.{take-append_seam}
use Rattle.b2_types.specs.declared.version.VersionOf.{VersionOf}
use Rattle.b2_model.specs.Pages.{Row, file, folder, or_file, row_of}
use Rattle.name_rules.specs.Folder.{begins_with}
use Rattle.version_index.specs.declared.spot.Spot.{Spot}
use Rattle.listing_pages.specs.declared.ask.Ask.{Ask}
use Rattle.listing_pages.specs.declared.page.PageRow.{PageRow}
use Rattle.listing_pages.specs.PageOf.{IsDelimiter, asked_rows, folder_of_name, listing_of, page_row}
use Rattle.listing_pages.specs.Places.{after_folder, after_name, after_row, after_version, at_number, at_or_after, begin_at, first_of_name, in_folder, raised}
use Rattle.listing_pages.proofs.InFolders.{are_folders, begins_more}
use Rattle.listing_pages.proofs.Left.{after_its_version, file_turn, folder_turn, no_more, none_left, whole}
use Rattle.listing_pages.proofs.Names.{begins_upto, cmp, raised_less}
use Rattle.listing_pages.proofs.Shown.{InOrder, filter_all, found_passes, row_is, shown}
use Rattle.listing_pages.proofs.Starts.{not_above, reversed, upto_less, upto_upto}
use Rattle.listing_pages.proofs.Turns.{AreLow}

-- no name that begins with the prefix is left behind for its bytes
abbrev pub IsFromPrefix : List ℕ → Spot → Type 0
IsFromPrefix prefix s = is_gt (cmp prefix s.name) ≡ false

past_it : (prefix t f : List ℕ) → is_gt (cmp prefix t) ≡ false → 0 < length f → begins_with f t ≡ true → is_gt (cmp prefix (raised f)) ≡ false
past_it prefix t f upto some begins = ap is_gt (upto_less prefix t (raised f) upto (raised_less f t some begins))

pub name_from : (prefix : List ℕ) (bucket : ℕ) (name : List ℕ) → begins_with prefix name ≡ true → IsFromPrefix prefix (after_name bucket name)
name_from prefix bucket name begins = begins_upto prefix (name ++ 0 ∷ []) (begins_more prefix name (0 ∷ []) begins)

pub version_from : (prefix : List ℕ) (bucket : ℕ) (name : List ℕ) (n : ℕ) → begins_with prefix name ≡ true → IsFromPrefix prefix (after_version bucket name n)
version_from prefix bucket name zero begins = name_from prefix bucket name begins
version_from prefix bucket name (suc n) begins = begins_upto prefix name begins

module _ (prefix : List ℕ) (delimiter : Option (List ℕ)) (given : IsDelimiter delimiter) (bucket : ℕ) where
  pub folder_from : (name f : List ℕ) → is_gt (cmp prefix name) ≡ false → folder_of_name prefix delimiter name ≡ Some f → IsFromPrefix prefix (after_folder bucket f)
  folder_from name f upto is = let are = are_folders prefix delimiter given in past_it prefix name f upto (are.some name f is) (are.begins name f is)

  number_from : (start : List ℕ) (num : Option ℕ) → is_gt (cmp prefix start) ≡ false → IsFromPrefix prefix (at_number bucket start num)
  number_from start None upto = upto
  number_from start (Some n) upto = upto

  start_from : (start : List ℕ) (num : Option ℕ) (f : Option (List ℕ)) → is_gt (cmp prefix start) ≡ false → folder_of_name prefix delimiter start ≡ f → IsFromPrefix prefix (in_folder bucket start num f)
  start_from start num None upto is = number_from start num upto
  start_from start num (Some f) upto is = ⊎_elim
      (λ (same : bytes_eq f start ≡ true). rw same upto)
      (λ (other : bytes_eq f start ≡ false). rw other (folder_from start f upto is))
      (cases_Bool (bytes_eq f start))

  pub begin_from : (start : List ℕ) (num : Option ℕ) → IsFromPrefix prefix (cond (is_lt (cmp start prefix)) (first_of_name bucket prefix) (in_folder bucket start num (folder_of_name prefix delimiter start)))
  begin_from start num = ⊎_elim
      (λ (below : is_lt (cmp start prefix) ≡ true). rw below (ap is_gt (tied_itself nat_list_cmp_total prefix)))
      (λ (other : is_lt (cmp start prefix) ≡ false). rw other (start_from start num (folder_of_name prefix delimiter start) (not_above start prefix other) refl))
      (cases_Bool (is_lt (cmp start prefix)))

-- a version that is found stands at no lower name than the place
pub found_upto : {C : Type 0} (s : Spot) (r : VersionOf C) → at_or_after s r ≡ true → is_gt (cmp s.name r.name) ≡ false
found_upto s r is = by (cmp s.name r.name) refl where
  by : (o : Ordering) → cmp s.name r.name ≡ o → is_gt (cmp s.name r.name) ≡ false
  by Less e = ap is_gt e
  by Equal e = ap is_gt e
  by Greater e = absurd (let no_place : false ≡ true = rw (reversed s.name r.name Greater e) at is in false≢true no_place)

-- ---- what stands and what is left

module _ {C : Type 0} (P : VersionOf C → Bool) (R : List (VersionOf C)) (ask : Ask) where
  -- the rows that are left at a place
  abbrev pub still : Spot → List PageRow
  still s = map page_row (shown ask.prefix ask.delimiter (filter P (filter (at_or_after s) R)))

  -- those that stand and those that are left are all
  pub record Stands (all items : List PageRow) (place : Spot) : Type 0 where
    pub bucket : place.bucket ≡ ask.bucket
    pub from : IsFromPrefix ask.prefix place
    pub split : items ++ still place ≡ all

module _ {C : Type 0} (P : VersionOf C → Bool) (R : List (VersionOf C)) (up : InOrder R) (low : AreLow R) (ask : Ask) (given : IsDelimiter ask.delimiter) (all items : List PageRow) (place : Spot) (stands : Stands P R ask all items place) where
  pub none_more : find (at_or_after place) R ≡ None → items ≡ all
  none_more none = sym (append-nil items) ∙ ap (λ l. items ++ map page_row (shown ask.prefix ask.delimiter l)) (sym (none_left ask.prefix ask.delimiter given P R up low place none)) ∙ stands.split

  pub none_begin : (r : VersionOf C) → find (at_or_after place) R ≡ Some r → begins_with ask.prefix r.name ≡ false → items ≡ all
  none_begin r found out =
      sym (append-nil items)
      ∙ ap (λ l. items ++ map page_row l) (sym (no_more ask.prefix ask.delimiter given P R up low place r found (upto_upto ask.prefix place.name r.name stands.from (found_upto place r (found_passes (at_or_after place) R r found))) out))
      ∙ stands.split

  -- one row more, with the place after all that it stands for
  one_more : (row : Row C) (next : Spot) → shown ask.prefix ask.delimiter (filter P (filter (at_or_after place) R)) ≡ row ∷ shown ask.prefix ask.delimiter (filter P (filter (at_or_after next) R)) → next.bucket ≡ ask.bucket → IsFromPrefix ask.prefix next → Stands P R ask all (items ++ page_row row ∷ []) next
  one_more row next is bucket from = record {
    bucket = bucket;
    from = from;
    split = append_assoc items (page_row row ∷ []) (still P R ask next) ∙ ap (λ l. items ++ map page_row l) (sym is) ∙ stands.split;
  }

  pub version_turn : (r : VersionOf C) (o : Option (List ℕ)) → find (at_or_after place) R ≡ Some r → P r ≡ true → begins_with ask.prefix r.name ≡ true → folder_of_name ask.prefix ask.delimiter r.name ≡ o
      → Stands P R ask all (items ++ page_row (or_file r o) ∷ []) (after_row ask.bucket o (after_version ask.bucket r.name r.num))
  version_turn r None found counts begins is = one_more (file r) (after_version ask.bucket r.name r.num)
      (file_turn ask.prefix ask.delimiter given P R up low place r found counts begins is ∙ ap (λ l. file r ∷ shown ask.prefix ask.delimiter l) (after_its_version ask.prefix ask.delimiter given P R up low ask.bucket r))
      (version_bucket r.num) (version_from ask.prefix ask.bucket r.name r.num begins)
    where
      version_bucket : (n : ℕ) → (after_version ask.bucket r.name n).bucket ≡ ask.bucket
      version_bucket zero = refl
      version_bucket (suc n) = refl
  version_turn r (Some f) found counts begins is = one_more (folder f) (after_folder ask.bucket f)
      (folder_turn ask.prefix ask.delimiter given P R up low ask.bucket place r f found counts begins is)
      refl (folder_from ask.prefix ask.delimiter given ask.bucket r.name f (begins_upto ask.prefix r.name begins) is)

  -- the turn of a version, with its row and what comes after it
  pub turn_of : (r : VersionOf C) (row : PageRow) (next : Spot) (more : List PageRow) → find (at_or_after place) R ≡ Some r → P r ≡ true → begins_with ask.prefix r.name ≡ true
      → row ≡ page_row (row_of ask.prefix ask.delimiter r) → next ≡ after_row ask.bucket (folder_of_name ask.prefix ask.delimiter r.name) (after_version ask.bucket r.name r.num) → more ≡ items ++ row ∷ []
      → Stands P R ask all more next
  turn_of r row next more found counts begins row_same next_same more_same =
      let turn = version_turn r (folder_of_name ask.prefix ask.delimiter r.name) found counts begins refl in
      let shown_row : page_row (or_file r (folder_of_name ask.prefix ask.delimiter r.name)) ≡ row = ap page_row (sym (row_is ask.prefix ask.delimiter r)) ∙ sym row_same in
      subst (λ l. Stands P R ask all l next) (ap (λ x. items ++ x ∷ []) shown_row ∙ sym more_same)
      (subst (Stands P R ask all (items ++ page_row (or_file r (folder_of_name ask.prefix ask.delimiter r.name)) ∷ [])) (sym next_same) turn)

pub begin_bucket : (ask : Ask) (num : Option ℕ) → (begin_at ask num).bucket ≡ ask.bucket
begin_bucket ask num = ⊎_elim
    (λ (below : is_lt (cmp ask.start ask.prefix) ≡ true). rw below refl)
    (λ (other : is_lt (cmp ask.start ask.prefix) ≡ false). rw other (inside (folder_of_name ask.prefix ask.delimiter ask.start)))
    (cases_Bool (is_lt (cmp ask.start ask.prefix)))
  where
    inside : (f : Option (List ℕ)) → (in_folder ask.bucket ask.start num f).bucket ≡ ask.bucket
    inside None = by num where
      by : (n : Option ℕ) → (at_number ask.bucket ask.start n).bucket ≡ ask.bucket
      by None = refl
      by (Some n) = refl
    inside (Some f) = ⊎_elim (λ (same : bytes_eq f ask.start ≡ true). rw same refl) (λ (other : bytes_eq f ask.start ≡ false). rw other refl) (cases_Bool (bytes_eq f ask.start))

pub at_begin : {C : Type 0} (P : VersionOf C → Bool) (R : List (VersionOf C)) → InOrder R → AreLow R → (ask : Ask) → IsDelimiter ask.delimiter → Stands P R ask (map page_row (asked_rows (listing_of ask) (filter P R))) [] (begin_at ask ask.start_num)
at_begin P R up low ask given = record {
  bucket = begin_bucket ask ask.start_num;
  from = begin_from ask.prefix ask.delimiter given ask.bucket ask.start ask.start_num;
  split = ap (map page_row) (sym (whole ask.prefix ask.delimiter given P R up low ask.bucket ask.start ask.start_num));
}

all_count : {C : Type 0} (R : List (VersionOf C)) → AllByRecursion (λ (v : VersionOf C). true ≡ true) R
all_count [] = tt
all_count (v ∷ vs) = (refl, all_count vs)

pub versions_begin : {C : Type 0} (R : List (VersionOf C)) → InOrder R → AreLow R → (ask : Ask) → IsDelimiter ask.delimiter → Stands (λ v. true) R ask (map page_row (asked_rows (listing_of ask) R)) [] (begin_at ask ask.start_num)
versions_begin R up low ask given = subst (λ vs. Stands (λ v. true) R ask (map page_row (asked_rows (listing_of ask) vs)) [] (begin_at ask ask.start_num)) (filter_all (λ v. true) R (all_count R)) (at_begin (λ v. true) R up low ask given)

-- ---- as many as a page wants

pub all_taken : {X : Type 0} (n : ℕ) (items all : List X) → items ≡ all → length items ≤ n → items ≡ take n all
all_taken n items all same few = same ∙ sym (take_all n all (omega (arith, few, ap length same)))

pub enough_taken : {X : Type 0} (n : ℕ) (items more all : List X) → items ++ more ≡ all → length items ≡ n → items ≡ take n all
enough_taken n items more all split is = sym (ap (take n) (sym split) ∙ ap (λ k. take k (items ++ more)) (sym is) ∙ take-append_seam items more)

pub counted : {X : Type 0} (items more : List X) (x : X) → more ≡ items ++ x ∷ [] → length more ≡ length items + 1
counted items more x is = ap length is ∙ length-append items (x ∷ [])
