-- Pages of listings, in five moves on whole lists (the B2 reference, b2_list_file_names and
-- b2_list_file_versions).
use Rattle.std.specs.Prelude.{ℕ, Bool, true, false, not, ◌&&◌, ◌==◌, nat_lt, nat_le, min, List, [], ◌∷◌, Option, Some, None, if◌then◌else◌, unwrap_or, take, filter, bytes_eq, suc, zero, slice_get}
use Rattle.std.specs.Ordering.{nat_cmp, match_ordering}
use Rattle.std.specs.Cmp.Lexicographic.{slice_cmp}
use Rattle.b2_types.specs.declared.version.VersionOf.{VersionOf}
use Rattle.b2_types.specs.declared.key.Key.{Key}
use Rattle.b2_types.specs.declared.version.PartOf.{PartOf}
use Rattle.b2_model.specs.Kinds.{is_upload, is_start}
use Rattle.b2_model.specs.Checks.{some_and}
use Rattle.b2_model.specs.State.{State}
use Rattle.b2_model.specs.Rows.{rows}
use Rattle.b2_model.specs.Current.{current_in}
use Rattle.name_rules.specs.Folder.{begins_with, folder_in}

-- a row of a page
pub data Row (C : Type 0) : Type 0 where
  file : VersionOf C → Row C
  folder : List ℕ → Row C

abbrev pub row_name : {C : Type 0} → Row C → List ℕ
row_name (file v) = v.name
row_name (folder name) = name

-- a folder has no number
abbrev pub row_num : {C : Type 0} → Row C → ℕ
row_num (file v) = v.num
row_num (folder name) = 0

-- Move 1: the rows with the prefix. For names, of these the current version of each visible name.
abbrev pub with_prefix : {C : Type 0} → List ℕ → List (VersionOf C) → List (VersionOf C)
with_prefix prefix versions = filter (λ v. begins_with prefix v.name) versions

abbrev pub is_current : {C : Type 0} → List (VersionOf C) → VersionOf C → Bool
is_current versions v = some_and (λ w. w.num == v.num) (current_in versions v.name)

abbrev pub visible_versions : {C : Type 0} → List (VersionOf C) → List (VersionOf C)
visible_versions versions = filter (λ v. is_upload v.action && is_current versions v) versions

-- Move 2: a row whose name has the delimiter after the prefix becomes its folder, and of equal folders
-- that are neighbours one is kept.
abbrev pub or_file : {C : Type 0} → VersionOf C → Option (List ℕ) → Row C
or_file v None = file v
or_file v (Some name) = folder name

abbrev pub row_of : {C : Type 0} → List ℕ → Option (List ℕ) → VersionOf C → Row C
row_of prefix None v = file v
row_of prefix (Some delimiter) v = or_file v (folder_in prefix delimiter v.name)

abbrev pub same_folder : {C : Type 0} → Row C → Row C → Bool
same_folder (folder a) (folder b) = bytes_eq a b
same_folder (folder a) (file w) = false
same_folder (file v) r = false

abbrev pub before_others : {C : Type 0} → Row C → List (Row C) → List (Row C)
before_others r [] = r ∷ []
before_others r (s ∷ rest) = if same_folder r s then s ∷ rest else r ∷ s ∷ rest

abbrev pub with_folders : {C : Type 0} → List ℕ → Option (List ℕ) → List (VersionOf C) → List (Row C)
with_folders prefix delimiter [] = []
with_folders prefix delimiter (v ∷ vs) = before_others (row_of prefix delimiter v) (with_folders prefix delimiter vs)

-- Move 3: rows before the start are left out; of the very name that is the start, where a number is
-- given, those with a greater number too.
abbrev pub is_from : {C : Type 0} → List ℕ → Option ℕ → Row C → Bool
is_from start num r =
    match_ordering (slice_cmp nat_cmp (row_name r) start) false (not (some_and (λ n. nat_lt n (row_num r)) num)) true

-- Move 4: as many as were asked for, at most 1,000; 100 where none were, or 0.
abbrev pub or_default : ℕ → ℕ → ℕ
or_default given zero = given
or_default given (suc n) = suc n

-- the most rows of any page
abbrev pub most_rows : ℕ
most_rows = 1000

abbrev pub page_size : ℕ → Option ℕ → ℕ
page_size most asked = min most (or_default 100 (unwrap_or asked 0))

-- Move 5: the row after them is the next.
pub record Page (R : Type 0) : Type 0 where
  pub rows : List R
  pub next : Option R

abbrev pub page_of : {R : Type 0} → ℕ → List R → Page R
page_of n rs = record { rows = take n rs; next = slice_get rs n }

-- what a listing asks for
pub record Listing : Type 0 where
  pub prefix : List ℕ
  pub delimiter : Option (List ℕ)
  pub start : List ℕ
  pub start_num : Option ℕ
  pub most : Option ℕ

abbrev pub listing_page : {C : Type 0} → Listing → List (VersionOf C) → Page (Row C)
listing_page ask versions =
    page_of (page_size most_rows ask.most)
    (filter (is_from ask.start ask.start_num) (with_folders ask.prefix ask.delimiter (with_prefix ask.prefix versions)))

abbrev pub names_page : {C : Type 0} → State C → ℕ → Listing → Page (Row C)
names_page M bucket ask = listing_page ask (visible_versions (rows M bucket))

abbrev pub versions_page : {C : Type 0} → State C → ℕ → Listing → Page (Row C)
versions_page M bucket ask = listing_page ask (rows M bucket)

-- ---- pages by number

-- those from this number on, of a list that stands by number
abbrev pub page_from : {X : Type 0} → (X → ℕ) → ℕ → ℕ → List X → Page X
page_from num start n xs = page_of n (filter (λ x. nat_le start (num x)) xs)

abbrev pub unfinished_page : {C : Type 0} → State C → ℕ → List ℕ → ℕ → Option ℕ → Page (VersionOf C)
unfinished_page M bucket prefix start most =
    page_from (λ v. v.num) start (page_size 100 most)
    (with_prefix prefix (filter (λ v. v.bucket == bucket && is_start v.action) M.versions))

-- without the master key
abbrev pub keys_page : {C : Type 0} → State C → ℕ → Option ℕ → Page Key
keys_page M start most = page_from (λ k. k.num) start (page_size most_rows most) (filter (λ k. not (k.num == 0)) M.keys)

abbrev pub parts_page : {C : Type 0} → VersionOf C → ℕ → Option ℕ → Page (PartOf C)
parts_page v start most = page_from (λ p. p.number) start (page_size most_rows most) v.parts
