-- Rows, pages and what is shown, under a change of contents.
use Rattle.std.proofs.Common.{◌≡◌, ℕ, ◌+◌, not, ◌&&◌, ◌==◌, List, [], ◌∷◌, Option, Some, None, map, filter, fold, option_map, bytes_eq, sum_by, if◌then◌else◌, refl, sym, ap, ◌∙◌}
use Rattle.std.proofs.lemmas.List.Sums.{sum_by-cons}
use Rattle.std.proofs.lemmas.Simd.{map-map}
use Rattle.b2_base.specs.declared.settings.Settings.{Settings}
use Rattle.name_rules.specs.Folder.{folder_in}
use Rattle.b2_types.specs.declared.key.Key.{Key}
use Rattle.b2_types.specs.declared.version.PartOf.{PartOf}
use Rattle.b2_types.specs.declared.version.VersionOf.{VersionOf}
use Rattle.b2_model.specs.Kinds.{is_upload, is_start}
use Rattle.b2_model.specs.Checks.{some_and}
use Rattle.b2_model.specs.State.{State, length_of}
use Rattle.b2_model.specs.Rows.{is_before, put_row, listing_order, rows, version_at}
use Rattle.b2_model.specs.Current.{current_in, current}
use Rattle.b2_model.specs.Policy.{name_at}
use Rattle.b2_model.specs.Pages.{Row, file, folder, Listing, with_prefix, is_current, visible_versions, or_file, row_of, same_folder, before_others, with_folders, is_from, page_size, most_rows, listing_page, names_page, versions_page, unfinished_page, parts_page, page_from}
use Rattle.b2_model.specs.Shown.{shown_file, shown_row, shown_part}
use Rattle.b2_model.specs.Contents.{part_by, version_by, state_by, row_by}
use Rattle.content_laws.proofs.Mapped.{if_under, find-map, filter-map, page_by, page_of-map, page_from-map}

module _ {C D : Type 0} (f : C → D) where
  placed-by : (v : VersionOf C) (ws : List (VersionOf C)) → put_row (version_by f v) (map (version_by f) ws) ≡ map (version_by f) (put_row v ws)
  placed-by v [] = refl
  placed-by v (w ∷ ws) =
      ap (λ rest. if is_before v w then version_by f v ∷ version_by f w ∷ map (version_by f) ws else version_by f w ∷ rest) (placed-by v ws)
      ∙ if_under (map (version_by f)) (is_before v w) (v ∷ w ∷ ws) (w ∷ put_row v ws)

  sorted-from : (vs acc : List (VersionOf C)) → fold (λ ws v. put_row v ws) (map (version_by f) acc) (map (version_by f) vs) ≡ map (version_by f) (fold (λ ws v. put_row v ws) acc vs)
  sorted-from [] acc = refl
  sorted-from (v ∷ vs) acc = ap (λ a. fold (λ ws v. put_row v ws) a (map (version_by f) vs)) (placed-by v acc) ∙ sorted-from vs (put_row v acc)

  pub rows-by : (M : State C) (b : ℕ) → rows (state_by f M) b ≡ map (version_by f) (rows M b)
  rows-by M b = ap listing_order (filter-map (version_by f) (λ v. v.bucket == b) M.versions) ∙ sorted-from (filter (λ v. v.bucket == b) M.versions) []

  pub version_at-by : (M : State C) (b n : ℕ) → version_at (state_by f M) b n ≡ option_map (version_by f) (version_at M b n)
  version_at-by M b n = find-map (version_by f) (λ v. v.bucket == b && v.num == n) M.versions

  pub current_in-by : (vs : List (VersionOf C)) (name : List ℕ) → current_in (map (version_by f) vs) name ≡ option_map (version_by f) (current_in vs name)
  current_in-by vs name = find-map (version_by f) (λ v. bytes_eq v.name name && not (is_start v.action)) vs

  pub current-by : (M : State C) (b : ℕ) (name : List ℕ) → current (state_by f M) b name ≡ option_map (version_by f) (current M b name)
  current-by M b name = ap (λ vs. current_in vs name) (rows-by M b) ∙ current_in-by (rows M b) name

  name_of : (o : Option (VersionOf C)) → option_map (λ v. v.name) (option_map (version_by f) o) ≡ option_map (λ v. v.name) o
  name_of None = refl
  name_of (Some v) = refl

  pub name_at-by : (M : State C) (named : ℕ × ℕ) → name_at (state_by f M) named ≡ name_at M named
  name_at-by M named = ap (option_map (λ v. v.name)) (version_at-by M named.0 named.1) ∙ name_of (version_at M named.0 named.1)

  -- ---- pages

  has_num : (n : ℕ) (o : Option (VersionOf C)) → some_and (λ w. w.num == n) (option_map (version_by f) o) ≡ some_and (λ w. w.num == n) o
  has_num n None = refl
  has_num n (Some w) = refl

  is_current-by : (vs : List (VersionOf C)) (v : VersionOf C) → is_current (map (version_by f) vs) (version_by f v) ≡ is_current vs v
  is_current-by vs v = ap (some_and (λ w. w.num == v.num)) (current_in-by vs v.name) ∙ has_num v.num (current_in vs v.name)

  visible-by : (vs : List (VersionOf C)) → visible_versions (map (version_by f) vs) ≡ map (version_by f) (visible_versions vs)
  visible-by vs =
      filter-map (version_by f) (λ v. is_upload v.action && is_current (map (version_by f) vs) v) vs
      ∙ ap (λ p. map (version_by f) (filter p vs)) (λ i v. is_upload v.action && is_current-by vs v i)

  or_file-by : (v : VersionOf C) (o : Option (List ℕ)) → or_file (version_by f v) o ≡ row_by f (or_file v o)
  or_file-by v None = refl
  or_file-by v (Some name) = refl

  row_of-by : (prefix : List ℕ) (delimiter : Option (List ℕ)) (v : VersionOf C) → row_of prefix delimiter (version_by f v) ≡ row_by f (row_of prefix delimiter v)
  row_of-by prefix None v = refl
  row_of-by prefix (Some delimiter) v = or_file-by v (folder_in prefix delimiter v.name)

  same_folder-by : (r s : Row C) → same_folder (row_by f r) (row_by f s) ≡ same_folder r s
  same_folder-by (folder a) (folder b) = refl
  same_folder-by (folder a) (file w) = refl
  same_folder-by (file v) (folder b) = refl
  same_folder-by (file v) (file w) = refl

  before_others-by : (r : Row C) (rs : List (Row C)) → before_others (row_by f r) (map (row_by f) rs) ≡ map (row_by f) (before_others r rs)
  before_others-by r [] = refl
  before_others-by r (s ∷ rest) =
      ap (λ same. if same then row_by f s ∷ map (row_by f) rest else row_by f r ∷ row_by f s ∷ map (row_by f) rest) (same_folder-by r s)
      ∙ if_under (map (row_by f)) (same_folder r s) (s ∷ rest) (r ∷ s ∷ rest)

  with_folders-by : (prefix : List ℕ) (delimiter : Option (List ℕ)) (vs : List (VersionOf C)) → with_folders prefix delimiter (map (version_by f) vs) ≡ map (row_by f) (with_folders prefix delimiter vs)
  with_folders-by prefix delimiter [] = refl
  with_folders-by prefix delimiter (v ∷ vs) =
      ap (λ r. before_others r (with_folders prefix delimiter (map (version_by f) vs))) (row_of-by prefix delimiter v)
      ∙ ap (before_others (row_by f (row_of prefix delimiter v))) (with_folders-by prefix delimiter vs)
      ∙ before_others-by (row_of prefix delimiter v) (with_folders prefix delimiter vs)

  is_from-by : (start : List ℕ) (num : Option ℕ) (r : Row C) → is_from start num (row_by f r) ≡ is_from start num r
  is_from-by start num (file v) = refl
  is_from-by start num (folder name) = refl

  from-by : (start : List ℕ) (num : Option ℕ) (rs : List (Row C)) → filter (is_from start num) (map (row_by f) rs) ≡ map (row_by f) (filter (is_from start num) rs)
  from-by start num rs = filter-map (row_by f) (is_from start num) rs ∙ ap (λ p. map (row_by f) (filter p rs)) (λ i r. is_from-by start num r i)

  with_prefix-by : (prefix : List ℕ) (vs : List (VersionOf C)) → with_prefix prefix (map (version_by f) vs) ≡ map (version_by f) (with_prefix prefix vs)
  with_prefix-by prefix vs = filter-map (version_by f) _ vs

  listed-by : (ask : Listing) (vs : List (VersionOf C)) → listing_page ask (map (version_by f) vs) ≡ page_by (row_by f) (listing_page ask vs)
  listed-by ask vs =
      rw (with_prefix-by ask.prefix vs, with_folders-by ask.prefix ask.delimiter (with_prefix ask.prefix vs), from-by ask.start ask.start_num (with_folders ask.prefix ask.delimiter (with_prefix ask.prefix vs)))
      (page_of-map (row_by f) (page_size most_rows ask.most) (filter (is_from ask.start ask.start_num) (with_folders ask.prefix ask.delimiter (with_prefix ask.prefix vs))))

  pub names_page-by : (M : State C) (b : ℕ) (ask : Listing) → names_page (state_by f M) b ask ≡ page_by (row_by f) (names_page M b ask)
  names_page-by M b ask = ap (λ vs. listing_page ask (visible_versions vs)) (rows-by M b) ∙ ap (listing_page ask) (visible-by (rows M b)) ∙ listed-by ask (visible_versions (rows M b))

  pub versions_page-by : (M : State C) (b : ℕ) (ask : Listing) → versions_page (state_by f M) b ask ≡ page_by (row_by f) (versions_page M b ask)
  versions_page-by M b ask = ap (listing_page ask) (rows-by M b) ∙ listed-by ask (rows M b)

  pub unfinished-by : (M : State C) (b : ℕ) (prefix : List ℕ) (start : ℕ) (most : Option ℕ) → unfinished_page (state_by f M) b prefix start most ≡ page_by (version_by f) (unfinished_page M b prefix start most)
  unfinished-by M b prefix start most =
      ap (λ vs. page_from (λ v. v.num) start (page_size 100 most) (with_prefix prefix vs)) (filter-map (version_by f) (λ v. v.bucket == b && is_start v.action) M.versions)
      ∙ ap (page_from (λ v. v.num) start (page_size 100 most)) (with_prefix-by prefix (filter (λ v. v.bucket == b && is_start v.action) M.versions))
      ∙ page_from-map (version_by f) (λ v. v.num) start (page_size 100 most) (with_prefix prefix (filter (λ v. v.bucket == b && is_start v.action) M.versions))

  pub parts_page-by : (v : VersionOf C) (start : ℕ) (most : Option ℕ) → parts_page (version_by f v) start most ≡ page_by (part_by f) (parts_page v start most)
  parts_page-by v start most = page_from-map (part_by f) (λ p. p.number) start (page_size most_rows most) v.parts

  -- ---- what is shown, where lengths stay

  module _ (size : D → ℕ) (length : C → ℕ) (same : (c : C) → size (f c) ≡ length c) where
    pub length_of-by : (cs : List C) → length_of size (map f cs) ≡ length_of length cs
    length_of-by [] = refl
    length_of-by (c ∷ cs) = sum_by-cons size (f c) (map f cs) ∙ ap (λ n. n + sum_by size (map f cs)) (same c) ∙ ap (λ n. length c + n) (length_of-by cs) ∙ sym (sum_by-cons length c cs)

    pub shown_file-by : (settings : Settings) (key : Option Key) (v : VersionOf C) → shown_file size settings key (version_by f v) ≡ shown_file length settings key v
    shown_file-by settings key v = rw (length_of-by v.content) refl

    pub shown_row-by : (settings : Settings) (key : Option Key) (b : ℕ) (r : Row C) → shown_row size settings key b (row_by f r) ≡ shown_row length settings key b r
    shown_row-by settings key b (file v) = shown_file-by settings key v
    shown_row-by settings key b (folder name) = refl

    pub shown_rows-by : (settings : Settings) (key : Option Key) (b : ℕ) (rs : List (Row C)) → map (shown_row size settings key b) (map (row_by f) rs) ≡ map (shown_row length settings key b) rs
    shown_rows-by settings key b rs = map-map (shown_row size settings key b) (row_by f) rs ∙ ap (λ g. map g rs) (λ i r. shown_row-by settings key b r i)

    pub shown_files-by : (settings : Settings) (key : Option Key) (vs : List (VersionOf C)) → map (shown_file size settings key) (map (version_by f) vs) ≡ map (shown_file length settings key) vs
    shown_files-by settings key vs = map-map (shown_file size settings key) (version_by f) vs ∙ ap (λ g. map g vs) (λ i v. shown_file-by settings key v i)

    pub shown_part-by : (b n : ℕ) (p : PartOf C) → shown_part size b n (part_by f p) ≡ shown_part length b n p
    shown_part-by b n p = rw (same p.content) refl

    pub shown_parts-by : (b n : ℕ) (ps : List (PartOf C)) → map (shown_part size b n) (map (part_by f) ps) ≡ map (shown_part length b n) ps
    shown_parts-by b n ps = map-map (shown_part size b n) (part_by f) ps ∙ ap (λ g. map g ps) (λ i p. shown_part-by b n p i)
