-- The listings, call by call: what of the state their answers are made of.
use Rattle.std.proofs.Common.{◌≡◌, ℕ, ◌||◌, false, List, [], ◌++◌, Option, option_map, unwrap_or, map, filter, refl, sym, ap, subst, ◌∙◌}
use Rattle.rule_table.specs.declared.fault.FaultKind.TheVariants.{NoFile}
use Rattle.b2_base.specs.declared.settings.Settings.{Settings}
use Rattle.b2_types.specs.declared.bucket.Bucket.{Bucket}
use Rattle.b2_types.specs.declared.key.Key.{Key}
use Rattle.b2_types.specs.declared.version.VersionOf.{VersionOf}
use Rattle.b2_types.specs.declared.call.Call.TheVariants as call
use Rattle.b2_types.specs.declared.call.ListBuckets.{ListBuckets}
use Rattle.b2_types.specs.declared.call.ListFiles.{ListFiles}
use Rattle.b2_types.specs.declared.call.ListUnfinished.{ListUnfinished}
use Rattle.b2_types.specs.declared.call.ListParts.{ListParts}
use Rattle.b2_types.specs.declared.shown.Shown.TheVariants as shown
use Rattle.b2_types.specs.Naming.{filtered}
use Rattle.b2_model.specs.State.{State, Pieces, bucket_at}
use Rattle.b2_model.specs.Rows.{version_at}
use Rattle.b2_model.specs.Plan.{Plan, shows, id_of}
use Rattle.b2_model.specs.Pages.{Row, Page, names_page, versions_page, unfinished_page, row_name}
use Rattle.b2_model.specs.Shown.{shown_row, shown_file, shown_bucket}
use Rattle.b2_model.specs.AskBuckets.{fits_filters}
use Rattle.b2_model.specs.AskListings.{listing_of, next_row}
use Rattle.b2_model.specs.Policy.{caller_of, limits, judged_call, is_outside, items}
use Rattle.b2_model.specs.Ask.{ask}
use Rattle.isolation_laws.proofs.Judged.{policy_alike, answered_alike, absent_alike, on_bucket_alike}

module _ {C : Type 0} where
  abbrev names_shown : (C → ℕ) → Settings → Option Key → ℕ → Page (Row C) → Plan C
  names_shown size settings key n page = shows [] (shown.FileNames (map (shown_row size settings key n) page.rows) (option_map row_name page.next))

  abbrev versions_shown : (C → ℕ) → Settings → Option Key → ℕ → Page (Row C) → Plan C
  versions_shown size settings key n page = shows [] (shown.FileVersions (map (shown_row size settings key n) page.rows) (option_map next_row page.next))

  abbrev unfinished_shown : (C → ℕ) → Settings → Option Key → Page (VersionOf C) → Plan C
  unfinished_shown size settings key page = shows [] (shown.Unfinished (map (shown_file size settings key) page.rows) (option_map id_of page.next))

  abbrev buckets_shown : Settings → Option Key → List Bucket → Plan C
  buckets_shown settings key bs = shows [] (shown.Buckets (map (shown_bucket settings key) bs))

  module _ (P : Pieces C) (M N : State C) (t : ℕ) (words : List ℕ) (token : Option (List ℕ)) (settings : M.settings ≡ N.settings) (caller : caller_of M token ≡ caller_of N token) where
    pub names_alike : (c : ListFiles) → bucket_at M c.bucket ≡ bucket_at N c.bucket → names_page M c.bucket (listing_of c) ≡ names_page N c.bucket (listing_of c)
        → (ask P M t words token (call.ListFileNames c)).answer ≡ (ask P N t words token (call.ListFileNames c)).answer
    names_alike c bucket page =
        answered_alike P M N t words token (call.ListFileNames c) caller refl
        (λ exists. policy_alike M N t (judged_call (call.ListFileNames c)) (caller_of M token) exists settings refl refl)
        (λ key. on_bucket_alike M N c.bucket _ _ bucket (λ b is.
        ap (λ s. names_shown P.size s key b.num (names_page M b.num (listing_of c))) settings
        ∙ ap (names_shown P.size N.settings key b.num) (subst (λ n. names_page M n (listing_of c) ≡ names_page N n (listing_of c)) (sym is) page)))

    pub versions_alike : (c : ListFiles) → bucket_at M c.bucket ≡ bucket_at N c.bucket → versions_page M c.bucket (listing_of c) ≡ versions_page N c.bucket (listing_of c)
        → (ask P M t words token (call.ListFileVersions c)).answer ≡ (ask P N t words token (call.ListFileVersions c)).answer
    versions_alike c bucket page =
        answered_alike P M N t words token (call.ListFileVersions c) caller refl
        (λ exists. policy_alike M N t (judged_call (call.ListFileVersions c)) (caller_of M token) exists settings refl refl)
        (λ key. on_bucket_alike M N c.bucket _ _ bucket (λ b is.
        ap (λ s. versions_shown P.size s key b.num (versions_page M b.num (listing_of c))) settings
        ∙ ap (versions_shown P.size N.settings key b.num) (subst (λ n. versions_page M n (listing_of c) ≡ versions_page N n (listing_of c)) (sym is) page)))

    abbrev unfinished_of : State C → ListUnfinished → ℕ → Page (VersionOf C)
    unfinished_of S c n = unfinished_page S n (unwrap_or c.prefix []) (unwrap_or c.start 0) c.max

    pub unfinished_listed_alike : (c : ListUnfinished) → bucket_at M c.bucket ≡ bucket_at N c.bucket → unfinished_of M c c.bucket ≡ unfinished_of N c c.bucket
        → (ask P M t words token (call.ListUnfinishedLargeFiles c)).answer ≡ (ask P N t words token (call.ListUnfinishedLargeFiles c)).answer
    unfinished_listed_alike c bucket page =
        answered_alike P M N t words token (call.ListUnfinishedLargeFiles c) caller refl
        (λ exists. policy_alike M N t (judged_call (call.ListUnfinishedLargeFiles c)) (caller_of M token) exists settings refl refl)
        (λ key. on_bucket_alike M N c.bucket _ _ bucket (λ b is.
        ap (λ s. unfinished_shown P.size s key (unfinished_of M c b.num)) settings
        ∙ ap (unfinished_shown P.size N.settings key) (subst (λ n. unfinished_of M c n ≡ unfinished_of N c n) (sym is) page)))

    pub parts_alike : (c : ListParts) → version_at M c.bucket c.file ≡ version_at N c.bucket c.file
        → (ask P M t words token (call.ListParts c)).answer ≡ (ask P N t words token (call.ListParts c)).answer
    parts_alike c version =
        answered_alike P M N t words token (call.ListParts c) caller refl
        (λ exists. policy_alike M N t (judged_call (call.ListParts c)) (caller_of M token) exists settings refl (ap (λ o. items (option_map (λ v. v.name) o) ++ []) version))
        (λ key. absent_alike NoFile _ _ (version_at M c.bucket c.file) (version_at N c.bucket c.file) version (λ v is. refl))

    pub buckets_alike : (c : ListBuckets) → is_outside M (limits (caller_of M token)) (filtered c.bucket c.name) ≡ is_outside N (limits (caller_of M token)) (filtered c.bucket c.name)
        → filter (fits_filters c) M.buckets ≡ filter (fits_filters c) N.buckets
        → (ask P M t words token (call.ListBuckets c)).answer ≡ (ask P N t words token (call.ListBuckets c)).answer
    buckets_alike c outside listed =
        answered_alike P M N t words token (call.ListBuckets c) caller refl
        (λ exists. policy_alike M N t (judged_call (call.ListBuckets c)) (caller_of M token) exists settings (ap (λ o. o || false) outside) refl)
        (λ key. ap (λ s. buckets_shown s key (filter (fits_filters c) M.buckets)) settings ∙ ap (buckets_shown N.settings key) listed)
