-- What two states have in common of a caller's buckets, or of the names in them, says what it is answered.
use Rattle.std.proofs.Common.{get_or, ◌≡◌, ℕ, ◌==◌, Bool, true, false, not, ◌||◌, List, [], Option, Some, find, bytes_eq, unwrap_or, option_and_then, refl, sym, ap, ◌∙◌}
use Rattle.std.specs.List.{AllPairs}
use Rattle.b2_types.specs.declared.key.Grant.{Grant}
use Rattle.b2_types.specs.declared.key.Key.{Key}
use Rattle.b2_types.specs.declared.call.Call.{Call}
use Rattle.b2_types.specs.declared.call.Call.TheVariants as call
use Rattle.b2_model.specs.Lists.{is_among}
use Rattle.b2_model.specs.State.{State, Pieces, key_at}
use Rattle.b2_model.specs.LiveGrant.{grant_at}
use Rattle.b2_model.specs.Current.{current_in}
use Rattle.b2_model.specs.Policy.{Caller, caller_of, limits, prefix_limit, is_name_among}
use Rattle.b2_model.specs.AskListings.{listing_of}
use Rattle.b2_model.specs.Pages.{listing_page, visible_versions}
use Rattle.b2_model.specs.Ask.{ask}
use Rattle.std.specs.Ordering.{is_eq}
use Rattle.std.proofs.lemmas.Map.Text.{is_eq-slice_cmp}
use Rattle.sound_states.specs.Sound.{IsBefore, IsSound}
use Rattle.sound_states.proofs.Tests.{neither}
use Rattle.isolation_laws.specs.Agree.{AgreeOnKey, AgreeOnBuckets, AgreeOnNames}
use Rattle.isolation_laws.specs.Naming.{IsLook, NamesWithin, NamesUnder}
use Rattle.isolation_laws.proofs.Kept.{found_kept, found_alone, AtMostOne}
use Rattle.isolation_laws.proofs.Buckets.{is_itself, not_false, same_text, bucket_alike, name_among_alike, named_alike, named_own, listed_alike, outside_alike}
use Rattle.isolation_laws.proofs.Rows.{rows_alike, version_alike, unfinished_alike, current_alike, names_page_alike, versions_page_alike, unfinished_names_alike, version_named_alike}
use Rattle.isolation_laws.proofs.Listings.{names_alike, versions_alike, unfinished_listed_alike, parts_alike, buckets_alike}
use Rattle.isolation_laws.proofs.Files.{info_alike, download_alike, download_by_name_alike}

-- the one bucket that is named is among these
inside : (own : List ℕ) (n : ℕ) → (not (is_among own n) || false) ≡ false → is_among own n ≡ true
inside own n within = not_false (is_among own n) (neither (not (is_among own n)) false within).0

no_more : (a : Bool) → (a || false) ≡ false → a ≡ false
no_more true none = none
no_more false none = refl

module _ {C : Type 0} (P : Pieces C) (M N : State C) (t : ℕ) (words : List ℕ) (token : Option (List ℕ)) where
  abbrev own : List ℕ
  own = limits (caller_of M token)

  abbrev AnswersAlike : Call → Type 0
  AnswersAlike c = (ask P M t words token c).answer ≡ (ask P N t words token c).answer

  module _ (caller : caller_of M token ≡ caller_of N token) (sound_m : IsSound M) (sound_n : IsSound N) where
    pub buckets_known_alike : (c : Call) → AgreeOnBuckets own M N → IsLook c → NamesWithin M own c → AnswersAlike c
    buckets_known_alike (call.ListBuckets c) agree look within =
        buckets_alike P M N t words token agree.settings caller c
        (outside_alike own M N agree.buckets c.bucket c.name)
        (listed_alike own M N agree.buckets sound_m.buckets.names sound_n.buckets.names c (no_more _ within))
    buckets_known_alike (call.ListFileNames c) agree look within =
        let in_own = inside own c.bucket within in
        names_alike P M N t words token agree.settings caller c (bucket_alike own M N agree.buckets c.bucket in_own)
        (ap (λ rows. listing_page (listing_of c) (visible_versions rows)) (rows_alike own M N agree.versions c.bucket in_own))
    buckets_known_alike (call.ListFileVersions c) agree look within =
        let in_own = inside own c.bucket within in
        versions_alike P M N t words token agree.settings caller c (bucket_alike own M N agree.buckets c.bucket in_own)
        (ap (listing_page (listing_of c)) (rows_alike own M N agree.versions c.bucket in_own))
    buckets_known_alike (call.ListUnfinishedLargeFiles c) agree look within =
        let in_own = inside own c.bucket within in
        unfinished_listed_alike P M N t words token agree.settings caller c (bucket_alike own M N agree.buckets c.bucket in_own)
        (unfinished_alike own M N agree.versions c.bucket (unwrap_or c.prefix []) (unwrap_or c.start 0) c.max in_own)
    buckets_known_alike (call.ListParts c) agree look within =
        parts_alike P M N t words token agree.settings caller c (version_alike own M N agree.versions c.bucket c.file (inside own c.bucket within))
    buckets_known_alike (call.GetFileInfo c) agree look within =
        info_alike P M N t words token agree.settings caller c (version_alike own M N agree.versions c.bucket c.file (inside own c.bucket within))
    buckets_known_alike (call.DownloadFileById c) agree look within =
        let in_own = inside own c.bucket within in
        download_alike P M N t words token agree.settings caller c (bucket_alike own M N agree.buckets c.bucket in_own) (version_alike own M N agree.versions c.bucket c.file in_own)
    buckets_known_alike (call.DownloadFileByName c) agree look within =
        let among : is_name_among M own c.bucket ≡ true = not_false (is_name_among M own c.bucket) (no_more _ within) in
        let same = name_among_alike own M N agree.buckets c.bucket in
        download_by_name_alike P M N t words token agree.settings caller c same
        (named_alike own M N agree.buckets sound_m.buckets.names sound_n.buckets.names c.bucket among)
        (λ b is. ap (λ rows. current_in rows c.name)
        (rows_alike own M N agree.versions b.num (named_own own N sound_n.buckets.names c.bucket b (sym same ∙ among) is)))
    buckets_known_alike other agree look within = absurd look

    pub names_known_alike : (c : Call) → AgreeOnNames own (prefix_limit (caller_of M token)) M N → IsLook c → NamesWithin M own c → NamesUnder M (prefix_limit (caller_of M token)) c → AnswersAlike c
    names_known_alike (call.ListBuckets c) agree look within under =
        buckets_alike P M N t words token agree.settings caller c
        (outside_alike own M N agree.buckets c.bucket c.name)
        (listed_alike own M N agree.buckets sound_m.buckets.names sound_n.buckets.names c (no_more _ within))
    names_known_alike (call.ListFileNames c) agree look within under =
        let in_own = inside own c.bucket within in
        names_alike P M N t words token agree.settings caller c (bucket_alike own M N agree.buckets c.bucket in_own)
        (names_page_alike own (prefix_limit (caller_of M token)) M N agree.versions c.bucket (listing_of c) in_own under)
    names_known_alike (call.ListFileVersions c) agree look within under =
        let in_own = inside own c.bucket within in
        versions_alike P M N t words token agree.settings caller c (bucket_alike own M N agree.buckets c.bucket in_own)
        (versions_page_alike own (prefix_limit (caller_of M token)) M N agree.versions c.bucket (listing_of c) in_own under)
    names_known_alike (call.ListUnfinishedLargeFiles c) agree look within under =
        let in_own = inside own c.bucket within in
        unfinished_listed_alike P M N t words token agree.settings caller c (bucket_alike own M N agree.buckets c.bucket in_own)
        (unfinished_names_alike own (prefix_limit (caller_of M token)) M N agree.versions c.bucket (unwrap_or c.prefix []) (unwrap_or c.start 0) c.max in_own under)
    names_known_alike (call.ListParts c) agree look within under =
        parts_alike P M N t words token agree.settings caller c
        (version_named_alike own (prefix_limit (caller_of M token)) M N agree.versions sound_n.versions.order c.bucket c.file (inside own c.bucket within) under)
    names_known_alike (call.GetFileInfo c) agree look within under =
        info_alike P M N t words token agree.settings caller c
        (version_named_alike own (prefix_limit (caller_of M token)) M N agree.versions sound_n.versions.order c.bucket c.file (inside own c.bucket within) under)
    names_known_alike (call.DownloadFileById c) agree look within under =
        let in_own = inside own c.bucket within in
        download_alike P M N t words token agree.settings caller c (bucket_alike own M N agree.buckets c.bucket in_own)
        (version_named_alike own (prefix_limit (caller_of M token)) M N agree.versions sound_n.versions.order c.bucket c.file in_own under)
    names_known_alike (call.DownloadFileByName c) agree look within under =
        let among : is_name_among M own c.bucket ≡ true = not_false (is_name_among M own c.bucket) (no_more _ within) in
        let same = name_among_alike own M N agree.buckets c.bucket in
        download_by_name_alike P M N t words token agree.settings caller c same
        (named_alike own M N agree.buckets sound_m.buckets.names sound_n.buckets.names c.bucket among)
        (λ b is. current_alike own (prefix_limit (caller_of M token)) M N agree.versions b.num c.name
        (named_own own N sound_n.buckets.names c.bucket b (sym same ∙ among) is) under)
    names_known_alike other agree look within under = absurd look

-- ---- tokens

-- who asks, by what the token is
abbrev caller_by : List ℕ → Option Grant → Option Key → Caller
caller_by token o k = record { token = Some token; grant = o; key = k }

-- texts that stand in order differ
in_order : (a b : List ℕ) → IsBefore a b → bytes_eq a b ≡ false
in_order a b less = sym (is_eq-slice_cmp a b) ∙ ap is_eq less

one_token : (token : List ℕ) (gs : List Grant) → AllPairs (λ g h. IsBefore g.text h.text) gs → AtMostOne (λ g. bytes_eq g.text token) gs
one_token token gs order i j d lt within same =
    let a = (get_or gs i d).text in
    let b = (get_or gs j d).text in
    same_text a b token (bytes_eq b token) refl (in_order a b (order i j d lt within)) same

module _ {C : Type 0} where
  abbrev asks_with : List ℕ → State C → Option Grant → Caller
  asks_with token S o = caller_by token o (option_and_then (λ g. key_at S g.key) o)

  pub token_known_alike : (M N : State C) (key : ℕ) (token : List ℕ) (g : Grant) → AgreeOnKey key M N → IsSound N → grant_at M token ≡ Some g → g.key ≡ key → caller_of M (Some token) ≡ caller_of N (Some token)
  token_known_alike M N key token g agree sound is of_key =
      let own : (g.key == key) ≡ true = rw of_key (is_itself key) in
      let there : grant_at N token ≡ Some g = found_alone (λ g. bytes_eq g.text token) (λ g. g.key == key) N.grants g (one_token token N.grants sound.tokens.order)
      (ap (find (λ g. bytes_eq g.text token)) (sym agree.tokens) ∙ found_kept (λ g. bytes_eq g.text token) (λ g. g.key == key) M.grants g is own) in
      let keys : key_at M g.key ≡ key_at N g.key = rw of_key agree.same in
      ap (asks_with token M) is ∙ ap (caller_by token (Some g)) keys ∙ sym (ap (asks_with token N) there)
