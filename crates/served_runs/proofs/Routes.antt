-- Every method and path is for a call, or there is a reason why not.
use Rattle.std.proofs.Common.{◌≡◌, ◌≢◌, ℕ, ◌<◌, ◌^◌, ◌⊎◌, inl, inr, true, false, List, ◌∷◌, ◌++◌, Option, Some, None, MatchOption, slice_get, refl, sym, ap, ◌∙◌, subst, append_assoc, arith}
use Rattle.std.specs.List.{All}
use Rattle.std.proofs.lemmas.Bool.{cases_Bool}
use Rattle.std.proofs.lemmas.Option.{none-some}
use Rattle.b2_base.specs.BucketId.{bucket_id}
use Rattle.b2_base.specs.FileId.{file_id}
use Rattle.rule_table.specs.CallName.{call_names, call_order, call_place, call_there}
use Rattle.rule_table.specs.Rows.{IsRow}
use Rattle.rule_table.specs.declared.call.CallName.{CallName}
use Rattle.rule_table.specs.declared.call.CallName.TheVariants.{UploadFile, UploadPart, DownloadFileByName}
use Rattle.rule_table.specs.declared.fault.FaultKind.{FaultKind}
use Rattle.rule_table.specs.declared.fault.FaultKind.TheVariants.{NoCall, BadMethod}
use Rattle.b2_types.specs.declared.fault.Target.{Target}
use Rattle.b2_types.specs.declared.fault.Target.TheVariants.{Nothing, Bucket, File}
use Rattle.b2_types.specs.declared.kinds.ApiVersion.{ApiVersion}
use Rattle.b2_types.specs.declared.kinds.ApiVersion.TheVariants.{V3, V4}
use Rattle.call_paths.specs.declared.routes.Route.{Route}
use Rattle.call_paths.specs.Path.{api_front, upload_front, part_front, download_front, offers, IsNamePath, IsDownloadOf, IsPathOf, IsPath, takes, serves, IsRouted, IsRouteFault}
use Rattle.call_paths.proofs.Paths.{one_path}
use Rattle.call_paths.proofs.Writing.{place_within}
use Rattle.served_runs.proofs.Decided.{Decided, as_well, both, either, is_true, some_below, same_list, all_differ, Split, is_split, Behind, is_behind}

-- ---- paths of one call

is_name_path : (path : List ℕ) (v : ApiVersion) (n : CallName) → Decided (IsNamePath path v n)
is_name_path path v n = by (slice_get call_names (call_place n)) refl
  where
    same_name : (name text : List ℕ) → slice_get call_names (call_place n) ≡ Some name → IsRow call_names (call_place n) text → text ≡ name
    same_name name text at row = cc (at, row)

    by_name : (name : List ℕ) → slice_get call_names (call_place n) ≡ Some name → Decided (path ≡ api_front v ++ name) → Decided (IsNamePath path v n)
    by_name name at (inl is) = inl (name, at, is)
    by_name name at (inr none) = inr (λ p. none (p.2 ∙ ap (λ t. api_front v ++ t) (same_name name p.0 at p.1)))

    by : (o : Option (List ℕ)) → slice_get call_names (call_place n) ≡ o → Decided (IsNamePath path v n)
    by None at = inr (λ p. none-some p.0 (sym at ∙ p.1))
    by (Some name) at = by_name name at (same_list path (api_front v ++ name))

is_upload_path : (path : List ℕ) → Decided ((bucket : ℕ) × (bucket < 2 ^ 32) × (path ≡ upload_front ++ bucket_id bucket))
is_upload_path path = some_below (2 ^ 32) (λ bucket. path ≡ upload_front ++ bucket_id bucket) (λ bucket. same_list path (upload_front ++ bucket_id bucket))

abbrev IsPart : List ℕ → ℕ → Type 0
IsPart path bucket = (file : ℕ) × (file < 9007199254740992) × (path ≡ part_front ++ file_id bucket file)

is_part_path : (path : List ℕ) → Decided ((bucket : ℕ) × (bucket < 2 ^ 32) × IsPart path bucket)
is_part_path path = some_below (2 ^ 32) (IsPart path) (λ bucket. some_below 9007199254740992 (λ file. path ≡ part_front ++ file_id bucket file) (λ file. same_list path (part_front ++ file_id bucket file)))

-- a front, a bucket's name, a slash, and a file's name
abbrev IsAnyText : List ℕ → Type 0
IsAnyText l = Unit {0}

abbrev IsBucketPart : List ℕ → Type 0
IsBucketPart = All (λ b. b ≢ 47)

abbrev InTwo : List ℕ → Type 0
InTwo = Split (λ l. l ≡ download_front) (Split IsBucketPart (Behind 47 IsAnyText))

is_in_two : (l : List ℕ) → Decided (InTwo l)
is_in_two = is_split (λ l. l ≡ download_front) (Split IsBucketPart (Behind 47 IsAnyText)) (λ l. same_list l download_front) (is_split IsBucketPart (Behind 47 IsAnyText) (all_differ 47) (is_behind 47 IsAnyText (λ l. inl tt)))

abbrev IsDownload : List ℕ → Type 0
IsDownload path = (bucket : List ℕ) × (name : List ℕ) × IsDownloadOf path bucket name

is_download_path : (path : List ℕ) → Decided (IsDownload path)
is_download_path path = as_well (is_in_two path) into out
  where
    into : InTwo path → IsDownload path
    into (front, l1, split, front_is, (bucket, l2, split2, clean, (name, l2_is, any))) =
        let rest : l1 ≡ bucket ++ 47 ∷ name = split2 ∙ ap (λ x. bucket ++ x) l2_is in
        (bucket, name, (clean, split ∙ ap (λ x. x ++ l1) front_is ∙ ap (λ x. download_front ++ x) rest ∙ sym (append_assoc download_front bucket (47 ∷ name))))

    out : IsDownload path → InTwo path
    out (bucket, name, (clean, is)) =
        (download_front, bucket ++ 47 ∷ name, is ∙ append_assoc download_front bucket (47 ∷ name), refl, (bucket, 47 ∷ name, refl, clean, (name, refl, tt)))

-- ---- paths

abbrev HasPath : List ℕ → ApiVersion → CallName → Type 0
HasPath path v n = (t : Target) × IsPathOf path v t n

has_path : (path : List ℕ) (v : ApiVersion) (n : CallName) → Decided (HasPath path v n)
has_path path v UploadFile = as_well (is_upload_path path) (λ u. (Bucket u.0, (u.0, u.1, refl, u.2))) (λ h. (h.1.0, h.1.1, h.1.3))
has_path path v UploadPart =
    as_well (is_part_path path) (λ u. let low = u.2.1 in (File u.0 u.2.0, (u.0, u.2.0, u.1, omega (arith, low), refl, u.2.2))) (λ h. let most = h.1.3 in (h.1.0, h.1.2, (h.1.1, omega (arith, most), h.1.5)))
has_path path v DownloadFileByName = as_well (is_download_path path) (λ d. (Nothing, (refl, d))) (λ h. h.1.1)
has_path path v n = as_well (is_name_path path v n) (λ p. (Nothing, (refl, p))) (λ h. h.1.1)

abbrev IsOffered : List ℕ → ApiVersion → CallName → Type 0
IsOffered path v n = (offers v n ≡ true) × HasPath path v n

-- of the call at this place of their table
abbrev IsOfferedAt : List ℕ → ApiVersion → ℕ → Type 0
IsOfferedAt path v i = MatchOption (slice_get call_order i) ⊥ (IsOffered path v)

offered_at : (path : List ℕ) (v : ApiVersion) (i : ℕ) → Decided (IsOfferedAt path v i)
offered_at path v i = by (slice_get call_order i)
  where
    by : (o : Option CallName) → Decided (MatchOption o ⊥ (IsOffered path v))
    by None = inr (λ never. never)
    by (Some n) = both (is_true (offers v n)) (has_path path v n)

abbrev IsOf : List ℕ → ApiVersion → Type 0
IsOf path v = (n : CallName) × IsOffered path v n

is_of : (path : List ℕ) (v : ApiVersion) → Decided (IsOf path v)
is_of path v = as_well (some_below 29 (IsOfferedAt path v) (offered_at path v)) into out
  where
    by : (o : Option CallName) → MatchOption o ⊥ (IsOffered path v) → IsOf path v
    by None is = absurd is
    by (Some n) is = (n, is)

    into : ((i : ℕ) × (i < 29) × IsOfferedAt path v i) → IsOf path v
    into found = by (slice_get call_order found.0) found.2

    out : IsOf path v → (i : ℕ) × (i < 29) × IsOfferedAt path v i
    out (n, is) =
        let P : Option CallName → Type 0 = λ o. MatchOption o ⊥ (IsOffered path v) in
        (call_place n, place_within n, subst P (sym (call_there n)) is)

abbrev HasRoute : List ℕ → Type 0
HasRoute path = (route : Route) × IsPath path route

has_route : (path : List ℕ) → Decided (HasRoute path)
has_route path = as_well (either (is_of path V3) (is_of path V4)) into out
  where
    route_for : (v : ApiVersion) → IsOf path v → HasRoute path
    route_for v (n, (offered, (t, is))) = (record { name = n; version = v; target = t }, record { offered = offered; is = is })

    into : IsOf path V3 ⊎ IsOf path V4 → HasRoute path
    into (inl is) = route_for V3 is
    into (inr is) = route_for V4 is

    by : (v : ApiVersion) (n : CallName) (t : Target) → offers v n ≡ true → IsPathOf path v t n → IsOf path V3 ⊎ IsOf path V4
    by V3 n t offered is = inl (n, (offered, (t, is)))
    by V4 n t offered is = inr (n, (offered, (t, is)))

    out : HasRoute path → IsOf path V3 ⊎ IsOf path V4
    out (route, is) = by route.version route.name route.target is.offered is.is

-- ---- requests

abbrev pub IsSettled : List ℕ → List ℕ → Type 0
IsSettled method path = ((route : Route) × IsRouted method path route) ⊎ ((kind : FaultKind) × IsRouteFault method path kind)

pub is_settled : (method path : List ℕ) → IsSettled method path
is_settled method path = by (has_route path)
  where
    by_method : (route : Route) → IsPath path route → serves route.version route.name ≡ true → (takes route.name method ≡ true) ⊎ (takes route.name method ≡ false) → IsSettled method path
    by_method route is served (inl taken) = inl (route, record { path_is = is; served = served; taken = taken })
    by_method route is served (inr refused) = inr (BadMethod, (route, is, served, refused))

    by_name : (route : Route) → IsPath path route → (serves route.version route.name ≡ true) ⊎ (serves route.version route.name ≡ false) → IsSettled method path
    by_name route is (inl served) = by_method route is served (cases_Bool (takes route.name method))
    by_name route is (inr unserved) = inr (NoCall, λ other also. ap (λ (r : Route). serves r.version r.name) (one_path path other route also is) ∙ unserved)

    by : Decided (HasRoute path) → IsSettled method path
    by (inl (route, is)) = by_name route is (cases_Bool (serves route.version route.name))
    by (inr none) = inr (NoCall, λ route is. absurd (none (route, is)))
