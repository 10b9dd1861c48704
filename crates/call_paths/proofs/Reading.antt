-- What a path is read as.
use Rattle.std.proofs.Common.{◌≡◌, ◌≢◌, ℕ, ◌<◌, ◌^◌, Bool, true, false, ◌&&◌, List, ◌++◌, ◌∷◌, Option, Some, None, MatchOption, unwrap_or, drop, get_or, refl, sym, ap, ◌∙◌, subst, Bor, arith}
use Rattle.std.specs.List.{All}
use Rattle.std.specs.Option.{is_some}
use Rattle.std.proofs.lemmas.Bool.{false≢true, and_parts}
use Rattle.std.proofs.lemmas.Option.{none-some}
use Rattle.b2_base.specs.Bytes.{IsCutAt}
use Rattle.b2_base.specs.BucketId.{bucket_id}
use Rattle.b2_base.specs.FileId.{file_id}
use Rattle.b2_base.proofs.Cuts.{has_byte}
use Rattle.rule_table.specs.Rows.{IsRow}
use Rattle.rule_table.specs.CallName.{call_names, call_place}
use Rattle.rule_table.specs.declared.call.CallName.{CallName}
use Rattle.rule_table.specs.declared.call.CallName.TheVariants.{UploadFile, UploadPart, DownloadFileByName}
use Rattle.b2_types.specs.declared.fault.Target.{Target}
use Rattle.b2_types.specs.declared.fault.Target.TheVariants.{Nothing}
use Rattle.b2_types.specs.declared.kinds.ApiVersion.{ApiVersion}
use Rattle.b2_types.specs.declared.kinds.ApiVersion.TheVariants.{V3, V4}
use Rattle.call_paths.specs.Path.{api_front, upload_front, part_front, download_front, offers, has_name_path, IsNamePath, IsDownloadOf, IsPathOf, IsPath}
use Rattle.call_paths.specs.declared.routes.Route.{Route}

-- ---- uploads

pub no_upload_front : (path : List ℕ) → ((rest : List ℕ) → path ≢ upload_front ++ rest) → (t : Target) → IsPathOf path V3 t UploadFile → ⊥
no_upload_front path none t (bucket, small, is, same) = none (bucket_id bucket) same

pub no_upload_id : (path id : List ℕ) → path ≡ upload_front ++ id → ((n : ℕ) → n < 2 ^ 32 → id ≢ bucket_id n) → (t : Target) → IsPathOf path V3 t UploadFile → ⊥
no_upload_id path id at none t (bucket, small, is, same) = none bucket small (ap (drop 25) (sym at ∙ same))

pub no_part_front : (path : List ℕ) → ((rest : List ℕ) → path ≢ part_front ++ rest) → (t : Target) → IsPathOf path V3 t UploadPart → ⊥
no_part_front path none t (bucket, file, small, most, is, same) = none (file_id bucket file) same

-- ---- downloads

-- the parts are those that the rest is cut to
abbrev HasParts : List ℕ → Option (Bor (List ℕ) × Bor (List ℕ)) → Type 0
HasParts path r = MatchOption r ((bucket name : List ℕ) → IsDownloadOf path bucket name → ⊥) (λ parts. IsDownloadOf path parts.0.now parts.1.now)

pub parts_by : (path rest : List ℕ) (r : Option (Bor (List ℕ) × Bor (List ℕ))) → path ≡ download_front ++ rest → MatchOption r (All (λ b. b ≢ 47) rest) (λ p. IsCutAt 47 rest p.0.now p.1.now) → HasParts path r
parts_by path rest (Some p) at cut = (cut.0, at ∙ ap (λ (r : List ℕ). download_front ++ r) cut.1)
parts_by path rest None at clean = λ bucket name (first, same). has_byte 47 bucket name (subst (All (λ b. b ≢ 47)) (ap (drop 6) (sym at ∙ same)) clean)

pub no_parts : (path : List ℕ) (r : Option (Bor (List ℕ) × Bor (List ℕ))) → HasParts path r → is_some r ≡ false → (bucket name : List ℕ) → IsDownloadOf path bucket name → ⊥
no_parts path (Some p) has none = absurd (false≢true (sym none))
no_parts path None has none = has

-- ---- names

pub after_front : (v : ApiVersion) (text : List ℕ) → drop 10 (api_front v ++ text) ≡ text
after_front V3 text = refl
after_front V4 text = refl

-- a front is of one version
pub one_version : (v w : ApiVersion) (a b : List ℕ) → api_front v ++ a ≡ api_front w ++ b → v ≡ w
one_version V3 V3 a b same = refl
one_version V4 V4 a b same = refl
one_version V3 V4 a b same = let byte : 51 ≡ 52 = ap (λ p. get_or p 8 0) same in absurd (omega (arith, byte))
one_version V4 V3 a b same = let byte : 52 ≡ 51 = ap (λ p. get_or p 8 0) same in absurd (omega (arith, byte))

row_of_text : (path text : List ℕ) (v w : ApiVersion) (n : CallName) → path ≡ api_front v ++ text → IsNamePath path w n → IsRow call_names (call_place n) text
row_of_text path text v w n at (other, row, is) =
    let same : other ≡ text = sym (after_front w other) ∙ ap (drop 10) (sym is ∙ at) ∙ after_front v text in subst (IsRow call_names (call_place n)) same row

pub no_name : (path text : List ℕ) (v : ApiVersion) → path ≡ api_front v ++ text → ((e : CallName) → IsRow call_names (call_place e) text → ⊥) → (w : ApiVersion) (n : CallName) → IsNamePath path w n → ⊥
no_name path text v at none w n is = none n (row_of_text path text v w n at is)

-- the call that the text names has no such path
pub no_path_of : (path text : List ℕ) (v : ApiVersion) (found : CallName) (names : List (List ℕ)) (o : Option CallName) → path ≡ api_front v ++ text → names ≡ call_names → o ≡ Some found
    → ((e : CallName) → IsRow names (call_place e) text → o ≡ Some e) → (offers v found && has_name_path found) ≡ false
    → (w : ApiVersion) (n : CallName) → (offers w n && has_name_path n) ≡ true → IsNamePath path w n → ⊥
no_path_of path text v found names o at all is_found only lacking w n has is =
    let row = subst (λ names. IsRow names (call_place n) text) (sym all) (row_of_text path text v w n at is) in
    let named : found ≡ n = ap (λ o. unwrap_or o found) (sym is_found ∙ only n row) in
    let version = one_version v w text is.0 (sym at ∙ is.2) in
    false≢true (sym lacking ∙ (λ i. offers (version i) (named i) && has_name_path (named i)) ∙ has)

-- ---- every path

no_path_by : (path : List ℕ) → ((v : ApiVersion) (n : CallName) → (offers v n && has_name_path n) ≡ true → IsNamePath path v n → ⊥) → ((t : Target) → IsPathOf path V3 t UploadFile → ⊥) → ((t : Target) → IsPathOf path V3 t UploadPart → ⊥)
    → ((bucket name : List ℕ) → IsDownloadOf path bucket name → ⊥) → (v : ApiVersion) (t : Target) (n : CallName) → offers v n ≡ true → IsPathOf path v t n → ⊥
no_path_by path named upload part download v t UploadFile offered is = upload t is
no_path_by path named upload part download v t UploadPart offered is = part t is
no_path_by path named upload part download v t DownloadFileByName offered is = download is.1.0 is.1.1 is.1.2
no_path_by path named upload part download v t other offered is = named v other (rw offered refl) is.1

pub no_path : (path : List ℕ) → ((v : ApiVersion) (n : CallName) → (offers v n && has_name_path n) ≡ true → IsNamePath path v n → ⊥) → ((t : Target) → IsPathOf path V3 t UploadFile → ⊥) → ((t : Target) → IsPathOf path V3 t UploadPart → ⊥)
    → ((bucket name : List ℕ) → IsDownloadOf path bucket name → ⊥) → (route : Route) → IsPath path route → ⊥
no_path path named upload part download route is = no_path_by path named upload part download route.version route.target route.name is.offered is.is

-- a path of a name is that of a route
pub is_named : (path : List ℕ) (v : ApiVersion) (n : CallName) → (offers v n && has_name_path n) ≡ true → IsNamePath path v n → IsPath path (record { name = n; version = v; target = Nothing })
is_named path v n both is = record { offered = (and_parts (offers v n) (has_name_path n) both).0; is = of_name n (and_parts (offers v n) (has_name_path n) both).1 is }
  where
    of_name : (m : CallName) → has_name_path m ≡ true → IsNamePath path v m → IsPathOf path v Nothing m
    of_name UploadFile has named = absurd (false≢true has)
    of_name UploadPart has named = absurd (false≢true has)
    of_name DownloadFileByName has named = absurd (false≢true has)
    of_name other has named = (refl, named)
