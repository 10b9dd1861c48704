-- A path is of one call, and names one thing.
use Rattle.std.proofs.Common.{◌≡◌, ◌≢◌, ℕ, zero, suc, ◌<◌, ◌≤◌, ◌^◌, ◌⊎◌, inl, inr, Bool, true, false, not, ◌==◌, List, [], ◌∷◌, ◌++◌, take, drop, get_or, Option, Some, None, MatchOption, slice_get, unwrap_or, codes, refl, sym, ap, ◌∙◌, subst, append_assoc, arith}
use Rattle.std.specs.List.{All, list_all}
use Rattle.std.proofs.lemmas.Bool.{cases_lt, and_parts, false≢true}
use Rattle.std.proofs.lemmas.Option.{get_or_from_slice_get, none-some}
use Rattle.std.proofs.Math.Seq.{take-append_seam}
use Rattle.b2_base.specs.Digits.{eight_digits, sixteen_digits}
use Rattle.b2_base.specs.BucketId.{bucket_id}
use Rattle.b2_base.specs.FileId.{file_id}
use Rattle.b2_base.proofs.Cuts.{cut_once}
use Rattle.b2_base.proofs.DigitsLemmas.{length-eight_digits, same_eight}
use Rattle.b2_base.proofs.IdLemmas as ids
use Rattle.rule_table.specs.CallName.{call_names, call_order, call_place, call_there}
use Rattle.rule_table.specs.Rows.{IsRow}
use Rattle.rule_table.proofs.Filled.{apart_rule}
use Rattle.rule_table.specs.declared.call.CallName.{CallName}
use Rattle.rule_table.specs.declared.call.CallName.TheVariants.{UploadFile, UploadPart, DownloadFileByName}
use Rattle.b2_types.specs.declared.fault.Target.{Target}
use Rattle.b2_types.specs.declared.fault.Target.TheVariants.{Nothing, Bucket, File}
use Rattle.b2_types.specs.declared.kinds.ApiVersion.{ApiVersion}
use Rattle.b2_types.specs.declared.kinds.ApiVersion.TheVariants.{V3, V4}
use Rattle.call_paths.specs.declared.routes.Route.{Route}
use Rattle.call_paths.specs.Path.{api_front, upload_front, part_front, download_front, offers, has_name_path, IsNamePath, IsDownloadOf, IsPathOf, IsPath}
use Rattle.call_paths.proofs.Reading.{after_front, one_version}
use Rattle.call_paths.proofs.Writing.{place_within}

-- ---- numbers by their digits

one_bucket : (path : List ℕ) (a b : ℕ) → a < 2 ^ 32 → b < 2 ^ 32 → path ≡ upload_front ++ bucket_id a → path ≡ upload_front ++ bucket_id b → a ≡ b
one_bucket path a b small_a small_b first second = same_eight a b small_a small_b (ap (drop 41) (sym first ∙ second))

-- the digits of the bucket in an id
bucket_digits : (b v : ℕ) → take 8 (drop 3 (file_id b v)) ≡ eight_digits b
bucket_digits b v =
    let rest : List ℕ = codes "_f" ++ sixteen_digits v in
    ap (take 8) (append_assoc (eight_digits b) (codes "_f") (sixteen_digits v)) ∙ ap (λ n. take n (eight_digits b ++ rest)) (sym (length-eight_digits b)) ∙ take-append_seam (eight_digits b) rest

same_file : (b v c w : ℕ) → b < 2 ^ 32 → c < 2 ^ 32 → v ≤ 9007199254740991 → w ≤ 9007199254740991 → file_id b v ≡ file_id c w → (b ≡ c) × (v ≡ w)
same_file b v c w small_b small_c most_v most_w same = (
  same_eight b c small_b small_c (sym (bucket_digits b v) ∙ ap (λ t. take 8 (drop 3 t)) same ∙ bucket_digits c w),
  ids.one_version (file_id b v) b v c w (omega (arith, most_v)) (omega (arith, most_w)) refl same,
)

-- ---- names of calls

pass_at : {X : Type 0} (p : X → Bool) (xs : List X) (i : ℕ) (x : X) → list_all p xs ≡ true → slice_get xs i ≡ Some x → p x ≡ true
pass_at p [] i x all at = absurd (none-some x at)
pass_at p (y ∷ ys) zero x all at = ap p (sym (ap (λ o. unwrap_or o y) at)) ∙ (and_parts (p y) (list_all p ys) all).0
pass_at p (y ∷ ys) (suc i) x all at = pass_at p ys i x (and_parts (p y) (list_all p ys) all).1 at

abbrev has_no_slash : List ℕ → Bool
has_no_slash name = list_all (λ b. not (b == 47)) name

no_slash : (i : ℕ) (name : List ℕ) → IsRow call_names i name → has_no_slash name ≡ true
no_slash i name row = pass_at has_no_slash call_names i name refl row

one_place : (n m : CallName) (name : List ℕ) → IsRow call_names (call_place n) name → IsRow call_names (call_place m) name
    → (call_place n < call_place m) ⊎ (call_place m ≤ call_place n) → (call_place m < call_place n) ⊎ (call_place n ≤ call_place m) → call_place n ≡ call_place m
one_place n m name first second (inl less) other =
    absurd (apart_rule call_names refl (call_place n) (call_place m) [] less (place_within m) (get_or_from_slice_get call_names (call_place n) name [] first ∙ sym (get_or_from_slice_get call_names (call_place m) name [] second)))
one_place n m name first second (inr least) (inl more) =
    absurd (apart_rule call_names refl (call_place m) (call_place n) [] more (place_within n) (get_or_from_slice_get call_names (call_place m) name [] second ∙ sym (get_or_from_slice_get call_names (call_place n) name [] first)))
one_place n m name first second (inr least) (inr most) = omega arith

one_name : (n m : CallName) (name : List ℕ) → IsRow call_names (call_place n) name → IsRow call_names (call_place m) name → n ≡ m
one_name n m name first second =
    let place = one_place n m name first second (cases_lt (call_place n) (call_place m)) (cases_lt (call_place m) (call_place n)) in
    ap (λ o. unwrap_or o n) (sym (call_there n) ∙ ap (slice_get call_order) place ∙ call_there m)

-- ---- paths of two kinds

upload_or_part : (path a b : List ℕ) → path ≡ upload_front ++ a → path ≡ part_front ++ b → ⊥
upload_or_part path a b first second = let byte : 102 ≡ 112 = ap (λ p. get_or p 20 0) (sym first ∙ second) in omega (arith, byte)

upload_or_download : (path a b name : List ℕ) → path ≡ upload_front ++ a → IsDownloadOf path b name → ⊥
upload_or_download path a b name first (clean, second) =
    let byte : 98 ≡ 102 = ap (λ p. get_or p 1 0) (sym first ∙ second ∙ append_assoc download_front b (47 ∷ name)) in omega (arith, byte)

part_or_download : (path a b name : List ℕ) → path ≡ part_front ++ a → IsDownloadOf path b name → ⊥
part_or_download path a b name first (clean, second) =
    let byte : 98 ≡ 102 = ap (λ p. get_or p 1 0) (sym first ∙ second ∙ append_assoc download_front b (47 ∷ name)) in omega (arith, byte)

name_or_download : (path : List ℕ) (v : ApiVersion) (n : CallName) (b name : List ℕ) → IsNamePath path v n → IsDownloadOf path b name → ⊥
name_or_download path V3 n b name (text, row, first) (clean, second) =
    let byte : 98 ≡ 102 = ap (λ p. get_or p 1 0) (sym first ∙ second ∙ append_assoc download_front b (47 ∷ name)) in omega (arith, byte)
name_or_download path V4 n b name (text, row, first) (clean, second) =
    let byte : 98 ≡ 102 = ap (λ p. get_or p 1 0) (sym first ∙ second ∙ append_assoc download_front b (47 ∷ name)) in omega (arith, byte)

-- no name of a call has a slash
name_or_upload : (path : List ℕ) (v : ApiVersion) (n : CallName) (id : List ℕ) → IsNamePath path v n → path ≡ upload_front ++ id → ⊥
name_or_upload path v n id (text, row, first) second =
    let P : List ℕ → Type 0 = IsRow call_names (call_place n) in
    let same : text ≡ codes "b2_upload_file/" ++ id = sym (after_front v text) ∙ ap (drop 10) (sym first ∙ second) in
    false≢true (no_slash (call_place n) (codes "b2_upload_file/" ++ id) (subst P same row))

name_or_part : (path : List ℕ) (v : ApiVersion) (n : CallName) (id : List ℕ) → IsNamePath path v n → path ≡ part_front ++ id → ⊥
name_or_part path v n id (text, row, first) second =
    let P : List ℕ → Type 0 = IsRow call_names (call_place n) in
    let same : text ≡ codes "b2_upload_part/" ++ id = sym (after_front v text) ∙ ap (drop 10) (sym first ∙ second) in
    false≢true (no_slash (call_place n) (codes "b2_upload_part/" ++ id) (subst P same row))

-- ---- every path

shape : (n : CallName) → (n ≡ UploadFile) ⊎ (n ≡ UploadPart) ⊎ (n ≡ DownloadFileByName) ⊎ (has_name_path n ≡ true)
shape UploadFile = inl refl
shape UploadPart = inr (inl refl)
shape DownloadFileByName = inr (inr (inl refl))
shape other = inr (inr (inr refl))

-- a path, with the version, the target and the name of its route
record IsOf (path : List ℕ) (v : ApiVersion) (t : Target) (n : CallName) : Type 0 where
  offered : offers v n ≡ true
  is : IsPathOf path v t n

as_name : (path : List ℕ) (v : ApiVersion) (t : Target) (n : CallName) → has_name_path n ≡ true → IsPathOf path v t n → (t ≡ Nothing) × IsNamePath path v n
as_name path v t UploadFile has is = absurd (false≢true has)
as_name path v t UploadPart has is = absurd (false≢true has)
as_name path v t DownloadFileByName has is = absurd (false≢true has)
as_name path v t other has is = is

-- version 4 has paths of names alone
third : (v : ApiVersion) (n : CallName) → has_name_path n ≡ false → offers v n ≡ true → v ≡ V3
third V3 n other offered = refl
third V4 UploadFile other offered = absurd (false≢true offered)
third V4 UploadPart other offered = absurd (false≢true offered)
third V4 DownloadFileByName other offered = absurd (false≢true offered)
third V4 n other offered = absurd (false≢true (sym other))

record Same (v w : ApiVersion) (s t : Target) (n m : CallName) : Type 0 where
  version : v ≡ w
  target : s ≡ t
  name : n ≡ m

back : (v w : ApiVersion) (s t : Target) (n m : CallName) → Same w v t s m n → Same v w s t n m
back v w s t n m same = record { version = sym same.version; target = sym same.target; name = sym same.name }

abbrev Shape : CallName → Type 0
Shape n = (n ≡ UploadFile) ⊎ (n ≡ UploadPart) ⊎ (n ≡ DownloadFileByName) ⊎ (has_name_path n ≡ true)

both_third : (v w : ApiVersion) (n : CallName) → has_name_path n ≡ false → offers v n ≡ true → offers w n ≡ true → v ≡ w
both_third v w n other first second = third v n other first ∙ sym (third w n other second)

two_uploads : (path : List ℕ) (v w : ApiVersion) (s t : Target) → IsOf path v s UploadFile → IsOf path w t UploadFile → Same v w s t UploadFile UploadFile
two_uploads path v w s t first second =
    let a = first.is in
    let b = second.is in
    record {
      version = both_third v w UploadFile refl first.offered second.offered;
      target = a.2 ∙ ap Bucket (one_bucket path a.0 b.0 a.1 b.1 a.3 b.3) ∙ sym b.2;
      name = refl;
    }

two_parts : (path : List ℕ) (v w : ApiVersion) (s t : Target) → IsOf path v s UploadPart → IsOf path w t UploadPart → Same v w s t UploadPart UploadPart
two_parts path v w s t first second =
    let a = first.is in
    let b = second.is in
    let same = same_file a.0 a.1 b.0 b.1 a.2 b.2 a.3 b.3 (ap (drop 25) (sym a.5 ∙ b.5)) in
    record {
      version = both_third v w UploadPart refl first.offered second.offered;
      target = a.4 ∙ (λ i. File (same.0 i) (same.1 i)) ∙ sym b.4;
      name = refl;
    }

two_downloads : (path : List ℕ) (v w : ApiVersion) (s t : Target) → IsOf path v s DownloadFileByName → IsOf path w t DownloadFileByName → Same v w s t DownloadFileByName DownloadFileByName
two_downloads path v w s t first second = record {
  version = both_third v w DownloadFileByName refl first.offered second.offered;
  target = first.is.0 ∙ sym second.is.0;
  name = refl;
}

two_names : (path : List ℕ) (v w : ApiVersion) (s t : Target) (n m : CallName) → has_name_path n ≡ true → has_name_path m ≡ true → IsOf path v s n → IsOf path w t m → Same v w s t n m
two_names path v w s t n m has also first second =
    let a = as_name path v s n has first.is in
    let b = as_name path w t m also second.is in
    let P : List ℕ → Type 0 = IsRow call_names (call_place n) in
    let same : a.1.0 ≡ b.1.0 = sym (after_front v a.1.0) ∙ ap (drop 10) (sym a.1.2 ∙ b.1.2) ∙ after_front w b.1.0 in
    record {
      version = one_version v w a.1.0 b.1.0 (sym a.1.2 ∙ b.1.2);
      target = a.0 ∙ sym b.0;
      name = one_name n m b.1.0 (subst P same a.1.1) b.1.1;
    }

-- an upload, and the path of another call
upload_and : (path : List ℕ) (v w : ApiVersion) (s t : Target) (m : CallName) → IsOf path v s UploadFile → IsOf path w t m → Shape m → Same v w s t UploadFile m
upload_and path v w s t m first second (inl is) =
    let P : CallName → Type 0 = IsOf path w t in
    let Q : CallName → Type 0 = Same v w s t UploadFile in subst Q (sym is) (two_uploads path v w s t first (subst P is second))
upload_and path v w s t m first second (inr (inl is)) =
    let P : CallName → Type 0 = IsOf path w t in
    let part = (subst P is second).is in absurd (upload_or_part path _ _ first.is.3 part.5)
upload_and path v w s t m first second (inr (inr (inl is))) =
    let P : CallName → Type 0 = IsOf path w t in
    let down = (subst P is second).is in absurd (upload_or_download path (bucket_id first.is.0) down.1.0 down.1.1 first.is.3 down.1.2)
upload_and path v w s t m first second (inr (inr (inr has))) = absurd (name_or_upload path w m (bucket_id first.is.0) (as_name path w t m has second.is).1 first.is.3)

part_and : (path : List ℕ) (v w : ApiVersion) (s t : Target) (m : CallName) → IsOf path v s UploadPart → IsOf path w t m → Shape m → Same v w s t UploadPart m
part_and path v w s t m first second (inl is) =
    let P : CallName → Type 0 = IsOf path w t in
    let upload = (subst P is second).is in absurd (upload_or_part path (bucket_id upload.0) (file_id first.is.0 first.is.1) upload.3 first.is.5)
part_and path v w s t m first second (inr (inl is)) =
    let P : CallName → Type 0 = IsOf path w t in
    let Q : CallName → Type 0 = Same v w s t UploadPart in subst Q (sym is) (two_parts path v w s t first (subst P is second))
part_and path v w s t m first second (inr (inr (inl is))) =
    let P : CallName → Type 0 = IsOf path w t in
    let down = (subst P is second).is in absurd (part_or_download path (file_id first.is.0 first.is.1) down.1.0 down.1.1 first.is.5 down.1.2)
part_and path v w s t m first second (inr (inr (inr has))) = absurd (name_or_part path w m (file_id first.is.0 first.is.1) (as_name path w t m has second.is).1 first.is.5)

download_and : (path : List ℕ) (v w : ApiVersion) (s t : Target) (m : CallName) → IsOf path v s DownloadFileByName → IsOf path w t m → Shape m → Same v w s t DownloadFileByName m
download_and path v w s t m first second (inl is) =
    let P : CallName → Type 0 = IsOf path w t in
    let upload = (subst P is second).is in absurd (upload_or_download path (bucket_id upload.0) first.is.1.0 first.is.1.1 upload.3 first.is.1.2)
download_and path v w s t m first second (inr (inl is)) =
    let P : CallName → Type 0 = IsOf path w t in
    let part = (subst P is second).is in absurd (part_or_download path (file_id part.0 part.1) first.is.1.0 first.is.1.1 part.5 first.is.1.2)
download_and path v w s t m first second (inr (inr (inl is))) =
    let P : CallName → Type 0 = IsOf path w t in
    let Q : CallName → Type 0 = Same v w s t DownloadFileByName in subst Q (sym is) (two_downloads path v w s t first (subst P is second))
download_and path v w s t m first second (inr (inr (inr has))) = absurd (name_or_download path w m first.is.1.0 first.is.1.1 (as_name path w t m has second.is).1 first.is.1.2)

name_and : (path : List ℕ) (v w : ApiVersion) (s t : Target) (n m : CallName) → has_name_path n ≡ true → IsOf path v s n → IsOf path w t m → Shape m → Same v w s t n m
name_and path v w s t n m has first second (inl is) =
    let P : CallName → Type 0 = IsOf path w t in
    let upload = (subst P is second).is in absurd (name_or_upload path v n (bucket_id upload.0) (as_name path v s n has first.is).1 upload.3)
name_and path v w s t n m has first second (inr (inl is)) =
    let P : CallName → Type 0 = IsOf path w t in
    let part = (subst P is second).is in absurd (name_or_part path v n (file_id part.0 part.1) (as_name path v s n has first.is).1 part.5)
name_and path v w s t n m has first second (inr (inr (inl is))) =
    let P : CallName → Type 0 = IsOf path w t in
    let down = (subst P is second).is in absurd (name_or_download path v n down.1.0 down.1.1 (as_name path v s n has first.is).1 down.1.2)
name_and path v w s t n m has first second (inr (inr (inr also))) = two_names path v w s t n m has also first second

by_shape : (path : List ℕ) (v w : ApiVersion) (s t : Target) (n m : CallName) → IsOf path v s n → IsOf path w t m → Shape n → Same v w s t n m
by_shape path v w s t n m first second (inl is) =
    let P : CallName → Type 0 = IsOf path v s in
    let Q : CallName → Type 0 = λ k. Same v w s t k m in subst Q (sym is) (upload_and path v w s t m (subst P is first) second (shape m))
by_shape path v w s t n m first second (inr (inl is)) =
    let P : CallName → Type 0 = IsOf path v s in
    let Q : CallName → Type 0 = λ k. Same v w s t k m in subst Q (sym is) (part_and path v w s t m (subst P is first) second (shape m))
by_shape path v w s t n m first second (inr (inr (inl is))) =
    let P : CallName → Type 0 = IsOf path v s in
    let Q : CallName → Type 0 = λ k. Same v w s t k m in subst Q (sym is) (download_and path v w s t m (subst P is first) second (shape m))
by_shape path v w s t n m first second (inr (inr (inr has))) = name_and path v w s t n m has first second (shape m)

pub one_path : (path : List ℕ) (a b : Route) → IsPath path a → IsPath path b → a ≡ b
one_path path a b first second =
    let same = by_shape path a.version b.version a.target b.target a.name b.name (record { offered = first.offered; is = first.is }) (record { offered = second.offered; is = second.is }) (shape a.name) in
    λ i. record { name = same.name i; version = same.version i; target = same.target i }

pub one_pair : (path bucket name other more : List ℕ) → IsDownloadOf path bucket name → IsDownloadOf path other more → (bucket ≡ other) × (name ≡ more)
one_pair path bucket name other more (clean, is) (also, same) =
    cut_once 47 bucket other name more clean also (ap (drop 6) (sym (is ∙ append_assoc download_front bucket (47 ∷ name)) ∙ same ∙ append_assoc download_front other (47 ∷ more)))

pub read_back : (path : List ℕ) (route : Route) (found : Option Route) → IsPath path route → MatchOption found ((r : Route) → IsPath path r → ⊥) (IsPath path) → found ≡ Some route
read_back path route None is none = absurd (none route is)
read_back path route (Some r) is also = ap Some (one_path path r route also is)
