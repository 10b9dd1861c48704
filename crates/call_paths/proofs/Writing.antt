-- What a path is written as.
use Rattle.std.proofs.Common.{◌≡◌, ◌≢◌, ℕ, ◌<◌, ◌≤◌, ◌⊎◌, inl, inr, Bool, true, false, ◌&&◌, List, ◌++◌, ◌∷◌, length, Some, None, slice_get, slice_index_or, refl, sym, ap, ◌∙◌, subst, Bor, arith}
use Rattle.std.proofs.lemmas.Bool.{false≢true, and_parts, cases_lt}
use Rattle.std.proofs.lemmas.Option.{none-some, slice_get_past}
use Rattle.std.proofs.lemmas.List.{length-map}
use Rattle.rule_table.specs.Rows.{texts, IsRow}
use Rattle.rule_table.specs.CallName.{call_names, call_order, call_place, call_there}
use Rattle.rule_table.proofs.Rows.{texts_at}
use Rattle.rule_table.specs.declared.call.CallName.{CallName}
use Rattle.rule_table.specs.declared.call.CallName.TheVariants.{UploadFile, UploadPart, DownloadFileByName}
use Rattle.b2_types.specs.declared.fault.Target.{Target}
use Rattle.b2_types.specs.declared.fault.Target.TheVariants.{Nothing, Bucket, File}
use Rattle.b2_types.specs.declared.kinds.ApiVersion.{ApiVersion}
use Rattle.b2_types.specs.declared.kinds.ApiVersion.TheVariants.{V3, V4}
use Rattle.call_paths.specs.Path.{IsNamePath, IsPathOf, IsPath}
use Rattle.call_paths.specs.declared.routes.Route.{Route}

within_by : (n : CallName) → (call_place n < 29) ⊎ (29 ≤ call_place n) → call_place n < 29
within_by n (inl within) = within
within_by n (inr past) = absurd (none-some n (sym (slice_get_past call_order (call_place n) past) ∙ call_there n))

pub place_within : (n : CallName) → call_place n < 29
place_within n = within_by n (cases_lt (call_place n) 29)

pub row_of : (names : List (Bor (List ℕ))) (place : ℕ) (n : CallName) (d : Bor (List ℕ)) → texts names ≡ call_names → place ≡ call_place n → IsRow call_names (call_place n) (slice_index_or names place d).now
row_of names place n d all at =
    let many : length names ≡ 29 = sym (length-map names (λ name. name.now)) ∙ ap length all in
    let low = place_within n in
    let found = texts_at names place d (omega (arith, many, low, at)) in
    ap (λ xs. slice_get xs (call_place n)) (sym all) ∙ ap (slice_get (texts names)) (sym at) ∙ found
