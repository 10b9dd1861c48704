-- Types of files that are known by the ends of their names.
use Rattle.std.proofs.Common.{◌≡◌, ℕ, List, [], ◌∷◌, Some, slice_get, codes, refl, arith}
use Rattle.rule_table.specs.Order.{found_at}
use Rattle.rule_table.specs.declared.file_kind.FileKind.{FileKind}
use Rattle.rule_table.specs.declared.file_kind.FileKind.TheVariants.{Txt, Html, Htm, Css, Csv, Js, Json, Xml, Pdf, Zip, Gz, Png, Jpg, Jpeg, Gif, Mp4}

-- the values, by their places
abbrev pub kind_order : List FileKind
kind_order = Txt ∷ Html ∷ Htm ∷ Css ∷ Csv ∷ Js ∷ Json ∷ Xml ∷ Pdf ∷ Zip ∷ Gz ∷ Png ∷ Jpg ∷ Jpeg ∷ Gif ∷ Mp4 ∷ []

-- their names, in the same order
abbrev pub kind_names : List (List ℕ)
kind_names = codes "txt" ∷ codes "html" ∷ codes "htm" ∷ codes "css" ∷ codes "csv" ∷ codes "js" ∷ codes "json" ∷ codes "xml" ∷ codes "pdf" ∷ codes "zip" ∷ codes "gz" ∷ codes "png" ∷ codes "jpg" ∷ codes "jpeg" ∷ codes "gif" ∷ codes "mp4" ∷ []

abbrev pub kind_place : FileKind → ℕ
kind_place Txt = 0
kind_place Html = 1
kind_place Htm = 2
kind_place Css = 3
kind_place Csv = 4
kind_place Js = 5
kind_place Json = 6
kind_place Xml = 7
kind_place Pdf = 8
kind_place Zip = 9
kind_place Gz = 10
kind_place Png = 11
kind_place Jpg = 12
kind_place Jpeg = 13
kind_place Gif = 14
kind_place Mp4 = 15

pub kind_there : (e : FileKind) → slice_get kind_order (kind_place e) ≡ Some e
kind_there Txt = refl
kind_there Html = refl
kind_there Htm = refl
kind_there Css = refl
kind_there Csv = refl
kind_there Js = refl
kind_there Json = refl
kind_there Xml = refl
kind_there Pdf = refl
kind_there Zip = refl
kind_there Gz = refl
kind_there Png = refl
kind_there Jpg = refl
kind_there Jpeg = refl
kind_there Gif = refl
kind_there Mp4 = refl

pub kind_here : (i : ℕ) (e : FileKind) → slice_get kind_order i ≡ Some e → kind_place e ≡ i
kind_here i e found = omega (arith, found_at kind_place 0 16 kind_order refl i e found)
