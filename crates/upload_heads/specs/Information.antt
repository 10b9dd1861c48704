-- The headers that give a file its information (the B2 reference, "File information").
use Rattle.std.specs.Prelude.{◌≡◌, ℕ, List, [], ◌∷◌, Option, Some, None, Result, Ok, Err, codes, drop, fold, filter}
use Rattle.std.specs.List.{flat_map}
use Rattle.std.specs.Ordering.{nat_cmp}
use Rattle.std.specs.Cmp.Lexicographic.{slice_cmp}
use Rattle.std.specs.declared.cmp.Ordering.{Ordering}
use Rattle.std.specs.declared.cmp.Ordering.TheVariants.{Less, Equal, Greater}
use Rattle.http_header.specs.HeaderMap.{get_all, keys}
use Rattle.b2_types.specs.declared.fault.Fault.{Fault}
use Rattle.name_rules.specs.Folder.{begins_with}
use Rattle.name_rules.specs.InfoPairs.{AreInfo, IsArranged}
use Rattle.field_kinds.specs.Info.{Pairs}
use Rattle.upload_heads.specs.Table.{Headers, bad_header, alone}
use Rattle.upload_heads.specs.Kinds.{escaped_text}

-- the names of these headers begin so; the rest of a name is the key
abbrev pub info_front : List ℕ
info_front = codes "x-bz-info-"

abbrev pub info_names : Headers → List (List ℕ)
info_names headers = filter (begins_with info_front) (keys headers)

-- the text of such a header, which is amiss where it has none
abbrev pub info_text : Headers → List ℕ → Option (List ℕ)
info_text headers name = alone escaped_text (get_all headers name)

-- ---- the first that is amiss, by the bytes of its name

abbrev pub earlier_by : Ordering → List ℕ → List ℕ → List ℕ
earlier_by Less name other = name
earlier_by Equal name other = name
earlier_by Greater name other = other

abbrev pub earlier : List ℕ → Option (List ℕ) → Option (List ℕ)
earlier name None = Some name
earlier name (Some other) = Some (earlier_by (slice_cmp nat_cmp name other) name other)

abbrev pub unless_text : Option (List ℕ) → List ℕ → Option (List ℕ) → Option (List ℕ)
unless_text (Some text) name first = first
unless_text None name first = earlier name first

abbrev pub first_amiss : Headers → List (List ℕ) → Option (List ℕ)
first_amiss headers names = fold (λ first name. unless_text (info_text headers name) name first) None names

-- ---- the pairs

abbrev pub pair_by : List ℕ → Option (List ℕ) → Pairs
pair_by name None = []
pair_by name (Some text) = (drop 10 name, text) ∷ []

abbrev pub pairs_of : Headers → List (List ℕ) → Pairs
pairs_of headers names = flat_map (λ name. pair_by name (info_text headers name)) names

-- the pairs as they are kept, or one fault for all that is amiss in them
abbrev pub AreKeptAs : Pairs → Result Pairs Fault → Type 0
AreKeptAs pairs (Ok info) = AreInfo pairs × IsArranged pairs info
AreKeptAs pairs (Err f) = (AreInfo pairs → ⊥) × (f ≡ bad_header info_front)

-- the first header that is amiss is told; where there is none, the pairs are judged
abbrev pub IsInfoBy : Option (List ℕ) → Pairs → Result Pairs Fault → Type 0
IsInfoBy None pairs info = AreKeptAs pairs info
IsInfoBy (Some name) pairs info = info ≡ Err (bad_header name)

-- what the headers give a file as its information
abbrev pub IsInfoOf : Headers → Result Pairs Fault → Type 0
IsInfoOf headers info =
    IsInfoBy (first_amiss headers (info_names headers)) (pairs_of headers (info_names headers)) info
