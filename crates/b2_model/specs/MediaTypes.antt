-- Types of files by the extension of their names, for who leaves the type to the store (the B2 reference,
-- "Content types").
use Rattle.std.specs.Prelude.{ℕ, ◌==◌, List, [], Option, Some, None, option_and_then, option_map, unwrap_or, if◌then◌else◌, find, map, reverse, codes, bytes_eq, slice_index_or}
use Rattle.std.specs.List.{before_first, list_any}
use Rattle.std.specs.Char.{to_ascii_lowercase}
use Rattle.rule_table.specs.declared.file_kind.FileKind.{FileKind}
use Rattle.rule_table.specs.declared.file_kind.FileKind.TheVariants as kind
use Rattle.rule_table.specs.FileKind.{kind_order, kind_names, kind_place}

-- (RFC 6838 and the registry of media types)
abbrev pub media_type : FileKind → List ℕ
media_type kind.Txt = codes "text/plain"
media_type kind.Html = codes "text/html"
media_type kind.Htm = codes "text/html"
media_type kind.Css = codes "text/css"
media_type kind.Csv = codes "text/csv"
media_type kind.Js = codes "text/javascript"
media_type kind.Json = codes "application/json"
media_type kind.Xml = codes "application/xml"
media_type kind.Pdf = codes "application/pdf"
media_type kind.Zip = codes "application/zip"
media_type kind.Gz = codes "application/gzip"
media_type kind.Png = codes "image/png"
media_type kind.Jpg = codes "image/jpeg"
media_type kind.Jpeg = codes "image/jpeg"
media_type kind.Gif = codes "image/gif"
media_type kind.Mp4 = codes "video/mp4"

-- what stands after the last such byte; all, where there is none
abbrev pub after_last : ℕ → List ℕ → List ℕ
after_last byte text = reverse (before_first (λ b. b == byte) (reverse text))

-- what stands after the last full stop of the part after the last slash
abbrev pub extension_in : List ℕ → Option (List ℕ)
extension_in part = if list_any (λ b. b == 46) part then Some (after_last 46 part) else None

abbrev pub extension_of : List ℕ → Option (List ℕ)
extension_of name = extension_in (after_last 47 name)

-- the kind of files with this extension, in any case of letters
abbrev pub kind_of_extension : List ℕ → Option FileKind
kind_of_extension extension =
    find (λ k. bytes_eq (slice_index_or kind_names (kind_place k) []) (map to_ascii_lowercase extension)) kind_order

-- the type of a file of this name
abbrev pub type_of_name : List ℕ → List ℕ
type_of_name name =
    unwrap_or (option_map media_type (option_and_then kind_of_extension (extension_of name))) (codes "application/octet-stream")

-- the type that is given, where it is not left to the store
abbrev pub resolved_type : List ℕ → List ℕ → List ℕ
resolved_type given name = if bytes_eq given (codes "b2/x-auto") then type_of_name name else given
