-- Where the type and the information of a copy come from (the B2 reference, b2_copy_file).
use Rattle.std.specs.Prelude.{⊤, ℕ, List, Bool, false, codes, Option, None, option_and_then, unwrap_or, if◌then◌else◌, Ok, Err}
use Rattle.serde_json.specs.Data.{Data}
use Rattle.serde_json.specs.Find.{as_str}
use Rattle.json_shape.specs.Fields.{field}
use Rattle.b2_types.specs.declared.call.ByteRange.{ByteRange}
use Rattle.b2_types.specs.declared.call.CopyMetadata.{CopyMetadata}
use Rattle.b2_types.specs.declared.call.CopyMetadata.TheVariants.{Kept, Replaced}
use Rattle.byte_ranges.specs.Ranges.{range_of}
use Rattle.field_kinds.specs.declared.texts.TextRule.TheVariants as rule
use Rattle.field_kinds.specs.Reader.{Reader, fields_of, ◌with◌, needed, optional, wrong, if_null, and_then}
use Rattle.field_kinds.specs.Kinds.{text_by, choice}
use Rattle.field_kinds.specs.Info.{Pairs}

-- a range of bytes, as a Range header has it
abbrev pub range : Data → Option ByteRange
range d = option_and_then range_of (as_str d)

-- a field that is not there
unfoldable pub absent : List ℕ → Reader ⊤
absent key d = if_null (field key d) (Ok tt) (Err (wrong key))

-- what the source has is kept: the call gives neither a type nor information
abbrev pub kept : Reader CopyMetadata
kept = fields_of (λ kind info. Kept)
    with absent (codes "contentType")
    with absent (codes "fileInfo")

abbrev pub replaced : Option Pairs → Reader CopyMetadata
replaced info = fields_of (λ kind given. Replaced kind given)
    with needed (codes "contentType") (text_by rule.ContentType)
    with optional (codes "fileInfo") (λ d. info)

abbrev pub replaces : Data → Option Bool
replaces = choice (codes "REPLACE") (codes "COPY")

-- without a directive the source's are kept
abbrev pub metadata : Option Pairs → Reader CopyMetadata
metadata info d = and_then (optional (codes "metadataDirective") replaces d) (λ asked. if unwrap_or asked false then replaced info d else kept d)
