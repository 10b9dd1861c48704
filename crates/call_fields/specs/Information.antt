-- The information that a call gives (the B2 reference, "File information" and "Buckets").
use Rattle.std.specs.Prelude.{◌≡◌, codes, Option, None}
use Rattle.serde_json.specs.Data.{Data}
use Rattle.json_shape.specs.Fields.{field}
use Rattle.rule_table.specs.declared.call.CallName.{CallName}
use Rattle.rule_table.specs.declared.call.CallName.TheVariants as calls
use Rattle.field_kinds.specs.Info.{Pairs, IsInfo}

-- of a bucket or of a file; other calls give none
abbrev pub IsInfoOf : CallName → Data → Option Pairs → Type 0
IsInfoOf calls.CreateBucket d info = IsInfo (field (codes "bucketInfo") d) info
IsInfoOf calls.UpdateBucket d info = IsInfo (field (codes "bucketInfo") d) info
IsInfoOf calls.StartLargeFile d info = IsInfo (field (codes "fileInfo") d) info
IsInfoOf calls.CopyFile d info = IsInfo (field (codes "fileInfo") d) info
IsInfoOf other d info = info ≡ None
