-- Ranges that are in order (RFC 9110, section 14.1.1). Copies ask for ranges too, and send no content.
use Rattle.std.specs.Prelude.{◌≤◌, Option, Some}
use Rattle.b2_types.specs.declared.call.ByteRange.{ByteRange}
use Rattle.b2_types.specs.declared.call.ByteRange.TheVariants as range
use Rattle.b2_types.specs.declared.call.Call.{Call}
use Rattle.b2_types.specs.declared.call.Call.TheVariants as call

-- a range ends where it begins, or after it
abbrev pub IsInOrder : Option ByteRange → Type 0
IsInOrder (Some (range.Between a b)) = a ≤ b
IsInOrder other = Unit {0}

-- so does the range that a download asks for
abbrev pub AsksInOrder : Call → Type 0
AsksInOrder (call.DownloadFileById c) = IsInOrder c.range
AsksInOrder (call.DownloadFileByName c) = IsInOrder c.range
AsksInOrder other = Unit {0}
