use Rattle.std.proofs.Common.{◌≡◌, length}
use Rattle.upload_heads.specs.Kinds.{has_escapes}
use Rattle.upload_heads.proofs.text.has_escapes.Given as goal

abbrev pub invariant-bytes : goal.invariant-bytes
invariant-bytes l = has_escapes l.left ≡ has_escapes l.bytes

abbrev pub decreases-bytes : goal.decreases-bytes
decreases-bytes l = length l.left
