use Rattle.std.proofs.Common.{◌≡◌, map, take}
use Rattle.name_rules.specs.Decode.{plus_to_space}
use Rattle.upload_heads.proofs.text.with_spaces.Given as goal

abbrev pub invariant-bytes : goal.invariant-bytes
invariant-bytes l = l.spaced.items ≡ map plus_to_space (take l.byte-index l.bytes)
