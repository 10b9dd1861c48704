use Rattle.std.proofs.Common.{◌≡◌, string_bytes, take}
use Rattle.std.specs.List.{flat_map}
use Rattle.http_edge.specs.Reply.{info_header}
use Rattle.http_edge.proofs.content.info_lines.Given as goal

abbrev pub invariant-loop-key : goal.invariant-loop-key
invariant-loop-key l = string_bytes l.lines ≡ flat_map info_header (take l.key-index l.pairs)
