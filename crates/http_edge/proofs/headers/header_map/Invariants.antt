use Rattle.std.proofs.Common.{◌≡◌, map, take}
use Rattle.httparse.specs.Spans.{header_bytes}
use Rattle.http_edge.specs.Headers.{headers_by}
use Rattle.http_edge.proofs.headers.header_map.Given as goal

abbrev pub invariant-loop-span : goal.invariant-loop-span
invariant-loop-span l = l.headers ≡ headers_by (map (header_bytes l.bytes) (take l.span-index l.spans))
