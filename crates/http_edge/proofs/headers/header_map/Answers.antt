use Rattle.std.proofs.Common.{arith, rules}
use Rattle.http_edge.proofs.Clean.{room_left, next_header}
use Rattle.http_edge.proofs.headers.header_map.Goals.{in-Some+in_ok-value+in_ok-add_header, in_default}
use Rattle.http_edge.proofs.headers.header_map.Goals as goal

pub add_header-requires : goal.add_header-requires
add_header-requires c = record { few = room_left c.args.bytes.now c.args.spans.now c.loop-span.span-index c.loop-span.headers (omega (arith, c.requires.few)) c.loop-span.invariant }

pub loop-span-preserved : goal.loop-span-preserved
loop-span-preserved c = elim c.match-branch-3.branch [ in-Some+in_ok-value+in_ok-add_header w ↦ search (rules, next_header) | in_default w ↦ search (rules, next_header) ]
