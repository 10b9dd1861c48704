use Rattle.std.proofs.Common.{◌∙◌, ap, ℕ, take, drop}
use Rattle.conn_talk.specs.Asked.{head_of}
use Rattle.conn_table.proofs.Steps.{asks_refused, is_read}
use Rattle.conn_table.proofs.incoming.Incoming.read.Goals as goal

pub returns-in-Err-Fault : goal.returns-in-Err-Fault
returns-in-Err-Fault c = λ before flags no_head.
    let bytes = c.args.self.now.bytes.items in
    let kind = c.in-Err-Fault.fault.kind in
    let front = ap (take c.args.end) c.deref.ensures.value in
    let is = rw c.in-Err-Fault.field-0-is at c.in-Err-Fault.ensures.fault in
    c.refuse.ensures before bytes kind flags no_head is.0 (asks_refused before bytes _ c.args.end kind c.requires front is.1)

pub returns : goal.returns
returns c = λ before flags no_head.
    let bytes = c.args.self.now.bytes.items in
    let head = c.in-Ok.head in
    let front = ap (take c.args.end) c.deref.ensures.value in
    let after = c.in_ok-rest.ensures ∙ ap (drop c.args.end) c.deref-2.ensures.value in
    let is = c.limited-head.ensures ∙ ap (λ (n : ℕ). head_of n head.request head.route) flags.before_is in
    c.start.ensures before bytes flags no_head (is_read before bytes _ c.in_ok-rest.rest.items c.args.end head.request head.route c.limited-head.result c.requires front c.in-Ok.ensures.request is after)
