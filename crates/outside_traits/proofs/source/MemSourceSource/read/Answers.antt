use Rattle.std.proofs.Common.{◌≡◌, ◌-◌, ap, ◌∙◌, min, length, take, drop, arith}
use Rattle.outside_traits.proofs.Fronts.{reads_front}
use Rattle.outside_traits.proofs.source.MemSourceSource.read.Goals as goal

pub returns-clause-bytes : goal.returns-clause-bytes
returns-clause-bytes c =
    let source = c.args.self.now in
    let copied = c.copy_from-count in
    let count : copied.result ≡ min (length source.bytes.items - source.at) (length copied.new.buf) = omega (arith, ap length c.deref.ensures.value) in
    reads_front source.bytes.items source.at copied.result copied.new.buf count
    (copied.ensures.bytes ∙ ap (λ bytes. take copied.result (drop source.at bytes)) c.deref.ensures.value)
