use Rattle.std.proofs.Common.{◌≡◌, ◌<◌, ◌≤◌, ◌+◌, ◌-◌, arith, length, get_or, ap, ◌∙◌, subst}
use Rattle.b2_base.specs.declared.extent.Extent.{Extent}
use Rattle.blob_extents.specs.States.{pin_extent}
use Rattle.stored_contents.specs.Reads.{zeros_of}
use Rattle.stored_contents.proofs.OnlyRead.{read_again, safe_now}
use Rattle.stored_contents.proofs.Parts.{part_read, part_counted, zeros_long, all_read, all_counted}
use Rattle.stored_contents.proofs.outgoing.Outgoing.bytes.Goals as goal

pub loop-pin-preserved : goal.loop-pin-preserved
loop-pin-preserved g c =
    let pins = c.args.self.now.pins.items in
    let within : c.loop-pin.pin-index < length pins = subst (λ l. c.loop-pin.pin-index < length l) c.deref-pin-items.ensures.value c.loop-pin-test.true in
    let here : c.pin-item.result ≡ get_or pins c.loop-pin.pin-index c.pin-item.result = subst (λ l. c.pin-item.result ≡ get_or l c.loop-pin.pin-index c.pin-item.result) c.deref-pin-items.ensures.value c.pin-item.is in
    let next : c.saturating_sub-skip.result ≡ c.loop-pin.skip - (pin_extent c.pin-item.result).len = c.saturating_sub-skip.ensures ∙ ap (λ k. c.loop-pin.skip - k) (c.from-in-loop-pin.ensures ∙ ap (λ (e : Extent). e.len) c.extent.ensures) in
    record {
      rests = read_again (g.D.Disk.state c.args.disk.now) (g.D.Disk.state c.loop-pin.disk) (g.D.Disk.state c.read_part.new.disk) c.loop-pin.invariant.rests c.in_ok-count.ensures.rests;
      later = omega (arith, c.loop-pin.invariant.later, c.in_ok-count.ensures.later);
      bytes = λ meaning i sizes safe reads.
          part_read meaning pins c.loop-pin.pin-index c.pin-item.result c.loop-pin.skip c.saturating_sub-skip.result c.loop-pin.left c.in_ok-count.count within here (sizes (pin_extent c.pin-item.result)) c.in_ok-count.ensures.count next
          c.loop-pin.bytes.items c.read_part.new.bytes.items _
          (c.in_ok-count.ensures.bytes (meaning (pin_extent c.pin-item.result)) i
          (safe_now (g.D.Disk.state c.args.disk.now) (g.D.Disk.state c.loop-pin.disk) meaning pins c.loop-pin.pin-index c.pin-item.result c.loop-pin.invariant.rests within here safe)
          (c.loop-pin.invariant.rests.reads i reads))
          (c.loop-pin.invariant.bytes meaning i sizes safe reads);
      count =
          part_counted zeros_of pins c.loop-pin.pin-index c.pin-item.result c.loop-pin.skip c.saturating_sub-skip.result c.loop-pin.left c.in_ok-count.count within here (zeros_long (pin_extent c.pin-item.result)) c.in_ok-count.ensures.count next
          _ _ _ c.in_ok-count.ensures.long c.loop-pin.invariant.count;
    }

pub returns-clause-bytes : goal.returns-clause-bytes
returns-clause-bytes g c = λ meaning i sizes safe reads.
    let starts : c.from.result + c.from-2.result ≡ c.args.self.now.at + c.args.at = omega (arith, c.from.ensures, c.from-2.ensures) in
    all_read meaning c.args.self.now.pins.items c.loop-pin.pin-index c.loop-pin.skip c.loop-pin.left c.args.self.now.at c.args.self.now.len c.args.at c.args.most _ _ c.loop-pin.bytes.items
    (subst (λ l. length l ≤ c.loop-pin.pin-index) c.deref-pin-items.ensures.value c.loop-pin-test.false)
    starts (omega (arith, c.part_len-left.ensures, c.from-3.ensures))
    (c.loop-pin.invariant.bytes meaning i sizes safe reads)

pub returns-clause-count : goal.returns-clause-count
returns-clause-count g c =
    let starts : c.from.result + c.from-2.result ≡ c.args.self.now.at + c.args.at = omega (arith, c.from.ensures, c.from-2.ensures) in
    all_counted zeros_of c.args.self.now.pins.items c.loop-pin.pin-index c.loop-pin.skip c.loop-pin.left c.args.self.now.at c.args.self.now.len c.args.at c.args.most _ _ _
    (subst (λ l. length l ≤ c.loop-pin.pin-index) c.deref-pin-items.ensures.value c.loop-pin-test.false)
    starts (omega (arith, c.part_len-left.ensures, c.from-3.ensures))
    c.loop-pin.invariant.count
