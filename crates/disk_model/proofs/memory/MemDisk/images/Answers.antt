use Rattle.std.proofs.Common.{All, length, subst, ◌≡◌, ◌-◌, ◌+◌, ◌++◌, ap, sym, ◌∙◌, arith}
use Rattle.disk_model.specs.Changes.{done_by, images_of, three_images}
use Rattle.disk_model.specs.Past.{MightHaveBeen}
use Rattle.disk_model.proofs.ThreeImages.{three_may_be, images_next, all_left}
use Rattle.disk_model.proofs.memory.MemDisk.images.Goals as goal

pub returns-clause-left : goal.returns-clause-left
returns-clause-left c call = three_may_be (done_by call c.args.self.now.done.items)

pub returns-in_err-push_images-clause-left : goal.returns-in_err-push_images-clause-left
returns-in_err-push_images-clause-left c call = three_may_be (done_by call c.args.self.now.done.items)

pub returns-clause-all : goal.returns-clause-all
returns-clause-all c =
    let same : c.loop-call.call - c.args.since ≡ c.args.self.now.calls.made - c.args.since = omega (arith, c.loop-call.invariant.no_more) in
    c.loop-call.invariant.so_far ∙ ap (images_of c.args.self.now.done.items c.args.since) same

pub returns-clause-since : goal.returns-clause-since
returns-clause-since c =
    let done = c.args.self.now.done.items in
    let same : c.loop-call.call - c.args.since ≡ c.args.self.now.calls.made - c.args.since = omega (arith, c.loop-call.invariant.no_more) in
    let all = c.loop-call.invariant.so_far ∙ ap (images_of done c.args.since) same in
    subst (λ l. All (MightHaveBeen done (length (done_by c.args.since done))) l) (sym all) (all_left done c.args.since (c.args.self.now.calls.made - c.args.since))

pub loop-call-preserved : goal.loop-call-preserved
loop-call-preserved c = record {
  so_far =
      c.in_ok-push_images.ensures
      ∙ ap (λ done. c.loop-call.images.items ++ three_images done) (c.done_up_to.ensures ∙ ap (done_by (c.loop-call.call + 1)) c.deref.ensures.value)
      ∙ ap (λ images. images ++ three_images (done_by (c.loop-call.call + 1) c.args.self.now.done.items)) c.loop-call.invariant.so_far
      ∙ sym (images_next c.args.self.now.done.items c.args.since c.loop-call.call c.loop-call.auto.call);
  no_more = omega (arith, c.loop-call-test.true, c.loop-call.auto.call);
}
