use Rattle.std.proofs.Common.{◌∷◌, sym, ap, ◌∙◌}
use Rattle.std.specs.Option.{option_copied}
use Rattle.contents_agree.specs.ContentsOf.{contents_of}
use Rattle.durable_store.specs.Copied.{after_decision}
use Rattle.durable_store.proofs.Copying.{file_carried, file_writes, planned}
use Rattle.durable_store.proofs.Spans.{file_in}
use Rattle.durable_store.proofs.store.Store.file_copied.Goals as goal

pub settled-requires : goal.settled-requires
settled-requires g c = record {
  writes = file_writes c.args.self.core c.with_moment-core.result c.args.t (option_copied c.args.token) c.args.call.now c.in_ok-bytes.bytes c.in_ok-decision.decision c.is_sound.ensures.sound c.with_moment-core.ensures c.in_ok-decision.ensures;
}

pub returns : goal.returns
returns g c = λ h words kept.
    let s = c.args.self in
    let d = g.D.Disk.state c.args.disk.now in
    let t = c.args.t in
    let q = c.args.call.now in
    let plan = c.args.plan.now in
    let token = option_copied c.args.token in
    let ready = planned s d h q.source q.range plan kept c.requires.plan (file_in s.core t token q plan c.requires.allowed c.requires.plan) in
    let (k, copy, held) = c.in_ok-bytes.ensures h kept.held ready.0 ready.1 in
    let bytes = c.in_ok-bytes.bytes in
    let decision = c.in_ok-decision.decision in
    let moved = c.with_moment-core.ensures in
    let owned = copy.owned ∙ ap (λ xs. bytes.content ∷ xs) (kept.owned ∙ sym (ap contents_of moved)) in
    file_carried s c.in_ok-made.made.0 d (g.D.Disk.state c.copied.new.disk) h k t words token plan bytes decision c.in_ok-made.made.1 kept copy held.sizes
    (c.in_ok-made.ensures.state ∙ ap (λ N. after_decision N decision) moved) c.in_ok-made.ensures.answer (c.in_ok-made.ensures.held k owned held) q c.requires.plan c.in_ok-decision.ensures
