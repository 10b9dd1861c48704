use Rattle.std.proofs.Common.{[], ◌∷◌, sym, refl, ap}
use Rattle.new_versions.specs.Bodies.{body_at}
use Rattle.contents_agree.specs.ContentsOf.{contents_of}
use Rattle.durable_store.specs.Owned.{owning_with}
use Rattle.durable_store.proofs.Ended.{decided_then, kept_on_day, plain_then, still_there, writable_then}
use Rattle.durable_store.proofs.ends.ended.Goals as goal

pub upload_end-requires-clause-later : goal.upload_end-requires-clause-later
upload_end-requires-clause-later g c = kept_on_day c.args.store.core c.in_ok-core.field-0.core c.args.t c.in_ok-core.ensures.state c.requires.later

pub upload_end-requires-clause-under_way : goal.upload_end-requires-clause-under_way
upload_end-requires-clause-under_way g c = still_there c.args.store.core c.in_ok-core.field-0.core c.args.t c.args.c c.in_ok-core.ensures.state c.requires.under_way

pub decided-requires : goal.decided-requires
decided-requires g c =
    let body = body_at c.args.body.now in
    record { writable = (body, refl, writable_then c.args.store.core c.in_ok-core.field-0.core c.in_ok-core-2.core c.args.t c.args.c body c.in_ok-core-2.decision c.in_ok-core.ensures.state c.in_ok-core-2.ensures.state c.in_ok-core-2.ensures.decision c.requires.under_way) }

pub returns-clause-decided : goal.returns-clause-decided
returns-clause-decided g c = decided_then c.args.store.core c.in_ok-core.field-0.core c.in_ok-core-2.core c.args.t c.args.c (body_at c.args.body.now) c.in_ok-core-2.decision c.in_ok-core.ensures.state c.in_ok-core-2.ensures.state c.in_ok-core-2.ensures.decision
    c.in_ok-store.store.core c.in_ok-store.answer c.in_ok-store.ensures.decided

pub returns-clause-plain : goal.returns-clause-plain
returns-clause-plain g c = plain_then c.args.store.core c.in_ok-core.field-0.core c.in_ok-core-2.core c.args.t c.args.c (body_at c.args.body.now) c.in_ok-core-2.decision c.in_ok-core.ensures.state c.in_ok-core-2.ensures.state c.in_ok-core-2.ensures.decision
    c.in_ok-store.store.core c.in_ok-store.answer c.in_ok-store.ensures.decided c.requires.under_way

pub returns-clause-held : goal.returns-clause-held
returns-clause-held g c = λ h is held.
    let content = c.args.body.now.content in
    c.in_ok-store.ensures.held (owning_with (content ∷ []) c.in_ok-core.field-0.core h) (ap (λ xs. content ∷ xs) (sym (ap contents_of c.in_ok-core-2.ensures.state)))
    (c.in_ok-core.ensures.held h (content ∷ []) is held)
