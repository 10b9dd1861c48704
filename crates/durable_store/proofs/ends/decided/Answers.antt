use Rattle.std.proofs.Common.{subst}
use Rattle.core_uploads.specs.Uploads.{IsEnd}
use Rattle.durable_store.proofs.Ended.{decided_by, recorded, replied}
use Rattle.durable_store.proofs.ends.decided.Goals as goal

pub returns-in-Reply-clause-decided : goal.returns-in-Reply-clause-decided
returns-in-Reply-clause-decided g c = λ M t f b left ended.
    let answer = c.in-Reply.answer in
    decided_by M t f b c.refused.result c.args.core answer (replied M c.args.core t f b left answer (subst (IsEnd M t f b) c.in-Reply.is ended)) c.refused.ensures.state c.refused.ensures.answer

pub returns-in-Write-clause-decided : goal.returns-in-Write-clause-decided
returns-in-Write-clause-decided g c = λ M t f b left ended.
    let answer = c.in-Write.answer in
    let entry = c.in-Write.entry in
    decided_by M t f b c.recorded.result _ answer (recorded M c.args.core t f b left entry answer (subst (IsEnd M t f b) c.in-Write.is ended)) c.recorded.ensures.state c.recorded.ensures.answer
