use Rattle.std.proofs.Common.{◌++◌, ap, ◌∙◌, sym}
use Rattle.contents_agree.specs.ContentsOf.{contents_of}
use Rattle.core_records.specs.Steps.{without_numbers}
use Rattle.core_records.proofs.Conserve.{conserves_as, conserves_on}
use Rattle.core_records.proofs.Steps.{maybe_holds, without_both}
use Rattle.core_records.proofs.lifecycle.on_name.Goals as goal

pub returns-clause-state : goal.returns-clause-state
returns-clause-state c =
    let b = c.args.bucket in
    let plan = c.args.plan.now.plan in
    let N = c.in_ok-core.core in
    c.in_ok-take_all-2.ensures.state ∙ ap (λ ns. without_numbers b ns c.take_all.new.core) c.get-2.ensures
    ∙ ap (without_numbers b plan.drops) (c.in_ok-take_all.ensures.state ∙ ap (λ ns. without_numbers b ns N) c.get.ensures)
    ∙ without_both b plan.cancels plan.drops N ∙ ap (without_numbers b (plan.cancels ++ plan.drops)) c.in_ok-core.ensures

pub returns-clause-freed : goal.returns-clause-freed
returns-clause-freed c =
    let N = c.in_ok-core.core in
    let same = ap contents_of c.in_ok-core.ensures ∙ maybe_holds c.args.t c.args.bucket c.args.plan.now.name c.args.plan.now.plan.hide c.args.core in
    let first = conserves_as c.args.freed.now.items c.take_all.new.freed.items c.args.core N c.take_all.new.core (sym same) c.in_ok-take_all.ensures.freed in
    conserves_on c.args.freed.now.items c.take_all.new.freed.items c.take_all-2.new.freed.items c.args.core c.take_all.new.core c.take_all-2.new.core first c.in_ok-take_all-2.ensures.freed
