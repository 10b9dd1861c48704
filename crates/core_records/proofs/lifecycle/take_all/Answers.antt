use Rattle.std.proofs.Common.{take, ◌++◌, ◌∷◌, [], sym, ap, ◌∙◌}
use Rattle.std.proofs.lemmas.List.{take_more}
use Rattle.b2_model.specs.Version.{without_version}
use Rattle.core_records.specs.Steps.{without_numbers}
use Rattle.core_records.proofs.Conserve.{conserves_on, conserves_still}
use Rattle.core_records.proofs.Steps.{without_more, without_none}
use Rattle.core_records.proofs.lifecycle.take_all.Goals as goal

pub loop-num-init : goal.loop-num-init
loop-num-init c = record {
  state = sym (without_none c.args.bucket c.args.core.now);
  freed = conserves_still c.args.freed.now.items c.args.core.now;
}

pub loop-num-preserved : goal.loop-num-preserved
loop-num-preserved c =
    let b = c.args.bucket in
    let i = c.loop-num.num-index in
    let n = c.num-item.result in
    let nums = c.args.nums.now in
    let done = c.loop-num.invariant in
    record {
      state = c.in_ok-take_one.ensures.state ∙ ap (without_version (record { bucket = b; num = n })) done.state ∙ without_more b (take i nums) n c.args.core.now
          ∙ ap (λ ns. without_numbers b ns c.args.core.now) (sym (take_more nums i n c.loop-num-test.true ∙ ap (λ m. take i nums ++ m ∷ []) (sym c.num-item.is)));
      freed = conserves_on c.args.freed.now.items c.loop-num.freed.items c.take_one.new.freed.items c.args.core.now c.loop-num.core c.take_one.new.core done.freed c.in_ok-take_one.ensures.freed;
    }
