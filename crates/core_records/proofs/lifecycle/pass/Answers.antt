use Rattle.std.proofs.Common.{◌<◌, [], List, length, subst, ◌∙◌, arith}
use Rattle.b2_types.specs.declared.bucket.Bucket.{Bucket}
use Rattle.core_records.proofs.Conserve.{conserves_on}
use Rattle.core_records.proofs.Runs.{one_more_bucket}
use Rattle.core_records.proofs.lifecycle.pass.Goals as goal

pub buckets-preserved : goal.buckets-preserved
buckets-preserved c =
    let inv = c.buckets.invariant in
    let bs = c.args.core.buckets in
    let at = c.buckets.at in
    let N = c.buckets.core in
    let within : at < length bs = subst (λ (cs : List Bucket). at < length cs) (c.buckets-in-buckets.ensures ∙ inv.same) c.buckets-test.true in
    let more = one_more_bucket c.args.t bs at N c.in_ok-core.core within inv.same c.in_ok-core.ensures.state in
    record {
      within = omega arith;
      left = more.left ∙ inv.left;
      same = more.same;
      freed = conserves_on [] c.buckets.freed.items c.on_bucket.new.freed.items c.args.core N c.in_ok-core.core inv.freed c.in_ok-core.ensures.freed;
    }
