use Rattle.std.proofs.Common.{sym}
use Rattle.name_rules.specs.Folder.{begins_with}
use Rattle.b2_types.specs.LifecycleRules.{has_days}
use Rattle.bucket_pass.proofs.Looks.{found_all}
use Rattle.bucket_pass.proofs.look.plan_for.Goals as goal

pub plan_name-requires : goal.plan_name-requires
plan_name-requires c = found_all has_days (λ r. begins_with r.prefix c.args.name.now) c.args.bucket.now.rules c.in-Some.rule.now c.requires (sym (rw c.in-Some.is at c.rule_for.ensures))
