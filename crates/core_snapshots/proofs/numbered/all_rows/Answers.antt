use Rattle.std.proofs.Common.{sym, ◌∙◌}
use Rattle.kept_versions.proofs.Numbered.{some_is}
use Rattle.core_snapshots.proofs.ByNumber.{are_all}
use Rattle.core_snapshots.proofs.numbered.all_rows.Goals as goal

pub returns-clause-rows : goal.returns-clause-rows
returns-clause-rows c =
    are_all c.args.core.now c.index.result.now c.from_bucket.result c.unwrap-first.result (some_is c.unwrap-first.result 0 (sym c.unwrap-first.ensures ∙ c.new.ensures)) c.from_bucket.ensures.ascending c.index.ensures.own c.index.ensures.numbered c.index.ensures.listed c.from_bucket.ensures.rest
