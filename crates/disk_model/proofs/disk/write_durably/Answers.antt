use Rattle.std.proofs.Common.{length, ◌∙◌, rules}
use Rattle.disk_model.specs.Steps.{TornIn}
use Rattle.disk_model.specs.State.{ReadsAfter}
use Rattle.disk_model.proofs.InAreas.{torn_in, torn_in-not, bytes_of-put_in}
use Rattle.disk_model.proofs.Moments.{stepped, rested}
use Rattle.disk_model.proofs.disk.write_durably.Goals as goal

pub returns-in_err-write_at-clause-any_moment : goal.returns-in_err-write_at-clause-any_moment
returns-in_err-write_at-clause-any_moment g c =
    let n = length c.args.bytes.now in
    stepped (TornIn c.args.area c.args.at n) (torn_in-not c.args.area c.args.at n) _ _ c.write_at.ensures.writes

pub returns-in_err-sync-clause-any_moment : goal.returns-in_err-sync-clause-any_moment
returns-in_err-sync-clause-any_moment g c =
    let n = length c.args.bytes.now in
    let wrote = stepped (TornIn c.args.area c.args.at n) (torn_in-not c.args.area c.args.at n) _ _ c.write_at.ensures.writes in
    rested _ _ _ _ wrote c.sync.ensures.rests

pub returns-clause-any_moment : goal.returns-clause-any_moment
returns-clause-any_moment g c =
    let n = length c.args.bytes.now in
    let wrote = stepped (TornIn c.args.area c.args.at n) (torn_in-not c.args.area c.args.at n) _ _ c.write_at.ensures.writes in
    rested _ _ _ _ wrote c.sync.ensures.rests

pub returns-in_err-sync-clause-torn : goal.returns-in_err-sync-clause-torn
returns-in_err-sync-clause-torn g c =
    let here : ReadsAfter (TornIn c.args.area c.args.at (length c.args.bytes.now)) (g.D.Disk.state c.args.disk.now) (g.D.Disk.state c.sync.new.self) =
    λ m reads. (_, c.sync.ensures.rests.reads _ (c.in_ok-write_at.ensures.holds m reads), torn_in c.args.area c.args.at c.args.bytes.now m) in
    search rules

pub returns-clause-durable : goal.returns-clause-durable
returns-clause-durable g c m reads left now =
    c.in_ok-sync.ensures.durable _ (c.in_ok-write_at.ensures.holds m reads) left now ∙ bytes_of-put_in c.args.area _ m
