use Rattle.std.proofs.Common.{[]}
use Rattle.lasting_laws.specs.Locked.{Stands}
use Rattle.lasting_laws.proofs.KeptStep.{locked_after, locked_run}
use Rattle.lasting_laws.proofs.locked_stays.Goals as goal

pub returns-clause-step : goal.returns-clause-step
returns-clause-step g c K P s lock v sound stands sparing timely =
    let after = locked_after K P s lock v sound stands sparing timely in
    record { version = after.version; there = after.there; same = after.same; locked = after.locked }

pub returns-clause-run : goal.returns-clause-run
returns-clause-run g c K M words steps lock v sound stands sparing timely =
    let after = locked_run K (record { state = M; words = words; answers = [] }) steps lock v sound stands sparing timely in
    record { version = after.version; there = after.there; same = after.same; locked = after.locked }
