use Rattle.std.proofs.Common.{subst}
use Rattle.std.specs.Option.{option_copied}
use Rattle.version_core.specs.Decided.{IsDecided}
use Rattle.version_core.proofs.Decides.{after_written}
use Rattle.version_core.proofs.answers.ask.Goals as goal

pub returns-in_ok-core-in-Write : goal.returns-in_ok-core-in-Write
returns-in_ok-core-in-Write g c =
    let M = c.args.core in
    let ahead = g.W.Words.ahead c.args.luck.now in
    let left = g.W.Words.ahead c.decide.new.luck in
    let token = option_copied c.args.token in
    let N = c.in_ok-core.core in
    after_written M c.args.t token c.args.call.now ahead left N c.in_ok-core-in-Write.core c.in-Write.written c.in-Write.answer c.in_ok-core-in-Write.ensures
    (subst (IsDecided M c.args.t token c.args.call.now ahead left N) c.in-Write.is c.in_ok-core.ensures)
