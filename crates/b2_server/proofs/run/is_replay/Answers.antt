use Rattle.std.proofs.Common.{◌∙◌, ap, codes, arith}
use Rattle.std.specs.Str.{bytes_eq}
use Rattle.b2_server.proofs.Runs.{only_word}
use Rattle.b2_server.proofs.run.is_replay.Goals as goal

pub returns-in-len1 : goal.returns-in-len1
returns-in-len1 c =
    only_word c.args.words.now c.word-item.result (codes "replay") c.eq.result (omega arith) (omega arith) c.word-item.is
    (c.eq.ensures ∙ ap (λ w. bytes_eq w (codes "replay")) c.get.ensures)
