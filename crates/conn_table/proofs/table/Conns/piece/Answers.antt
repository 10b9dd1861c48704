use Rattle.std.proofs.Common.{rules, ◌∙◌, sym, ap}
use Rattle.conn_table.specs.Table.{conn_at}
use Rattle.conn_table.proofs.Bounds.{kept_few, kept_behind, kept_then, still_pending}
use Rattle.conn_table.proofs.Talks.{sought_in}
use Rattle.conn_table.proofs.table.Conns.piece.Goals as goal

pub piece-requires : goal.piece-requires
piece-requires g c = λ none.
    let here = ap (λ n. conn_at c.args.self.now n) (sym c.get.ensures) ∙ sym c.in-Some.ensures.value in
    sought_in c.requires.0 (conn_at c.args.self.now c.args.c) c.in-Some.conn.now here c.requires.1 none

pub returns-clause-acts : goal.returns-clause-acts
returns-clause-acts g c = search rules

pub returns-clause-held : goal.returns-clause-held
returns-clause-held g c = kept_then c.piece.result (returns-clause-acts g c c.requires.0 c.requires.1) (λ acts given. kept_few given.0 _ given.2)

pub returns-clause-behind : goal.returns-clause-behind
returns-clause-behind g c = λ some.
    kept_then c.piece.result (returns-clause-acts g c c.requires.0 c.requires.1)
    (λ acts given. kept_behind given.0 _ given.2 (still_pending c.requires.0 given.0 (conn_at c.args.self.now c.args.c) c.args.bytes.now acts.items c.requires.1 some given.1))
