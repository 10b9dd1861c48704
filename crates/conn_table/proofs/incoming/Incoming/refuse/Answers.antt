use Rattle.std.proofs.Common.{[], ◌∷◌, ◌∙◌}
use Rattle.conn_talk.specs.declared.act.Act.TheVariants as act
use Rattle.conn_talk.specs.Asked.{nothing}
use Rattle.conn_table.proofs.Steps.{by_acts, flags_stay, gives_refused}
use Rattle.conn_table.proofs.incoming.Incoming.refuse.Goals as goal

pub returns : goal.returns
returns c = λ before got kind flags no_head same asked.
    by_acts before got nothing [] c.in_ok-vec.field-0.items (act.Refuse c.args.fault ∷ []) c.close.new.self c.in_ok-vec.ensures.items
    (gives_refused before got c.close.new.self c.args.fault kind (flags_stay before nothing c.args.self.now c.close.new.self flags c.close.ensures.flags) c.close.ensures.stage c.close.ensures.bytes (c.close.ensures.flags.head_is ∙ no_head) same asked)
