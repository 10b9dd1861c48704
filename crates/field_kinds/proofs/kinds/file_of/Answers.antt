use Rattle.std.proofs.Common.{◌∙◌, sym, arith}
use Rattle.field_kinds.proofs.Spelled.{file_at, file_unread}
use Rattle.field_kinds.proofs.kinds.file_of.Goals as goal

pub returns-in_default : goal.returns-in_default
returns-in_default c = sym (file_unread c.args.text.now (rw (← c.as_bytes.ensures.value) c.in_default.ensures))

pub returns : goal.returns
returns c = file_at c.args.text.now c.id_of.result c.id_of.ensures.range.0 c.id_of.ensures.range.1
    (rw (c.id_of.ensures.id.0, c.id_of.ensures.id.1) (sym c.as_bytes.ensures.value ∙ c.in-Some.ensures))
