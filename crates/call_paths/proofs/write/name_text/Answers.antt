use Rattle.std.proofs.Common.{◌∙◌}
use Rattle.call_paths.proofs.Writing.{row_of}
use Rattle.call_paths.proofs.write.name_text.Goals as goal

pub returns : goal.returns
returns c = row_of c.names-names.result.now c.place.result c.args.name _ (c.names-names.ensures ∙ c.calls.ensures) c.place.ensures
