use Rattle.std.proofs.Common.{◌∙◌}
use Rattle.key_fields.proofs.Caps.{name_at}
use Rattle.key_fields.proofs.capabilities.cap_name.Goals as goal

pub returns : goal.returns
returns c = name_at c.names-names.result.now c.args.cap c.place.result _ (c.names-names.ensures ∙ c.caps.ensures) c.place.ensures
