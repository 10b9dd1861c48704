use Rattle.std.proofs.Common.{◌∙◌, sym, not}
use Rattle.name_rules.specs.Folder.{begins_with}
use Rattle.b2_model.specs.Policy.{names_at}
use Rattle.policy_rules.specs.Asked.{named}
use Rattle.policy_rules.proofs.Flat.{any_in_flat}
use Rattle.policy_rules.proofs.name.is_any_outside.Goals as goal

pub returns : goal.returns
returns g c =
    c.has_outside.ensures
    ∙ sym (any_in_flat (λ name. not (begins_with c.args.prefix.now name)) (names_at (g.K.Known.state c.args.known.now) (named c.args.fields.now)) c.args.things.now)
