use Rattle.std.proofs.Common.{◌∙◌, sym}
use Rattle.b2_types.specs.Naming.{places_at}
use Rattle.b2_model.specs.Policy.{is_outside}
use Rattle.policy_rules.specs.Asked.{named}
use Rattle.policy_rules.proofs.Flat.{any_in_flat}
use Rattle.policy_rules.proofs.place.is_any_outside.Goals as goal

pub returns : goal.returns
returns g c =
    c.has_outside.ensures
    ∙ sym (any_in_flat (is_outside (g.K.Known.state c.args.known.now) c.args.numbers.now) (places_at (named c.args.fields.now)) c.args.things.now)
