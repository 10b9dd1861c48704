use Rattle.std.proofs.Common.{rules, ◌≡◌, ◌∙◌, ap, sym}
use Rattle.std.specs.List.{list_any}
use Rattle.policy_rules.proofs.Flat.{any_in_map}
use Rattle.b2_types.specs.Naming.{of_number}
use Rattle.b2_model.specs.Policy.{is_outside}
use Rattle.policy_rules.specs.Asked.{places_of}
use Rattle.policy_rules.proofs.place.is_some_outside.Goals as goal

pub returns-in-Each : goal.returns-in-Each
returns-in-Each g c =
    let outside = is_outside (g.K.Known.state c.args.known.now) c.args.numbers.now in
    c.is_each_outside.ensures
    ∙ sym (any_in_map outside of_number c.in-Each.buckets.now)
    ∙ ap (λ some. list_any outside (places_of some)) (sym c.in-Each.is)
