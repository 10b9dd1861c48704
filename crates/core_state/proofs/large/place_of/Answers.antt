use Rattle.std.proofs.Common.{nat_lt, length, ap, ◌∙◌}
use Rattle.std.specs.Prelude.{unwrap_or}
use Rattle.b2_base.specs.declared.extent.Extent.{Extent}
use Rattle.b2_types.specs.declared.version.PartOf.{PartOf}
use Rattle.core_state.proofs.Places.{or_length}
use Rattle.core_state.proofs.large.place_of.Goals as goal

pub returns : goal.returns
returns c =
    c.unwrap_or.ensures ∙ ap (λ o. unwrap_or o (length c.args.parts.now)) c.first_after.ensures ∙ or_length (λ (q : PartOf Extent). nat_lt c.args.number q.number) c.args.parts.now
