use Rattle.std.proofs.Common.{List, ap}
use Rattle.b2_base.specs.declared.extent.Extent.{Extent}
use Rattle.b2_types.specs.declared.version.VersionOf.{VersionOf}
use Rattle.core_state.specs.declared.parts.Parts.{Parts}
use Rattle.core_state.proofs.PassSteps.{taken_out}
use Rattle.core_state.proofs.state.Core.take_version.Goals as goal

pub invariant_of-self : goal.invariant_of-self
invariant_of-self c =
    let p = c.self.inside.parts in
    let with_versions : List (VersionOf Extent) → Parts = λ vs. record p { versions = vs } in
    (taken_out p (with_versions c.take.new.self) c.args.id c.self.invariant (ap with_versions c.take.ensures.left)).whole
