-- The contents of a state, and those that a change brings.
use Rattle.std.specs.Prelude.{List, [], ◌∷◌, ◌++◌, map, flat_map}
use Rattle.b2_types.specs.declared.version.VersionOf.{VersionOf}
use Rattle.b2_types.specs.declared.record.ChangeOf.{ChangeOf}
use Rattle.b2_types.specs.declared.record.ChangeOf.TheVariants as change
use Rattle.b2_model.specs.State.{State}

-- the pieces of a version, and those of its parts
abbrev pub contents_in : {C : Type 0} → VersionOf C → List C
contents_in v = v.content ++ map (λ p. p.content) v.parts

abbrev pub contents_of : {C : Type 0} → State C → List C
contents_of M = flat_map contents_in M.versions

abbrev pub brought : {C : Type 0} → ChangeOf C → List C
brought (change.Upload v content m digest) = content ∷ []
brought (change.PartPut id n content m digest) = content ∷ []
brought (change.SnapExtents id pieces) = pieces
brought other = []
