-- What a part holds that another takes the place of.
use Rattle.std.specs.Prelude.{ℕ, ◌==◌, Option, find, option_map}
use Rattle.b2_types.specs.declared.version.VersionOf.{VersionOf}

-- the content of the part of this number
abbrev pub part_content : {C : Type 0} → ℕ → VersionOf C → Option C
part_content number v = option_map (λ p. p.content) (find (λ p. p.number == number) v.parts)
