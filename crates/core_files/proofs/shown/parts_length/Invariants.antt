use Rattle.std.proofs.Common.{◌≡◌, ◌+◌, drop, map}
use Rattle.b2_model.specs.State.{length_of}
use Rattle.new_versions.specs.Decided.{extent_len}
use Rattle.core_files.proofs.shown.parts_length.Given as goal

abbrev pub invariant-parts : goal.invariant-parts
invariant-parts l = l.total + length_of extent_len (map (λ p. p.content) (drop l.part-index l.parts)) ≡ length_of extent_len (map (λ p. p.content) l.parts)
