use Rattle.std.proofs.Common.{◌≡◌, ◌+◌, drop}
use Rattle.b2_model.specs.State.{length_of}
use Rattle.new_versions.specs.Decided.{extent_len}
use Rattle.shown_values.proofs.length.content_length.Given as goal

abbrev pub invariant-pieces : goal.invariant-pieces
invariant-pieces l = l.total + length_of extent_len (drop l.piece-index l.pieces) ≡ length_of extent_len l.pieces
