-- What an answer unfolds to compute digests of contents and their digits.
use Rattle.std.specs.Prelude.{⊤}
use Rattle.sha1.specs.Sha1.{first_words, schedule, rounds, compress, hash_after, digest_bytes, sha1}
use Rattle.hex.proofs.OnLiterals.{hex_on_literals}

unfoldable pub sha1_on_literals : ⊤
unfolding first_words schedule rounds compress hash_after digest_bytes sha1 hex_on_literals
sha1_on_literals = tt
