-- What an answer unfolds to compute ids, tokens, and secrets by their digests.
use Rattle.std.specs.Prelude.{⊤}
use Rattle.sha2.specs.Sha256.{first_words, schedule, rounds, compress, hash_after, digest_bytes, sha256}
use Rattle.b2_base.specs.Digits.{eight_digits, sixteen_digits}
use Rattle.hex.proofs.OnLiterals.{hex_on_literals}

unfoldable pub sha256_on_literals : ⊤
unfolding first_words schedule rounds compress hash_after digest_bytes sha256 eight_digits sixteen_digits hex_on_literals
sha256_on_literals = tt
