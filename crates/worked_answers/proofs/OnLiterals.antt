-- What an answer unfolds to compute a body's text.

use Rattle.std.specs.Prelude.{⊤}
use Rattle.std.specs.Fmt.{digits}
use Rattle.json.specs.Print.{escape_byte}
use Rattle.b2_base.specs.Digits.{eight_digits, sixteen_digits}
use Rattle.hex.proofs.OnLiterals.{hex_on_literals}

unfoldable pub text_on_literals : ⊤
unfolding digits escape_byte eight_digits sixteen_digits hex_on_literals
text_on_literals = tt
