-- The rest of a header's name is a text.
use Rattle.std.proofs.Common.{◌≡◌, ℕ, ◌<◌, List, take, drop, IsTrue, subst, sym, arith}
use Rattle.std.specs.Str.{IsUtf8}
use Rattle.std.proofs.lemmas.Str.{IsUtf8-from_ascii}
use Rattle.std.proofs.lemmas.Str.Ascii.{IsAscii-from_all}
use Rattle.std.proofs.lemmas.List.Elements.{All-take, All-drop, All-weaker}
use Rattle.http_header.specs.FieldName.{IsHeaderName}
use Rattle.http_header.specs.Token.{is_token_byte}
use Rattle.http_header.proofs.TokenLemmas.{token_byte_range}

piece_text : (n m : ℕ) (name : List ℕ) → IsHeaderName name → IsUtf8 (take m (drop n name))
piece_text n m name is =
    IsUtf8-from_ascii (take m (drop n name)) (IsAscii-from_all (take m (drop n name))
    (All-take (λ b. b < 128) m (drop n name) (All-drop (λ b. b < 128) n name
    (All-weaker (λ b. IsTrue (is_token_byte b)) (λ b. b < 128) (λ b t. omega (arith, (token_byte_range b t).1)) name is.0.0.1))))

pub rest_text : (n m : ℕ) (bytes name : List ℕ) → bytes ≡ name → IsHeaderName name → IsUtf8 (take m (drop n bytes))
rest_text n m bytes name same is = subst (λ b. IsUtf8 (take m (drop n b))) (sym same) (piece_text n m name is)
