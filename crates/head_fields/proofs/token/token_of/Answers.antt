use Rattle.std.proofs.Common.{ℕ, List, sym, subst}
use Rattle.head_fields.specs.Token.{IsTextOf}
use Rattle.head_fields.proofs.token.token_of.Goals as goal

pub returns : goal.returns
returns c =
    let at : List ℕ → Type 0 = λ b. IsTextOf b c.in_ok-text.text in
    (c.in-Some.value.now, sym c.in-Some.ensures.value, subst at c.as_bytes.ensures.value c.in_ok-text.ensures)
