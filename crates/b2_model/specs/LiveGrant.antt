-- When a token is good, and how it is spelled.
use Rattle.std.specs.Prelude.{ℕ, Bool, true, ◌&&◌, ◌+◌, nat_lt, List, ◌∷◌, ◌++◌, Option, Some, None, codes, bytes_eq, find}
use Rattle.b2_base.specs.Digits.{eight_digits, sixteen_digits}
use Rattle.b2_types.specs.declared.key.Grant.{Grant}
use Rattle.b2_model.specs.Checks.{some_and}
use Rattle.b2_model.specs.State.{State, key_at}

-- the moment comes before the end, where there is one
abbrev pub is_before_end : ℕ → Option ℕ → Bool
is_before_end t None = true
is_before_end t (Some end) = nat_lt t end

-- its end is to come, and its key stands and has no end that has come
abbrev pub is_live : {C : Type 0} → State C → ℕ → Grant → Bool
is_live M t g = nat_lt t g.end && some_and (λ k. is_before_end t k.end) (key_at M g.key)

abbrev pub grant_at : {C : Type 0} → State C → List ℕ → Option Grant
grant_at M text = find (λ g. bytes_eq g.text text) M.grants

-- the text of a token: the store's boot number, the token's serial since that boot, and two random words
abbrev pub token_text : ℕ → ℕ → ℕ → ℕ → List ℕ
token_text boot serial first second =
    codes "3_" ++ eight_digits boot ++ 95 ∷ sixteen_digits serial ++ 95 ∷ sixteen_digits first ++ 95 ∷ sixteen_digits second

-- the next token's
abbrev pub token_of : {C : Type 0} → State C → ℕ → ℕ → List ℕ
token_of M first second = token_text M.boot (M.serial + 1) first second
