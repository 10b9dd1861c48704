-- Options that commas part.
use Rattle.std.proofs.Common.{◌≡◌, ◌≢◌, ℕ, Bool, true, false, cond, ◌||◌, List, [], ◌∷◌, ◌++◌, refl, ap, ◌∙◌}
use Rattle.std.specs.List.{All, list_any}
use Rattle.std.proofs.lemmas.Bool.{ne_eqb}
use Rattle.std.proofs.lemmas.List.Elements.{All-head, All-tail}
use Rattle.b2_base.specs.Bytes.{IsCutAt}
use Rattle.http_edge.specs.Stay.{with_first, comma_parts, is_option, lists}

-- a byte that is no comma
other_byte : (byte : ℕ) (bytes : List ℕ) → byte ≢ 44 → comma_parts (byte ∷ bytes) ≡ with_first byte (comma_parts bytes)
other_byte byte bytes other = ap (λ t. cond t ([] ∷ comma_parts bytes) (with_first byte (comma_parts bytes))) (ne_eqb byte 44 other)

-- the first part ends at the first comma
parts_at : (front rest : List ℕ) → All (λ b. b ≢ 44) front → comma_parts (front ++ 44 ∷ rest) ≡ front ∷ comma_parts rest
parts_at [] rest clean = refl
parts_at (b ∷ bs) rest clean =
    other_byte b (bs ++ 44 ∷ rest) (All-head (λ b. b ≢ 44) b bs clean) ∙ ap (with_first b) (parts_at bs rest (All-tail (λ b. b ≢ 44) b bs clean))

one_part : (bytes : List ℕ) → All (λ b. b ≢ 44) bytes → comma_parts bytes ≡ bytes ∷ []
one_part [] clean = refl
one_part (b ∷ bs) clean = other_byte b bs (All-head (λ b. b ≢ 44) b bs clean) ∙ ap (with_first b) (one_part bs (All-tail (λ b. b ≢ 44) b bs clean))

-- the first part is the option or not
pub lists_at : (option text front rest : List ℕ) → IsCutAt 44 text front rest → lists option text ≡ (is_option option front || lists option rest)
lists_at option text front rest (clean, is) = ap (lists option) is ∙ ap (list_any (is_option option)) (parts_at front rest clean)

or_false : (t : Bool) → (t || false) ≡ t
or_false true = refl
or_false false = refl

pub lists_one : (option text : List ℕ) → All (λ b. b ≢ 44) text → lists option text ≡ is_option option text
lists_one option text clean = ap (list_any (is_option option)) (one_part text clean) ∙ or_false (is_option option text)
