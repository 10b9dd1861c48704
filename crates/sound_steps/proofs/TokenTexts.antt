-- The text of a token tells its boot number and its serial.
use Rattle.std.proofs.Common.{◌≡◌, ℕ, ◌<◌, ◌^◌, List, [], ◌∷◌, ◌++◌, length, drop, get_or, codes, refl, sym, ap, ◌∙◌, arith, append_assoc}
use Rattle.b2_base.specs.Digits.{eight_digits, sixteen_digits}
use Rattle.b2_base.proofs.DigitsLemmas.{length-eight_digits, length-sixteen_digits, same_eight, same_sixteen}
use Rattle.b2_model.specs.LiveGrant.{token_text}

-- fronts of one length are the same where the whole is, and so is what stands after them
same_fronts : (xs ys x y : List ℕ) → length xs ≡ length ys → xs ++ x ≡ ys ++ y → (xs ≡ ys) × (x ≡ y)
same_fronts [] [] x y long same = (refl, same)
same_fronts [] (b ∷ ys) x y long same = absurd (omega (arith, long))
same_fronts (a ∷ xs) [] x y long same = absurd (omega (arith, long))
same_fronts (a ∷ xs) (b ∷ ys) x y long same =
    let head : a ≡ b = ap (λ l. get_or l 0 0) same in
    let rest = same_fronts xs ys x y (omega (arith, long)) (ap (drop 1) same) in
    (ap (λ c. c ∷ xs) head ∙ ap (λ zs. b ∷ zs) rest.0, rest.1)

-- the front, the boot number, a mark, the serial, and the rest
pub flat : (front boot serial first second : List ℕ) → front ++ boot ++ 95 ∷ serial ++ 95 ∷ first ++ 95 ∷ second ≡ front ++ (boot ++ (95 ∷ (serial ++ (95 ∷ (first ++ (95 ∷ second))))))
flat front boot serial first second = simp append_assoc refl

pub tells_number : (boot serial first second boot' serial' first' second' : ℕ) → boot < 2 ^ 32 → boot' < 2 ^ 32 → serial < 2 ^ 64 → serial' < 2 ^ 64
    → token_text boot serial first second ≡ token_text boot' serial' first' second' → (boot ≡ boot') × (serial ≡ serial')
tells_number boot serial first second boot' serial' first' second' few few' low low' same =
    let whole =
    sym (flat (codes "3_") (eight_digits boot) (sixteen_digits serial) (sixteen_digits first) (sixteen_digits second)) ∙ same
    ∙ flat (codes "3_") (eight_digits boot') (sixteen_digits serial') (sixteen_digits first') (sixteen_digits second') in
    let after = (same_fronts (codes "3_") (codes "3_") _ _ refl whole).1 in
    let boots = same_fronts (eight_digits boot) (eight_digits boot') _ _ (length-eight_digits boot ∙ sym (length-eight_digits boot')) after in
    let serials = same_fronts (sixteen_digits serial) (sixteen_digits serial') _ _ (length-sixteen_digits serial ∙ sym (length-sixteen_digits serial')) (ap (drop 1) boots.1) in
    (same_eight boot boot' few few' boots.0, same_sixteen serial serial' low low' serials.0)
