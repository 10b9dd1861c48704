-- Four words, one after the other.
use Rattle.std.proofs.Common.{◌≡◌, ℕ, List, [], ◌∷◌, Option, Some, None, drop, map, slice_index, refl, sym, ap, ◌∙◌}
use Rattle.outside_traits.specs.Given.{GivesWord, first_or}
use Rattle.app_keys.specs.Keys.{AreDrawn}

-- the words by their places
at_places : (ahead : List ℕ) → first_or 0 ahead ∷ first_or 0 (drop 1 ahead) ∷ first_or 0 (drop 1 (drop 1 ahead)) ∷ first_or 0 (drop 1 (drop 1 (drop 1 ahead))) ∷ []
    ≡ map (slice_index ahead) (0 ∷ 1 ∷ 2 ∷ 3 ∷ [])
at_places [] = refl
at_places (a ∷ []) = refl
at_places (a ∷ b ∷ []) = refl
at_places (a ∷ b ∷ c ∷ []) = refl
at_places (a ∷ b ∷ c ∷ d ∷ rest) = refl

rest_of : (ahead : List ℕ) → drop 1 (drop 1 (drop 1 (drop 1 ahead))) ≡ drop 4 ahead
rest_of [] = refl
rest_of (a ∷ []) = refl
rest_of (a ∷ b ∷ []) = refl
rest_of (a ∷ b ∷ c ∷ []) = refl
rest_of (a ∷ b ∷ c ∷ d ∷ rest) = refl

four : (ahead k l m n : List ℕ) (w x y z : ℕ) → w ≡ first_or 0 ahead → k ≡ drop 1 ahead → x ≡ first_or 0 k → l ≡ drop 1 k → y ≡ first_or 0 l → m ≡ drop 1 l
    → z ≡ first_or 0 m → n ≡ drop 1 m → AreDrawn (Some ahead) (w ∷ x ∷ y ∷ z ∷ []) (Some n)
four ahead k l m n w x y z w_is k_is x_is l_is y_is m_is z_is n_is =
    let l_at : l ≡ drop 1 (drop 1 ahead) = l_is ∙ ap (drop 1) k_is in
    let m_at : m ≡ drop 1 (drop 1 (drop 1 ahead)) = m_is ∙ ap (drop 1) l_at in
    let n_at : n ≡ drop 4 ahead = n_is ∙ ap (drop 1) m_at ∙ rest_of ahead in
    let words : w ∷ x ∷ y ∷ z ∷ [] ≡ map (slice_index ahead) (0 ∷ 1 ∷ 2 ∷ 3 ∷ []) =
    rw (w_is, x_is, k_is, y_is, l_at, z_is, m_at) (at_places ahead) in
    (words, n_at)

pub four_words : (a k l m n : Option (List ℕ)) (w x y z : ℕ) → GivesWord a w k → GivesWord k x l → GivesWord l y m → GivesWord m z n
    → AreDrawn a (w ∷ x ∷ y ∷ z ∷ []) n
four_words None k l m n w x y z first second third fourth = tt
four_words (Some a) None l m n w x y z first second third fourth = absurd first
four_words (Some a) (Some k) None m n w x y z first second third fourth = absurd second
four_words (Some a) (Some k) (Some l) None n w x y z first second third fourth = absurd third
four_words (Some a) (Some k) (Some l) (Some m) None w x y z first second third fourth = absurd fourth
four_words (Some a) (Some k) (Some l) (Some m) (Some n) w x y z first second third fourth =
    four a k l m n w x y z first.0 first.1 second.0 second.1 third.0 third.1 fourth.0 fourth.1
