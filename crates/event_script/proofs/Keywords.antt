-- A keyword tells which line a text is.
use Rattle.std.proofs.Common.{◌≡◌, ℕ, ◌<◌, ◌^◌, List, ◌∷◌, ◌++◌, codes, decimal, drop, get_or, nat_eq, eq-eqb, false, sym, ap, ◌∙◌, refl}
use Rattle.std.proofs.lemmas.Bool.{false≢true}
use Rattle.hex.specs.Hex.{encode_lower}
use Rattle.b2_base.specs.Digits.{sixteen_digits}
use Rattle.event_script.specs.Line.{Line, reading, random, opening, piece, written, ready, gone, stop, line_text, Fits, IsPiece, IsText}

-- lists with other heads are other lists
pub heads_differ : {x y : ℕ} {xs ys : List ℕ} → x ∷ xs ≡ y ∷ ys → nat_eq x y ≡ false → ⊥
heads_differ {x} {y} {xs} {ys} same differ = false≢true (sym differ ∙ eq-eqb x y (ap (λ zs. get_or zs 0 0) same))

pub behind_at : (rest : List ℕ) (line : Line) → Fits line → codes "at " ++ rest ≡ line_text line
    → (n : ℕ) × (line ≡ reading n) × (n < 2 ^ 64) × (rest ≡ decimal n)
behind_at rest (reading n) fits is = (n, refl, fits, ap (drop 3) is)
behind_at rest (random n) fits is = absurd (heads_differ is refl)
behind_at rest (opening n) fits is = absurd (heads_differ is refl)
behind_at rest (piece n xs) fits is = absurd (heads_differ is refl)
behind_at rest (written n xs) fits is = absurd (heads_differ is refl)
behind_at rest (ready n) fits is = absurd (heads_differ is refl)
behind_at rest (gone n) fits is = absurd (heads_differ is refl)
behind_at rest stop fits is = absurd (heads_differ is refl)

pub behind_word : (rest : List ℕ) (line : Line) → Fits line → codes "word " ++ rest ≡ line_text line
    → (n : ℕ) × (line ≡ random n) × (n < 2 ^ 64) × (rest ≡ sixteen_digits n)
behind_word rest (reading n) fits is = absurd (heads_differ is refl)
behind_word rest (random n) fits is = (n, refl, fits, ap (drop 5) is)
behind_word rest (opening n) fits is = absurd (heads_differ is refl)
behind_word rest (piece n xs) fits is = absurd (heads_differ is refl)
behind_word rest (written n xs) fits is = absurd (heads_differ is refl)
behind_word rest (ready n) fits is = absurd (heads_differ is refl)
behind_word rest (gone n) fits is = absurd (heads_differ is refl)
behind_word rest stop fits is = absurd (heads_differ is refl)

pub behind_open : (rest : List ℕ) (line : Line) → Fits line → codes "open " ++ rest ≡ line_text line
    → (n : ℕ) × (line ≡ opening n) × (n < 2 ^ 32) × (rest ≡ decimal n)
behind_open rest (reading n) fits is = absurd (heads_differ is refl)
behind_open rest (random n) fits is = absurd (heads_differ is refl)
behind_open rest (opening n) fits is = (n, refl, fits, ap (drop 5) is)
behind_open rest (piece n xs) fits is = absurd (heads_differ is refl)
behind_open rest (written n xs) fits is = absurd (heads_differ is refl)
behind_open rest (ready n) fits is = absurd (heads_differ is refl)
behind_open rest (gone n) fits is = absurd (heads_differ is refl)
behind_open rest stop fits is = absurd (heads_differ is refl)

pub behind_piece : (rest : List ℕ) (line : Line) → Fits line → codes "piece " ++ rest ≡ line_text line
    → (n : ℕ) × (xs : List ℕ) × (line ≡ piece n xs) × (n < 2 ^ 32) × IsPiece xs × (rest ≡ decimal n ++ 32 ∷ encode_lower xs)
behind_piece rest (reading n) fits is = absurd (heads_differ is refl)
behind_piece rest (random n) fits is = absurd (heads_differ is refl)
behind_piece rest (opening n) fits is = absurd (heads_differ is refl)
behind_piece rest (piece n xs) fits is = (n, xs, refl, fits.0, fits.1, ap (drop 6) is)
behind_piece rest (written n xs) fits is = absurd (heads_differ is refl)
behind_piece rest (ready n) fits is = absurd (heads_differ is refl)
behind_piece rest (gone n) fits is = absurd (heads_differ is refl)
behind_piece rest stop fits is = absurd (heads_differ is refl)

pub behind_line : (rest : List ℕ) (line : Line) → Fits line → codes "line " ++ rest ≡ line_text line
    → (n : ℕ) × (xs : List ℕ) × (line ≡ written n xs) × (n < 2 ^ 32) × IsText xs × (rest ≡ decimal n ++ 32 ∷ xs)
behind_line rest (reading n) fits is = absurd (heads_differ is refl)
behind_line rest (random n) fits is = absurd (heads_differ is refl)
behind_line rest (opening n) fits is = absurd (heads_differ is refl)
behind_line rest (piece n xs) fits is = absurd (heads_differ is refl)
behind_line rest (written n xs) fits is = (n, xs, refl, fits.0, fits.1, ap (drop 5) is)
behind_line rest (ready n) fits is = absurd (heads_differ is refl)
behind_line rest (gone n) fits is = absurd (heads_differ is refl)
behind_line rest stop fits is = absurd (heads_differ is refl)

pub behind_ready : (rest : List ℕ) (line : Line) → Fits line → codes "ready " ++ rest ≡ line_text line
    → (n : ℕ) × (line ≡ ready n) × (n < 2 ^ 32) × (rest ≡ decimal n)
behind_ready rest (reading n) fits is = absurd (heads_differ is refl)
behind_ready rest (random n) fits is = absurd (heads_differ is refl)
behind_ready rest (opening n) fits is = absurd (heads_differ is refl)
behind_ready rest (piece n xs) fits is = absurd (heads_differ is refl)
behind_ready rest (written n xs) fits is = absurd (heads_differ is refl)
behind_ready rest (ready n) fits is = (n, refl, fits, ap (drop 6) is)
behind_ready rest (gone n) fits is = absurd (heads_differ is refl)
behind_ready rest stop fits is = absurd (heads_differ is refl)

pub behind_gone : (rest : List ℕ) (line : Line) → Fits line → codes "gone " ++ rest ≡ line_text line
    → (n : ℕ) × (line ≡ gone n) × (n < 2 ^ 32) × (rest ≡ decimal n)
behind_gone rest (reading n) fits is = absurd (heads_differ is refl)
behind_gone rest (random n) fits is = absurd (heads_differ is refl)
behind_gone rest (opening n) fits is = absurd (heads_differ is refl)
behind_gone rest (piece n xs) fits is = absurd (heads_differ is refl)
behind_gone rest (written n xs) fits is = absurd (heads_differ is refl)
behind_gone rest (ready n) fits is = absurd (heads_differ is refl)
behind_gone rest (gone n) fits is = (n, refl, fits, ap (drop 5) is)
behind_gone rest stop fits is = absurd (heads_differ is refl)

pub only_stop : (line : Line) → Fits line → codes "stop" ≡ line_text line → line ≡ stop
only_stop (reading n) fits is = absurd (heads_differ is refl)
only_stop (random n) fits is = absurd (heads_differ is refl)
only_stop (opening n) fits is = absurd (heads_differ is refl)
only_stop (piece n xs) fits is = absurd (heads_differ is refl)
only_stop (written n xs) fits is = absurd (heads_differ is refl)
only_stop (ready n) fits is = absurd (heads_differ is refl)
only_stop (gone n) fits is = absurd (heads_differ is refl)
only_stop stop fits is = refl
