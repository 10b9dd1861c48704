-- Bytes past the limit change nothing in which line is the first wrong one.
use Rattle.std.proofs.Common.{◌≡◌, ℕ, ◌<◌, ◌≤◌, List, [], ◌∷◌, ◌++◌, length, take, drop, refl, sym, ap, ◌∙◌, subst, arith, append-nil, append_assoc, length-append, Option, None, Some, IfSome, inl, inr}
use Rattle.std.specs.Io.KnownBytes.{Consumes, IsAtEnd}
use Rattle.std.proofs.lemmas.Bool.{cases_lt}
use Rattle.std.proofs.lemmas.List.{take-append-drop, take-append-le, take_at}
use Rattle.event_script.specs.Line.{Line, line_text}
use Rattle.event_script.specs.Script.{text_of, HasFirstWrong, ReadsScript}
use Rattle.event_script.proofs.Pushes.{size_push}

front_line : (rest more front behind : List ℕ) → length front ≤ length rest → rest ++ more ≡ front ++ behind → rest ≡ front ++ drop (length front) rest
front_line rest more front behind fits same =
    sym (take-append-drop (length front) rest)
    ∙ ap (λ xs. xs ++ drop (length front) rest) (sym (take-append-le (length front) rest more fits) ∙ ap (take (length front)) same ∙ take_at front behind (length front) refl)

pub wrong_in_front : (bytes more : List ℕ) (n : ℕ) → 67108864 < length bytes → HasFirstWrong bytes n → HasFirstWrong (bytes ++ more) n
wrong_in_front bytes more n long (before, rest, wrong) = (
  before,
  rest ++ more,
  record {
    beginning = wrong.beginning;
    bytes_are = ap (λ xs. xs ++ more) wrong.bytes_are ∙ append_assoc (text_of before) rest more;
    number_is = wrong.number_is;
    unfinished = λ script none. absurd (omega (arith, long, ap length wrong.bytes_are, length-append (text_of before) rest, wrong.beginning.size, ap length none, length-append rest more));
    wrong = λ line behind is beginning.
        let front = line_text line ++ 10 ∷ [] in
        let fits : length front ≤ length rest = omega (arith, long, ap length wrong.bytes_are, length-append (text_of before) rest, beginning.size, size_push before line, length-append (line_text line) (10 ∷ [])) in
        let cut = front_line rest more front behind fits (is ∙ sym (append_assoc (line_text line) (10 ∷ []) behind)) in
        wrong.wrong line (drop (length front) rest) (cut ∙ append_assoc (line_text line) (10 ∷ []) (drop (length front) rest)) beginning;
  },
)

pub script_is_short : (bytes : List ℕ) (lines : List Line) → ReadsScript bytes lines → length bytes ≤ 67108864
script_is_short bytes lines reads = omega (arith, ap length reads.1, reads.0.beginning.size)

-- what was read of a source, to its end or past the limit, tells its first wrong line
pub wrong_of_source : (a b : Option (List ℕ)) (bytes : List ℕ) (n : ℕ) → Consumes a b bytes → (length bytes ≤ 67108864 → IsAtEnd b) → HasFirstWrong bytes n
    → IfSome a (λ xs. HasFirstWrong xs n)
wrong_of_source None b bytes n taken end wrong = tt
wrong_of_source (Some xs) None bytes n taken end wrong = absurd taken
wrong_of_source (Some xs) (Some ys) bytes n taken end wrong =
    let at : List ℕ → Type 0 = λ zs. HasFirstWrong zs n in
    elim (cases_lt 67108864 (length bytes)) [
      | inl long ↦ subst at (sym taken) (wrong_in_front bytes ys n long wrong)
      | inr short ↦ subst at (sym (taken ∙ ap (λ rest. bytes ++ rest) (end short) ∙ append-nil bytes)) wrong
    ]

-- and which script it is
pub script_of_source : (a b : Option (List ℕ)) (bytes : List ℕ) (lines : List Line) → Consumes a b bytes → (length bytes ≤ 67108864 → IsAtEnd b) → ReadsScript bytes lines
    → IfSome a (λ xs. ReadsScript xs lines)
script_of_source None b bytes lines taken end reads = tt
script_of_source (Some xs) None bytes lines taken end reads = absurd taken
script_of_source (Some xs) (Some ys) bytes lines taken end reads =
    let at : List ℕ → Type 0 = λ zs. ReadsScript zs lines in
    subst at (sym (taken ∙ ap (λ rest. bytes ++ rest) (end (script_is_short bytes lines reads)) ∙ append-nil bytes)) reads
