-- Where a script ends, or its first wrong line stands.
use Rattle.std.proofs.Common.{◌≡◌, ◌≢◌, ℕ, ◌≤◌, List, [], ◌∷◌, ◌++◌, length, true, sym, ap, ◌∙◌, subst, arith, append-nil, length-append}
use Rattle.std.specs.List.{All}
use Rattle.event_script.specs.Line.{Line, line_text, Fits}
use Rattle.event_script.specs.Script.{text_of, IsBeginning, IsFirstWrong, ReadsScript}
use Rattle.b2_base.specs.Bytes.{IsCutAt}
use Rattle.event_script.specs.Reading.{Stands, is_ended}
use Rattle.event_script.specs.declared.reader.Reader.{Reader}
use Rattle.event_script.proofs.Order.{ends_with_stop, stop_ends}
use Rattle.event_script.proofs.Pushes.{each_last}
use Rattle.b2_base.proofs.Cuts.{cut_once, has_byte}
use Rattle.event_script.proofs.Lines.{one_line}

pub fewer_lines : (lines : List Line) → length lines ≤ length (text_of lines)
fewer_lines [] = omega arith
fewer_lines (line ∷ lines) = omega (arith, fewer_lines lines, length-append (line_text line ++ 10 ∷ []) (text_of lines), length-append (line_text line) (10 ∷ []))

cut_has_more : (text behind : List ℕ) → text ++ 10 ∷ behind ≡ [] → ⊥
cut_has_more text behind none = absurd (omega (arith, ap length none, length-append text (10 ∷ behind)))

-- the line that stands there is wrong
pub wrong_line : (bytes : List ℕ) (before : List Line) (reader : Reader) (rest : List ℕ) (number : ℕ) (text behind : List ℕ)
    → Stands bytes before reader rest number → IsCutAt 10 rest text behind
    → ((line : Line) → text ≡ line_text line → IsBeginning (before ++ line ∷ []) → ⊥)
    → IsFirstWrong bytes number before rest
wrong_line bytes before reader rest number text behind stands cut refused = record {
  beginning = stands.progress.beginning;
  bytes_are = stands.bytes_are;
  number_is = stands.number_is;
  unfinished = λ script none. absurd (cut_has_more text behind (sym cut.1 ∙ none));
  wrong = λ line more is beginning.
      let fits = each_last Fits before line beginning.each in
      refused line (cut_once 10 text (line_text line) behind more cut.0 (one_line line fits) (sym cut.1 ∙ is)).0 beginning;
}

-- the bytes end, and no whole line stands there
pub wrong_end : (bytes : List ℕ) (before : List Line) (reader : Reader) (rest : List ℕ) (number : ℕ)
    → Stands bytes before reader rest number → All (λ b. b ≢ 10) rest → (rest ≡ [] → reader.is_ended ≡ true → ⊥)
    → IsFirstWrong bytes number before rest
wrong_end bytes before reader rest number stands clean open_end = record {
  beginning = stands.progress.beginning;
  bytes_are = stands.bytes_are;
  number_is = stands.number_is;
  unfinished = λ script none. open_end none (stands.progress.ended ∙ ap is_ended script.ended.1 ∙ stop_ends script.ended.0);
  wrong = λ line more is beginning. has_byte 10 (line_text line) more (subst (All (λ b. b ≢ 10)) is clean);
}

-- the bytes end behind stop
pub whole : (bytes : List ℕ) (before : List Line) (reader : Reader) (rest : List ℕ) (number : ℕ)
    → Stands bytes before reader rest number → rest ≡ [] → reader.is_ended ≡ true → ReadsScript bytes before
whole bytes before reader rest number stands none end = (
  record { beginning = stands.progress.beginning; ended = ends_with_stop before stands.progress.beginning.order (sym stands.progress.ended ∙ end) },
  stands.bytes_are ∙ ap (λ xs. text_of before ++ xs) none ∙ append-nil (text_of before),
)
