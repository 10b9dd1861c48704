-- Lines that begin the same bytes begin one another.
use Rattle.std.proofs.Common.{◌≡◌, ℕ, List, [], ◌∷◌, ◌++◌, length, refl, sym, ap, ◌∙◌, subst, arith, append-nil, append_assoc, length-append, ◌⊎◌, inl, inr, Option, None, Some, IfSome}
use Rattle.std.specs.List.{AllByRecursion}
use Rattle.std.proofs.lemmas.List.Concat.{flat_map-append}
use Rattle.event_script.specs.Line.{Line, line_text, Fits}
use Rattle.event_script.specs.Script.{text_of, IsBeginning, IsScript, IsFirstWrong, HasFirstWrong, ReadsScript}
use Rattle.event_script.proofs.Order.{order_front}
use Rattle.b2_base.proofs.Cuts.{cut_once}
use Rattle.event_script.proofs.Lines.{one_line, same_line}
use Rattle.event_script.proofs.Pushes.{each_front, ready_append}

-- b goes on where a ends
pub record GoesOn (a b : List Line) (r s : List ℕ) : Type 0 where
  pub more : List Line
  pub lines : b ≡ a ++ more
  pub bytes : r ≡ text_of more ++ s

first_line : (line : Line) (lines : List Line) (rest : List ℕ) → text_of (line ∷ lines) ++ rest ≡ line_text line ++ 10 ∷ (text_of lines ++ rest)
first_line line lines rest = append_assoc (line_text line ++ 10 ∷ []) (text_of lines) rest ∙ append_assoc (line_text line) (10 ∷ []) (text_of lines ++ rest)

one_more : (line other : Line) (a b : List Line) (r s : List ℕ) → line ≡ other → GoesOn a b r s → GoesOn (line ∷ a) (other ∷ b) r s
one_more line other a b r s same goes = record { more = goes.more; lines = ap (λ l. l ∷ b) (sym same) ∙ ap (λ ls. line ∷ ls) goes.lines; bytes = goes.bytes }

pub two_fronts : (a b : List Line) (r s : List ℕ) → AllByRecursion Fits a → AllByRecursion Fits b → text_of a ++ r ≡ text_of b ++ s → GoesOn a b r s ⊎ GoesOn b a s r
two_fronts [] b r s each_a each_b same = inl (record { more = b; lines = refl; bytes = same })
two_fronts (line ∷ a) [] r s each_a each_b same = inr (record { more = line ∷ a; lines = refl; bytes = sym same })
two_fronts (line ∷ a) (other ∷ b) r s each_a each_b same =
    let cut = cut_once 10 (line_text line) (line_text other) (text_of a ++ r) (text_of b ++ s) (one_line line each_a.0) (one_line other each_b.0)
    (sym (first_line line a r) ∙ same ∙ first_line other b s) in
    let is = same_line line other each_a.0 each_b.0 cut.0 in
    elim (two_fronts a b r s each_a.1 each_b.1 cut.1) [
      | inl goes ↦ inl (one_more line other a b r s is goes)
      | inr goes ↦ inr (one_more other line b a s r (sym is) goes)
    ]

-- the front of a beginning is a beginning
pub beginning_front : (lines more : List Line) → IsBeginning (lines ++ more) → IsBeginning lines
beginning_front lines more whole = record {
  each = each_front Fits lines more whole.each;
  order = order_front lines more whole.order;
  ready = omega (arith, whole.ready, ready_append lines more);
  size = omega (arith, whole.size, ap length (flat_map-append (λ line. line_text line ++ 10 ∷ []) lines more), length-append (text_of lines) (text_of more));
}

-- where other lines go on with those before it, a line isn't wrong
goes_past : (bytes : List ℕ) (n : ℕ) (before lines more : List Line) (rest : List ℕ) (line : Line) (s : List ℕ) → IsFirstWrong bytes n before rest
    → IsBeginning lines → lines ≡ before ++ line ∷ more → rest ≡ text_of (line ∷ more) ++ s → ⊥
goes_past bytes n before lines more rest line s wrong beginning is goes =
    let longer : lines ≡ (before ++ line ∷ []) ++ more = is ∙ sym (append_assoc before (line ∷ []) more) in
    wrong.wrong line (text_of more ++ s) (goes ∙ first_line line more s) (beginning_front (before ++ line ∷ []) more (subst IsBeginning longer beginning))

is_none : (xs ys : List ℕ) → [] ≡ xs ++ ys → ys ≡ []
is_none [] ys none = sym none
is_none (x ∷ xs) ys none = absurd (omega (arith, ap length none))

no_lines : (more : List Line) (s : List ℕ) → [] ≡ text_of more ++ s → more ≡ []
no_lines [] s none = refl
no_lines (line ∷ more) s none = absurd (omega (arith, ap length none, length-append (line_text line ++ 10 ∷ []) (text_of more), length-append (text_of (line ∷ more)) s, length-append (line_text line) (10 ∷ [])))

no_wrong_after : (bytes : List ℕ) (n : ℕ) (before lines more : List Line) (rest : List ℕ) → IsFirstWrong bytes n before rest → IsScript lines
    → lines ≡ before ++ more → rest ≡ text_of more ++ [] → ⊥
no_wrong_after bytes n before lines [] rest wrong script is goes = wrong.unfinished (subst IsScript (is ∙ append-nil before) script) goes
no_wrong_after bytes n before lines (line ∷ more) rest wrong script is goes = goes_past bytes n before lines more rest line [] wrong script.beginning is goes

pub script_has_no_wrong_line : (bytes : List ℕ) (lines : List Line) (n : ℕ) → ReadsScript bytes lines → HasFirstWrong bytes n → ⊥
script_has_no_wrong_line bytes lines n reads (before, rest, wrong) =
    let same : text_of before ++ rest ≡ text_of lines ++ [] = sym wrong.bytes_are ∙ reads.1 ∙ sym (append-nil (text_of lines)) in
    elim (two_fronts before lines rest [] wrong.beginning.each reads.0.beginning.each same) [
      | inl goes ↦ no_wrong_after bytes n before lines goes.more rest wrong reads.0 goes.lines goes.bytes
      | inr goes ↦
          let none = no_lines goes.more rest goes.bytes in
          let whole : before ≡ lines = goes.lines ∙ ap (λ more. lines ++ more) none ∙ append-nil lines in
          wrong.unfinished (subst IsScript (sym whole) reads.0) (is_none (text_of goes.more) rest goes.bytes)
    ]

one_longer : (bytes : List ℕ) (n : ℕ) (a b more : List Line) (r s : List ℕ) → IsFirstWrong bytes n a r → IsBeginning b → b ≡ a ++ more → r ≡ text_of more ++ s → length a ≡ length b
one_longer bytes n a b [] r s wrong beginning is goes = ap length (sym (append-nil a)) ∙ ap length (sym is)
one_longer bytes n a b (line ∷ more) r s wrong beginning is goes = absurd (goes_past bytes n a b more r line s wrong beginning is goes)

pub one_wrong_line : (bytes : List ℕ) (m n : ℕ) → HasFirstWrong bytes m → HasFirstWrong bytes n → m ≡ n
one_wrong_line bytes m n (a, r, first) (b, s, second) =
    elim (two_fronts a b r s first.beginning.each second.beginning.each (sym first.bytes_are ∙ second.bytes_are)) [
      | inl goes ↦ omega (arith, first.number_is, second.number_is, one_longer bytes m a b goes.more r s first second.beginning goes.lines goes.bytes)
      | inr goes ↦ omega (arith, first.number_is, second.number_is, one_longer bytes n b a goes.more s r second first.beginning goes.lines goes.bytes)
    ]

pub one_list : (bytes : List ℕ) (a b : List Line) → ReadsScript bytes a → ReadsScript bytes b → a ≡ b
one_list bytes a b first second =
    let same : text_of a ++ [] ≡ text_of b ++ [] = append-nil (text_of a) ∙ sym first.1 ∙ second.1 ∙ sym (append-nil (text_of b)) in
    elim (two_fronts a b [] [] first.0.beginning.each second.0.beginning.each same) [
      | inl goes ↦ sym (append-nil a) ∙ ap (λ more. a ++ more) (sym (no_lines goes.more [] goes.bytes)) ∙ sym goes.lines
      | inr goes ↦ goes.lines ∙ ap (λ more. b ++ more) (no_lines goes.more [] goes.bytes) ∙ append-nil b
    ]

pub no_script : (a : Option (List ℕ)) (n : ℕ) → IfSome a (λ bytes. HasFirstWrong bytes n) → IfSome a (λ bytes. (lines : List Line) → ReadsScript bytes lines → ⊥)
no_script None n wrong = tt
no_script (Some bytes) n wrong = λ lines reads. script_has_no_wrong_line bytes lines n reads wrong

pub one_wrong : (a : Option (List ℕ)) (n : ℕ) → IfSome a (λ bytes. HasFirstWrong bytes n) → IfSome a (λ bytes. (number : ℕ) → HasFirstWrong bytes number → n ≡ number)
one_wrong None n wrong = tt
one_wrong (Some bytes) n wrong = λ number other. one_wrong_line bytes n number wrong other

pub not_wrong : (a : Option (List ℕ)) (lines : List Line) → IfSome a (λ bytes. ReadsScript bytes lines)
    → IfSome a (λ bytes. (number : ℕ) → HasFirstWrong bytes number → ⊥)
not_wrong None lines reads = tt
not_wrong (Some bytes) lines reads = λ number wrong. script_has_no_wrong_line bytes lines number reads wrong
