-- One line more.
use Rattle.std.proofs.Common.{◌≡◌, ℕ, ◌+◌, ◌<◌, ◌≤◌, List, [], ◌∷◌, ◌++◌, length, map, filter, fold, true, false, ◌||◌, refl, sym, ap, ◌∙◌, arith, append-nil, append_assoc, length-append}
use Rattle.std.specs.List.{AllByRecursion, flat_map}
use Rattle.std.proofs.lemmas.List.{map-append}
use Rattle.std.proofs.lemmas.List.Elements.{filter-append}
use Rattle.std.proofs.lemmas.List.Concat.{flat_map-append}
use Rattle.event_script.specs.Line.{Line, line_text, Fits, says}
use Rattle.event_script.specs.Script.{text_of, is_ready, ready_lines, reading_after, timed_part, timed_from, timed_of, word_part, words_of, IsBeginning, Says}
use Rattle.event_script.specs.Reading.{is_stop, is_ended, now_of, AddsSaid, Progress}
use Rattle.event_script.specs.declared.line.Said.{Said}
use Rattle.event_script.specs.declared.reader.Reader.{Reader}
use Rattle.event_script.proofs.Lines.{same_line}
use Rattle.event_script.proofs.Order.{order_push, ended_push, nothing_behind}

pub each_push : (P : Line → Type 0) (lines : List Line) (line : Line) → AllByRecursion P lines → P line → AllByRecursion P (lines ++ line ∷ [])
each_push P [] line each last = (last, tt)
each_push P (x ∷ lines) line each last = (each.0, each_push P lines line each.1 last)

pub each_last : (P : Line → Type 0) (lines : List Line) (line : Line) → AllByRecursion P (lines ++ line ∷ []) → P line
each_last P [] line each = each.0
each_last P (x ∷ lines) line each = each_last P lines line each.1

pub each_front : (P : Line → Type 0) (lines more : List Line) → AllByRecursion P (lines ++ more) → AllByRecursion P lines
each_front P [] more each = tt
each_front P (x ∷ lines) more each = (each.0, each_front P lines more each.1)

text_push : (lines : List Line) (line : Line) → text_of (lines ++ line ∷ []) ≡ text_of lines ++ (line_text line ++ 10 ∷ [])
text_push lines line = flat_map-append (λ l. line_text l ++ 10 ∷ []) lines (line ∷ []) ∙ ap (λ xs. text_of lines ++ xs) (append-nil (line_text line ++ 10 ∷ []))

pub size_push : (lines : List Line) (line : Line) → length (text_of (lines ++ line ∷ [])) ≡ length (text_of lines) + length (line_text line) + 1
size_push lines line = ap length (text_push lines line) ∙ omega (arith, length-append (text_of lines) (line_text line ++ 10 ∷ []), length-append (line_text line) (10 ∷ []))

pub ready_append : (lines more : List Line) → ready_lines (lines ++ more) ≡ ready_lines lines + ready_lines more
ready_append lines more =
    ap (λ xs. length (filter is_ready xs)) (map-append says lines more)
    ∙ ap length (filter-append is_ready (map says lines) (map says more))
    ∙ length-append (filter is_ready (map says lines)) (filter is_ready (map says more))

said_push : (lines : List Line) (line : Line) → map says (lines ++ line ∷ []) ≡ map says lines ++ says line ∷ []
said_push lines line = map-append says lines (line ∷ [])

fold_push : (f : ℕ → Said → ℕ) (n : ℕ) (xs : List Said) (x : Said) → fold f n (xs ++ x ∷ []) ≡ f (fold f n xs) x
fold_push f n [] x = refl
fold_push f n (y ∷ xs) x = fold_push f (f n y) xs x

now_push : (lines : List Line) (line : Line) → now_of (lines ++ line ∷ []) ≡ reading_after (now_of lines) (says line)
now_push lines line = ap (fold reading_after 0) (said_push lines line) ∙ fold_push reading_after 0 (map says lines) (says line)

timed_from_push : (now : ℕ) (xs : List Said) (x : Said) → timed_from now (xs ++ x ∷ []) ≡ timed_from now xs ++ timed_part (fold reading_after now xs) x
timed_from_push now [] x = append-nil (timed_part now x)
timed_from_push now (y ∷ xs) x =
    ap (λ rest. timed_part now y ++ rest) (timed_from_push (reading_after now y) xs x)
    ∙ sym (append_assoc (timed_part now y) (timed_from (reading_after now y) xs) (timed_part (fold reading_after (reading_after now y) xs) x))

timed_push : (lines : List Line) (line : Line) → timed_of (lines ++ line ∷ []) ≡ timed_of lines ++ timed_part (now_of lines) (says line)
timed_push lines line = ap (timed_from 0) (said_push lines line) ∙ timed_from_push 0 (map says lines) (says line)

words_push : (lines : List Line) (line : Line) → words_of (lines ++ line ∷ []) ≡ words_of lines ++ word_part (says line)
words_push lines line =
    ap (λ xs. flat_map word_part xs) (said_push lines line)
    ∙ flat_map-append word_part (map says lines) (says line ∷ [])
    ∙ ap (λ xs. words_of lines ++ xs) (append-nil (word_part (says line)))

-- the line is too much: behind stop, past the bytes of a script, or past its lines that say ready
pub wrong_behind : (before : List Line) (reader : Reader) → Progress before reader → reader.is_ended ≡ true → (line : Line) → IsBeginning (before ++ line ∷ []) → ⊥
wrong_behind before reader so_far e line beginning = nothing_behind before line (sym so_far.ended ∙ e) beginning.order

pub wrong_size : (before : List Line) (reader : Reader) (text : List ℕ) → Progress before reader → 67108864 < reader.size + length text + 1
    → (line : Line) → text ≡ line_text line → IsBeginning (before ++ line ∷ []) → ⊥
wrong_size before reader text so_far long line is beginning = absurd (omega (arith, size_push before line, so_far.size, ap length is, long, beginning.size))

pub wrong_ready : (before : List Line) (reader : Reader) (what : Said) (said : Line) → Progress before reader → Fits said → says said ≡ what
    → 16384 < reader.ready + length (filter is_ready (what ∷ [])) → (line : Line) → line_text said ≡ line_text line → IsBeginning (before ++ line ∷ []) → ⊥
wrong_ready before reader what said so_far fits says_it many line same beginning =
    let is : said ≡ line = same_line said line fits (each_last Fits before line beginning.each) same in
    let count : length (filter is_ready (what ∷ [])) ≡ ready_lines (line ∷ []) = ap (λ w. length (filter is_ready (w ∷ []))) (sym says_it ∙ ap says is) in
    absurd (omega (arith, many, count, so_far.ready, ready_append before (line ∷ []), beginning.ready))

-- the line was taken
pub goes_on : (before : List Line) (reader new : Reader) (what : Said) (said : Line) (text : List ℕ) (ready size : ℕ)
    → Progress before reader → reader.is_ended ≡ false → Fits said → says said ≡ what → text ≡ line_text said
    → ready ≡ reader.ready + length (filter is_ready (what ∷ [])) → ready ≤ 16384 → size ≡ reader.size + length text + 1 → size ≤ 67108864
    → AddsSaid what (record { alloc = reader.alloc; script = reader.script; reading = reader.reading; ready = ready; size = size; is_ended = reader.is_ended }) new
    → Progress (before ++ said ∷ []) new
goes_on before reader new what said text ready size so_far not_ended fits says_it is count few grown short adds =
    let counted : length (filter is_ready (what ∷ [])) ≡ ready_lines (said ∷ []) = ap (λ w. length (filter is_ready (w ∷ []))) (sym says_it) in
    let all : ready ≡ ready_lines (before ++ said ∷ []) = omega (arith, count, counted, so_far.ready, ready_append before (said ∷ [])) in
    let long : size ≡ length (text_of (before ++ said ∷ [])) = omega (arith, grown, so_far.size, ap length is, size_push before said) in
    record {
      beginning = record {
        each = each_push Fits before said so_far.beginning.each fits;
        order = order_push before said so_far.beginning.order (sym so_far.ended ∙ not_ended);
        ready = omega (arith, all, few);
        size = omega (arith, long, short);
      };
      now = adds.now ∙ ap (λ n. reading_after n what) so_far.now ∙ ap (reading_after (now_of before)) (sym says_it) ∙ sym (now_push before said);
      timed = adds.timed ∙ ap (λ xs. xs ++ timed_part reader.reading what) so_far.timed ∙ ap (λ n. timed_of before ++ timed_part n what) so_far.now
          ∙ ap (λ w. timed_of before ++ timed_part (now_of before) w) (sym says_it) ∙ sym (timed_push before said);
      words = adds.words ∙ ap (λ xs. xs ++ word_part what) so_far.words ∙ ap (λ w. words_of before ++ word_part w) (sym says_it) ∙ sym (words_push before said);
      ended = adds.ended ∙ ap (λ b. b || is_stop what) so_far.ended ∙ ap (λ w. is_ended before || is_stop w) (sym says_it) ∙ sym (ended_push before said);
      ready = adds.ready ∙ all;
      size = adds.size ∙ long;
    }

-- what the reader holds is what the lines say
pub says_lines : (lines : List Line) (reader : Reader) → Progress lines reader → Says reader.script lines
says_lines lines reader so_far = record {
  events = ap (map (λ t. t.event)) so_far.timed;
  readings = ap (map (λ t. t.reading)) so_far.timed;
  words = so_far.words;
}
