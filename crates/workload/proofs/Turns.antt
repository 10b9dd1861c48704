-- One request after the other.
use Rattle.std.proofs.Common.{◌≡◌, ℕ, zero, suc, ◌+◌, List, [], ◌∷◌, ◌++◌, map, refl, sym, ap, ◌∙◌, append_assoc, append-nil, arith}
use Rattle.std.specs.List.{flat_map}
use Rattle.event_script.specs.declared.script.Timed.{Timed}
use Rattle.event_script.specs.declared.script.Script.{Script}
use Rattle.event_script.specs.Line.{stop, says}
use Rattle.event_script.specs.Script.{timed_from, timed_of, word_part, words_of, Says}
use Rattle.workload.specs.Sequence.{next_number}
use Rattle.workload.specs.Requests.{authorize, create_bucket, get_upload_url}
use Rattle.workload.specs.Workload.{exchange, setup, turn, turns_after, workload, opened_in}

-- the events of a connection with one request
abbrev pub at_once : ℕ → ℕ → List ℕ → List Timed
at_once reading conn bytes = timed_from reading (map says (exchange conn bytes))

pub three_more : (xs : List Timed) (a b c : Timed) → ((xs ++ a ∷ []) ++ b ∷ []) ++ c ∷ [] ≡ xs ++ (a ∷ b ∷ c ∷ [])
three_more xs a b c = append_assoc (xs ++ a ∷ []) (b ∷ []) (c ∷ []) ∙ append_assoc xs (a ∷ []) (b ∷ c ∷ [])

-- the requests before the first that is drawn
pub begins_so : (zero_th one two three : List Timed) (a b c : List ℕ) → zero_th ≡ [] → one ≡ zero_th ++ at_once 0 1 a → two ≡ one ++ at_once 0 2 b → three ≡ two ++ at_once 0 3 c
    → a ≡ authorize → b ≡ create_bucket → c ≡ get_upload_url → three ≡ timed_from 0 (map says setup)
begins_so zero_th one two three a b c none first second third is_a is_b is_c =
    third
    ∙ ap (λ l. l ++ at_once 0 3 c) (second ∙ ap (λ l. l ++ at_once 0 2 b) (first ∙ ap (λ l. l ++ at_once 0 1 a) none))
    ∙ (λ i. (at_once 0 1 (is_a i) ++ at_once 0 2 (is_b i)) ++ at_once 0 3 (is_c i))

-- ---- the requests that are drawn

-- what is to happen after so many of them
abbrev pub ahead : ℕ → ℕ → ℕ → List Timed
ahead x i left = timed_from i (map says (turns_after x i left ++ stop ∷ []))

abbrev pub StandsAt : ℕ → ℕ → ℕ → ℕ → List Timed → Type 0
StandsAt seed n i x so_far = (left : ℕ) → left + i ≡ n → so_far ++ ahead x i left ≡ timed_of (workload seed n)

pub first_stands : (seed n : ℕ) (so_far : List Timed) → so_far ≡ timed_from 0 (map says setup) → StandsAt seed n 0 seed so_far
first_stands seed n so_far is left same =
    let all : left ≡ n = omega (arith, same) in
    ap (λ l. l ++ ahead seed 0 left) is ∙ ap (λ m. timed_from 0 (map says setup) ++ ahead seed 0 m) all

pub next_stands : (seed n i x y : ℕ) (so_far more : List Timed) → StandsAt seed n i x so_far → y ≡ next_number x → more ≡ so_far ++ timed_from 0 (map says (turn (i + 1) y)) → StandsAt seed n (i + 1) y more
next_stands seed n i x y so_far more before is adds left same =
    let done : so_far ++ ahead x i (suc left) ≡ timed_of (workload seed n) = before (suc left) (omega (arith, same)) in
    ap (λ l. l ++ ahead y (i + 1) left) adds
    ∙ append_assoc so_far (timed_from 0 (map says (turn (i + 1) y))) (ahead y (i + 1) left)
    ∙ ap (λ z. so_far ++ (timed_from 0 (map says (turn (i + 1) z)) ++ ahead z (i + 1) left)) is
    ∙ done

last_stands : (seed n i x : ℕ) (so_far : List Timed) → i ≡ n → StandsAt seed n i x so_far → so_far ≡ timed_of (workload seed n)
last_stands seed n i x so_far end is = sym (append-nil so_far) ∙ is 0 (omega (arith, end))

no_words : (x i n : ℕ) → flat_map word_part (map says (turns_after x i n ++ stop ∷ [])) ≡ []
no_words x i zero = refl
no_words x i (suc n) = no_words (next_number x) (i + 1) n

pub says_so : (seed n i x : ℕ) (s : Script) → i ≡ n → StandsAt seed n i x s.timed.items → s.words.items ≡ 1 ∷ 2 ∷ 3 ∷ 4 ∷ [] → Says s (workload seed n)
says_so seed n i x s end is words =
    let timed = last_stands seed n i x s.timed.items end is in
    let four : 1 ∷ 2 ∷ 3 ∷ 4 ∷ [] ≡ words_of (workload seed n) = ap (λ l. 1 ∷ 2 ∷ 3 ∷ 4 ∷ l) (sym (no_words seed 0 n)) in
    record { events = ap (map (λ t. t.event)) timed; readings = ap (map (λ t. t.reading)) timed; words = words ∙ four }

-- ---- how many connections are opened

opens : (x i n : ℕ) → opened_in (turns_after x i n ++ stop ∷ []) ≡ n
opens x i zero = refl
opens x i (suc n) = ap (λ m. suc m) (opens (next_number x) (i + 1) n)

pub opens_all : (seed n : ℕ) → opened_in (workload seed n) ≡ n + 3
opens_all seed n =
    let three : suc (suc (suc n)) ≡ n + 3 = omega arith in
    ap (λ m. suc (suc (suc m))) (opens seed 0 n) ∙ three
