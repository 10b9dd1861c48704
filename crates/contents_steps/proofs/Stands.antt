-- Steps of two machines, of which the contents of one stand for those of the other.
use Rattle.std.proofs.Common.{◌≡◌, ℕ, ◌/◌, nat_lt, List, [], ◌∷◌, ◌++◌, All, Option, Some, None, map, fold, option_map, unwrap_or, if◌then◌else◌, refl, sym, ap, ◌∙◌, append_assoc, append-nil}
use Rattle.std.specs.Option.{is_some}
use Rattle.b2_types.specs.declared.answer.AnswerOf.{AnswerOf}
use Rattle.b2_types.specs.declared.key.Flight.{Flight}
use Rattle.b2_model.specs.Kinds.{day}
use Rattle.b2_model.specs.Body.{Body}
use Rattle.b2_model.specs.State.{State, Pieces}
use Rattle.b2_model.specs.Policy.{items}
use Rattle.b2_model.specs.UploadSteps.{flight_of, without_flight}
use Rattle.b2_model.specs.Contents.{state_by, answer_by, body_by, step_by, progress_by, GoAlong}
use Rattle.b2_model.specs.Run.{Step, asks, begins, ends, loses, passes, restarts, Progress, moment, with_pass, start_of, begin_step, with_state, with_end, with_answer, answer_to, state_after, step}
use Rattle.machine_laws.proofs.Moments.{answer_state}
use Rattle.machine_laws.proofs.Answered.{step_appends}
use Rattle.content_laws.proofs.Mapped.{if_under}
use Rattle.content_laws.proofs.CarriedPass.{pass-by}
use Rattle.content_laws.proofs.CarriedRun.{step-by}
use Rattle.contents_agree.specs.ContentsOf.{contents_of}
use Rattle.contents_agree.proofs.Agree.{same_state}
use Rattle.contents_steps.specs.Copies.{copy_made, KeepsSizes, CopiesAlong, StandsFor}
use Rattle.contents_steps.specs.Turns.{Turn, AreTurns, after_turns, steps_of, last_meaning, answers_of}
use Rattle.contents_steps.proofs.Copied.{with_copy, copied, copied_by, step_same}

-- ---- answers from before do not matter to a step

module _ {C : Type 0} where
  abbrev told : List (AnswerOf C) → Progress C → Progress C
  told answers R = record R { answers = answers }

  same_but_told : (R S : Progress C) → R.state ≡ S.state → R.words ≡ S.words → R ≡ told R.answers S
  same_but_told R S states words = λ i. record { state = states i; words = words i; answers = R.answers }

  answer_words : (o : Option (AnswerOf C)) (R : Progress C) → (with_answer o R).words ≡ R.words
  answer_words None R = refl
  answer_words (Some a) R = refl

  module _ (K : Pieces C) (answers : List (AnswerOf C)) where
    ended_told : (R : Progress C) (reading : ℕ) (body : Body C) (o : Option Flight) → with_end K (told answers R) reading body o ≡ told answers (with_end K R reading body o)
    ended_told R reading body None = refl
    ended_told R reading body (Some f) = refl

    after_told : (R : Progress C) (s : Step C) → state_after K (told answers R) s ≡ told answers (state_after K R s)
    after_told R (asks reading token c) = refl
    after_told R (begins reading conn token u) = if_under (told answers) (is_some (flight_of R.state conn)) R (with_state R (begin_step R reading conn token u).state)
    after_told R (ends reading conn body) = ended_told R reading body (flight_of R.state conn)
    after_told R (loses reading conn) = if_under (told answers) (is_some (flight_of R.state conn)) (with_state R (without_flight (start_of R reading) (moment R.state reading) conn)) R
    after_told R (passes reading) = refl
    after_told R (restarts reading) = refl

    answer_told : (R : Progress C) (s : Step C) → answer_to K (told answers R) s ≡ answer_to K R s
    answer_told R (asks reading token c) = refl
    answer_told R (begins reading conn token u) = refl
    answer_told R (ends reading conn body) = refl
    answer_told R (loses reading conn) = refl
    answer_told R (passes reading) = refl
    answer_told R (restarts reading) = refl

-- ---- one step

abbrev first_item : {X : Type 0} → List X → Option X
first_item [] = None
first_item (x ∷ xs) = Some x

first_of_items : {X : Type 0} (o : Option X) → first_item (items o) ≡ o
first_of_items None = refl
first_of_items (Some x) = refl

first_mapped : {X Y : Type 0} (g : X → Y) (o : Option X) → first_item (map g (items o)) ≡ option_map g o
first_mapped g None = refl
first_mapped g (Some x) = refl

same_items : {X Y : Type 0} (g : X → Y) (a : Option Y) (b : Option X) → items a ≡ map g (items b) → a ≡ option_map g b
same_items g a b same = sym (first_of_items a) ∙ ap first_item same ∙ first_mapped g b

mapped_items : {X Y : Type 0} (g : X → Y) (o : Option X) → items (option_map g o) ≡ map g (items o)
mapped_items g None = refl
mapped_items g (Some x) = refl

unwrapped : {X Y : Type 0} (g : X → Y) (o : Option X) (x : X) → unwrap_or (option_map g o) (g x) ≡ g (unwrap_or o x)
unwrapped g None x = refl
unwrapped g (Some y) x = refl

module _ {C D : Type 0} where
  pub other_stands : (f g : C → D) (R : Progress C) (S : Progress D) → All (λ c. f c ≡ g c) (contents_of R.state) → StandsFor f R S → StandsFor g R S
  other_stands f g R S agree stands = record { state = stands.state ∙ same_state f g R.state agree; words = stands.words }

  module _ (f : C → D) (P : Pieces C) (Q : Pieces D) (sizes : KeepsSizes f P Q) where
    abbrev kept_at : {E : Type 0} → ℕ → State E → State E
    kept_at t N = record N { now = t; kept = t }

    start_stands : (R : Progress C) (reading : ℕ) → start_of (progress_by f R) reading ≡ state_by f (start_of R reading)
    start_stands R reading =
        let t = moment R.state reading in
        ap (λ N. if nat_lt R.state.pass_day (t / day) then kept_at t N else state_by f R.state) (pass-by f t R.state)
        ∙ if_under (state_by f) (nat_lt R.state.pass_day (t / day)) (with_pass R.state t) R.state

    copies_stand : (other : Body C) (R : Progress C) (s : Step C) → CopiesAlong f P Q R s → copied_by Q (body_by f other) (progress_by f R) (step_by f s) ≡ body_by f (copied_by P other R s)
    copies_stand other R (asks reading token c) along =
        ap (λ N. copied (body_by f other) Q N c) (start_stands R reading)
        ∙ ap (λ o. unwrap_or o (body_by f other)) along
        ∙ unwrapped (body_by f) (copy_made P (start_of R reading) c) other
    copies_stand other R (begins reading conn token u) along = refl
    copies_stand other R (ends reading conn body) along = refl
    copies_stand other R (loses reading conn) along = refl
    copies_stand other R (passes reading) along = refl
    copies_stand other R (restarts reading) along = refl

    whole_step : (R : Progress C) (s : Step C) → CopiesAlong f P Q R s → step Q (progress_by f R) (step_by f s) ≡ progress_by f (step P R s)
    whole_step R s along =
        let other = P.copy [] 0 0 in
        let b = copied_by P other R s in
        let both : GoAlong f (with_copy b P) (with_copy (body_by f b) Q) = record { size = sizes; copy = λ pieces at len. refl } in
        sym (step_same Q (body_by f other) (progress_by f R) (step_by f s))
        ∙ ap (λ b. step (with_copy b Q) (progress_by f R) (step_by f s)) (copies_stand other R s along)
        ∙ step-by f (with_copy b P) (with_copy (body_by f b) Q) both R s
        ∙ ap (progress_by f) (step_same P other R s)

    pub step_stands : (R : Progress C) (S : Progress D) (s : Step C) → CopiesAlong f P Q R s → StandsFor f R S → StandsFor f (step P R s) (step Q S (step_by f s))
    step_stands R S s along stands =
        let T = progress_by f R in
        let t = step_by f s in
        let start = same_but_told S T stands.state stands.words in
        let whole = whole_step R s along in
        record {
          state = answer_state (answer_to Q S t) (state_after Q S t)
              ∙ ap (λ X. (state_after Q X t).state) start
              ∙ ap (λ X. X.state) (after_told Q S.answers T t)
              ∙ sym (answer_state (answer_to Q T t) (state_after Q T t))
              ∙ ap (λ X. X.state) whole;
          words = answer_words (answer_to Q S t) (state_after Q S t)
              ∙ ap (λ X. (state_after Q X t).words) start
              ∙ ap (λ X. X.words) (after_told Q S.answers T t)
              ∙ sym (answer_words (answer_to Q T t) (state_after Q T t))
              ∙ ap (λ X. X.words) whole;
        }

    bare_along : (R : Progress C) (s : Step C) → CopiesAlong f P Q R s → CopiesAlong f P Q (told [] R) s
    bare_along R (asks reading token c) along = along
    bare_along R other along = tt

    pub answer_stands : (R : Progress C) (S : Progress D) (s : Step C) → CopiesAlong f P Q R s → StandsFor f R S → answer_to Q S (step_by f s) ≡ option_map (answer_by f) (answer_to P R s)
    answer_stands R S s along stands =
        let T = progress_by f R in
        let t = step_by f s in
        let bare = told [] R in
        let answers = sym (step_appends Q (progress_by f bare) t) ∙ ap (λ X. X.answers) (whole_step bare s (bare_along R s along)) ∙ ap (map (answer_by f)) (step_appends P bare s) in
        ap (λ X. answer_to Q X t) (same_but_told S T stands.state stands.words)
        ∙ answer_told Q S.answers T t
        ∙ sym (answer_told Q [] T t)
        ∙ same_items (answer_by f) (answer_to Q (progress_by f bare) t) (answer_to P bare s) answers
        ∙ ap (option_map (answer_by f)) (answer_told P [] R s)

-- ---- many steps

module _ {C D : Type 0} (Q : Pieces D) where
  pub turns_stand : (f : C → D) (R : Progress C) (S : Progress D) (us : List (Turn C D)) → AreTurns Q f R us → StandsFor f R S
      → StandsFor (last_meaning f us) (after_turns R us) (fold (step Q) S (steps_of us))
  turns_stand f R S [] are stands = stands
  turns_stand f R S (u ∷ us) are stands =
      turns_stand u.meaning (step u.pieces R u.step) (step Q S (step_by u.meaning u.step)) us are.3
      (step_stands u.meaning u.pieces Q are.1 R S u.step are.2 (other_stands f u.meaning R S are.0 stands))

  pub turns_answer : (f : C → D) (R : Progress C) (S : Progress D) (us : List (Turn C D)) → AreTurns Q f R us → StandsFor f R S
      → (fold (step Q) S (steps_of us)).answers ≡ S.answers ++ answers_of R us
  turns_answer f R S [] are stands = sym (append-nil S.answers)
  turns_answer f R S (u ∷ us) are stands =
      let m = u.meaning in
      let now = other_stands f m R S are.0 stands in
      let rest = turns_answer m (step u.pieces R u.step) (step Q S (step_by m u.step)) us are.3 (step_stands m u.pieces Q are.1 R S u.step are.2 now) in
      let later = answers_of (step u.pieces R u.step) us in
      rest
      ∙ ap (λ xs. xs ++ later) (step_appends Q S (step_by m u.step))
      ∙ ap (λ o. (S.answers ++ items o) ++ later) (answer_stands m u.pieces Q are.1 R S u.step are.2 now)
      ∙ ap (λ xs. (S.answers ++ xs) ++ later) (mapped_items (answer_by m) (answer_to u.pieces R u.step))
      ∙ append_assoc S.answers (map (answer_by m) (items (answer_to u.pieces R u.step))) later
