-- What a run of the program comes to.
use Rattle.std.proofs.Common.{◌≡◌, ℕ, List, [], ◌∷◌, refl, sym, ap, ◌∙◌, subst, Bool, IsTrue, ◌↔◌, ◌≤◌, ◌<◌, length, get_or, arith}
use Rattle.std.specs.Str.{bytes_eq}
use Rattle.std.proofs.lemmas.Slice.Eq.{bytes_eq-Decides}
use Rattle.outside_traits.specs.declared.link.Event.{Event}
use Rattle.outside_traits.specs.declared.link.SentPiece.{SentPiece}
use Rattle.event_script.specs.Script.{script_words, script_events, script_readings}
use Rattle.event_script.specs.declared.script.Script.{Script}
use Rattle.b2_model.specs.State.{State}
use Rattle.served_world.specs.World.{start}
use Rattle.request_acts.specs.Answering.{none_under_way, none_read}
use Rattle.event_loop.specs.Turns.{HasRun}
use Rattle.b2_server.specs.Store.{fixed_store, opened_store, IsAt, IsQuiet}
use Rattle.b2_server.specs.Answer.{reads}
use Rattle.b2_server.specs.declared.store.FirstStore.{FirstStore}
use Rattle.b2_server.specs.Run.{Sends}

-- a run from the store that was opened is what its script sends
pub run_sends : (script : Script) (store : FirstStore) (words readings : List ℕ) (events : List Event) (sent : List SentPiece) → words ≡ script_words script → events ≡ script_events script → readings ≡ script_readings script
    → IsAt store (opened_store fixed_store) words → ((M : State (List ℕ)) (ws : List ℕ) → IsQuiet store M ws none_under_way none_read → HasRun reads (start M ws) events readings sent)
    → Sends (script_words script) (script_events script) (script_readings script) sent
unfolding Sends
run_sends script store words readings events sent is_words are_events are_readings at runs =
    let M = opened_store fixed_store in
    let by_words : List ℕ → Type 0 = λ ws. HasRun reads (start M ws) events readings sent in
    let by_events : List Event → Type 0 = λ es. HasRun reads (start M (script_words script)) es readings sent in
    let by_readings : List ℕ → Type 0 = λ rs. HasRun reads (start M (script_words script)) (script_events script) rs sent in
    subst by_readings are_readings (subst by_events are_events (subst by_words is_words (runs M words (record { at = at; none = λ c. refl; unread = λ c. refl }))))

pub one_word : (words : List (List ℕ)) (word : List ℕ) → 1 ≤ length words → length words < 2 → word ≡ get_or words 0 word → words ≡ word ∷ []
one_word [] word some few is = absurd (omega arith)
one_word (first ∷ []) word some few is = ap (λ w. w ∷ []) (sym is)
one_word (first ∷ second ∷ words) word some few is = absurd (omega (arith, few))

first_word : (a b : List ℕ) → a ∷ [] ≡ b ∷ [] → a ≡ b
first_word a b same = ap (λ ws. get_or ws 0 a) same

pub only_word : (words : List (List ℕ)) (word name : List ℕ) (r : Bool) → 1 ≤ length words → length words < 2 → word ≡ get_or words 0 word → r ≡ bytes_eq word name
    → IsTrue r ↔ (words ≡ name ∷ [])
only_word words word name r some few is tested = (
  λ yes. one_word words word some few is ∙ ap (λ w. w ∷ []) ((bytes_eq-Decides word name).0 (sym tested ∙ yes)),
  λ same. tested ∙ (bytes_eq-Decides word name).1 (first_word word name (sym (one_word words word some few is) ∙ same)),
)
