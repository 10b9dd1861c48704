-- Where stop stands.
use Rattle.std.proofs.Common.{◌≡◌, List, [], ◌∷◌, ◌++◌, length, Bool, true, false, ◌||◌, refl, sym, ap, ◌∙◌, arith, length-append, ◌⊎◌, inl, inr}
use Rattle.std.proofs.lemmas.Bool.{false≢true}
use Rattle.event_script.specs.Line.{Line, reading, random, opening, piece, written, ready, gone, stop, says}
use Rattle.event_script.specs.Script.{StopsOnce}
use Rattle.event_script.specs.Reading.{is_stop, is_ended}

only_stop_stops : (line : Line) → is_stop (says line) ≡ true → line ≡ stop
only_stop_stops (reading n) is = absurd (false≢true is)
only_stop_stops (random n) is = absurd (false≢true is)
only_stop_stops (opening n) is = absurd (false≢true is)
only_stop_stops (piece n xs) is = absurd (false≢true is)
only_stop_stops (written n xs) is = absurd (false≢true is)
only_stop_stops (ready n) is = absurd (false≢true is)
only_stop_stops (gone n) is = absurd (false≢true is)
only_stop_stops stop is = refl

either : (b : Bool) → (b ≡ true) ⊎ (b ≡ false)
either true = inl refl
either false = inr refl

or_false : (a : Bool) → (a || false) ≡ a
or_false true = refl
or_false false = refl

or_true : (a : Bool) → (a || true) ≡ true
or_true true = refl
or_true false = refl

or_assoc : (a b c : Bool) → (a || (b || c)) ≡ ((a || b) || c)
or_assoc true b c = refl
or_assoc false b c = refl

-- neither holds
or_none : (a b : Bool) → (a || b) ≡ false → (a ≡ false) × (b ≡ false)
or_none true b e = absurd (false≢true (sym e))
or_none false b e = (refl, e)

pub ended_push : (lines : List Line) (line : Line) → is_ended (lines ++ line ∷ []) ≡ (is_ended lines || is_stop (says line))
ended_push [] line = or_false (is_stop (says line))
ended_push (first ∷ lines) line = ap (λ b. is_stop (says first) || b) (ended_push lines line) ∙ or_assoc (is_stop (says first)) (is_ended lines) (is_stop (says line))

pub stop_ends : (lines : List Line) → is_ended (lines ++ stop ∷ []) ≡ true
stop_ends lines = ended_push lines stop ∙ or_true (is_ended lines)

front_nil : (lines more : List Line) → lines ++ more ≡ [] → lines ≡ []
front_nil [] more none = refl
front_nil (line ∷ lines) more none = absurd (omega (arith, ap length none))

not_nil : (lines : List Line) (line : Line) → lines ++ line ∷ [] ≡ [] → ⊥
not_nil lines line none = absurd (omega (arith, ap length none, length-append lines (line ∷ [])))

pub order_push : (lines : List Line) (line : Line) → StopsOnce lines → is_ended lines ≡ false → StopsOnce (lines ++ line ∷ [])
order_push [] line order e = (λ is. refl, tt)
order_push (first ∷ lines) line order e =
    let none = or_none (is_stop (says first)) (is_ended lines) e in
    (λ is. absurd (false≢true (sym none.0 ∙ ap (λ l. is_stop (says l)) is)), order_push lines line order.1 none.1)

pub order_front : (lines more : List Line) → StopsOnce (lines ++ more) → StopsOnce lines
order_front [] more order = tt
order_front (first ∷ lines) more order = (λ is. front_nil lines more (order.0 is), order_front lines more order.1)

-- behind stop no line stands
pub nothing_behind : (lines : List Line) (line : Line) → is_ended lines ≡ true → StopsOnce (lines ++ line ∷ []) → ⊥
nothing_behind [] line e order = false≢true e
nothing_behind (first ∷ lines) line e order = elim (either (is_stop (says first))) [
  | inl is ↦ not_nil lines line (order.0 (only_stop_stops first is))
  | inr not_stop ↦ nothing_behind lines line (ap (λ b. b || is_ended lines) (sym not_stop) ∙ e) order.1
]

pub ends_with_stop : (lines : List Line) → StopsOnce lines → is_ended lines ≡ true → (before : List Line) × (lines ≡ before ++ stop ∷ [])
ends_with_stop [] order e = absurd (false≢true e)
ends_with_stop (first ∷ lines) order e = elim (either (is_stop (says first))) [
  | inl is ↦
      let same = only_stop_stops first is in
      ([], ap (λ l. l ∷ lines) same ∙ ap (λ ls. stop ∷ ls) (order.0 same))
  | inr not_stop ↦
      let rest = ends_with_stop lines order.1 (ap (λ b. b || is_ended lines) (sym not_stop) ∙ e) in
      (first ∷ rest.0, ap (λ ls. first ∷ ls) rest.1)
]
