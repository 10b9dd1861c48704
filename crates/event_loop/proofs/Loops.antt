-- Events one after the other.
use Rattle.std.proofs.Common.{◌≡◌, ◌<◌, ℕ, ◌+◌, List, [], ◌∷◌, ◌++◌, length, map, drop, Option, Some, None, unwrap_or, refl, sym, ap, ◌∙◌, subst, append_assoc, append-nil, arith}
use Rattle.std.proofs.lemmas.List.{length-append, length-map, map-append}
use Rattle.outside_traits.specs.declared.link.Event.{Event}
use Rattle.outside_traits.specs.declared.link.SentPiece.{SentPiece}
use Rattle.outside_traits.specs.Links.{first_event}
use Rattle.outside_traits.specs.Given.{first_or}
use Rattle.b2_model.specs.State.{State}
use Rattle.conn_table.specs.declared.table.Conns.{Conns}
use Rattle.conn_table.specs.Table.{conn_at, count_of, IsIn}
use Rattle.conn_table.specs.declared.conn.Conn.{Conn as Kept}
use Rattle.served_world.specs.Replies.{Reads}
use Rattle.served_world.specs.World.{Turn, World, start, Happens}
use Rattle.request_acts.specs.Answering.{At, none_under_way, none_read}
use Rattle.event_loop.specs.Serving.{IsWorld, all_taken, Serves}
use Rattle.event_loop.specs.Turns.{RunsWhole, HasRun}

-- so many turns were served, and these events and readings are left
pub record HasServed (R : Reads) (first : World) (events left : List Event) (readings later : List ℕ) (count : ℕ) (now : At) (t : Conns (List ℕ)) (sent : List SentPiece) : Type 0 where
  pub turns : List Turn
  pub world : World
  pub ran : RunsWhole R first turns world
  pub events_are : map (λ (x : Turn). x.event) turns ++ left ≡ events
  pub readings_are : map (λ (x : Turn). x.reading) turns ++ later ≡ readings
  pub so_many : length turns ≡ count
  pub at : IsWorld R now t world
  pub sends : sent ≡ world.sends

run_more : (R : Reads) (w : World) (turns : List Turn) (t : Turn) (m v : World) → RunsWhole R w turns m → t.took ≡ all_taken m t.event → Happens R t.reading t.took m t.event v → RunsWhole R w (turns ++ t ∷ []) v
run_more R w [] t m v is took does = subst (λ x. RunsWhole R x (t ∷ []) v) is (v, took, does, refl)
run_more R w (s ∷ turns) t m v (x, first, happened, rest) took does = (x, first, happened, run_more R x turns t m v rest took does)

-- the next of what is left, where not all was taken
next_event : (front left rest events : List Event) (e : Event) → front ++ left ≡ events → length front < length events → e ≡ first_event left → rest ≡ drop 1 left → left ≡ e ∷ rest
next_event front [] rest events e all some is_first is_rest =
    let size = ap length (sym (append-nil front) ∙ all) in absurd (omega (arith, size, some))
next_event front (x ∷ left) rest events e all some is_first is_rest = ap (λ y. y ∷ left) (sym is_first) ∙ ap (λ l. e ∷ l) (sym is_rest)

next_reading : (front left rest readings : List ℕ) (last r : ℕ) → front ++ left ≡ readings → length front < length readings → r ≡ first_or last left → rest ≡ drop 1 left → left ≡ r ∷ rest
next_reading front [] rest readings last r all some is_first is_rest =
    let size = ap length (sym (append-nil front) ∙ all) in absurd (omega (arith, size, some))
next_reading front (x ∷ left) rest readings last r all some is_first is_rest = ap (λ y. y ∷ left) (sym is_first) ∙ ap (λ l. r ∷ l) (sym is_rest)

one_more : {X : Type 0} (front left rest all : List X) (x : X) → front ++ left ≡ all → left ≡ x ∷ rest → (front ++ x ∷ []) ++ rest ≡ all
one_more front left rest all x is next = append_assoc front (x ∷ []) rest ∙ ap (λ l. front ++ l) (sym next) ∙ is

pub served_more : (R : Reads) (first : World) (events left rest : List Event) (readings later after : List ℕ) (i last reading : ℕ) (e : Event) (was now : At) (t u : Conns (List ℕ)) (before sent : List SentPiece)
    → i < length events → i < length readings → e ≡ first_event left → rest ≡ drop 1 left → reading ≡ first_or last later → after ≡ drop 1 later → Serves R reading e was t before now u sent
    → HasServed R first events left readings later i was t before → HasServed R first events rest readings after (i + 1) now u sent
served_more R first events left rest readings later after i last reading e was now t u before sent some_events some_readings is_event is_rest is_reading is_after serves h =
    let (v, does, at, sends) = serves h.world h.at h.sends in
    let turn : Turn = record { event = e; reading = reading; took = all_taken h.world e } in
    let counted = h.so_many in
    let event_count = length-map h.turns (λ (x : Turn). x.event) in
    let reading_count = length-map h.turns (λ (x : Turn). x.reading) in
    let next_e = next_event (map (λ (x : Turn). x.event) h.turns) left rest events e h.events_are (omega (arith, counted, event_count, some_events)) is_event is_rest in
    let next_r = next_reading (map (λ (x : Turn). x.reading) h.turns) later after readings last reading h.readings_are (omega (arith, counted, reading_count, some_readings)) is_reading is_after in
    let size = length-append h.turns (turn ∷ []) in
    record {
      turns = h.turns ++ turn ∷ [];
      world = v;
      ran = run_more R first h.turns turn h.world v h.ran refl does;
      events_are = ap (λ l. l ++ rest) (map-append (λ (x : Turn). x.event) h.turns (turn ∷ [])) ∙ one_more (map (λ (x : Turn). x.event) h.turns) left rest events e h.events_are next_e;
      readings_are = ap (λ l. l ++ after) (map-append (λ (x : Turn). x.reading) h.turns (turn ∷ [])) ∙ one_more (map (λ (x : Turn). x.reading) h.turns) later after readings reading h.readings_are next_r;
      so_many = omega (arith, size, counted);
      at = at;
      sends = sends;
    }

-- nothing was served yet
pub served_none : (R : Reads) (M : State (List ℕ)) (words : List ℕ) (events : List Event) (readings : List ℕ) (now : At) (t : Conns (List ℕ)) (sent : List SentPiece) → now M words none_under_way none_read → ((c : ℕ) → conn_at t c ≡ None) → count_of t ≡ 0 → sent ≡ []
    → HasServed R (start M words) events events readings readings 0 now t sent
served_none R M words events readings now t sent at closed none unsent = record {
  turns = [];
  world = start M words;
  ran = refl;
  events_are = refl;
  readings_are = refl;
  so_many = refl;
  at = record { uploads = none_under_way; contents = none_read; machine = at; table = record { each = λ c. (subst (λ (j : Option (Kept (List ℕ))). IsIn None j) (sym (closed c)) (record {}), refl, refl); count = none } };
  sends = unsent;
}

no_more : {X : Type 0} (front left all : List X) → front ++ left ≡ all → length front ≡ length all → front ≡ all
no_more front [] all is same = sym (append-nil front) ∙ is
no_more front (x ∷ left) all is same =
    let size = ap length is in
    let both = length-append front (x ∷ left) in absurd (omega (arith, size, both, same))

-- all were served
pub all_served : (R : Reads) (first : World) (events left : List Event) (readings later : List ℕ) (n : ℕ) (now : At) (t : Conns (List ℕ)) (sent : List SentPiece) → n ≡ length events → n ≡ length readings → HasServed R first events left readings later n now t sent → HasRun R first events readings sent
all_served R first events left readings later n now t sent is_events is_readings h =
    let counted = h.so_many in
    let event_count = length-map h.turns (λ (x : Turn). x.event) in
    let reading_count = length-map h.turns (λ (x : Turn). x.reading) in (
      h.turns,
      h.world,
      h.ran,
      record {
        events_are = no_more (map (λ (x : Turn). x.event) h.turns) left events h.events_are (event_count ∙ counted ∙ is_events);
        readings_are = no_more (map (λ (x : Turn). x.reading) h.turns) later readings h.readings_are (reading_count ∙ counted ∙ is_readings);
      },
      h.sends,
    )

some_sent : (a b : List SentPiece) → Some b ≡ Some a → b ≡ a
some_sent a b same = ap (λ o. unwrap_or o b) same

-- the link has what it had
pub same_sent : {R : Reads} {first : World} {events left : List Event} {readings later : List ℕ} {i : ℕ} {now : At} {t : Conns (List ℕ)} {before after : List SentPiece} → HasServed R first events left readings later i now t before → Some after ≡ Some before
    → HasServed R first events left readings later i now t after
same_sent {R = R} {first = first} {events = events} {left = left} {readings = readings} {later = later} {i = i} {now = now} {t = t} {before = before} {after = after} h same =
    subst (HasServed R first events left readings later i now t) (sym (some_sent before after same)) h
