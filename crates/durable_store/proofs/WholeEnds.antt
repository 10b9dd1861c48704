-- An upload ends whose body came whole, and nothing is done where it didn't.
use Rattle.std.proofs.Common.{◌≡◌, ◌==◌, ◌≤◌, ℕ, nat_eq, true, false, List, [], ◌∷◌, Option, Some, None, length, refl, sym, ap, subst, ◌∙◌, arith}
use Rattle.std.specs.Prelude.{All}
use Rattle.std.specs.Map.{update}
use Rattle.std.proofs.lemmas.Bool.{eqb-true, eq-eqb, false≢true}
use Rattle.b2_base.specs.declared.extent.Extent.{Extent}
use Rattle.b2_types.specs.declared.answer.AnswerOf.{AnswerOf}
use Rattle.b2_types.specs.declared.key.Flight.{Flight}
use Rattle.b2_types.specs.declared.upload.DigestRule.{DigestRule}
use Rattle.b2_types.specs.declared.upload.DigestRule.TheVariants as rule
use Rattle.disk_model.specs.State.{DiskState}
use Rattle.b2_model.specs.Ask.{Outcome}
use Rattle.b2_model.specs.Body.{Body, body_of, digest_rule}
use Rattle.b2_model.specs.Contents.{state_by}
use Rattle.b2_model.specs.State.{State}
use Rattle.b2_model.specs.UploadSteps.{end, flight_of}
use Rattle.b2_model.specs.Run.{Progress, ends, moment, of_bytes, step, with_daily_pass}
use Rattle.flight_laws.proofs.Finds.{found_conn}
use Rattle.flight_laws.proofs.Laws.{day_keeps, end_here, end_keeps}
use Rattle.contents_agree.specs.ContentsOf.{contents_of}
use Rattle.contents_agree.proofs.Agree.{same_state}
use Rattle.stored_contents.specs.declared.contents.Contents.{Contents}
use Rattle.stored_contents.specs.declared.uploads.Whole.{Whole}
use Rattle.stored_contents.specs.Held.{Coming, Holding, IsHeld, came_length}
use Rattle.stored_contents.specs.Sealed.{HasSealed, IsSealed}
use Rattle.new_versions.specs.Decided.{extent_len}
use Rattle.core_decisions.specs.Decided.{answering}
use Rattle.durable_store.specs.Ends.{Ends, EndsWhole, IsDecided, IsEnded, is_whole, told_under}
use Rattle.durable_store.specs.Lengths.{body_length, content_length, content_under}
use Rattle.durable_store.specs.Steps.{HasMade, start_at}
use Rattle.durable_store.specs.Owned.{owning}
use Rattle.durable_store.specs.Store.{Came, IsConn, IsStore, IsUnderWay, Read}
use Rattle.durable_store.specs.declared.store.Store.{Store}
use Rattle.durable_store.proofs.Lifts.{ended}
use Rattle.durable_store.proofs.UnderWay.{upload_set}
use Rattle.durable_store.proofs.WholeBodies.{whole_body}

-- ---- how much came

-- so many bytes came of it as its body has
pub counted : (f : Flight) (a : Option Coming) (came : Option (List ℕ)) (n : ℕ) → IsUnderWay (Some f) a came → n ≡ came_length a → (n == body_length f.upload) ≡ is_whole (Some f) came
counted f a came n (b, is, len, came_is) n_is = ap (λ k. k == body_length f.upload) (n_is ∙ ap came_length is) ∙ sym (ap (is_whole (Some f)) came_is)

-- a content is no longer than the body
no_longer : (r : DigestRule) (n : ℕ) → content_under r n ≤ n
no_longer rule.AtEnd n = omega arith
no_longer (rule.Given digest) n = omega arith
no_longer rule.NotVerified n = omega arith

-- the whole body of an upload came, and with it its content
pub record CameWhole (g : Option Flight) (a : Option Coming) (came : Option (List ℕ)) : Type 0 where
  pub flight : Flight
  pub bytes : Coming
  pub there : g ≡ Some flight
  pub coming : a ≡ Some bytes
  pub len : bytes.len ≡ content_length flight.upload
  pub came_is : came ≡ Some bytes.bytes
  pub all : length bytes.bytes ≡ body_length flight.upload

pub came_whole : (g : Option Flight) (a : Option Coming) (came : Option (List ℕ)) → IsUnderWay g a came → is_whole g came ≡ true → CameWhole g a came
came_whole None a came under whole = absurd (false≢true whole)
came_whole (Some f) a came (b, is, len, came_is) whole = record {
  flight = f;
  bytes = b;
  there = refl;
  coming = is;
  len = len;
  came_is = came_is;
  all = eqb-true (length b.bytes) (body_length f.upload) (sym (ap (is_whole (Some f)) came_is) ∙ whole);
}

-- then it can be sealed
sealed_whole : (t : Contents) (d : DiskState) (h : Holding) (n : ℕ) (g : Option Flight) (a : Option Coming) (came : Option (List ℕ)) (w : CameWhole g a came) → IsSealed t d h n (Some w.bytes) None → ⊥
sealed_whole t d h n g a came w sealed = omega (arith, sealed.0, w.len, w.all, no_longer (digest_rule w.flight.upload) (body_length w.flight.upload))

module _ (s : Store) (d : DiskState) (P : Progress (List ℕ)) (reading c : ℕ) (came : Came) (read : Read) (is : IsStore s d P.state came read) where
  -- nothing is done
  idle_by : (g : Option Flight) (a : Option Coming) (b : Option (List ℕ)) → IsUnderWay g a b → is_whole g b ≡ false → Ends s d P reading c came read None g b
  idle_by None a b under none = (refl, is)
  idle_by (Some f) a None (x, at, len, came_is) none = absurd (cc came_is)
  idle_by (Some f) a (Some bytes) under none = subst (EndsWhole s d P reading c f.upload bytes came read None) (sym none) (refl, is)

  abbrev h : Holding
  h = is.holding

  flights : flight_of P.state c ≡ flight_of s.core c
  flights = ap (λ (M : State (List ℕ)). flight_of M c) is.state

  under : IsConn c → IsUnderWay (flight_of P.state c) (h.came c) (came c)
  under conn = subst (λ g. IsUnderWay g (h.came c) (came c)) (sym flights) (is.uploads c conn)

  pub idle : IsConn c → is_whole (flight_of P.state c) (came c) ≡ false → Ends s d P reading c came read None (flight_of P.state c) (came c)
  idle conn none = idle_by (flight_of P.state c) (h.came c) (came c) (under conn) none

  pub whole_on : IsConn c → is_whole (flight_of P.state c) (came c) ≡ true → CameWhole (flight_of s.core c) (h.came c) (came c)
  whole_on conn whole = came_whole (flight_of s.core c) (h.came c) (came c) (is.uploads c conn) (ap (λ g. is_whole g (came c)) (sym flights) ∙ whole)

  -- ---- the end

  module _ (x : CameWhole (flight_of s.core c) (h.came c) (came c)) (w : Whole) (k : Holding) (n : ℕ) (same : n ≡ c) (sealed : HasSealed h n x.bytes w k) where
    abbrev f : Flight
    f = x.flight

    abbrev bytes : List ℕ
    bytes = x.bytes.bytes

    -- the same state, where the extents stand for what they stand for now
    state_now : P.state ≡ state_by k.meaning s.core
    state_now = is.state ∙ same_state h.meaning k.meaning s.core (subst (All (λ e. h.meaning e ≡ k.meaning e)) is.kept.owned sealed.stored.agrees)

    body_is : (told : Option (List ℕ)) → told ≡ told_under (digest_rule f.upload) w.rest.items → record { content = k.meaning w.extent; digest = w.digest; told = told } ≡ body_of f.upload bytes
    body_is told told_is =
        whole_body (digest_rule f.upload) (k.meaning w.extent) w.digest w.rest.items bytes told (body_length f.upload) x.bytes.len sealed.stored.content_is sealed.stored.digest sealed.rest told_is x.all x.len

    module _ (sizes : (e : Extent) → length (k.meaning e) ≡ e.len) (told : Option (List ℕ)) (told_is : told ≡ told_under (digest_rule f.upload) w.rest.items) (t : ℕ) (t_is : t ≡ moment s.core reading) where
      abbrev body : Body Extent
      body = record { content = w.extent; digest = w.digest; told = told }

      module _ (u : Store) (answer : AnswerOf Extent) (decided : IsDecided (with_daily_pass s.core t) t f body u.core answer) where
        on_start : end extent_len (start_at s.core reading) (moment s.core reading) f body P.words ≡ answering u.core answer P.words
        on_start = subst (λ (m : ℕ). IsDecided (with_daily_pass s.core m) m f body u.core answer) t_is decided P.words

        made : HasMade P (ends reading c (body_of f.upload bytes)) k.meaning u.core (Some answer)
        made = subst (λ b. HasMade P (ends reading c b) k.meaning u.core (Some answer)) (body_is told told_is)
            (ended k.meaning sizes s.core P state_now reading c f body u.core answer x.there on_start)

        state_is : u.core ≡ (end extent_len (with_daily_pass s.core t) t f body []).state
        state_is = ap (λ (o : Outcome Extent). o.state) (sym (decided []))

        conn_is : f.conn ≡ c
        conn_is = found_conn c s.core.flights f x.there

        over : flight_of u.core c ≡ None
        over = ap (λ N. flight_of N c) state_is ∙ end_here extent_len (with_daily_pass s.core t) t c f body [] conn_is

        elsewhere : (e : ℕ) → (c ≡ e → ⊥) → flight_of u.core e ≡ flight_of s.core e
        elsewhere e apart = ap (λ N. flight_of N e) state_is ∙ end_keeps extent_len (with_daily_pass s.core t) t c f body [] conn_is e apart ∙ day_keeps s.core t e

        pub ended_whole : (after : DiskState) → IsHeld u.contents after (owning u.core k) → Ends u after P reading c came read (Some answer) (flight_of P.state c) (came c)
        ended_whole after held =
            let now = upload_set s u d after P.state (step of_bytes P (ends reading c (body_of f.upload bytes))).state came read c None None (owning u.core k) is
            (record { held = held; owned = refl }) made.state (λ e. ap (λ (r : Read). r e) sealed.read)
            (record {
              came = λ e. ap (λ (r : ℕ → Option Coming). r e) sealed.came ∙ ap (λ (m : ℕ). update nat_eq h.came m None e) same;
              others = elsewhere;
              here = subst (λ g. IsUnderWay g None None) (sym over) refl;
            }) in
            let one : IsEnded u after P reading c f.upload bytes came read (Some answer) = record { told = answer; meaning = k.meaning; told_is = refl; answers = made.answers; after = now } in
            let tested : (length bytes == body_length f.upload) ≡ true = eq-eqb (length bytes) (body_length f.upload) x.all in
            subst (λ g. Ends u after P reading c came read (Some answer) g (came c)) (sym (flights ∙ x.there))
            (subst (λ b. Ends u after P reading c came read (Some answer) (Some f) b) (sym x.came_is)
            (subst (EndsWhole u after P reading c f.upload bytes came read (Some answer)) (sym tested) one))

  -- ---- from the calls

  module _ (conn : IsConn c) (whole : is_whole (flight_of P.state c) (came c) ≡ true) (v : Contents) (after : DiskState) (n : ℕ) (same : n ≡ c) (o : Option Whole) (seal : IsSealed v after h n (h.came n) o) where
    abbrev x : CameWhole (flight_of s.core c) (h.came c) (came c)
    x = whole_on conn whole

    seal_here : (r : Option Whole) → o ≡ r → IsSealed v after h n (Some x.bytes) r
    seal_here r o_is = subst (IsSealed v after h n (Some x.bytes)) o_is (subst (λ a. IsSealed v after h n a o) (ap h.came same ∙ x.coming) seal)

    pub unsealed : o ≡ None → ⊥
    unsealed none = sealed_whole v after h n (flight_of s.core c) (h.came c) (came c) x (seal_here None none)

    pub answered : (w : Whole) → o ≡ Some w → (told : Option (List ℕ)) → ((f : Flight) → flight_of s.core c ≡ Some f → told ≡ told_under (digest_rule f.upload) w.rest.items) → (t : ℕ) → t ≡ moment s.core reading
        → (u : Store) (answer : AnswerOf Extent) → ((f : Flight) → flight_of s.core c ≡ Some f → IsDecided (with_daily_pass s.core t) t f (record { content = w.extent; digest = w.digest; told = told }) u.core answer)
        → ((k : Holding) → k.owned ≡ w.extent ∷ contents_of s.core → IsHeld v after k → IsHeld u.contents after (owning u.core k)) → Ends u after P reading c came read (Some answer) (flight_of P.state c) (came c)
    answered w some told told_is t t_is u answer decided kept =
        let sealed = seal_here (Some w) some in
        let k = sealed.0 in
        ended_whole x w k n same sealed.1 sealed.2.sizes told (told_is x.flight x.there) t t_is u answer (decided x.flight x.there) after
        (kept k (sealed.1.stored.owned ∙ ap (λ xs. w.extent ∷ xs) is.kept.owned) sealed.2)
