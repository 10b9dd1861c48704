-- What is sent where a call, or the step of one, is answered with a content.
use Rattle.std.proofs.Common.{◌≡◌, ℕ, List, ◌++◌, Contains, Option, Some, None, length, take, drop, flat_map, unwrap_or, if◌then◌else◌, refl, sym, ap, subst, ◌∙◌, append-nil, arith}
use Rattle.std.specs.Prelude.{⊤}
use Rattle.std.proofs.lemmas.List.{take_all}
use Rattle.std.proofs.lemmas.List.Elements.{All-weaker, All-contains}
use Rattle.b2_types.specs.declared.fault.Fault.{Fault}
use Rattle.b2_types.specs.declared.answer.AnswerOf.{AnswerOf}
use Rattle.b2_types.specs.declared.answer.AnswerOf.TheVariants as answer
use Rattle.b2_types.specs.declared.answer.ContentOf.{ContentOf}
use Rattle.b2_types.specs.declared.call.Call.{Call}
use Rattle.b2_types.specs.Answer.{IsSendable, IsSpanIn}
use Rattle.b2_model.specs.Checks.{first_fault}
use Rattle.b2_model.specs.State.{State, Pieces, length_of}
use Rattle.b2_model.specs.Plan.{Plan}
use Rattle.b2_model.specs.Policy.{caller_of}
use Rattle.b2_model.specs.Ask.{ask, plan_of, shown_by, refusals_of, is_open, first_rules, outcome_or_refusal}
use Rattle.b2_model.specs.Run.{asks, Progress, moment, start_of, ask_step, answer_to, step}
use Rattle.machine_laws.specs.Ranges.{AsksInOrder}
use Rattle.machine_laws.proofs.Passed.{none_in}
use Rattle.machine_laws.proofs.Sendable.{sendable}
use Rattle.sound_states.proofs.Found.{same_found}
use Rattle.given_once.specs.Tokens.{unless_refused}
use Rattle.step_records.specs.StepRecords.{record_of, pass_records, records_of}
use Rattle.contents_agree.specs.ContentsOf.{contents_of}
use Rattle.download_laws.specs.Sent.{StandsIn, span_sent, LiesIn, HaveSizes, bytes_sent, sending}
use Rattle.download_laws.proofs.Spans.{all_bytes, cut_length}
use Rattle.download_laws.proofs.Plans.{IsSent, OfContent, plan_sends}

abbrev IsContent : {C : Type 0} → AnswerOf C → Type 0
IsContent (answer.Content x) = ⊤
IsContent other = ⊥

module _ {C : Type 0} (P : Pieces C) (M : State C) (t : ℕ) (words : List ℕ) where
  -- the plan sends the content, and comes to just that
  abbrev Comes : Plan C → Option Fault → ContentOf C → Type 0
  Comes p o x = IsSent P M p x × (outcome_or_refusal M t words p o ≡ sending M t words x)

  comes : (p : Plan C) (x : ContentOf C) → IsSent P M p x → p.answer ≡ answer.Content x → outcome_or_refusal M t words p None ≡ sending M t words x
  comes p x sent is = rw (sent.change, sent.grant, sent.words, is) refl

  outcome_sends : (p : Plan C) (o : Option Fault) (x : ContentOf C) → (o ≡ None → OfContent (IsSent P M p) p.answer) → (outcome_or_refusal M t words p o).answer ≡ answer.Content x → Comes p o x
  outcome_sends p None x sends is =
      let sent : IsSent P M p x = subst (OfContent (IsSent P M p)) is (sends refl) in
      (sent, comes p x sent is)
  outcome_sends p (Some fault) x sends is = absurd (subst IsContent (sym is) tt)

  pub asked : (token : Option (List ℕ)) (c : Call) (x : ContentOf C) → (ask P M t words token c).answer ≡ answer.Content x → Comes (plan_of P M t words token c) (first_fault (refusals_of P M t words token c)) x
  asked token c x is =
      let p = plan_of P M t words token c in
      outcome_sends p (first_fault (refusals_of P M t words token c)) x
      (λ none. plan_sends P M t words (shown_by M token c) c (none_in (if is_open M c then p.exists else first_rules M t (caller_of M token) c p.exists) p.own none).1)
      is

  -- ---- what is sent stands

  pub sent_there : (token : Option (List ℕ)) (c : Call) (x : ContentOf C) → (ask P M t words token c).answer ≡ answer.Content x → StandsIn M x
  sent_there token c x is = (asked token c x is).0.stands

  pub sent_outcome : (token : Option (List ℕ)) (c : Call) (x : ContentOf C) → (ask P M t words token c).answer ≡ answer.Content x → ask P M t words token c ≡ sending M t words x
  sent_outcome token c x is = (asked token c x is).1

  pub sent_versions : (token : Option (List ℕ)) (c : Call) (x : ContentOf C) → (ask P M t words token c).answer ≡ answer.Content x → (ask P M t words token c).state.versions ≡ M.versions
  sent_versions token c x is = ap (λ o. o.state.versions) (sent_outcome token c x is)

  pub sent_after : (token : Option (List ℕ)) (c : Call) (x : ContentOf C) → (ask P M t words token c).answer ≡ answer.Content x → StandsIn (ask P M t words token c).state x
  sent_after token c x is = subst (λ o. StandsIn o.state x) (sym (sent_outcome token c x is)) (sent_there token c x is)

  pub sent_change : (token : Option (List ℕ)) (c : Call) (x : ContentOf C) → (ask P M t words token c).answer ≡ answer.Content x → (plan_of P M t words token c).change ≡ None
  sent_change token c x is = (asked token c x is).0.change

  -- ---- how long it is

  pub sent_shown : (token : Option (List ℕ)) (c : Call) (x : ContentOf C) → (ask P M t words token c).answer ≡ answer.Content x → x.file.length ≡ length_of P.size x.content
  sent_shown token c x is = (asked token c x is).0.length

  pub sent_bytes : (token : Option (List ℕ)) (c : Call) (x : ContentOf C) (bytes : C → List ℕ) → (ask P M t words token c).answer ≡ answer.Content x → HaveSizes P.size bytes M → length (flat_map bytes x.content) ≡ x.file.length
  sent_bytes token c x bytes is sizes =
      let each = All-weaker (Contains (contents_of M)) (λ p. length (bytes p) ≡ P.size p) (λ p at. All-contains (λ p. length (bytes p) ≡ P.size p) (contents_of M) p sizes at) x.content (sent_there token c x is) in
      all_bytes P.size bytes x.content each ∙ sym (sent_shown token c x is)

  pub sent_within : (token : Option (List ℕ)) (c : Call) (x : ContentOf C) → (ask P M t words token c).answer ≡ answer.Content x → LiesIn x.file.length (span_sent x)
  sent_within token c x is = (asked token c x is).0.lies

  pub sent_in_order : (token : Option (List ℕ)) (c : Call) (x : ContentOf C) → AsksInOrder c → (ask P M t words token c).answer ≡ answer.Content x → IsSpanIn x.file.length x.range
  sent_in_order token c x order is = subst IsSendable is (sendable P M t words token c order)

  pub sent_cut : (token : Option (List ℕ)) (c : Call) (x : ContentOf C) (bytes : C → List ℕ) → (ask P M t words token c).answer ≡ answer.Content x → HaveSizes P.size bytes M → length (bytes_sent bytes x) ≡ (span_sent x).len
  sent_cut token c x bytes is sizes =
      cut_length (span_sent x) (flat_map bytes x.content) (subst (λ n. LiesIn n (span_sent x)) (sym (sent_bytes token c x bytes is sizes)) (sent_within token c x is))

  pub sent_whole : (token : Option (List ℕ)) (c : Call) (x : ContentOf C) (bytes : C → List ℕ) → (ask P M t words token c).answer ≡ answer.Content x → HaveSizes P.size bytes M → x.range ≡ None → bytes_sent bytes x ≡ flat_map bytes x.content
  sent_whole token c x bytes is sizes all =
      ap (λ o. let s = unwrap_or o (record { at = 0; len = x.file.length }) in take s.len (drop s.at (flat_map bytes x.content))) all
      ∙ take_all x.file.length (flat_map bytes x.content) (omega (arith, sent_bytes token c x bytes is sizes))

-- ---- steps

nothing : {X : Type 0} (o : Option Fault) → unless_refused {X = X} o None ≡ None
nothing None = refl
nothing (Some fault) = refl

module _ {C : Type 0} (K : Pieces C) (P : Progress C) (reading : ℕ) (token : Option (List ℕ)) (c : Call) (x : ContentOf C) where
  told : answer_to K P (asks reading token c) ≡ Some (answer.Content x) → (ask_step K P reading token c).answer ≡ answer.Content x
  told is = same_found (ask_step K P reading token c).answer (answer.Content x) is

  pub step_begun : answer_to K P (asks reading token c) ≡ Some (answer.Content x) → StandsIn (start_of P reading) x
  step_begun is = sent_there K (start_of P reading) (moment P.state reading) P.words token c x (told is)

  pub step_stands : answer_to K P (asks reading token c) ≡ Some (answer.Content x) → StandsIn (step K P (asks reading token c)).state x
  step_stands is = sent_after K (start_of P reading) (moment P.state reading) P.words token c x (told is)

  pub step_versions : answer_to K P (asks reading token c) ≡ Some (answer.Content x) → (step K P (asks reading token c)).state.versions ≡ (start_of P reading).versions
  step_versions is = sent_versions K (start_of P reading) (moment P.state reading) P.words token c x (told is)

  pub step_records : answer_to K P (asks reading token c) ≡ Some (answer.Content x) → records_of K P (asks reading token c) ≡ pass_records P reading
  step_records is =
      let M = start_of P reading in
      let t = moment P.state reading in
      ap (λ ch. pass_records P reading ++ record_of t ch)
      (ap (unless_refused (first_fault (refusals_of K M t P.words token c))) (sent_change K M t P.words token c x (told is)) ∙ nothing (first_fault (refusals_of K M t P.words token c)))
      ∙ append-nil (pass_records P reading)
