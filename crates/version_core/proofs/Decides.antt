-- From the calls to the one contract of all.
use Rattle.std.proofs.Common.{◌≡◌, true, ℕ, List, Option, refl, sym, ap, subst, ◌∙◌}
use Rattle.b2_base.specs.declared.extent.Extent.{Extent}
use Rattle.b2_types.specs.declared.answer.AnswerOf.{AnswerOf}
use Rattle.b2_types.specs.declared.call.Call.{Call}
use Rattle.b2_types.specs.declared.record.ChangeOf.{ChangeOf}
use Rattle.b2_types.specs.declared.record.ChangeOf.TheVariants as change
use Rattle.b2_types.specs.declared.record.RecordOf.{RecordOf}
use Rattle.b2_model.specs.State.{State}
use Rattle.b2_model.specs.Changes.{after_record}
use Rattle.b2_model.specs.Ask.{Outcome, at_moment}
use Rattle.b2_model.specs.Stored.{applies_change}
use Rattle.sound_states.specs.Sound.{IsSound, IsFitChange}
use Rattle.sound_steps.specs.FitSteps.{IsFitCall}
use Rattle.given_up.specs.AsksForToken.{AsksForToken}
use Rattle.given_up.proofs.Kept.{token_given}
use Rattle.core_decisions.specs.declared.decision.Decision.{Decision}
use Rattle.core_decisions.specs.declared.decision.Decision.TheVariants as decision
use Rattle.core_decisions.specs.Decided.{ComesTo, IsAnswer, IsDecision, IsDrawn, answering, at_extents, outcome}
use Rattle.core_decisions.proofs.Asked.{no_copy}
use Rattle.core_decisions.proofs.Drawn.{undrawn}
use Rattle.version_core.specs.Decided.{IsDecided, IsUntouched, decided}

-- the versions are as they were
versions_kept : (M : State Extent) (t : ℕ) (token : Option (List ℕ)) (c : Call) (ahead left : Option (List ℕ)) (N : State Extent) (told : AnswerOf Extent) → AsksForToken c → IsAnswer M t token c ahead left N told → N.versions ≡ M.versions
unfolding ComesTo
versions_kept M t token c ahead left N told asks (words, rest, drawn, is) =
    sym (ap (λ (o : Outcome Extent). o.state.versions) (is no_copy)) ∙ token_given (at_extents no_copy) M t words token c asks

-- a token was given, or none, and this is answered
pub answered_is : (M : State Extent) (t : ℕ) (token : Option (List ℕ)) (c : Call) (ahead left : Option (List ℕ)) (N : State Extent) (told : AnswerOf Extent) → AsksForToken c → IsAnswer M t token c ahead left N told → IsDecided M t token c ahead left N (decision.Reply told)
answered_is M t token c ahead left N told asks is = record { writable = tt; untouched = versions_kept M t token c ahead left N told asks is; comes = is }

decided_by : (M : State Extent) (t : ℕ) (N : State Extent) (d : Decision) → N ≡ at_moment M t → (λ rest. outcome M t rest d) ≡ decided N d
decided_by M t N (decision.Reply told) is = ap (λ K. decided K (decision.Reply told)) (sym is)
decided_by M t N (decision.Write r told) is = ap (λ K. decided K (decision.Write r told)) (sym is)

untouched_by : (M : State Extent) (t : ℕ) (N : State Extent) (d : Decision) → N ≡ at_moment M t → IsUntouched M t N d
untouched_by M t N (decision.Reply told) is = ap (λ (K : State Extent). K.versions) is
untouched_by M t N (decision.Write r told) is = is

-- words were drawn, and the moment alone has moved
pub drawn_is : (M : State Extent) (t : ℕ) (token : Option (List ℕ)) (c : Call) (ahead left : Option (List ℕ)) (N : State Extent) (d : Decision) → N ≡ at_moment M t → IsDrawn M t token c ahead left d → IsDecided M t token c ahead left N d
drawn_is M t token c ahead left N d is (writable, comes) =
    record { writable = writable; untouched = untouched_by M t N d is; comes = subst (ComesTo M t token c ahead left) (decided_by M t N d is) comes }

-- no word was drawn
pub quiet_is : (M : State Extent) (t : ℕ) (token : Option (List ℕ)) (c : Call) (ahead : Option (List ℕ)) (N : State Extent) (d : Decision) → N ≡ at_moment M t → IsDecision M t token c d → IsDecided M t token c ahead ahead N d
quiet_is M t token c ahead N d is decides = drawn_is M t token c ahead ahead N d is (undrawn M t token c ahead ahead d refl decides)

-- whether a change applies does not hang on the moment
moment_apart : (M : State Extent) (t : ℕ) (ch : ChangeOf Extent) → applies_change (at_moment M t) ch ≡ applies_change M ch
moment_apart M t (change.Settings s) = refl
moment_apart M t other = refl

-- what is written applies
pub written_applies : (M : State Extent) (t : ℕ) (token : Option (List ℕ)) (c : Call) (ahead left : Option (List ℕ)) (N : State Extent) (r : RecordOf Extent) (told : AnswerOf Extent) → IsSound M → IsFitCall c → IsDecided M t token c ahead left N (decision.Write r told)
    → IsFitChange r.change × (applies_change N r.change ≡ true)
written_applies M t token c ahead left N r told sound fit d =
    let (applies, is_fit, stored) = d.writable.0 sound fit in
    (is_fit, ap (λ K. applies_change K r.change) d.untouched ∙ moment_apart M t r.change ∙ applies)

-- the state after it
pub after_written : (M : State Extent) (t : ℕ) (token : Option (List ℕ)) (c : Call) (ahead left : Option (List ℕ)) (N K : State Extent) (r : RecordOf Extent) (told : AnswerOf Extent) → K ≡ after_record N r → IsDecided M t token c ahead left N (decision.Write r told)
    → IsAnswer M t token c ahead left K told
after_written M t token c ahead left N K r told is d = subst (λ x. ComesTo M t token c ahead left (answering x told)) (sym is) d.comes
