-- What is refused, and by which rule.
use Rattle.std.proofs.Common.{◌≡◌, ℕ, List, Option, Some, ap}
use Rattle.b2_types.specs.declared.fault.Fault.{Fault}
use Rattle.b2_types.specs.declared.call.Call.{Call}
use Rattle.b2_types.specs.declared.upload.UploadCall.{UploadCall}
use Rattle.b2_types.specs.declared.answer.AnswerOf.TheVariants.{Refused}
use Rattle.b2_model.specs.Checks.{first_fault}
use Rattle.b2_model.specs.State.{State, Pieces}
use Rattle.b2_model.specs.Ask.{ask, at_moment, plan_of, refusals_of, outcome_or_refusal}
use Rattle.b2_model.specs.UploadSteps.{begin, begin_refusals, begin_as}

pub refused_call : {C : Type 0} (P : Pieces C) (M : State C) (t : ℕ) (words : List ℕ) (token : Option (List ℕ)) (c : Call) (fault : Fault)
    → first_fault (refusals_of P M t words token c) ≡ Some fault
    → ask P M t words token c ≡ record { state = at_moment M t; answer = Refused fault; words = words }
refused_call P M t words token c fault is = ap (outcome_or_refusal M t words (plan_of P M t words token c)) is

pub refused_begin : {C : Type 0} (M : State C) (t conn : ℕ) (token : Option (List ℕ)) (u : UploadCall) (fault : Fault)
    → first_fault (begin_refusals M t token u) ≡ Some fault
    → begin M t conn token u ≡ record { state = at_moment M t; fault = Some fault }
refused_begin M t conn token u fault is = ap (begin_as M t conn token u) is
