-- What leaves the versions as they are: a new token, and the calls that give one or make a key.
use Rattle.std.proofs.Common.{◌≡◌, ℕ, List, [], Option, Some, None, option_and_then, refl, ap, subst, sym, ◌∙◌}
use Rattle.rule_table.specs.declared.fault.FaultKind.{FaultKind}
use Rattle.rule_table.specs.declared.fault.FaultKind.TheVariants.{P2, NoBucket, NoFile}
use Rattle.b2_types.specs.declared.fault.Fault.{Fault}
use Rattle.b2_types.specs.declared.key.Grant.{Grant}
use Rattle.b2_types.specs.declared.call.Call.{Call}
use Rattle.b2_types.specs.declared.call.Call.TheVariants as call
use Rattle.b2_types.specs.declared.call.CreateKey.{CreateKey}
use Rattle.b2_types.specs.declared.upload.UploadCall.{UploadCall}
use Rattle.b2_model.specs.Checks.{first_fault}
use Rattle.b2_model.specs.State.{State, Pieces, bucket_at}
use Rattle.b2_model.specs.Policy.{key_by}
use Rattle.b2_model.specs.Rows.{version_at}
use Rattle.b2_model.specs.Plan.{Plan, or_absent}
use Rattle.b2_model.specs.AskKeys.{authorize_plan}
use Rattle.b2_model.specs.Ask.{outcome_or_refusal, plan_of, refusals_of, ask, at_moment, with_change, with_grant}
use Rattle.b2_model.specs.UploadSteps.{begin, begin_as, begin_refusals}
use Rattle.given_up.specs.AsksForToken.{AsksForToken}

module _ {C : Type 0} where
  pub granted : (g : Option Grant) (M : State C) → (with_grant g M).versions ≡ M.versions
  granted None M = refl
  granted (Some g) M = refl

  begun_as : (M : State C) (t conn : ℕ) (token : Option (List ℕ)) (u : UploadCall) (o : Option Fault) → (begin_as M t conn token u o).state.versions ≡ M.versions
  begun_as M t conn token u None = refl
  begun_as M t conn token u (Some fault) = refl

  pub begun : (M : State C) (t conn : ℕ) (token : Option (List ℕ)) (u : UploadCall) → (begin M t conn token u).state.versions ≡ M.versions
  begun M t conn token u = begun_as M t conn token u (first_fault (begin_refusals M t token u))

  -- ---- calls

  -- what the plan writes leaves the versions
  abbrev Leaves : Plan C → Type 0
  Leaves p = (t : ℕ) (M : State C) → (with_change M t p.change).versions ≡ M.versions

  where_absent : {X : Type 0} (kind : FaultKind) (plan : X → Plan C) (o : Option X) → ((x : X) → Leaves (plan x)) → Leaves (or_absent kind plan o)
  where_absent kind plan None leaves t M = refl
  where_absent kind plan (Some x) leaves t M = leaves x t M

  -- what is looked up may not be there
  looked_up : {X : Type 0} (p : Plan C) (kind : FaultKind) (plan : X → Plan C) (o : Option X) → p ≡ or_absent kind plan o → ((x : X) → Leaves (plan x)) → Leaves p
  looked_up p kind plan o is leaves = subst Leaves (sym is) (where_absent kind plan o leaves)

  carried_out : (M : State C) (t : ℕ) (words : List ℕ) (p : Plan C) → Leaves p → (o : Option Fault) → (outcome_or_refusal M t words p o).state.versions ≡ M.versions
  carried_out M t words p leaves None = granted p.grant (with_change (at_moment M t) t p.change) ∙ leaves t (at_moment M t)
  carried_out M t words p leaves (Some fault) = refl

  asked : (P : Pieces C) (M : State C) (t : ℕ) (words : List ℕ) (token : Option (List ℕ)) (c : Call) → Leaves (plan_of P M t words token c) → (ask P M t words token c).state.versions ≡ M.versions
  asked P M t words token c leaves = carried_out M t words (plan_of P M t words token c) leaves (first_fault (refusals_of P M t words token c))

  plan_leaves : (P : Pieces C) (M : State C) (t : ℕ) (words : List ℕ) (token : Option (List ℕ)) (c : Call) → AsksForToken c → Leaves (plan_of P M t words token c)
  plan_leaves P M t words token (call.AuthorizeAccount c) gives = looked_up (plan_of P M t words token (call.AuthorizeAccount c)) P2 (authorize_plan c.version M t words) (option_and_then (key_by M) c.credentials) refl (λ k t M. refl)
  plan_leaves P M t words token (call.GetUploadUrl c) gives = looked_up (plan_of P M t words token (call.GetUploadUrl c)) NoBucket _ (bucket_at M c.bucket) refl (λ b t M. refl)
  plan_leaves P M t words token (call.GetUploadPartUrl c) gives = looked_up (plan_of P M t words token (call.GetUploadPartUrl c)) NoFile _ (version_at M c.bucket c.file) refl (λ v t M. refl)
  plan_leaves P M t words token (call.GetDownloadAuthorization c) gives = looked_up (plan_of P M t words token (call.GetDownloadAuthorization c)) NoBucket _ (bucket_at M c.bucket) refl (λ b t M. refl)
  plan_leaves P M t words token other gives = absurd gives

  pub token_given : (P : Pieces C) (M : State C) (t : ℕ) (words : List ℕ) (token : Option (List ℕ)) (c : Call) → AsksForToken c → (ask P M t words token c).state.versions ≡ M.versions
  token_given P M t words token c gives = asked P M t words token c (plan_leaves P M t words token c gives)

  pub key_made : (P : Pieces C) (M : State C) (t : ℕ) (words : List ℕ) (token : Option (List ℕ)) (c : CreateKey) → (ask P M t words token (call.CreateKey c)).state.versions ≡ M.versions
  key_made P M t words token c = asked P M t words token (call.CreateKey c) (λ t M. refl)
