-- A key that is made of the words that are drawn.
use Rattle.std.proofs.Common.{◌≡◌, ℕ, List, Option, Some, None, Err, drop, refl, sym, ap, subst, ◌∙◌}
use Rattle.std.proofs.lemmas.Option.{none-some}
use Rattle.b2_base.specs.Failure.{IfFault}
use Rattle.b2_base.specs.declared.extent.Extent.{Extent}
use Rattle.b2_base.specs.declared.failure.Or.{Or}
use Rattle.b2_base.specs.declared.failure.Or.TheVariants as or
use Rattle.b2_types.specs.Fault.{plain}
use Rattle.b2_types.specs.declared.call.Call.TheVariants as call
use Rattle.b2_types.specs.declared.call.CreateKey.{CreateKey}
use Rattle.b2_types.specs.declared.fault.Fault.{Fault}
use Rattle.b2_types.specs.declared.key.Key.{Key}
use Rattle.b2_model.specs.Ask.{ask, outcome_or_refusal}
use Rattle.b2_model.specs.AskKeys.{create_key, new_key, secret_text}
use Rattle.b2_model.specs.Checks.{first_fault}
use Rattle.b2_model.specs.Policy.{Caller, caller_of}
use Rattle.b2_model.specs.State.{State}
use Rattle.app_keys.specs.Keys.{AreDrawn, IsCreated, kind_of}
use Rattle.app_keys.specs.declared.create.NewKey.{NewKey}
use Rattle.app_keys.specs.declared.refusal.KeyRefusal.{KeyRefusal}
use Rattle.core_decisions.specs.Decided.{Copies, IsDrawn, IsWritable, at_extents, outcome}
use Rattle.core_decisions.specs.declared.decision.Decision.{Decision}
use Rattle.core_decisions.proofs.Asked.{no_copy}
use Rattle.core_decisions.proofs.Drawn.{comes_to, passed_first}
use Rattle.sound_steps.specs.FitSteps.{Applies}
use Rattle.sound_steps.proofs.Outcomes.{ask_applies}
use Rattle.b2_types.specs.declared.record.ChangeOf.TheVariants as change
use Rattle.core_decisions.proofs.Forms.{some_is}
use Rattle.core_keys.specs.Made.{key_fault, written}
use Rattle.core_keys.proofs.OnKeys.{create_rules}

-- the refusal of a fault
pub refusal_of : (P : KeyRefusal → Type 0) (error : Or KeyRefusal) (fault : Fault) → key_fault error ≡ Some fault → IfFault {T = NewKey} (Err error) P → (r : KeyRefusal) × (plain (kind_of r) ≡ fault) × P r
refusal_of P or.Memory fault is told = absurd (none-some fault is)
refusal_of P (or.Fault r) fault is told = (r, some_is (plain (kind_of r)) fault is, told)

module _ (M : State Extent) (t : ℕ) (token : Option (List ℕ)) (c : CreateKey) (who : Caller) (asks : who ≡ caller_of M token) (passes : None ≡ first_fault ((create_rules M t token c).first who))
    (none : (words : List ℕ) → first_fault (create_key M (caller_of M token).key t words c).own ≡ None) where
  -- by these words
  by_words : (copy : Copies) (words rest : List ℕ) (k : Key) (secret : List ℕ) → k ≡ new_key M t words c → secret ≡ secret_text words → rest ≡ drop 4 words
      → ask (at_extents copy) M t words token (call.CreateKey c) ≡ outcome M t rest (written M.settings t c.version k secret)
  by_words copy words rest k secret key_is secret_is rest_is =
      ap (outcome_or_refusal M t words (create_key M (caller_of M token).key t words c)) (passed_first M t token (call.CreateKey c) (create_rules M t token c) who copy words asks passes ∙ none words)
      ∙ sym (ap (λ r. outcome M t r (written M.settings t c.version k secret)) rest_is
      ∙ ap (λ s. outcome M t (drop 4 words) (written M.settings t c.version k s)) secret_is
      ∙ ap (λ x. outcome M t (drop 4 words) (written M.settings t c.version x (secret_text words))) key_is)

  -- the key's record applies
  writes_key : (words : List ℕ) (k : Key) (secret : List ℕ) → k ≡ new_key M t words c → IsWritable M (call.CreateKey c) (written M.settings t c.version k secret)
  writes_key words k secret key_is = (
    λ sound fit. subst (λ x. Applies M (Some (change.KeyMake x))) (sym key_is)
        (ask_applies (at_extents no_copy) M t words token (call.CreateKey c) sound fit (passed_first M t token (call.CreateKey c) (create_rules M t token c) who no_copy words asks passes ∙ none words)),
    λ alone. refl,
  )

  drawn : (ahead left : Option (List ℕ)) (words : List ℕ) (k : Key) (secret : List ℕ) → AreDrawn ahead words left → k ≡ new_key M t words c → secret ≡ secret_text words
      → IsDrawn M t token (call.CreateKey c) ahead left (written M.settings t c.version k secret)
  drawn None left words k secret drew key_is secret_is = (
    writes_key words k secret key_is,
    comes_to M t token (call.CreateKey c) None left (λ rest. outcome M t rest (written M.settings t c.version k secret)) words (drop 4 words) tt
        (λ copy. by_words copy words (drop 4 words) k secret key_is secret_is refl),
  )
  drawn (Some ahead) None words k secret drew key_is secret_is = absurd drew
  drawn (Some ahead) (Some rest) words k secret (drew, left) key_is secret_is = (
    writes_key words k secret key_is,
    comes_to M t token (call.CreateKey c) (Some ahead) (Some rest) (λ rest. outcome M t rest (written M.settings t c.version k secret)) ahead rest (refl, refl)
        (λ copy. by_words copy ahead rest k secret (key_is ∙ ap (λ ws. new_key M t ws c) drew) (secret_is ∙ ap secret_text drew) left),
  )

  pub made_by : (ahead left : Option (List ℕ)) (next : ℕ) (made : NewKey) (d : Decision) → M.next_key ≡ next → IsCreated ahead left next t c made → d ≡ written M.settings t c.version made.key made.secret
      → IsDrawn M t token (call.CreateKey c) ahead left d
  made_by ahead left next made d is_next created is =
      subst (IsDrawn M t token (call.CreateKey c) ahead left) (sym is)
      (drawn ahead left created.words made.key made.secret created.drawn (created.is.key M is_next) created.is.secret)
