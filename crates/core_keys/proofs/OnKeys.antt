-- What calls on keys come to.
use Rattle.std.proofs.Common.{ℕ, [], List, Option, Some, unwrap_or, refl}
use Rattle.b2_base.specs.declared.extent.Extent.{Extent}
use Rattle.rule_table.specs.declared.fault.FaultKind.TheVariants.{NoKey}
use Rattle.b2_types.specs.declared.key.Key.{Key}
use Rattle.b2_types.specs.declared.call.CreateKey.{CreateKey}
use Rattle.b2_types.specs.declared.call.DeleteKey.{DeleteKey}
use Rattle.b2_types.specs.declared.call.ListKeys.{ListKeys}
use Rattle.b2_types.specs.declared.call.Call.TheVariants as call
use Rattle.b2_model.specs.AskKeys.{create_key, drop_key, key_of_id, list_keys}
use Rattle.b2_model.specs.Policy.{caller_of, judged_call}
use Rattle.b2_model.specs.State.{State}
use Rattle.core_policy.specs.Rules.{all_stand, rules_on}
use Rattle.core_decisions.proofs.Drawn.{Ruled}
use Rattle.core_decisions.proofs.Forms.{Form}

abbrev pub delete_form : (M : State Extent) (t : ℕ) (token : Option (List ℕ)) (c : DeleteKey) → Form M t token (call.DeleteKey c) Key
delete_form M t token c = record {
  absent = NoKey;
  thing = key_of_id M c.key;
  plan = λ copy words k. drop_key c.version M k;
  quiet = λ copy words k. refl;
  refusals = λ copy words. refl;
  is = λ copy words. refl;
}

-- nothing is looked up
abbrev pub list_form : (M : State Extent) (t : ℕ) (token : Option (List ℕ)) (c : ListKeys) → Form M t token (call.ListKeys c) (Unit {0})
list_form M t token c = record {
  absent = NoKey;
  thing = Some tt;
  plan = λ copy words _. list_keys M c;
  quiet = λ copy words _. refl;
  refusals = λ copy words. refl;
  is = λ copy words. refl;
}

-- that the buckets stand is asked before the last rule of the policy
abbrev pub create_rules : (M : State Extent) (t : ℕ) (token : Option (List ℕ)) (c : CreateKey) → Ruled M t token (call.CreateKey c)
create_rules M t token c = record {
  first = λ who. rules_on M t (judged_call (call.CreateKey c)) who (all_stand M (unwrap_or c.buckets []));
  own = λ copy words. (create_key M (caller_of M token).key t words c).own;
  is = λ copy words. refl;
}
