-- A key that is made.
use Rattle.std.specs.Prelude.{ℕ, List, Option, Some, None}
use Rattle.b2_base.specs.declared.failure.Or.{Or}
use Rattle.b2_base.specs.declared.failure.Or.TheVariants as or
use Rattle.b2_base.specs.declared.settings.Settings.{Settings}
use Rattle.b2_types.specs.declared.answer.AnswerOf.TheVariants as answer
use Rattle.b2_types.specs.declared.fault.Fault.{Fault}
use Rattle.b2_types.specs.declared.key.Key.{Key}
use Rattle.b2_types.specs.declared.kinds.ApiVersion.{ApiVersion}
use Rattle.b2_types.specs.declared.record.ChangeOf.TheVariants as change
use Rattle.b2_types.specs.declared.shown.Shown.TheVariants as shown
use Rattle.b2_types.specs.Fault.{plain}
use Rattle.b2_model.specs.Shown.{shown_key}
use Rattle.app_keys.specs.Keys.{kind_of}
use Rattle.app_keys.specs.declared.refusal.KeyRefusal.{KeyRefusal}
use Rattle.core_decisions.specs.declared.decision.Decision.{Decision}
use Rattle.core_decisions.specs.declared.decision.Decision.TheVariants as decision

-- the fault of a refusal, where it is not want of memory
abbrev pub key_fault : Or KeyRefusal → Option Fault
key_fault or.Memory = None
key_fault (or.Fault r) = Some (plain (kind_of r))

-- the record of a key, and the answer that shows it with its secret
abbrev pub written : Settings → ℕ → ApiVersion → Key → List ℕ → Decision
written settings t version k secret = decision.Write
    (record { at = t; change = change.KeyMake k })
    (answer.Json (shown.NewKey (record { key = shown_key version settings k; secret = secret })))
