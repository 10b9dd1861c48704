-- What is copied inside a store, and what is decided on it.
use Rattle.std.specs.Prelude.{◌≡◌, ⊤, ℕ, List, [], ◌∷◌, true, All}
use Rattle.sha1.specs.Sha1.{sha1}
use Rattle.b2_base.specs.declared.extent.Extent.{Extent}
use Rattle.b2_base.specs.declared.failure.Or.{Or}
use Rattle.b2_base.specs.declared.failure.Or.TheVariants as or
use Rattle.b2_types.specs.declared.answer.AnswerOf.{AnswerOf}
use Rattle.b2_types.specs.declared.answer.AnswerOf.TheVariants as answer
use Rattle.b2_types.specs.declared.fault.Fault.{Fault}
use Rattle.b2_model.specs.Ask.{at_moment}
use Rattle.b2_model.specs.Changes.{after_record}
use Rattle.b2_model.specs.State.{State}
use Rattle.b2_model.specs.Stored.{applies_change}
use Rattle.sound_states.specs.Sound.{IsFitChange}
use Rattle.contents_agree.specs.ContentsOf.{brought}
use Rattle.copy_calls.specs.declared.file.CopiedBytes.{CopiedBytes}
use Rattle.core_decisions.specs.declared.decision.Decision.{Decision}
use Rattle.core_decisions.specs.declared.decision.Decision.TheVariants as decision
use Rattle.stored_contents.specs.Held.{Holding}
use Rattle.durable_store.specs.Store.{IsConn}
use Rattle.durable_store.specs.declared.store.Store.{Store}

-- The copy stands for these bytes and is owned besides. What was owned stands for what it stood for, and uploads and
-- readers are as they were.
pub record HasCopy (h : Holding) (content : List ℕ) (bytes : CopiedBytes) (k : Holding) : Type 0 where
  pub owned : k.owned ≡ bytes.content ∷ h.owned
  pub agrees : All (λ e. h.meaning e ≡ k.meaning e) h.owned
  pub content_is : k.meaning bytes.content ≡ content
  pub digest : bytes.digest ≡ sha1 content
  pub came : (c : ℕ) → IsConn c → k.came c ≡ h.came c
  pub reads : (c : ℕ) → IsConn c → k.read c ≡ h.read c

-- what is written applies to the state, and brings this content alone
abbrev pub WritesCopy : State Extent → Extent → Decision → Type 0
WritesCopy M content (decision.Reply told) = ⊤
WritesCopy M content (decision.Write r told) = IsFitChange r.change × (applies_change M r.change ≡ true) × (brought r.change ≡ content ∷ [])

-- the state after a decision, and what it answers
abbrev pub after_decision : State Extent → Decision → State Extent
after_decision M (decision.Reply told) = M
after_decision M (decision.Write r told) = after_record M r

abbrev pub told_by : Decision → AnswerOf Extent
told_by (decision.Reply told) = told
told_by (decision.Write r told) = told

-- the fault is answered, and the state's moment alone has moved
pub record IsRefusedFor (s : Store) (t : ℕ) (error : Or Fault) (u : Store) (told : AnswerOf Extent) : Type 0 where
  pub fault : Fault
  pub error_is : error ≡ or.Fault fault
  pub state : u.core ≡ at_moment s.core t
  pub contents : u.contents ≡ s.contents
  pub answers : told ≡ answer.Refused fault
