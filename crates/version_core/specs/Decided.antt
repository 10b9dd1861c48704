-- What a call comes to on the state in memory, with the words of a giver.
use Rattle.std.specs.Prelude.{◌≡◌, ⊤, ℕ, List, Option}
use Rattle.b2_base.specs.declared.extent.Extent.{Extent}
use Rattle.b2_types.specs.declared.call.Call.{Call}
use Rattle.b2_types.specs.declared.call.Call.TheVariants as call
use Rattle.b2_model.specs.State.{State}
use Rattle.b2_model.specs.Changes.{after_record}
use Rattle.b2_model.specs.Ask.{Outcome, at_moment}
use Rattle.core_decisions.specs.declared.decision.Decision.{Decision}
use Rattle.core_decisions.specs.declared.decision.Decision.TheVariants as decision
use Rattle.core_decisions.specs.Decided.{ComesTo, IsWritable}

-- it copies nothing, and neither gives a token nor draws a word
abbrev pub IsQuiet : Call → Type 0
IsQuiet (call.AuthorizeAccount c) = ⊥
IsQuiet (call.CreateKey c) = ⊥
IsQuiet (call.GetUploadUrl c) = ⊥
IsQuiet (call.GetUploadPartUrl c) = ⊥
IsQuiet (call.GetDownloadAuthorization c) = ⊥
IsQuiet (call.CopyFile c) = ⊥
IsQuiet (call.CopyPart c) = ⊥
IsQuiet other = ⊤

-- the answer from this state on, and the state after the record that is written before it
abbrev pub decided : State Extent → Decision → List ℕ → Outcome Extent
decided N (decision.Reply told) rest = record { state = N; answer = told; words = rest }
decided N (decision.Write r told) rest = record { state = after_record N r; answer = told; words = rest }

-- no version has changed, and where a record is to be written nothing but the moment has
abbrev pub IsUntouched : State Extent → ℕ → State Extent → Decision → Type 0
IsUntouched M t N (decision.Reply told) = N.versions ≡ M.versions
IsUntouched M t N (decision.Write r told) = N ≡ at_moment M t

-- The machine does and answers just so from the state on that the call leaves before its record, which is the one
-- before it but for its moment and its tokens.
pub record IsDecided (M : State Extent) (t : ℕ) (token : Option (List ℕ)) (c : Call) (ahead left : Option (List ℕ)) (N : State Extent) (d : Decision) : Type 0 where
  pub writable : IsWritable M c d
  pub untouched : IsUntouched M t N d
  pub comes : ComesTo M t token c ahead left (decided N d)
