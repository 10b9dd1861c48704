-- What the end of an upload comes to.
use Rattle.std.specs.Prelude.{◌≡◌, ◌==◌, ⊤, nat_eq, ℕ, Bool, true, false, List, [], Option, Some, None, length, unwrap_or}
use Rattle.std.specs.Map.{update}
use Rattle.b2_base.specs.declared.extent.Extent.{Extent}
use Rattle.b2_types.specs.declared.answer.AnswerOf.{AnswerOf}
use Rattle.b2_types.specs.declared.answer.AnswerOf.TheVariants as answer
use Rattle.b2_types.specs.declared.key.Flight.{Flight}
use Rattle.b2_types.specs.declared.upload.DigestRule.{DigestRule}
use Rattle.b2_types.specs.declared.upload.DigestRule.TheVariants as rule
use Rattle.b2_types.specs.declared.upload.UploadCall.{UploadCall}
use Rattle.disk_model.specs.State.{DiskState}
use Rattle.hex.specs.Hex.{decode_sized}
use Rattle.b2_model.specs.Body.{Body, body_of, told_digest}
use Rattle.b2_model.specs.Contents.{answer_by}
use Rattle.b2_model.specs.State.{State}
use Rattle.b2_model.specs.UploadSteps.{end}
use Rattle.b2_model.specs.Run.{Progress, ends, answer_to, of_bytes}
use Rattle.new_versions.specs.Decided.{extent_len}
use Rattle.core_decisions.specs.Decided.{answering}
use Rattle.durable_store.specs.Lengths.{body_length}
use Rattle.durable_store.specs.Store.{Came, IsAfter, IsStore, Read}
use Rattle.durable_store.specs.declared.store.Store.{Store}

-- the digest that the bytes behind a content tell
abbrev pub told_under : DigestRule → List ℕ → Option (List ℕ)
told_under rule.AtEnd rest = told_digest (decode_sized rest 20)
told_under (rule.Given digest) rest = None
told_under rule.NotVerified rest = None

-- the machine over extents ends the upload so
abbrev pub IsDecided : State Extent → ℕ → Flight → Body Extent → State Extent → AnswerOf Extent → Type 0
IsDecided M t f body N told = (words : List ℕ) → end extent_len M t f body words ≡ answering N told words

-- the upload's body came whole
abbrev pub is_whole : Option Flight → Option (List ℕ) → Bool
is_whole None came = false
is_whole (Some f) came = length (unwrap_or came []) == body_length f.upload

-- The machine ends the upload with the body that came, and answers so.
pub record IsEnded (s : Store) (d : DiskState) (P : Progress (List ℕ)) (reading c : ℕ) (u : UploadCall) (bytes : List ℕ) (came : Came) (read : Read) (r : Option (AnswerOf Extent)) : Type 0 where
  pub told : AnswerOf Extent
  pub meaning : Extent → List ℕ
  pub told_is : r ≡ Some told
  pub answers : answer_to of_bytes P (ends reading c (body_of u bytes)) ≡ Some (answer_by meaning told)
  pub after : IsAfter s d P (ends reading c (body_of u bytes)) (update nat_eq came c None) read

-- nothing is done
abbrev pub IsIdle : Store → DiskState → Progress (List ℕ) → Came → Read → Option (AnswerOf Extent) → Type 0
IsIdle s d P came read r = (r ≡ None) × IsStore s d P.state came read

-- where the whole body came it ends, and else nothing is done
abbrev pub EndsWhole : Store → DiskState → Progress (List ℕ) → ℕ → ℕ → UploadCall → List ℕ → Came → Read → Option (AnswerOf Extent) → Bool → Type 0
EndsWhole s d P reading c u bytes came read r true = IsEnded s d P reading c u bytes came read r
EndsWhole s d P reading c u bytes came read r false = IsIdle s d P came read r

-- an upload ends, where one is under way
abbrev pub Ends : Store → DiskState → Progress (List ℕ) → ℕ → ℕ → Came → Read → Option (AnswerOf Extent) → Option Flight → Option (List ℕ) → Type 0
Ends s d P reading c came read r None bytes = IsIdle s d P came read r
Ends s d P reading c came read r (Some f) None = ⊥
Ends s d P reading c came read r (Some f) (Some bytes) = EndsWhole s d P reading c f.upload bytes came read r (length bytes == body_length f.upload)

-- the answer sends no content
abbrev pub IsPlain : AnswerOf Extent → Type 0
IsPlain (answer.Json shown) = ⊤
IsPlain (answer.Content c) = ⊥
IsPlain (answer.Refused fault) = ⊤
