-- What a call comes to at its moment, on the store after the day's pass.
use Rattle.std.specs.Prelude.{◌≡◌, ℕ, List, Option, All}
use Rattle.b2_base.specs.declared.extent.Extent.{Extent}
use Rattle.b2_types.specs.declared.answer.AnswerOf.{AnswerOf}
use Rattle.b2_types.specs.declared.call.Call.{Call}
use Rattle.disk_model.specs.State.{DiskState}
use Rattle.b2_model.specs.Ask.{ask}
use Rattle.b2_model.specs.Contents.{answer_by, state_by}
use Rattle.b2_model.specs.State.{State}
use Rattle.b2_model.specs.Run.{of_bytes}
use Rattle.contents_agree.specs.ContentsOf.{contents_of}
use Rattle.stored_contents.specs.Held.{Holding}
use Rattle.durable_store.specs.Owned.{IsKept}
use Rattle.durable_store.specs.Store.{IsConn}
use Rattle.durable_store.specs.declared.store.Store.{Store}

-- The machine over bytes does and answers so at this moment, where extents stand for bytes. What the state owned stands
-- for what it stood for, and uploads and readers are as they were.
pub record IsCarried (M : State Extent) (h : Holding) (t : ℕ) (words rest : List ℕ) (token : Option (List ℕ)) (call : Call) (u : Store) (d : DiskState) (told : AnswerOf Extent) : Type 0 where
  pub holding : Holding
  pub kept : IsKept u d holding
  pub agrees : All (λ e. h.meaning e ≡ holding.meaning e) (contents_of M)
  pub came : (c : ℕ) → IsConn c → holding.came c ≡ h.came c
  pub reads : (c : ℕ) → IsConn c → holding.read c ≡ h.read c
  pub asked : ask of_bytes (state_by holding.meaning M) t words token call ≡ record { state = state_by holding.meaning u.core; answer = answer_by holding.meaning told; words = rest }
