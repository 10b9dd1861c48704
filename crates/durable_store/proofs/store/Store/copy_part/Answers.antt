use Rattle.std.proofs.Common.{ℕ, List}
use Rattle.std.proofs.lemmas.Result.{IfOk-weaker}
use Rattle.std.specs.Option.{option_copied}
use Rattle.b2_types.specs.declared.call.Call.TheVariants as calls
use Rattle.stored_contents.specs.Held.{Holding}
use Rattle.durable_store.specs.Carried.{IsCarried}
use Rattle.durable_store.specs.Copied.{IsRefusedFor}
use Rattle.durable_store.specs.Owned.{IsKept}
use Rattle.durable_store.proofs.Copying.{part_refusal}
use Rattle.durable_store.proofs.store.Store.copy_part.Goals as goal

pub returns-in-Err : goal.returns-in-Err
returns-in-Err g c =
    let s = c.args.self in
    let d = g.D.Disk.state c.args.disk.now in
    let t = c.args.t in
    let q = c.args.call.now in
    let token = option_copied c.args.token in
    let error = c.in-Err.error in
    IfOk-weaker c.copy_refused.result (λ r. IsRefusedFor s t error r.0 r.1) (λ r. (h : Holding) (words : List ℕ) → IsKept s d h → IsCarried s.core h t words words token (calls.CopyPart q) r.0 d r.1)
    (λ r refused. λ h words kept. part_refusal s r.0 d h t words token error r.1 kept refused q c.in-Err.ensures.refused) c.copy_refused.ensures
