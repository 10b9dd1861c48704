-- What a store reads for a connection.
use Rattle.std.proofs.Common.{◌≡◌, ℕ, nat_eq, List, if◌then◌else◌, ap, sym, ◌∙◌}
use Rattle.disk_model.specs.State.{DiskState}
use Rattle.b2_model.specs.State.{State}
use Rattle.stored_contents.specs.declared.contents.Contents.{Contents}
use Rattle.stored_contents.specs.Held.{IsHeld, with_read}
use Rattle.durable_store.specs.Store.{Came, IsStore, Read}
use Rattle.durable_store.specs.declared.store.Store.{Store}

-- these bytes are read for the connection, and what is read for others stays
pub reads_for : (s : Store) (d : DiskState) (M : State (List ℕ)) (came : Came) (read : Read) (u : Contents) (c number : ℕ) (bytes : List ℕ) (k : IsStore s d M came read) → number ≡ c
    → IsHeld u d (record k.holding { read = with_read k.holding.read number bytes }) → IsStore (record { core = s.core; contents = u }) d M came (with_read read c bytes)
reads_for s d M came read u c number bytes k same held = record {
  holding = record k.holding { read = with_read k.holding.read number bytes };
  kept = record { held = held; owned = k.kept.owned };
  state = k.state;
  uploads = k.uploads;
  readers = λ e is. ap (λ (x : List ℕ). if nat_eq c e then bytes else x) (k.readers e is) ∙ ap (λ n. with_read k.holding.read n bytes e) (sym same);
}
