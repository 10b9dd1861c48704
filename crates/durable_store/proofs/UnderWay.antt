-- The upload of one connection changes, and no other.
use Rattle.std.proofs.Common.{◌≡◌, ◌⊎◌, inl, inr, ℕ, nat_eq, List, ◌++◌, Option, Some, None, sym, ap, subst, ◌∙◌}
use Rattle.std.specs.Map.{update}
use Rattle.std.proofs.lemmas.Bool.{cases_eq}
use Rattle.b2_types.specs.declared.key.Flight.{Flight}
use Rattle.disk_model.specs.State.{DiskState}
use Rattle.b2_model.specs.Contents.{state_by}
use Rattle.b2_model.specs.State.{State}
use Rattle.b2_model.specs.UploadSteps.{flight_of}
use Rattle.stored_contents.specs.Held.{Coming, Holding, with_bytes}
use Rattle.stored_contents.proofs.Updates.{updated_here, updated_other}
use Rattle.durable_store.specs.Owned.{IsKept}
use Rattle.durable_store.specs.Store.{Came, IsConn, IsStore, IsUnderWay, Read}
use Rattle.durable_store.specs.Uploads.{with_more}
use Rattle.durable_store.specs.declared.store.Store.{Store}

-- what a step leaves of the uploads of other connections, and makes of this one's
pub record Sets (s u : Store) (h k : Holding) (c : ℕ) (v : Option Coming) (w : Option (List ℕ)) : Type 0 where
  pub came : (e : ℕ) → k.came e ≡ update nat_eq h.came c v e
  pub others : (e : ℕ) → (c ≡ e → ⊥) → flight_of u.core e ≡ flight_of s.core e
  pub here : IsUnderWay (flight_of u.core c) v w

at_each : (s u : Store) (h k : Holding) (came : Came) (c : ℕ) (v : Option Coming) (w : Option (List ℕ)) → Sets s u h k c v w → ((e : ℕ) → IsConn e → IsUnderWay (flight_of s.core e) (h.came e) (came e))
    → (e : ℕ) → IsConn e → (c ≡ e) ⊎ (c ≡ e → ⊥) → IsUnderWay (flight_of u.core e) (k.came e) (update nat_eq came c w e)
at_each s u h k came c v w sets each e is (inl same) =
    let P : ℕ → Type 0 = λ n. IsUnderWay (flight_of u.core n) (k.came n) (update nat_eq came c w n) in
    subst P same
    (subst (λ a. IsUnderWay (flight_of u.core c) a (update nat_eq came c w c)) (sym (sets.came c ∙ updated_here h.came c v))
    (subst (λ b. IsUnderWay (flight_of u.core c) v b) (sym (updated_here came c w)) sets.here))
at_each s u h k came c v w sets each e is (inr apart) =
    subst (λ f. IsUnderWay f (k.came e) (update nat_eq came c w e)) (sym (sets.others e apart))
    (subst (λ a. IsUnderWay (flight_of s.core e) a (update nat_eq came c w e)) (sym (sets.came e ∙ updated_other h.came c v e apart))
    (subst (λ b. IsUnderWay (flight_of s.core e) (h.came e) b) (sym (updated_other came c w e apart)) (each e is)))

-- the store after such a step
pub upload_set : (s u : Store) (d after : DiskState) (M N : State (List ℕ)) (came : Came) (read : Read) (c : ℕ) (v : Option Coming) (w : Option (List ℕ)) (k : Holding) (is : IsStore s d M came read)
    → IsKept u after k → N ≡ state_by k.meaning u.core → ((e : ℕ) → k.read e ≡ is.holding.read e) → Sets s u is.holding k c v w → IsStore u after N (update nat_eq came c w) read
upload_set s u d after M N came read c v w k is kept state reads sets = record {
  holding = k;
  kept = kept;
  state = state;
  uploads = λ e conn. at_each s u is.holding k came c v w sets is.uploads e conn (cases_eq c e);
  readers = λ e conn. is.readers e conn ∙ sym (reads e);
}

-- ---- more bytes

pub more_came : (f : Option Flight) (a : Option Coming) (came : Option (List ℕ)) (bytes : List ℕ) → IsUnderWay f a came → IsUnderWay f (with_bytes bytes a) (with_more bytes came)
more_came None a came bytes under = ap (with_more bytes) under
more_came (Some f) a came bytes (b, is, len, came_is) = (record b { bytes = b.bytes ++ bytes }, ap (with_bytes bytes) is, len, ap (with_more bytes) came_is)
