-- An upload is lost with its connection.
use Rattle.std.proofs.Common.{◌≡◌, ℕ, nat_eq, List, Some, None, refl, sym, ap, subst, ◌∙◌}
use Rattle.std.specs.Map.{update}
use Rattle.b2_base.specs.declared.extent.Extent.{Extent}
use Rattle.b2_types.specs.declared.key.Flight.{Flight}
use Rattle.disk_model.specs.State.{DiskState}
use Rattle.b2_model.specs.Contents.{state_by}
use Rattle.b2_model.specs.State.{State}
use Rattle.b2_model.specs.UploadSteps.{flight_of, without_flight}
use Rattle.b2_model.specs.Run.{Progress, loses, moment, of_bytes, step, with_daily_pass}
use Rattle.flight_laws.proofs.Laws.{day_keeps, without_here, without_keeps}
use Rattle.contents_agree.specs.ContentsOf.{contents_of}
use Rattle.stored_contents.specs.declared.contents.Contents.{Contents}
use Rattle.stored_contents.specs.Held.{Holding, IsHeld}
use Rattle.durable_store.specs.Steps.{start_at}
use Rattle.durable_store.specs.Owned.{owning}
use Rattle.durable_store.specs.Store.{Came, IsAfter, IsStore, IsUnderWay, Read}
use Rattle.durable_store.specs.declared.store.Store.{Store}
use Rattle.durable_store.proofs.Lifts.{lost}
use Rattle.durable_store.proofs.UnderWay.{upload_set}

module _ (s : Store) (d : DiskState) (P : Progress (List ℕ)) (came : Came) (read : Read) (is : IsStore s d P.state came read) (reading c t : ℕ) (t_is : t ≡ moment s.core reading) where
  abbrev h : Holding
  h = is.holding

  -- the state after it, of which the versions are those of the day
  pub lost_upload : (mid N : State Extent) (f : Flight) (v : Contents) (number : ℕ) → mid ≡ with_daily_pass s.core t → flight_of s.core c ≡ Some f → N ≡ without_flight mid t c → number ≡ c
      → IsHeld v d (record (owning mid h) { came = update nat_eq h.came number None }) → IsAfter (record { core = N; contents = v }) d P (loses reading c) (update nat_eq came c None) read
  lost_upload mid N f v number mid_is there N_is same held =
      let k : Holding = record (owning mid h) { came = update nat_eq h.came number None } in
      let on_start : N ≡ without_flight (start_at s.core reading) (moment s.core reading) c =
      N_is ∙ ap (λ M. without_flight M t c) mid_is ∙ ap (λ (m : ℕ). without_flight (with_daily_pass s.core m) m c) t_is in
      let gone : flight_of N c ≡ None = ap (λ M. flight_of M c) N_is ∙ without_here mid t c in
      upload_set s (record { core = N; contents = v }) d d P.state (step of_bytes P (loses reading c)).state came read c None None k is
      (record { held = held; owned = sym (ap contents_of N_is) })
      (lost h.meaning is.kept.held.sizes s.core P is.state reading c f there ∙ ap (state_by h.meaning) (sym on_start))
      (λ e. refl)
      (record {
        came = λ e. ap (λ (n : ℕ). update nat_eq h.came n None e) same;
        others = λ e apart. ap (λ M. flight_of M e) N_is ∙ without_keeps mid t c e apart ∙ ap (λ M. flight_of M e) mid_is ∙ day_keeps s.core t e;
        here = subst (λ g. IsUnderWay g None None) (sym gone) refl;
      })
