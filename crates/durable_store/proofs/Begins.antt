-- An upload begins, or doesn't.
use Rattle.std.proofs.Common.{◌≡◌, ◌⊎◌, inl, inr, ℕ, nat_eq, Bool, true, false, List, [], Option, Some, None, is_some, if◌then◌else◌, Bor, true≢false, refl, sym, ap, subst, ◌∙◌}
use Rattle.std.specs.Map.{update}
use Rattle.std.specs.List.{flat_map}
use Rattle.std.proofs.lemmas.Bool.{cases_eq, false≢true}
use Rattle.std.specs.Option.{option_copied}
use Rattle.b2_base.specs.declared.extent.Extent.{Extent}
use Rattle.b2_types.specs.declared.fault.Fault.{Fault}
use Rattle.b2_types.specs.declared.key.Flight.{Flight}
use Rattle.b2_types.specs.declared.upload.UploadCall.{UploadCall}
use Rattle.disk_model.specs.State.{DiskState}
use Rattle.b2_model.specs.Contents.{state_by}
use Rattle.b2_model.specs.State.{State}
use Rattle.b2_model.specs.UploadSteps.{Begun, begin, flight_of, new_flight}
use Rattle.b2_model.specs.Run.{Progress, answer_to, begin_step, begins, moment, of_bytes, refusal_of, state_after, step, with_daily_pass, with_state}
use Rattle.machine_laws.proofs.Moments.{answer_state}
use Rattle.flight_laws.proofs.Laws.{begin_keeps, begin_refuses, begin_sets, day_keeps}
use Rattle.given_up.proofs.Kept.{begun as begin_versions}
use Rattle.contents_agree.specs.ContentsOf.{contents_in, contents_of}
use Rattle.stored_contents.specs.declared.contents.Contents.{Contents}
use Rattle.stored_contents.specs.Held.{Coming, Holding, IsHeld}
use Rattle.stored_contents.proofs.Updates.{updated_here, updated_other}
use Rattle.durable_store.specs.Lengths.{content_length}
use Rattle.durable_store.specs.Steps.{start_at}
use Rattle.durable_store.specs.Owned.{IsKept, Keeps, owning}
use Rattle.durable_store.specs.Store.{Came, IsConn, IsStore, IsUnderWay, Read}
use Rattle.durable_store.specs.Uploads.{IsBegun, begun_on}
use Rattle.durable_store.specs.declared.store.Store.{Store}
use Rattle.durable_store.proofs.Lifts.{begun}
use Rattle.durable_store.proofs.UnderWay.{upload_set}

-- a function that is set to what it is
same_at : {X : Type 0} (f : ℕ → Option X) (c e : ℕ) (x : Option X) → x ≡ f c → f e ≡ update nat_eq f c x e
same_at f c e x is = by (cases_eq c e)
  where
    by : (c ≡ e) ⊎ (c ≡ e → ⊥) → f e ≡ update nat_eq f c x e
    by (inl same) = subst (λ n. f n ≡ update nat_eq f c x n) same (sym is ∙ sym (updated_here f c x))
    by (inr apart) = sym (updated_other f c x e apart)

-- a begin on a connection whose upload is under way does nothing
module _ (P : Progress (List ℕ)) (reading c : ℕ) (token : Option (List ℕ)) (u : UploadCall) (busy : is_some (flight_of P.state c) ≡ true) where
  not_answered : answer_to of_bytes P (begins reading c token u) ≡ None
  not_answered = ap (λ b. if b then None else refusal_of (begin_step P reading c token u).fault) busy

  not_moved : (step of_bytes P (begins reading c token u)).state ≡ P.state
  not_moved = answer_state (answer_to of_bytes P (begins reading c token u)) (state_after of_bytes P (begins reading c token u))
      ∙ ap (λ b. (if b then P else with_state P (begin_step P reading c token u).state).state) busy

-- what came stays
stays_begun : (f : Flight) (a : Option Coming) (came : Option (List ℕ)) → IsUnderWay (Some f) a came → IsUnderWay (Some f) a (begun_on came None)
stays_begun f a came (b, is, len, came_is) = (b, is, len, ap (λ o. begun_on o None) came_is)

none_begun : (a : Option Coming) (came : Option (List ℕ)) (fault : Fault) → came ≡ None → begun_on came (Some fault) ≡ None
none_begun a came fault none = ap (λ o. begun_on o (Some fault)) none

first_begun : (came : Option (List ℕ)) → came ≡ None → begun_on came None ≡ Some []
first_begun came none = ap (λ o. begun_on o None) none

-- a look at the upload of a connection finds one, or finds none
pub is_there : (o : Option (Bor Flight)) (m : Option Flight) (b : Bool) → b ≡ is_some o → b ≡ true → option_copied o ≡ m → (f : Flight) × (m ≡ Some f)
is_there None m b is some same = absurd (false≢true (sym is ∙ some))
is_there (Some r) m b is some same = (r.now, sym same)

pub is_free : (o : Option (Bor Flight)) (m : Option Flight) (b : Bool) → b ≡ is_some o → b ≡ false → option_copied o ≡ m → m ≡ None
is_free None m b is none same = sym same
is_free (Some r) m b is none same = absurd (true≢false (sym is ∙ none))

pub fault_there : (o : Option Fault) (b : Bool) → b ≡ is_some o → b ≡ true → (f : Fault) × (o ≡ Some f)
fault_there None b is some = absurd (false≢true (sym is ∙ some))
fault_there (Some f) b is some = (f, refl)

pub no_fault : (o : Option Fault) (b : Bool) → b ≡ is_some o → b ≡ false → o ≡ None
no_fault None b is none = refl
no_fault (Some f) b is none = absurd (true≢false (sym is ∙ none))

-- none came where no upload is under way
none_came : (f : Option Flight) (a : Option Coming) (came : Option (List ℕ)) → f ≡ None → IsUnderWay f a came → came ≡ None
none_came f a came none under = subst (λ g. IsUnderWay g a came) none under

pub free_after_pass : (M N : State Extent) (t c : ℕ) → N ≡ with_daily_pass M t → flight_of M c ≡ None → flight_of N c ≡ None
free_after_pass M N t c is free = ap (λ X. flight_of X c) is ∙ day_keeps M t c ∙ free

module _ (s : Store) (d : DiskState) (P : Progress (List ℕ)) (came : Came) (read : Read) (is : IsStore s d P.state came read) (reading c : ℕ) (token : Option (List ℕ)) (u : UploadCall) (conn : IsConn c) where
  abbrev h : Holding
  h = is.holding

  pub busy_begin : (f : Flight) → flight_of s.core c ≡ Some f → IsBegun s d P reading c token u came read None
  busy_begin f there =
      let busy : is_some (flight_of P.state c) ≡ true = ap (λ (M : State (List ℕ)). is_some (flight_of M c)) is.state ∙ ap is_some there in
      let under : IsUnderWay (Some f) (h.came c) (came c) = subst (λ g. IsUnderWay g (h.came c) (came c)) there (is.uploads c conn) in
      record {
        answers = not_answered P reading c token u busy;
        after = upload_set s s d d P.state _ came read c (h.came c) (begun_on (came c) None) h is is.kept (not_moved P reading c token u busy ∙ is.state) (λ e. refl)
            (record { came = λ e. same_at h.came c e (h.came c) refl; others = λ e apart. refl; here = subst (λ g. IsUnderWay g (h.came c) (begun_on (came c) None)) (sym there) (stays_begun f (h.came c) (came c) under) });
      }

  module _ (t : ℕ) (t_is : t ≡ moment s.core reading) (mid : Store) (mid_is : mid.core ≡ with_daily_pass s.core t) (kept : Keeps d s mid) (free : flight_of s.core c ≡ None) where
    free_mid : flight_of mid.core c ≡ None
    free_mid = free_after_pass s.core mid.core t c mid_is free

    none : came c ≡ None
    none = none_came (flight_of s.core c) (h.came c) (came c) free (is.uploads c conn)

    module _ (N : State Extent) (fault : Option Fault) (begun_is : record { state = N; fault = fault } ≡ begin mid.core t c token u) where
      on_start : record { state = N; fault = fault } ≡ begin (start_at s.core reading) (moment s.core reading) c token u
      on_start = begun_is ∙ ap (λ M. begin M t c token u) mid_is ∙ ap (λ (m : ℕ). begin (with_daily_pass s.core m) m c token u) t_is

      state_is : N ≡ (begin mid.core t c token u).state
      state_is = ap (λ (b : Begun Extent). b.state) begun_is

      fault_is : (begin mid.core t c token u).fault ≡ fault
      fault_is = sym (ap (λ (b : Begun Extent). b.fault) begun_is)

      owned_is : contents_of mid.core ≡ contents_of N
      owned_is = sym (ap contents_of state_is ∙ ap (flat_map contents_in) (begin_versions mid.core t c token u))

      -- the machine over bytes begins so too
      on_bytes : ((step of_bytes P (begins reading c token u)).state ≡ state_by h.meaning N) × (answer_to of_bytes P (begins reading c token u) ≡ refusal_of fault)
      on_bytes = begun h.meaning is.kept.held.sizes s.core P is.state reading c token u N fault free on_start

      kept_by : (v : Contents) (k : Holding) → k.owned ≡ contents_of mid.core → IsHeld v d k → IsKept (record { core = N; contents = v }) d k
      kept_by v k owned held = record { held = held; owned = owned ∙ owned_is }

      elsewhere : (e : ℕ) → (c ≡ e → ⊥) → flight_of N e ≡ flight_of s.core e
      elsewhere e apart = ap (λ M. flight_of M e) state_is ∙ begin_keeps mid.core t c token u e apart ∙ ap (λ M. flight_of M e) mid_is ∙ day_keeps s.core t e

      pub refused : (first : Fault) → fault ≡ Some first → IsBegun (record { core = N; contents = mid.contents }) d P reading c token u came read fault
      refused first some =
          let gone : flight_of N c ≡ None = ap (λ M. flight_of M c) state_is ∙ begin_refuses mid.core t c token u first (fault_is ∙ some) c ∙ free_mid in
          record {
            answers = on_bytes.1;
            after = upload_set s (record { core = N; contents = mid.contents }) d d P.state _ came read c (h.came c) (begun_on (came c) fault) (owning mid.core h) is
                (kept_by mid.contents (owning mid.core h) refl (kept h [] is.kept.owned is.kept.held)) on_bytes.0 (λ e. refl)
                (record {
                  came = λ e. same_at h.came c e (h.came c) refl;
                  others = elsewhere;
                  here = subst (λ g. IsUnderWay g (h.came c) (begun_on (came c) fault)) (sym gone) (ap (begun_on (came c)) some ∙ none_begun (h.came c) (came c) first none);
                });
          }

      pub taken : fault ≡ None → (v : Contents) (number len : ℕ) → number ≡ c → len ≡ content_length u
          → IsHeld v d (record (owning mid.core h) { came = update nat_eq h.came number (Some (record { len = len; bytes = [] })) })
          → IsBegun (record { core = N; contents = v }) d P reading c token u came read None
      taken untaken v number len same is_len held =
          let first : Coming = record { len = len; bytes = [] } in
          let k : Holding = record (owning mid.core h) { came = update nat_eq h.came number (Some first) } in
          let there : flight_of N c ≡ Some (new_flight c token u) = ap (λ M. flight_of M c) state_is ∙ begin_sets mid.core t c token u (fault_is ∙ untaken) free_mid in
          record {
            answers = on_bytes.1 ∙ ap refusal_of untaken;
            after = upload_set s (record { core = N; contents = v }) d d P.state _ came read c (Some first) (begun_on (came c) None) k is
                (kept_by v k refl held) on_bytes.0 (λ e. refl)
                (record {
                  came = λ e. ap (λ (n : ℕ). update nat_eq h.came n (Some first) e) same;
                  others = elsewhere;
                  here = subst (λ g. IsUnderWay g (Some first) (begun_on (came c) None)) (sym there) (first, refl, is_len, first_begun (came c) none);
                });
          }
