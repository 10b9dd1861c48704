-- The begin of an upload: the rules of the policy stand first, and then its own.
use Rattle.std.proofs.Common.{◌≡◌, ℕ, Bool, true, false, List, [], ◌∷◌, ◌++◌, Option, Some, None, find, map, bytes_eq, cond, refl, sym, ap, subst, ◌∙◌}
use Rattle.std.specs.Option.{is_none, is_some}
use Rattle.std.specs.List.{list_any}
use Rattle.std.proofs.lemmas.Option.{none-some}
use Rattle.std.proofs.lemmas.Slice.Eq.{bytes_eq-Decides}
use Rattle.b2_base.specs.declared.extent.Extent.{Extent}
use Rattle.rule_table.specs.declared.fault.FaultKind.{FaultKind}
use Rattle.rule_table.specs.declared.fault.FaultKind.TheVariants.{NoBucket, NoFile}
use Rattle.b2_types.specs.declared.fault.BadCall.{BadCall}
use Rattle.b2_types.specs.declared.fault.Fault.{Fault}
use Rattle.b2_types.specs.declared.key.Flight.{Flight}
use Rattle.b2_types.specs.declared.key.Grant.{Grant}
use Rattle.b2_types.specs.declared.upload.FileUpload.{FileUpload}
use Rattle.b2_types.specs.declared.upload.PartUpload.{PartUpload}
use Rattle.b2_types.specs.declared.upload.UploadCall.{UploadCall}
use Rattle.b2_types.specs.declared.upload.UploadCall.TheVariants as upload
use Rattle.b2_types.specs.Need.{need}
use Rattle.b2_model.specs.Checks.{Check, check, first_fault, or_else}
use Rattle.b2_model.specs.LiveGrant.{grant_at}
use Rattle.b2_model.specs.Policy.{Caller, call_rules, caller_of, judged_upload, name_rule, token_rules}
use Rattle.b2_model.specs.Rows.{version_at}
use Rattle.b2_model.specs.State.{State, bucket_at}
use Rattle.b2_model.specs.UploadSteps.{begin_refusals, begin_rules, busy, fits, target_of, upload_rules}
use Rattle.auth_grants.specs.Tokens.{flight_at, held_in, held_of, tokens_of}
use Rattle.auth_grants.proofs.Uploads.{is_busy}
use Rattle.core_policy.specs.Rules.{standing}
use Rattle.core_policy.proofs.Order.{then_next}
use Rattle.sound_states.specs.Sound.{IsSound, IsUnderWay}
use Rattle.sound_states.proofs.Ascending.{all_from}
use Rattle.sound_states.proofs.Found.{none_of_all}

-- ---- what is busy

-- a token that was not given has no upload
no_held : (M : State Extent) (text : List ℕ) (gs : List Grant) → find (λ g. bytes_eq g.text text) gs ≡ None → held_in (map (held_of M) gs) text ≡ None
no_held M text [] none = refl
no_held M text (g ∷ gs) none = here (bytes_eq g.text text) refl none (no_held M text gs)
  where
    here : (b : Bool) → bytes_eq g.text text ≡ b → cond b (Some g) (find (λ g. bytes_eq g.text text) gs) ≡ None
        → (find (λ g. bytes_eq g.text text) gs ≡ None → held_in (map (held_of M) gs) text ≡ None) → held_in (map (held_of M) (g ∷ gs)) text ≡ None
    here true is none rest = absurd (none-some g (sym none))
    here false is none rest = rw is (rest none)

never : (M : State Extent) (text : List ℕ) (f : Flight) → grant_at M text ≡ None → IsUnderWay M.grants f → (b : Bool) → bytes_eq f.token text ≡ b → b ≡ false
never M text f none is true same =
    absurd (none-some is.token (sym none ∙ subst (λ x. find (λ g. bytes_eq g.text x) M.grants ≡ Some is.token) ((bytes_eq-Decides f.token text).0 same) is.there))
never M text f none is false same = refl

pub busy_as : (M : State Extent) (text : List ℕ) → IsSound M → is_some (flight_at (tokens_of M) text) ≡ (busy M (Some text)).fails
busy_as M text sound = by (grant_at M text) refl
  where
    by : (o : Option Grant) → grant_at M text ≡ o → is_some (flight_at (tokens_of M) text) ≡ (busy M (Some text)).fails
    by None none =
        rw (no_held M text M.grants none)
        (sym (none_of_all (λ f. bytes_eq f.token text) M.flights
        (all_from (IsUnderWay M.grants) (λ f. bytes_eq f.token text ≡ false) M.flights (λ f is. never M text f none is (bytes_eq f.token text) refl) sound.flights.under_way)))
    by (Some g) found = sym (is_busy M text (ap is_some found))

pub none_busy : (flights : List Flight) → list_any (λ f. false) flights ≡ false
none_busy [] = refl
none_busy (f ∷ flights) = none_busy flights

-- ---- the first rule that refuses it

-- what is to stand is told in two ways
same_standing : {X : Type 0} (front names : List Check) (kind : FaultKind) (o : Option X)
    → first_fault (front ++ (check kind (is_none o) ∷ []) ++ names) ≡ first_fault (front ++ standing kind o ++ names)
same_standing front names kind None = refl
same_standing front names kind (Some x) =
    then_next (front ++ check kind false ∷ []) names
    ∙ ap (λ o. or_else o (first_fault names)) (then_next front (check kind false ∷ []) ∙ sym (then_next front []))
    ∙ sym (then_next (front ++ []) names)

-- the rules of the policy, and then the others
in_order : {X : Type 0} (front names own : List Check) (kind : FaultKind) (o : Option X) (policy rest : Option Fault) → policy ≡ first_fault (front ++ standing kind o ++ names) → rest ≡ first_fault own
    → or_else policy rest ≡ first_fault (front ++ (check kind (is_none o) ∷ []) ++ names ++ own)
in_order front names own kind o policy rest is more =
    ap (λ p. or_else p rest) (is ∙ sym (same_standing front names kind o))
    ∙ ap (or_else (first_fault (front ++ (check kind (is_none o) ∷ []) ++ names))) more
    ∙ sym (then_next (front ++ (check kind (is_none o) ∷ []) ++ names) own)

pub file_begins : (M : State Extent) (t : ℕ) (token : Option (List ℕ)) (u : FileUpload) (who : Caller) (policy rest : Option Fault) → who ≡ caller_of M token
    → policy ≡ first_fault (upload_rules M t who (upload.File u) (standing NoBucket (bucket_at M u.bucket))) → rest ≡ first_fault (begin_rules M t token (upload.File u))
    → or_else policy rest ≡ first_fault (begin_refusals M t token (upload.File u))
file_begins M t token u who policy rest asks is more =
    let j = judged_upload (upload.File u) in
    let front : Caller → List Check = λ w. token_rules t j.row.tokens (fits (target_of (upload.File u))) w ++ call_rules M j w in
    in_order (front (caller_of M token)) (name_rule M j (caller_of M token)) (begin_rules M t token (upload.File u)) NoBucket (bucket_at M u.bucket) policy rest
    (is ∙ ap (λ w. first_fault (front w ++ standing NoBucket (bucket_at M u.bucket) ++ name_rule M j w)) asks) more

pub part_begins : (M : State Extent) (t : ℕ) (token : Option (List ℕ)) (u : PartUpload) (who : Caller) (policy rest : Option Fault) → who ≡ caller_of M token
    → policy ≡ first_fault (upload_rules M t who (upload.Part u) (standing NoFile (version_at M u.bucket u.file))) → rest ≡ first_fault (begin_rules M t token (upload.Part u))
    → or_else policy rest ≡ first_fault (begin_refusals M t token (upload.Part u))
part_begins M t token u who policy rest asks is more =
    let j = judged_upload (upload.Part u) in
    let front : Caller → List Check = λ w. token_rules t j.row.tokens (fits (target_of (upload.Part u))) w ++ call_rules M j w in
    in_order (front (caller_of M token)) (name_rule M j (caller_of M token)) (begin_rules M t token (upload.Part u)) NoFile (version_at M u.bucket u.file) policy rest
    (is ∙ ap (λ w. first_fault (front w ++ standing NoFile (version_at M u.bucket u.file) ++ name_rule M j w)) asks) more

pub bad_begins : (M : State Extent) (t : ℕ) (token : Option (List ℕ)) (c : BadCall) (who : Caller) (policy : Option Fault) → who ≡ caller_of M token
    → policy ≡ first_fault (token_rules t (need c.name).tokens (fits c.target) who) → or_else policy (Some c.fault) ≡ first_fault (begin_refusals M t token (upload.Bad c))
bad_begins M t token c who policy asks is =
    ap (λ p. or_else p (Some c.fault)) (is ∙ ap (λ w. first_fault (token_rules t (need c.name).tokens (fits c.target) w)) asks)
    ∙ sym (then_next (token_rules t (need c.name).tokens (fits c.target) (caller_of M token)) (begin_rules M t token (upload.Bad c)))

-- no upload begins without a token
pub no_token : (M : State Extent) (t : ℕ) (u : UploadCall) → first_fault (begin_refusals M t None u) ≡ None → ⊥
no_token M t (upload.File u) none = none-some _ (sym none)
no_token M t (upload.Part u) none = none-some _ (sym none)
no_token M t (upload.Bad c) none = none-some _ (sym none)
