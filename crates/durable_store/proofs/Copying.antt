-- A copy inside a store is carried out.
use Rattle.std.proofs.Common.{◌≡◌, ◌+◌, ◌≤◌, ℕ, List, [], ◌∷◌, All, Contains, Option, Some, None, Err, length, take, drop, flat_map, if◌then◌else◌, refl, sym, ap, subst, ◌∙◌, arith}
use Rattle.std.proofs.lemmas.Bool.{ne_eqb}
use Rattle.std.proofs.lemmas.List.Elements.{All-weaker, All-contains}
use Rattle.sha1.specs.Sha1.{sha1}
use Rattle.b2_base.specs.Failure.{IfFault}
use Rattle.b2_base.specs.declared.extent.Extent.{Extent}
use Rattle.b2_base.specs.declared.failure.Or.{Or}
use Rattle.b2_types.specs.declared.answer.AnswerOf.{AnswerOf}
use Rattle.b2_types.specs.declared.answer.AnswerOf.TheVariants as answer
use Rattle.b2_types.specs.declared.call.ByteRange.{ByteRange}
use Rattle.b2_types.specs.declared.call.Call.{Call}
use Rattle.b2_types.specs.declared.call.Call.TheVariants as call
use Rattle.b2_types.specs.declared.call.CopyFile.{CopyFile}
use Rattle.b2_types.specs.declared.call.CopyPart.{CopyPart}
use Rattle.b2_types.specs.declared.fault.Fault.{Fault}
use Rattle.b2_types.specs.declared.record.ChangeOf.{ChangeOf}
use Rattle.b2_types.specs.declared.record.ChangeOf.TheVariants as change
use Rattle.b2_types.specs.declared.record.VersionId.{VersionId}
use Rattle.disk_model.specs.State.{DiskState}
use Rattle.b2_model.specs.Ask.{Outcome, ask, at_moment}
use Rattle.b2_model.specs.Body.{Body}
use Rattle.b2_model.specs.Contents.{answer_by, body_by, outcome_by, state_by}
use Rattle.b2_model.specs.Run.{of_bytes}
use Rattle.b2_model.specs.State.{State}
use Rattle.b2_model.specs.Stored.{applies_change}
use Rattle.sound_states.specs.Sound.{IsSound}
use Rattle.contents_agree.specs.ContentsOf.{contents_of}
use Rattle.contents_steps.proofs.Copied.{with_copy}
use Rattle.copy_calls.specs.declared.file.CopiedBytes.{CopiedBytes}
use Rattle.core_decisions.specs.Decided.{IsDecision, at_extents, outcome}
use Rattle.core_decisions.specs.declared.decision.Decision.{Decision}
use Rattle.core_decisions.specs.declared.decision.Decision.TheVariants as decision
use Rattle.core_copies.specs.Copied.{IsCopyDecision, IsPlanOf}
use Rattle.core_copies.specs.declared.plan.CopyPlan.{CopyPlan}
use Rattle.stored_contents.specs.Held.{Holding, IsHeld}
use Rattle.stored_contents.specs.Sealed.{HasCopied, IsCopied}
use Rattle.stored_contents.specs.declared.contents.Contents.{Contents}
use Rattle.stored_contents.specs.declared.uploads.Whole.{Whole}
use Rattle.stored_contents.proofs.Updates.{updated_other}
use Rattle.durable_store.specs.Carried.{IsCarried}
use Rattle.durable_store.specs.Copied.{HasCopy, IsRefusedFor, WritesCopy, after_decision, told_by}
use Rattle.durable_store.specs.Owned.{IsKept, owning}
use Rattle.durable_store.specs.Store.{IsConn}
use Rattle.durable_store.specs.declared.store.Store.{Store}
use Rattle.durable_store.proofs.OnBytes.{CopiesTo, IsRefusal, copies_to, file_refused, file_same, goes_along, just, part_refused, part_same, same_bytes}
use Rattle.durable_store.proofs.Spans.{PlanLies, lies_in_bytes, pieces_stand}

-- ---- the bytes of a plan are copied

-- what is asked of a plan before it is copied
pub planned : (s : Store) (d : DiskState) (h : Holding) (source : VersionId) (range : Option ByteRange) (plan : CopyPlan) → IsKept s d h → IsPlanOf s.core source range plan → PlanLies plan
    → All (Contains h.owned) plan.content × (plan.span.at + plan.span.len ≤ length (flat_map h.meaning plan.content))
planned s d h source range plan kept is lies =
    (subst (λ owned. All (Contains owned) plan.content) (sym kept.owned) (pieces_stand s.core source range plan is), lies_in_bytes h.meaning kept.held.sizes plan lies)

-- no connection has the number of copies
pub copy_made : (h k : Holding) (number : ℕ) (content : List ℕ) (w : Whole) (bytes : CopiedBytes) → number ≡ 4294967296 → bytes.content ≡ w.extent → bytes.digest ≡ w.digest → HasCopied h number content w k → HasCopy h content bytes k
copy_made h k number content w bytes above extent digest copy =
    let apart = λ (c : ℕ) (conn : IsConn c) (same : number ≡ c). absurd (omega (arith, conn, same, above)) in
    record {
      owned = copy.stored.owned ∙ ap (λ x. x ∷ h.owned) (sym extent);
      agrees = copy.stored.agrees;
      content_is = ap k.meaning extent ∙ copy.stored.content_is;
      digest = digest ∙ copy.stored.digest;
      came = λ c conn. ap (λ g. g c) copy.came ∙ updated_other h.came number None c (apart c conn);
      reads = λ c conn. ap (λ g. g c) copy.read ∙ ap (λ b. if b then [] else h.read c) (ne_eqb number c (apart c conn));
    }

pub copied_plan : (t : Contents) (d : DiskState) (h : Holding) (number : ℕ) (plan : CopyPlan) (pieces : List Extent) (o : Option Whole) (w : Whole) → number ≡ 4294967296 → pieces ≡ plan.content → o ≡ Some w
    → (All (Contains h.owned) pieces → plan.span.at + plan.span.len ≤ length (flat_map h.meaning pieces) → IsCopied t d h number (take plan.span.len (drop plan.span.at (flat_map h.meaning pieces))) o)
    → All (Contains h.owned) plan.content → plan.span.at + plan.span.len ≤ length (flat_map h.meaning plan.content)
    → (k : Holding) × HasCopy h (take plan.span.len (drop plan.span.at (flat_map h.meaning plan.content))) (record { content = w.extent; digest = w.digest }) k × IsHeld t d k
copied_plan t d h number plan pieces o w above same is made owned lies =
    let cut : List Extent → List ℕ = λ ps. take plan.span.len (drop plan.span.at (flat_map h.meaning ps)) in
    let there = made (subst (All (Contains h.owned)) (sym same) owned) (subst (λ ps. plan.span.at + plan.span.len ≤ length (flat_map h.meaning ps)) (sym same) lies) in
    let (k, copy, held) = subst (λ ps. IsCopied t d h number (cut ps) (Some w)) same (subst (IsCopied t d h number (cut pieces)) is there) in
    (k, copy_made h k number (cut plan.content) w (record { content = w.extent; digest = w.digest }) above refl refl copy, held)

-- ---- what is written

-- whether a change applies does not hang on the moment
moment_apart : (M : State Extent) (t : ℕ) (ch : ChangeOf Extent) → applies_change (at_moment M t) ch ≡ applies_change M ch
moment_apart M t (change.Settings s) = refl
moment_apart M t other = refl

pub file_writes : (M N : State Extent) (t : ℕ) (token : Option (List ℕ)) (q : CopyFile) (bytes : CopiedBytes) (d : Decision) → IsSound M → N ≡ at_moment M t
    → IsCopyDecision M t token (call.CopyFile q) q.source q.range bytes d → WritesCopy N bytes.content d
unfolding IsCopyDecision
file_writes M N t token q bytes (decision.Reply told) sound moved is = tt
file_writes M N t token q bytes (decision.Write r told) sound moved is =
    let (applies, fit, stored) = is.0.0 sound tt in
    (fit, ap (λ K. applies_change K r.change) moved ∙ moment_apart M t r.change ∙ applies, is.1)

pub part_writes : (M N : State Extent) (t : ℕ) (token : Option (List ℕ)) (q : CopyPart) (bytes : CopiedBytes) (d : Decision) → IsSound M → N ≡ at_moment M t
    → IsCopyDecision M t token (call.CopyPart q) q.source q.range bytes d → WritesCopy N bytes.content d
unfolding IsCopyDecision
part_writes M N t token q bytes (decision.Reply told) sound moved is = tt
part_writes M N t token q bytes (decision.Write r told) sound moved is =
    let (applies, fit, stored) = is.0.0 sound tt in
    (fit, ap (λ K. applies_change K r.change) moved ∙ moment_apart M t r.change ∙ applies, is.1)

-- ---- what is answered

-- these bytes as the copy of the machine
abbrev copy_body_of : CopiedBytes → Body Extent
copy_body_of bytes = record { content = bytes.content; digest = bytes.digest; told = None }

decided : (M : State Extent) (t : ℕ) (token : Option (List ℕ)) (c : Call) (source : VersionId) (range : Option ByteRange) (bytes : CopiedBytes) (d : Decision) (words : List ℕ)
    → IsCopyDecision M t token c source range bytes d → ask (at_extents (just (copy_body_of bytes))) M t words token c ≡ outcome M t words d
unfolding IsCopyDecision
decided M t token c source range bytes d words is = is.2 (just (copy_body_of bytes)) words (λ v stands. record { content = refl; digest = refl })

came_out : (M : State Extent) (t : ℕ) (words : List ℕ) (d : Decision) → outcome M t words d ≡ record { state = after_decision (at_moment M t) d; answer = told_by d; words = words }
came_out M t words (decision.Reply told) = refl
came_out M t words (decision.Write r told) = refl

module _ (s u : Store) (d e : DiskState) (h k : Holding) (t : ℕ) (words : List ℕ) (token : Option (List ℕ)) (plan : CopyPlan) (bytes : CopiedBytes) (made : Decision) (told : AnswerOf Extent)
    (kept : IsKept s d h)
    (copy : HasCopy h (take plan.span.len (drop plan.span.at (flat_map h.meaning plan.content))) bytes k)
    (sizes : (x : Extent) → length (k.meaning x) ≡ x.len)
    (state : u.core ≡ after_decision (at_moment s.core t) made) (answers : told ≡ told_by made)
    (held : IsHeld u.contents e (owning u.core k)) where
  abbrev M : State Extent
  M = s.core

  abbrev f : Extent → List ℕ
  f = k.meaning

  abbrev body : Body Extent
  body = copy_body_of bytes

  agrees : All (λ x. h.meaning x ≡ f x) (contents_of M)
  agrees = subst (All (λ x. h.meaning x ≡ f x)) kept.owned copy.agrees

  -- the bytes of the pieces are what they were
  body_is : (source : VersionId) (range : Option ByteRange) (is : IsPlanOf M source range plan)
      → body_by f body ≡ record { content = take plan.span.len (drop plan.span.at (flat_map f is.version.content)); digest = sha1 (take plan.span.len (drop plan.span.at (flat_map f is.version.content))); told = None }
  body_is source range is =
      let agree = All-weaker (Contains (contents_of M)) (λ x. h.meaning x ≡ f x) (λ x at. All-contains (λ x. h.meaning x ≡ f x) (contents_of M) x agrees at) plan.content (pieces_stand M source range plan is) in
      let same : flat_map h.meaning plan.content ≡ flat_map f is.version.content = same_bytes h.meaning f plan.content agree ∙ ap (flat_map f) is.content in
      let cut : List ℕ → List ℕ = λ xs. take plan.span.len (drop plan.span.at xs) in
      let content : f bytes.content ≡ cut (flat_map f is.version.content) = copy.content_is ∙ ap cut same in
      let digest : bytes.digest ≡ sha1 (cut (flat_map f is.version.content)) = copy.digest ∙ ap (λ xs. sha1 (cut xs)) same in
      λ i. record { content = content i; digest = digest i; told = None }

  copied : (source : VersionId) (range : Option ByteRange) → IsPlanOf M source range plan → CopiesTo (state_by f M) source range (body_by f body)
  copied source range is = copies_to f sizes M source range is.version plan.span body is.stands is.span (body_is source range is)

  told_so : (c : Call) (source : VersionId) (range : Option ByteRange) → IsCopyDecision M t token c source range bytes made → ask of_bytes (state_by f M) t words token c ≡ ask (with_copy (body_by f body) of_bytes) (state_by f M) t words token c
      → ask of_bytes (state_by f M) t words token c ≡ record { state = state_by f u.core; answer = answer_by f told; words = words }
  told_so c source range is same =
      same
      ∙ goes_along f sizes body M t words token c
      ∙ ap (outcome_by f) (decided M t token c source range bytes made words is ∙ came_out M t words made)
      ∙ (λ i. record { state = state_by f (sym state i); answer = answer_by f (sym answers i); words = words })

  carried : (c : Call) → ask of_bytes (state_by f M) t words token c ≡ record { state = state_by f u.core; answer = answer_by f told; words = words } → IsCarried M h t words words token c u e told
  carried c asked = record {
    holding = owning u.core k;
    kept = record { held = held; owned = refl };
    agrees = agrees;
    came = copy.came;
    reads = copy.reads;
    asked = asked;
  }

  pub file_carried : (q : CopyFile) → IsPlanOf M q.source q.range plan → IsCopyDecision M t token (call.CopyFile q) q.source q.range bytes made → IsCarried M h t words words token (call.CopyFile q) u e told
  file_carried q is decides = carried (call.CopyFile q) (told_so (call.CopyFile q) q.source q.range decides (file_same (state_by f M) t words token (body_by f body) q (copied q.source q.range is)))

  pub part_carried : (q : CopyPart) → IsPlanOf M q.source q.range plan → IsCopyDecision M t token (call.CopyPart q) q.source q.range bytes made → IsCarried M h t words words token (call.CopyPart q) u e told
  part_carried q is decides = carried (call.CopyPart q) (told_so (call.CopyPart q) q.source q.range decides (part_same (state_by f M) t words token (body_by f body) q (copied q.source q.range is)))

-- ---- a copy that is refused before anything is copied

module _ (s u : Store) (d : DiskState) (h : Holding) (t : ℕ) (words : List ℕ) (token : Option (List ℕ)) (error : Or Fault) (told : AnswerOf Extent) (kept : IsKept s d h) (refused : IsRefusedFor s t error u told) where
  abbrev some_body : Body Extent
  some_body = record { content = record { at = 0; len = 0 }; digest = []; told = None }

  abbrev bytes_state : State (List ℕ)
  bytes_state = state_by h.meaning s.core

  -- each refusal of the machine over extents is one of the machine over bytes
  abbrev Unmade : Call → Type 0
  Unmade c = IsRefusal (ask (with_copy (body_by h.meaning some_body) of_bytes) bytes_state t words token c).answer → ask of_bytes bytes_state t words token c ≡ ask (with_copy (body_by h.meaning some_body) of_bytes) bytes_state t words token c

  refused_so : (c : Call) → IfFault {T = CopyPlan} (Err error) (λ f. IsDecision s.core t token c (decision.Reply (answer.Refused f))) → Unmade c → IsCarried s.core h t words words token c u d told
  unfolding IsDecision
  refused_so c denied unmade =
      let f = h.meaning in
      let is = subst (λ (e : Or Fault). IfFault {T = CopyPlan} (Err e) (λ f. IsDecision s.core t token c (decision.Reply (answer.Refused f)))) refused.error_is denied in
      let made = goes_along f kept.held.sizes some_body s.core t words token c ∙ ap (outcome_by f) (is.1 (just some_body) words) in
      record {
        holding = h;
        kept = record { held = subst (λ x. IsHeld x d h) (sym refused.contents) kept.held; owned = kept.owned ∙ sym (ap contents_of refused.state) };
        agrees = λ k x within. refl;
        came = λ c conn. refl;
        reads = λ c conn. refl;
        asked = unmade (subst IsRefusal (sym (ap (λ (o : Outcome (List ℕ)). o.answer) made)) tt)
            ∙ made
            ∙ (λ i. record { state = state_by f (sym refused.state i); answer = answer_by f (sym refused.answers i); words = words });
      }

  pub file_refusal : (q : CopyFile) → IfFault {T = CopyPlan} (Err error) (λ f. IsDecision s.core t token (call.CopyFile q) (decision.Reply (answer.Refused f))) → IsCarried s.core h t words words token (call.CopyFile q) u d told
  file_refusal q denied = refused_so (call.CopyFile q) denied (file_refused bytes_state t words (body_by h.meaning some_body) token q)

  pub part_refusal : (q : CopyPart) → IfFault {T = CopyPlan} (Err error) (λ f. IsDecision s.core t token (call.CopyPart q) (decision.Reply (answer.Refused f))) → IsCarried s.core h t words words token (call.CopyPart q) u d told
  part_refusal q denied = refused_so (call.CopyPart q) denied (part_refused bytes_state t words (body_by h.meaning some_body) token q)
