-- The bytes that an accepted copy takes lie in the content of its source, which stands.
use Rattle.std.proofs.Common.{◌≡◌, ℕ, zero, suc, ◌+◌, ◌≤◌, ◌&&◌, ◌==◌, Bool, true, false, List, [], ◌∷◌, ◌++◌, All, Contains, Option, Some, None, option_map, length, flat_map, unwrap_or, refl, sym, ap, subst, ◌∙◌, arith}
use Rattle.std.proofs.lemmas.List.Elements.{All-weaker, All-contains_itself}
use Rattle.rule_table.specs.declared.fault.FaultKind.TheVariants.{NoBucket, NoFile}
use Rattle.b2_base.specs.declared.extent.Extent.{Extent}
use Rattle.b2_types.specs.declared.bucket.Bucket.{Bucket}
use Rattle.b2_types.specs.declared.call.ByteRange.{ByteRange}
use Rattle.b2_types.specs.declared.call.Call.TheVariants as call
use Rattle.b2_types.specs.declared.call.CopyFile.{CopyFile}
use Rattle.b2_types.specs.declared.call.CopyPart.{CopyPart}
use Rattle.b2_types.specs.declared.key.Key.{Key}
use Rattle.b2_types.specs.declared.record.VersionId.{VersionId}
use Rattle.b2_types.specs.declared.version.VersionOf.{VersionOf}
use Rattle.b2_model.specs.Checks.{Check, check, first_fault, some_and}
use Rattle.b2_model.specs.State.{State, Pieces, bucket_at, length_of}
use Rattle.b2_model.specs.Rows.{version_at}
use Rattle.b2_model.specs.Policy.{Caller, Judged, call_rules, caller_of, judged_call, name_rule, policy_rules, token_rules}
use Rattle.b2_model.specs.Plan.{Plan}
use Rattle.b2_model.specs.AskDownloads.{misses, span_of}
use Rattle.b2_model.specs.AskCopies.{copied_span, file_copy_on, part_copy_on}
use Rattle.machine_laws.proofs.Passed.{never_none, none_in, passed}
use Rattle.sound_states.proofs.Found.{found_has}
use Rattle.contents_agree.specs.ContentsOf.{contents_of}
use Rattle.contents_agree.proofs.Each.{Each, each_version}
use Rattle.download_laws.specs.Sent.{LiesIn}
use Rattle.download_laws.proofs.Spans.{all_bytes, in_content}
use Rattle.new_versions.specs.Decided.{extent_len}
use Rattle.core_decisions.specs.Decided.{at_extents}
use Rattle.core_decisions.proofs.Asked.{no_copy}
use Rattle.core_copies.specs.Copied.{IsAllowed, IsPlanOf}
use Rattle.core_copies.specs.declared.plan.CopyPlan.{CopyPlan}

-- ---- rules of which none fails

-- whether the rule at a place fails
abbrev fails_at : ℕ → List Check → Bool
fails_at n [] = false
fails_at zero (c ∷ cs) = c.fails
fails_at (suc n) (c ∷ cs) = fails_at n cs

none_at : (n : ℕ) (cs : List Check) → first_fault cs ≡ None → fails_at n cs ≡ false
none_at n [] none = refl
none_at zero (c ∷ cs) none = (passed c cs c.fails refl none).0
none_at (suc n) (c ∷ cs) none = none_at n cs (passed c cs c.fails refl none).1

-- a call whose rules all pass names what stands, and its own rules pass
all_pass : (M : State Extent) (t : ℕ) (j : Judged) (who : Caller) (p : Plan Extent) → first_fault (policy_rules M t j (λ g. true) who p.exists ++ p.own) ≡ None → (first_fault p.exists ≡ None) × (first_fault p.own ≡ None)
all_pass M t j who p none =
    let both = none_in (policy_rules M t j (λ g. true) who p.exists) p.own none in
    let named = none_in (token_rules t j.row.tokens (λ g. true) who ++ call_rules M j who ++ p.exists) (name_rule M j who) both.0 in
    ((none_in (token_rules t j.row.tokens (λ g. true) who ++ call_rules M j who) p.exists named.0).1, both.1)

-- ---- the span lies in the content

in_it : (length : ℕ) (r : Option ByteRange) → some_and (misses length) r ≡ false → LiesIn length (unwrap_or (option_map (span_of length) r) (record { at = 0; len = length }))
in_it length None hit = omega arith
in_it length (Some r) hit = in_content length r hit

module _ (K : Pieces Extent) (v : VersionOf Extent) where
  file_lies : (M : State Extent) (key : Option Key) (t : ℕ) (q : CopyFile) (b : Option Bucket)
      → first_fault (file_copy_on K M key t q b (Some v)).exists ≡ None → first_fault (file_copy_on K M key t q b (Some v)).own ≡ None → LiesIn (length_of K.size v.content) (copied_span K.size v q.range)
  file_lies M key t q None exists own = absurd (never_none (check NoBucket true) [] refl exists)
  file_lies M key t q (Some b) exists own = in_it (length_of K.size v.content) q.range (none_at 1 (file_copy_on K M key t q (Some b) (Some v)).own own)

  part_lies : (t : ℕ) (q : CopyPart) (large : Option (VersionOf Extent))
      → first_fault (part_copy_on K t q (Some v) large).exists ≡ None → first_fault (part_copy_on K t q (Some v) large).own ≡ None → LiesIn (length_of K.size v.content) (copied_span K.size v q.range)
  part_lies t q None exists own = absurd (never_none (check NoFile true) [] refl exists)
  part_lies t q (Some large) exists own = in_it (length_of K.size v.content) q.range (none_at 2 (part_copy_on K t q (Some v) (Some large)).own own)

abbrev pub PlanLies : CopyPlan → Type 0
PlanLies plan = LiesIn (length_of extent_len plan.content) plan.span

planned : (plan : CopyPlan) (v : VersionOf Extent) (range : Option ByteRange) → plan.content ≡ v.content → plan.span ≡ copied_span extent_len v range → LiesIn (length_of extent_len v.content) (copied_span extent_len v range) → PlanLies plan
planned plan v range content span lies =
    subst (λ pieces. LiesIn (length_of extent_len pieces) plan.span) (sym content) (subst (LiesIn (length_of extent_len v.content)) (sym span) lies)

pub file_in : (M : State Extent) (t : ℕ) (token : Option (List ℕ)) (q : CopyFile) (plan : CopyPlan) → IsAllowed M t token (call.CopyFile q) → IsPlanOf M q.source q.range plan → PlanLies plan
unfolding IsAllowed
file_in M t token q plan allowed is =
    let K = at_extents no_copy in
    let who = caller_of M token in
    let b = bucket_at M (unwrap_or q.bucket q.source.bucket) in
    let none = ap (λ o. first_fault (policy_rules M t (judged_call (call.CopyFile q)) (λ g. true) who (file_copy_on K M who.key t q b o).exists ++ (file_copy_on K M who.key t q b o).own)) (sym is.stands) ∙ allowed no_copy [] in
    let passes = all_pass M t (judged_call (call.CopyFile q)) who (file_copy_on K M who.key t q b (Some is.version)) none in
    planned plan is.version q.range is.content is.span (file_lies K is.version M who.key t q b passes.0 passes.1)

pub part_in : (M : State Extent) (t : ℕ) (token : Option (List ℕ)) (q : CopyPart) (plan : CopyPlan) → IsAllowed M t token (call.CopyPart q) → IsPlanOf M q.source q.range plan → PlanLies plan
unfolding IsAllowed
part_in M t token q plan allowed is =
    let K = at_extents no_copy in
    let who = caller_of M token in
    let large = version_at M q.bucket q.file in
    let none = ap (λ o. first_fault (policy_rules M t (judged_call (call.CopyPart q)) (λ g. true) who (part_copy_on K t q o large).exists ++ (part_copy_on K t q o large).own)) (sym is.stands) ∙ allowed no_copy [] in
    let passes = all_pass M t (judged_call (call.CopyPart q)) who (part_copy_on K t q (Some is.version) large) none in
    planned plan is.version q.range is.content is.span (part_lies K is.version t q large passes.0 passes.1)

-- ---- in bytes

pub lies_in_bytes : (f : Extent → List ℕ) → ((e : Extent) → length (f e) ≡ e.len) → (plan : CopyPlan) → PlanLies plan → plan.span.at + plan.span.len ≤ length (flat_map f plan.content)
lies_in_bytes f sizes plan lies =
    subst (λ n. LiesIn n plan.span) (sym (all_bytes extent_len f plan.content (λ k d within. sizes _))) lies

-- ---- the pieces are the state's

pub pieces_stand : (M : State Extent) (source : VersionId) (range : Option ByteRange) (plan : CopyPlan) → IsPlanOf M source range plan → All (Contains (contents_of M)) plan.content
pieces_stand M source range plan is =
    let Owned : VersionOf Extent → Type 0 = λ v. All (Contains (contents_of M)) v.content in
    let all = All-weaker (Each (Contains (contents_of M))) Owned (λ v each. each.0) M.versions (each_version (Contains (contents_of M)) M (All-contains_itself (contents_of M))) in
    subst (All (Contains (contents_of M))) (sym is.content) (found_has (λ w. w.bucket == source.bucket && w.num == source.num) Owned M.versions is.version all is.stands).1
