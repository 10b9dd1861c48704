-- A copy over extents is one over bytes, where each extent stands for bytes of its length.
use Rattle.std.proofs.Common.{◌≡◌, ℕ, List, [], ◌∷◌, ◌++◌, All, Option, Some, None, length, map, flat_map, take, drop, option_map, unwrap_or, refl, sym, ap, subst, ◌∙◌}
use Rattle.std.specs.Prelude.{⊤}
use Rattle.std.proofs.lemmas.List.Elements.{All-head, All-tail}
use Rattle.std.proofs.lemmas.List.Folds.{flat_map-map}
use Rattle.sha1.specs.Sha1.{sha1}
use Rattle.b2_base.specs.declared.extent.Extent.{Extent}
use Rattle.b2_types.specs.declared.answer.AnswerOf.{AnswerOf}
use Rattle.b2_types.specs.declared.answer.AnswerOf.TheVariants as answer
use Rattle.b2_types.specs.declared.answer.Span.{Span}
use Rattle.b2_types.specs.declared.bucket.Bucket.{Bucket}
use Rattle.b2_types.specs.declared.call.ByteRange.{ByteRange}
use Rattle.b2_types.specs.declared.call.Call.{Call}
use Rattle.b2_types.specs.declared.call.Call.TheVariants as call
use Rattle.b2_types.specs.declared.call.CopyFile.{CopyFile}
use Rattle.b2_types.specs.declared.call.CopyPart.{CopyPart}
use Rattle.b2_types.specs.declared.fault.Fault.{Fault}
use Rattle.b2_types.specs.declared.key.Key.{Key}
use Rattle.b2_types.specs.declared.record.VersionId.{VersionId}
use Rattle.b2_types.specs.declared.version.VersionOf.{VersionOf}
use Rattle.b2_model.specs.Body.{Body, copy_of}
use Rattle.b2_model.specs.Checks.{first_fault}
use Rattle.b2_model.specs.State.{State, bucket_at}
use Rattle.b2_model.specs.Rows.{version_at}
use Rattle.b2_model.specs.Policy.{Caller, caller_of}
use Rattle.b2_model.specs.AskDownloads.{span_of}
use Rattle.b2_model.specs.AskCopies.{copied_span, copy_body, file_copy, file_copy_on, part_copy, part_copy_on}
use Rattle.b2_model.specs.Ask.{ask, outcome_or_refusal, refusals}
use Rattle.b2_model.specs.Contents.{body_by, outcome_by, state_by, version_by}
use Rattle.b2_model.specs.Run.{of_bytes}
use Rattle.sound_states.proofs.Found.{same_found}
use Rattle.content_laws.proofs.Carried.{length_of-by, version_at-by}
use Rattle.content_laws.proofs.CarriedAsk.{ask_by}
use Rattle.contents_steps.proofs.Copied.{with_copy}
use Rattle.new_versions.specs.Decided.{extent_len}
use Rattle.core_decisions.specs.Decided.{Copies, at_extents}

-- ---- a call that copies depends on the one copy that it makes

-- each copy of the range of the source, where it stands, is this
abbrev pub CopiesTo : State (List ℕ) → VersionId → Option ByteRange → Body (List ℕ) → Type 0
CopiesTo N source range body = (v : VersionOf (List ℕ)) → version_at N source.bucket source.num ≡ Some v → copy_body of_bytes v range ≡ body

module _ (N : State (List ℕ)) (t : ℕ) (words : List ℕ) (token : Option (List ℕ)) (body : Body (List ℕ)) where
  file_on : (key : Option Key) (q : CopyFile) (b : Option Bucket) (o : Option (VersionOf (List ℕ))) → ((v : VersionOf (List ℕ)) → o ≡ Some v → copy_body of_bytes v q.range ≡ body)
      → file_copy_on of_bytes N key t q b o ≡ file_copy_on (with_copy body of_bytes) N key t q b o
  file_on key q None o same = refl
  file_on key q (Some b) None same = refl
  file_on key q (Some b) (Some v) same = ap (file_copy length N key t q b v) (same v refl)

  part_on : (q : CopyPart) (o large : Option (VersionOf (List ℕ))) → ((v : VersionOf (List ℕ)) → o ≡ Some v → copy_body of_bytes v q.range ≡ body)
      → part_copy_on of_bytes t q o large ≡ part_copy_on (with_copy body of_bytes) t q o large
  part_on q None large same = refl
  part_on q (Some v) None same = refl
  part_on q (Some v) (Some large) same = ap (part_copy length t q v large) (same v refl)

  pub file_same : (q : CopyFile) → CopiesTo N q.source q.range body → ask of_bytes N t words token (call.CopyFile q) ≡ ask (with_copy body of_bytes) N t words token (call.CopyFile q)
  file_same q same = ap (λ p. outcome_or_refusal N t words p (first_fault (refusals N t (caller_of N token) (call.CopyFile q) p)))
      (file_on (caller_of N token).key q (bucket_at N (unwrap_or q.bucket q.source.bucket)) (version_at N q.source.bucket q.source.num) same)

  pub part_same : (q : CopyPart) → CopiesTo N q.source q.range body → ask of_bytes N t words token (call.CopyPart q) ≡ ask (with_copy body of_bytes) N t words token (call.CopyPart q)
  part_same q same = ap (λ p. outcome_or_refusal N t words p (first_fault (refusals N t (caller_of N token) (call.CopyPart q) p)))
      (part_on q (version_at N q.source.bucket q.source.num) (version_at N q.bucket q.file) same)

-- ---- a refusal depends on no copy

abbrev pub IsRefusal : AnswerOf (List ℕ) → Type 0
IsRefusal (answer.Refused fault) = ⊤
IsRefusal other = ⊥

module _ (N : State (List ℕ)) (t : ℕ) (words : List ℕ) (body : Body (List ℕ)) where
  file_unmade : (key : Option Key) (q : CopyFile) (b : Option Bucket) (o : Option (VersionOf (List ℕ))) (told : Option Fault) → IsRefusal (outcome_or_refusal N t words (file_copy_on (with_copy body of_bytes) N key t q b o) told).answer
      → outcome_or_refusal N t words (file_copy_on of_bytes N key t q b o) told ≡ outcome_or_refusal N t words (file_copy_on (with_copy body of_bytes) N key t q b o) told
  file_unmade key q b o (Some fault) refused = refl
  file_unmade key q None o None refused = refl
  file_unmade key q (Some b) None None refused = refl
  file_unmade key q (Some b) (Some v) None refused = absurd refused

  part_unmade : (q : CopyPart) (o large : Option (VersionOf (List ℕ))) (told : Option Fault) → IsRefusal (outcome_or_refusal N t words (part_copy_on (with_copy body of_bytes) t q o large) told).answer
      → outcome_or_refusal N t words (part_copy_on of_bytes t q o large) told ≡ outcome_or_refusal N t words (part_copy_on (with_copy body of_bytes) t q o large) told
  part_unmade q o large (Some fault) refused = refl
  part_unmade q None large None refused = refl
  part_unmade q (Some v) None None refused = refl
  part_unmade q (Some v) (Some large) None refused = absurd refused

  file_rules : (who : Caller) (q : CopyFile) (b : Option Bucket) (o : Option (VersionOf (List ℕ)))
      → refusals N t who (call.CopyFile q) (file_copy_on of_bytes N who.key t q b o) ≡ refusals N t who (call.CopyFile q) (file_copy_on (with_copy body of_bytes) N who.key t q b o)
  file_rules who q None o = refl
  file_rules who q (Some b) None = refl
  file_rules who q (Some b) (Some v) = refl

  part_rules : (who : Caller) (q : CopyPart) (o large : Option (VersionOf (List ℕ)))
      → refusals N t who (call.CopyPart q) (part_copy_on of_bytes t q o large) ≡ refusals N t who (call.CopyPart q) (part_copy_on (with_copy body of_bytes) t q o large)
  part_rules who q None large = refl
  part_rules who q (Some v) None = refl
  part_rules who q (Some v) (Some large) = refl

  module _ (token : Option (List ℕ)) where
    pub file_refused : (q : CopyFile) → IsRefusal (ask (with_copy body of_bytes) N t words token (call.CopyFile q)).answer → ask of_bytes N t words token (call.CopyFile q) ≡ ask (with_copy body of_bytes) N t words token (call.CopyFile q)
    file_refused q refused =
        let who = caller_of N token in
        let b = bucket_at N (unwrap_or q.bucket q.source.bucket) in
        let o = version_at N q.source.bucket q.source.num in
        ap (λ checks. outcome_or_refusal N t words (file_copy_on of_bytes N who.key t q b o) (first_fault checks)) (file_rules who q b o)
        ∙ file_unmade who.key q b o (first_fault (refusals N t who (call.CopyFile q) (file_copy_on (with_copy body of_bytes) N who.key t q b o))) refused

    pub part_refused : (q : CopyPart) → IsRefusal (ask (with_copy body of_bytes) N t words token (call.CopyPart q)).answer → ask of_bytes N t words token (call.CopyPart q) ≡ ask (with_copy body of_bytes) N t words token (call.CopyPart q)
    part_refused q refused =
        let who = caller_of N token in
        let o = version_at N q.source.bucket q.source.num in
        let large = version_at N q.bucket q.file in
        ap (λ checks. outcome_or_refusal N t words (part_copy_on of_bytes t q o large) (first_fault checks)) (part_rules who q o large)
        ∙ part_unmade q o large (first_fault (refusals N t who (call.CopyPart q) (part_copy_on (with_copy body of_bytes) t q o large))) refused

-- ---- what the copy is over bytes

-- each copy is this one
abbrev pub just : Body Extent → Copies
just body pieces at len = body

-- a copy of these bytes
abbrev bytes_body : List ℕ → Body (List ℕ)
bytes_body bytes = record { content = bytes; digest = sha1 bytes; told = None }

module _ (f : Extent → List ℕ) (sizes : (e : Extent) → length (f e) ≡ e.len) where
  span_same : (v : VersionOf Extent) (range : Option ByteRange) → copied_span length (version_by f v) range ≡ copied_span extent_len v range
  span_same v range = ap (λ n. unwrap_or (option_map (span_of n) range) (record { at = 0; len = n })) (length_of-by f length extent_len sizes v.content)

  copy_same : (v : VersionOf Extent) (range : Option ByteRange) (span : Span) → span ≡ copied_span extent_len v range
      → copy_body of_bytes (version_by f v) range ≡ bytes_body (take span.len (drop span.at (flat_map f v.content)))
  copy_same v range span is =
      ap (λ (s : Span). copy_of (map f v.content) s.at s.len) (span_same v range ∙ sym is)
      ∙ ap (λ xs. bytes_body (take span.len (drop span.at xs))) (flat_map-map (λ x. x) f v.content)

  -- where the version stands, the copy over bytes is that of its bytes
  pub copies_to : (M : State Extent) (source : VersionId) (range : Option ByteRange) (v : VersionOf Extent) (span : Span) (body : Body Extent) → version_at M source.bucket source.num ≡ Some v → span ≡ copied_span extent_len v range
      → body_by f body ≡ bytes_body (take span.len (drop span.at (flat_map f v.content))) → CopiesTo (state_by f M) source range (body_by f body)
  copies_to M source range v span body stands span_is body_is = λ w there.
      let both : Some (version_by f v) ≡ Some w = sym (version_at-by f M source.bucket source.num ∙ ap (option_map (version_by f)) stands) ∙ there in
      subst (λ x. copy_body of_bytes x range ≡ body_by f body) (same_found (version_by f v) w both)
      (copy_same v range span span_is ∙ sym body_is)

  -- the machine over extents goes along with it
  pub goes_along : (body : Body Extent) (M : State Extent) (t : ℕ) (words : List ℕ) (token : Option (List ℕ)) (c : Call)
      → ask (with_copy (body_by f body) of_bytes) (state_by f M) t words token c ≡ outcome_by f (ask (at_extents (just body)) M t words token c)
  goes_along body M t words token c = ask_by f (at_extents (just body)) (with_copy (body_by f body) of_bytes) (record { size = sizes; copy = λ pieces at len. refl }) M t words token c

-- ---- meanings that agree

pub same_bytes : (f g : Extent → List ℕ) (pieces : List Extent) → All (λ e. f e ≡ g e) pieces → flat_map f pieces ≡ flat_map g pieces
same_bytes f g [] agree = refl
same_bytes f g (e ∷ es) agree =
    ap (λ x. x ++ flat_map f es) (All-head (λ e. f e ≡ g e) e es agree) ∙ ap (λ xs. g e ++ xs) (same_bytes f g es (All-tail (λ e. f e ≡ g e) e es agree))
