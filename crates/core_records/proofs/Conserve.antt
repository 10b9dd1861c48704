-- What a state holds is what it holds after a version went, and what that held.
use Rattle.std.proofs.Common.{◌≡◌, ℕ, ◌<◌, ◌==◌, nat_lt, Bool, true, false, not, List, [], ◌∷◌, ◌++◌, find, filter, flat_map, subst, sym, ap, ⊎_elim, refl, append_assoc, arith}
use Rattle.std.specs.List.{Contains}
use Rattle.std.specs.List.Sorted.{IsPermutation}
use Rattle.std.proofs.lemmas.Bool.{and_parts, and_right, cases_Bool, eqb-true}
use Rattle.std.proofs.lemmas.Bool.Decides.{nat_tests}
use Rattle.std.proofs.lemmas.List.Sorted.{IsPermutation-refl, IsPermutation-trans, IsPermutation-append_left, IsPermutation-append_right, IsPermutation-append_comm}
use Rattle.b2_types.specs.declared.version.VersionOf.{VersionOf}
use Rattle.b2_types.specs.declared.record.VersionId.{VersionId}
use Rattle.b2_model.specs.Lists.{put_by}
use Rattle.b2_model.specs.State.{State}
use Rattle.b2_model.specs.Version.{is_it, marker, with_version, without_version}
use Rattle.contents_agree.specs.ContentsOf.{contents_in, contents_of}
use Rattle.index_rows.specs.OwnRows.{AreNumbered}
use Rattle.index_rows.proofs.Members.{here, later, pairs_head, pairs_tail}
use Rattle.core_records.specs.GivenUp.{Conserves, held, held_at}

module _ {C : Type 0} where
  none_there : (p : VersionOf C → Bool) (vs : List (VersionOf C)) → ((w : VersionOf C) → Contains vs w → p w ≡ false) → filter (λ w. not (p w)) vs ≡ vs
  none_there p [] other = refl
  none_there p (w ∷ ws) other = rw (other w (here w ws)) (ap (λ l. w ∷ l) (none_there p ws (λ x a. other x (later w ws x a))))

  past : (id : VersionId) (w x : VersionOf C) → is_it id w ≡ true → w.num < x.num → is_it id x ≡ false
  past id w x is high =
      let n = eqb-true w.num id.num (and_parts (w.bucket == id.bucket) (w.num == id.num) is).1 in
      let other : (x.num == id.num) ≡ false = grind (arith, nat_tests) in
      and_right (x.bucket == id.bucket) (x.num == id.num) other

  -- the version goes to the front
  moved : (a f r : List C) → IsPermutation (a ++ (f ++ r)) (f ++ (a ++ r))
  moved a f r =
      let one : a ++ (f ++ r) ≡ (a ++ f) ++ r = sym (append_assoc a f r) in
      let two : (f ++ a) ++ r ≡ f ++ (a ++ r) = append_assoc f a r in
      subst (λ l. IsPermutation l (f ++ (a ++ r))) (sym one)
      (subst (λ l. IsPermutation ((a ++ f) ++ r) l) two (IsPermutation-append_left r (a ++ f) (f ++ a) (IsPermutation-append_comm a f)))

  pub gone_holds : (id : VersionId) (vs : List (VersionOf C)) → AreNumbered vs → IsPermutation (flat_map contents_in vs) (held (find (is_it id) vs) ++ flat_map contents_in (filter (λ w. not (is_it id w)) vs))
  gone_holds id [] up = IsPermutation-refl []
  gone_holds id (w ∷ ws) up = ⊎_elim
      (λ (hit : is_it id w ≡ true).
      let rest : filter (λ x. not (is_it id x)) ws ≡ ws = none_there (is_it id) ws (λ x a. past id w x hit (pairs_head (λ y z. y.num < z.num) w ws up x a)) in
      rw hit (subst (λ l. IsPermutation (contents_in w ++ flat_map contents_in ws) (contents_in w ++ flat_map contents_in l)) (sym rest) (IsPermutation-refl (contents_in w ++ flat_map contents_in ws))))
      (λ (other : is_it id w ≡ false).
      let more = gone_holds id ws (pairs_tail (λ y z. y.num < z.num) w ws up) in
      let f = held (find (is_it id) ws) in
      let r = flat_map contents_in (filter (λ x. not (is_it id x)) ws) in
      rw other (IsPermutation-trans (contents_in w ++ flat_map contents_in ws) (contents_in w ++ (f ++ r)) (f ++ (contents_in w ++ r))
      (IsPermutation-append_right (contents_in w) (flat_map contents_in ws) (f ++ r) more) (moved (contents_in w) f r)))
      (cases_Bool (is_it id w))

  pub taken_conserves : (M : State C) (id : VersionId) (before after : List C) → AreNumbered M.versions → after ≡ before ++ held_at id M → Conserves before M after (without_version id M)
  taken_conserves M id before after up is =
      let f = held_at id M in
      let r = contents_of (without_version id M) in
      subst (λ l. IsPermutation (before ++ contents_of M) (l ++ r)) (sym is)
      (subst (λ l. IsPermutation (before ++ contents_of M) l) (sym (append_assoc before f r))
      (IsPermutation-append_right before (contents_of M) (f ++ r) (gone_holds id M.versions up)))

  -- ---- a marker holds nothing

  put_holds : (v : VersionOf C) (vs : List (VersionOf C)) → contents_in v ≡ [] → flat_map contents_in (put_by (λ w. w.num) v vs) ≡ flat_map contents_in vs
  put_holds v [] none = rw none refl
  put_holds v (w ∷ ws) none = ⊎_elim
      (λ (first : nat_lt v.num w.num ≡ true). rw first (ap (λ l. l ++ flat_map contents_in (w ∷ ws)) none))
      (λ (after : nat_lt v.num w.num ≡ false). rw after (ap (λ l. contents_in w ++ l) (put_holds v ws none)))
      (cases_Bool (nat_lt v.num w.num))

  pub hidden_holds : (M : State C) (t bucket num : ℕ) (name : List ℕ) → contents_of (with_version (marker bucket num name t) M) ≡ contents_of M
  hidden_holds M t bucket num name = put_holds (marker bucket num name t) M.versions refl

  -- ---- one step after another

  pub conserves_still : (before : List C) (M : State C) → Conserves before M before M
  conserves_still before M = IsPermutation-refl (before ++ contents_of M)

  pub conserves_on : (a b c : List C) (M N O : State C) → Conserves a M b N → Conserves b N c O → Conserves a M c O
  conserves_on a b c M N O first second = IsPermutation-trans (a ++ contents_of M) (b ++ contents_of N) (c ++ contents_of O) first second

  pub conserves_as : (before after : List C) (M N O : State C) → contents_of M ≡ contents_of N → Conserves before N after O → Conserves before M after O
  conserves_as before after M N O same holds = subst (λ l. IsPermutation (before ++ l) (after ++ contents_of O)) (sym same) holds
