-- The starts among the versions, as the rows of an index.
use Rattle.std.proofs.Common.{◌≡◌, ◌≢◌, ℕ, ◌≤◌, ◌-◌, ◌↔◌, ◌==◌, Bool, true, false, not, None, Some, List, [], ◌∷◌, filter, map, subst, sym, ap, ◌∙◌, inl, inr, ⊎_elim, refl, arith}
use Rattle.std.specs.List.{Contains}
use Rattle.std.proofs.lemmas.Bool.{and_from, and_parts, cases_Bool, eqb-true, false≢true}
use Rattle.std.proofs.lemmas.Bool.Decides.{nat_tests}
use Rattle.b2_base.specs.declared.numbers.TheConstants.{LAST_VERSION}
use Rattle.b2_types.specs.declared.version.VersionOf.{VersionOf}
use Rattle.b2_model.specs.Kinds.{is_start}
use Rattle.b2_model.specs.Lists.{put_by}
use Rattle.b2_model.specs.Plan.{id_of}
use Rattle.b2_model.specs.Version.{is_it}
use Rattle.version_index.specs.declared.spot.Spot.{Spot}
use Rattle.version_index.specs.Rows.{AreAscending, is_spot, placed, value_at, without}
use Rattle.version_index.proofs.Members.{one_spot, placed_members, placed_order, without_members, without_order}
use Rattle.index_rows.proofs.Members.{here, kept, later, none_in_empty}
use Rattle.index_rows.proofs.Places.{put_members}
use Rattle.listing_pages.specs.Unfinished.{start_spot}
use Rattle.kept_versions.specs.Kept.{AreStartRows, IsStartAmong, start_entry, with_start}

none_there : {V : Type 0} (s : Spot) (rows : List (Spot × V)) → ((r : Spot × V) → Contains rows r → s ≢ r.0) → value_at s rows ≡ None
none_there s [] apart = refl
none_there s (x ∷ xs) apart = ⊎_elim
    (λ (same : is_spot s x.0 ≡ true). absurd (apart x (here x xs) (one_spot s x.0 same)))
    (λ (other : is_spot s x.0 ≡ false). rw other (none_there s xs (λ r a. apart r (later x xs r a))))
    (cases_Bool (is_spot s x.0))

module _ {C : Type 0} where
  pub it_parts : (v w : VersionOf C) → is_it (id_of v) w ≡ true → (w.bucket ≡ v.bucket) × (w.num ≡ v.num)
  it_parts v w is = let parts = and_parts (w.bucket == v.bucket) (w.num == v.num) is in (eqb-true w.bucket v.bucket parts.0, eqb-true w.num v.num parts.1)

  pub it_from : (v w : VersionOf C) → w.bucket ≡ v.bucket → w.num ≡ v.num → is_it (id_of v) w ≡ true
  it_from v w b n = and_from (w.bucket == v.bucket) (w.num == v.num) (grind (arith, nat_tests)) (grind (arith, nat_tests))

  -- starts at one spot have one number
  start_number : (v w : VersionOf C) → v.num ≤ LAST_VERSION → w.num ≤ LAST_VERSION → start_spot v.bucket v.num ≡ start_spot w.bucket w.num → (w.bucket ≡ v.bucket) × (w.num ≡ v.num)
  start_number v w low also same = let b = ap (λ s. s.bucket) same in let n : LAST_VERSION - v.num ≡ LAST_VERSION - w.num = ap (λ s. s.num) same in (sym b, omega (arith, low, also, n))

  start_same : (v w : VersionOf C) → w.bucket ≡ v.bucket → w.num ≡ v.num → start_spot v.bucket v.num ≡ start_spot w.bucket w.num
  start_same v w b n = rw (b, n) refl

  abbrev InRange : List (VersionOf C) → Type 0
  InRange vs = (v : VersionOf C) → Contains vs v → v.num ≤ LAST_VERSION

  pub start_free : (vs : List (VersionOf C)) (starts : List (Spot × List ℕ)) (v : VersionOf C) → AreStartRows vs starts → InRange vs → v.num ≤ LAST_VERSION → ((w : VersionOf C) → Contains vs w → w.num ≢ v.num) → value_at (start_spot v.bucket v.num) starts ≡ None
  start_free vs starts v are in_range low free = none_there (start_spot v.bucket v.num) starts (λ r a same. let old = (are.same r).0 a in free old.version old.there (start_number v old.version low (in_range old.version old.there) (same ∙ sym (ap (λ p. p.0) old.row_is))).1)

  pub starts_put : (vs : List (VersionOf C)) (starts : List (Spot × List ℕ)) (v : VersionOf C) → AreStartRows vs starts → InRange vs → v.num ≤ LAST_VERSION → ((w : VersionOf C) → Contains vs w → w.num ≢ v.num) → AreStartRows (put_by (λ w. w.num) v vs) (with_start v starts)
  starts_put vs starts v are in_range low free = ⊎_elim
      (λ (is : is_start v.action ≡ true). rw is (record {
        order = placed_order (start_entry v) starts are.order (start_free vs starts v are in_range low free);
        same = λ row. (
          λ a. elim ((placed_members (start_entry v) starts row).0 a) [
            | inl e ↦ record { version = v; there = (put_members (λ u. u.num) v vs v).1 (inl refl); start = is; row_is = e }
            | inr b ↦ more row ((are.same row).0 b)
          ],
          λ s. (placed_members (start_entry v) starts row).1 (elim ((put_members (λ u. u.num) v vs s.version).0 s.there) [
            | inl e ↦ inl (ap start_entry e ∙ s.row_is)
            | inr b ↦ inr ((are.same row).1 (record { version = s.version; there = b; start = s.start; row_is = s.row_is }))
          ]),
        );
      }))
      (λ (no : is_start v.action ≡ false). rw no (record {
        order = are.order;
        same = λ row. (
          λ a. more row ((are.same row).0 a),
          λ s. elim ((put_members (λ u. u.num) v vs s.version).0 s.there) [
            | inl e ↦ absurd (false≢true (sym no ∙ ap (λ u. is_start u.action) e ∙ s.start))
            | inr b ↦ (are.same row).1 (record { version = s.version; there = b; start = s.start; row_is = s.row_is })
          ],
        );
      }))
      (cases_Bool (is_start v.action))
    where
      more : (row : Spot × List ℕ) → IsStartAmong vs row → IsStartAmong (put_by (λ w. w.num) v vs) row
      more row s = record { version = s.version; there = (put_members (λ u. u.num) v vs s.version).1 (inr s.there); start = s.start; row_is = s.row_is }

  pub starts_less : (vs : List (VersionOf C)) (starts : List (Spot × List ℕ)) (v : VersionOf C) → AreStartRows vs starts → InRange vs → Contains vs v → AreStartRows (filter (λ w. not (is_it (id_of v) w)) vs) (without (start_spot v.bucket v.num) starts)
  starts_less vs starts v are in_range a = record {
    order = without_order (start_spot v.bucket v.num) starts are.order;
    same = λ row. (
      λ b.
          let old = (without_members (start_spot v.bucket v.num) starts row).0 b in
          let s = (are.same row).0 old.0 in
          record { version = s.version; there = (kept (λ w. not (is_it (id_of v) w)) vs s.version).1 (s.there, stays s.version (λ is. let p = it_parts v s.version is in old.1 (start_same v s.version p.0 p.1 ∙ ap (λ q. q.0) s.row_is))); start = s.start; row_is = s.row_is },
      λ s.
          let old = (kept (λ w. not (is_it (id_of v) w)) vs s.version).0 s.there in
          (without_members (start_spot v.bucket v.num) starts row).1 (
            (are.same row).1 (record { version = s.version; there = old.0; start = s.start; row_is = s.row_is }),
            λ same. let n = start_number v s.version (in_range v a) (in_range s.version old.0) (same ∙ sym (ap (λ q. q.0) s.row_is)) in false≢true (sym (ap not (it_from v s.version n.0 n.1)) ∙ old.1),
          ),
    );
  } where
    stays : (w : VersionOf C) → (is_it (id_of v) w ≡ true → ⊥) → not (is_it (id_of v) w) ≡ true
    stays w other = ⊎_elim (λ (is : is_it (id_of v) w ≡ true). absurd (other is)) (λ (no : is_it (id_of v) w ≡ false). ap not no) (cases_Bool (is_it (id_of v) w))
