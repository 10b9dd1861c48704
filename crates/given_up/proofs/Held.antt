-- What a version holds where it is changed: a part is replaced, its parts become its content, pieces join it.
use Rattle.std.proofs.Common.{◌≡◌, ℕ, ◌<◌, ◌==◌, Bool, true, false, not, ◌&&◌, List, [], ◌∷◌, ◌++◌, Option, Some, None, map, filter, find, flat_map, option_map, option_and_then, refl, sym, ap, subst, append-nil, append_assoc, arith}
use Rattle.std.specs.List.{AllPairs}
use Rattle.std.specs.List.Sorted.{IsPermutation}
use Rattle.std.proofs.lemmas.Bool.{and_right}
use Rattle.std.proofs.lemmas.Bool.Decides.{nat_tests}
use Rattle.std.proofs.lemmas.List.Concat.{flat_map_single}
use Rattle.std.proofs.lemmas.List.Sorted.{IsPermutation-refl, IsPermutation-trans, IsPermutation-append_right}
use Rattle.b2_types.specs.declared.kinds.Retention.{Retention}
use Rattle.b2_types.specs.declared.version.PartOf.{PartOf}
use Rattle.b2_types.specs.declared.version.VersionOf.{VersionOf}
use Rattle.b2_model.specs.Lists.{put_by}
use Rattle.b2_model.specs.Policy.{items}
use Rattle.b2_model.specs.Version.{with_part}
use Rattle.b2_model.specs.Finish.{finished_file}
use Rattle.contents_agree.specs.ContentsOf.{contents_in}
use Rattle.core_state.specs.GivenUp.{part_content}
use Rattle.sound_states.specs.Sound.{IsAscending}
use Rattle.given_up.proofs.Items.{moved, between, pairs_from, of_found, IsOne, put_holds, taken_holds}

-- ---- parts

module _ {C : Type 0} where
  abbrev piece : PartOf C → List C
  piece p = p.content ∷ []

  abbrev pieces : List (PartOf C) → List C
  pieces ps = map (λ p. p.content) ps

  abbrev is_number : ℕ → PartOf C → Bool
  is_number n p = p.number == n

  one_part : (n : ℕ) (ps : List (PartOf C)) → IsAscending (λ p. p.number) ps → IsOne piece (is_number n) ps
  one_part n ps order = pairs_from (λ p q. p.number < q.number) (λ p q. is_number n p ≡ true → is_number n q ≡ false) (λ p q low is. grind (arith, nat_tests, low, is)) ps order

  piece_found : (o : Option (PartOf C)) → of_found piece o ≡ items (option_map (λ p. p.content) o)
  piece_found None = refl
  piece_found (Some p) = refl

  part_taken : (n : ℕ) (ps : List (PartOf C)) → IsAscending (λ p. p.number) ps
      → IsPermutation (pieces ps) (items (option_map (λ p. p.content) (find (is_number n) ps)) ++ pieces (filter (λ p. not (is_number n p)) ps))
  part_taken n ps order =
      let left = filter (λ p. not (is_number n p)) ps in
      rw (sym (flat_map_single (λ p. p.content) ps), sym (flat_map_single (λ p. p.content) left), sym (piece_found (find (is_number n) ps)))
      (taken_holds piece (is_number n) ps (one_part n ps order))

  part_put : (p : PartOf C) (ps : List (PartOf C)) → IsPermutation (p.content ∷ pieces ps) (pieces (put_by (λ q. q.number) p ps))
  part_put p ps =
      rw (sym (flat_map_single (λ q. q.content) ps), sym (flat_map_single (λ q. q.content) (put_by (λ q. q.number) p ps)))
      (put_holds piece (λ q. q.number) p ps)

  -- the part that is replaced goes, and the new one joins
  parts_replaced : (p : PartOf C) (ps : List (PartOf C)) → IsAscending (λ q. q.number) ps
      → IsPermutation (p.content ∷ pieces ps)
      (items (option_map (λ q. q.content) (find (is_number p.number) ps)) ++ pieces (put_by (λ q. q.number) p (filter (λ q. not (is_number p.number q)) ps)))
  parts_replaced p ps order =
      let gone = items (option_map (λ q. q.content) (find (is_number p.number) ps)) in
      let left = filter (λ q. not (is_number p.number q)) ps in
      let put = pieces (put_by (λ q. q.number) p left) in
      IsPermutation-trans (p.content ∷ pieces ps) ((p.content ∷ []) ++ (gone ++ pieces left)) (gone ++ put)
      (IsPermutation-append_right (p.content ∷ []) (pieces ps) (gone ++ pieces left) (part_taken p.number ps order))
      (IsPermutation-trans ((p.content ∷ []) ++ (gone ++ pieces left)) (gone ++ ((p.content ∷ []) ++ pieces left)) (gone ++ put)
      (moved (p.content ∷ []) gone (pieces left))
      (IsPermutation-append_right gone ((p.content ∷ []) ++ pieces left) put (part_put p left)))

  -- ---- versions

  pub part_replaced : (p : PartOf C) (v : VersionOf C) → v.content ≡ [] → IsAscending (λ q. q.number) v.parts
      → IsPermutation (p.content ∷ contents_in v) (items (part_content p.number v) ++ contents_in (with_part p v))
  part_replaced p v none order = rw none (parts_replaced p v.parts order)

  pub parts_joined : (retention : Option Retention) (v : VersionOf C) → v.content ≡ [] → IsPermutation (contents_in v) (contents_in (finished_file retention v))
  parts_joined retention v none =
      rw (none, append-nil (pieces v.parts)) (IsPermutation-refl (pieces v.parts))

  pub pieces_joined : (more : List C) (v : VersionOf C) → IsPermutation (more ++ contents_in v) (contents_in (record v { content = v.content ++ more }))
  pieces_joined more v = between more v.content (pieces v.parts)
