-- A map of holes, read as the list of its holes in order.
use Rattle.std.proofs.Common.{◌≡◌, ℕ, ◌<◌, ◌↔◌, Some, map, length, get_or, subst, sym, ap, ◌∙◌, arith}
use Rattle.std.specs.Prelude.{All, Contains}
use Rattle.std.specs.List.{AllPairs}
use Rattle.std.specs.Map.{keys_of}
use Rattle.std.specs.BTreeMap.{BTreeMap, IsOrdered, get}
use Rattle.std.specs.Ordering.{nat_cmp}
use Rattle.std.specs.Cmp.{nat_cmp_total}
use Rattle.std.proofs.lemmas.Map.Views.{All-found, btree_map_get_iff}
use Rattle.std.proofs.lemmas.Map.Lookups.{exact_unsigned}
use Rattle.std.proofs.lemmas.Map.Keys.{below_from_sorted}
use Rattle.std.proofs.lemmas.List.{get_or-map, length-map}
use Rattle.std.proofs.lemmas.List.Elements.{All-map, All-weaker}
use Rattle.extent_space.specs.Room.{Hole, IsHole, IsOutside, IsTidy, IsUsed}
use Rattle.extent_space.specs.Holes.{AreHoles, IsInNone, hole_of}

module _ (m : BTreeMap ℕ ℕ) (ordered : IsOrdered nat_cmp m) where
  -- what holds of each hole of the map holds of each of the list
  pub all_holes : (P : Hole → Type 0) → ((to from : ℕ) → get nat_cmp m to ≡ Some from → P (record { from = from; to = to })) → All P (map hole_of m.entries)
  all_holes P each = All-map P hole_of m.entries (All-weaker (λ e. get nat_cmp m e.0 ≡ Some e.1) (λ e. P (hole_of e)) (λ e h. each e.0 e.1 h) m.entries (All-found nat_cmp_total m ordered))

  -- and back
  pub each_hole : (P : Hole → Type 0) → All P (map hole_of m.entries) → (to from : ℕ) → get nat_cmp m to ≡ Some from → P (record { from = from; to = to })
  each_hole P all to from is =
      let c : Contains m.entries (to, from) = (btree_map_get_iff nat_cmp_total exact_unsigned m ordered to from).0 is in
      let here : get_or (map hole_of m.entries) c.0 (hole_of (to, from)) ≡ hole_of (to, from) = get_or-map hole_of m.entries c.0 (to, from) (hole_of (to, from)) c.1 ∙ ap hole_of c.2 in
      subst P here (all c.0 (hole_of (to, from)) (subst (λ n. c.0 < n) (sym (length-map m.entries hole_of)) c.1))

  -- the list ascends as the map's keys do
  pub holes_apart : (R : Hole → Hole → Type 0) → ((to from later start : ℕ) → get nat_cmp m to ≡ Some from → get nat_cmp m later ≡ Some start → to < later → R (record { from = from; to = to }) (record { from = start; to = later })) → AllPairs R (map hole_of m.entries)
  holes_apart R each i j d below inside =
      let found = All-found nat_cmp_total m ordered in
      let y : j < length m.entries = omega (arith, length-map m.entries hole_of) in
      let x : i < length m.entries = omega arith in
      let e : ℕ × ℕ = get_or m.entries i (0, 0) in
      let f : ℕ × ℕ = get_or m.entries j (0, 0) in
      let first : get_or (map hole_of m.entries) i d ≡ hole_of e = get_or-map hole_of m.entries i (0, 0) d x in
      let second : get_or (map hole_of m.entries) j d ≡ hole_of f = get_or-map hole_of m.entries j (0, 0) d y in
      let key = λ (p : ℕ × ℕ). p.0 in
      let low : get_or (keys_of m.entries) i 0 ≡ e.0 = get_or-map key m.entries i (0, 0) 0 x in
      let high : get_or (keys_of m.entries) j 0 ≡ f.0 = get_or-map key m.entries j (0, 0) 0 y in
      let ascend : get_or (keys_of m.entries) i 0 < get_or (keys_of m.entries) j 0 = below_from_sorted (keys_of m.entries) i j 0 ordered below (omega (arith, length-map m.entries key)) in
      rw (first, second) (each e.0 e.1 f.0 f.1 (found i (0, 0) x) (found j (0, 0) y) (omega arith))

  -- the bytes in use, and the order of the holes, by the map
  pub used_by_map : (end limit b : ℕ) → IsUsed (record { holes = map hole_of m.entries; end = end; limit = limit }) b ↔ ((b < end) × IsInNone (get nat_cmp m) b)
  used_by_map end limit b = (λ u. (u.0, each_hole (IsOutside b) u.1), λ u. (u.0, all_holes (IsOutside b) u.1))

  pub tidy_by_map : (end limit : ℕ) → AreHoles (get nat_cmp m) end limit → IsTidy (record { holes = map hole_of m.entries; end = end; limit = limit })
  tidy_by_map end limit h = record {
    holes = all_holes (IsHole end) h.each;
    apart = holes_apart (λ g h. g.to < h.from) h.apart;
    end = h.whole;
    within = h.within;
  }
