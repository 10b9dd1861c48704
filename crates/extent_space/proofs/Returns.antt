-- What a return does to a room, by what it does to the map of its holes.
use Rattle.std.proofs.Common.{◌≡◌, ◌≢◌, ℕ, ◌<◌, ◌≤◌, ◌⊎◌, ◌+◌, Option, None, Some, false, subst, sym, ap, ◌∙◌, inl, inr, ⊎_elim, refl, arith}
use Rattle.std.proofs.lemmas.Bool.{cases_lt, cases_order}
use Rattle.std.specs.Option.{unwrap_or}
use Rattle.std.specs.BTreeMap.{BTreeMap, IsOrdered, UpdatesBy, get, is_at}
use Rattle.std.specs.Ordering.{is_eq, nat_cmp}
use Rattle.b2_base.specs.declared.extent.Extent.{Extent}
use Rattle.extent_space.specs.Room.{Covers, GivesBack, IsTaken, IsTidy, IsUsed, IsWhole, Room, rounded}
use Rattle.extent_space.specs.Holes.{AreHoles, IsEndOfFree, IsInNone}
use Rattle.extent_space.proofs.Cuts.{is_greater, is_less}
use Rattle.extent_space.proofs.Joins.{joined_holes, joined_used, lowered_holes, lowered_used}
use Rattle.extent_space.proofs.Rooms.{room_of}
use Rattle.extent_space.proofs.Views.{tidy_by_map, used_by_map}

-- an extent of no bytes gives none back
pub nothing_given : (r : Room) (e : Extent) → IsTidy r → e.len ≡ 0 → GivesBack r e r
nothing_given r e tidy none = record {
  used = λ b. (λ u. (u, ⊎_elim (λ (l : b < e.at). inl l) (λ (h : e.at ≤ b). inr (omega (arith, none))) (cases_lt b e.at)), λ u. u.0);
  same_limit = refl;
  tidy = tidy;
}

another_key : (k q : ℕ) → q ≢ k → is_at (nat_cmp k) q ≡ false
another_key k q other = elim (cases_order k q) [
  | inl e ↦ absurd (other (sym e))
  | inr (inl low) ↦ ap is_eq (is_less k q low)
  | inr (inr high) ↦ ap is_eq (is_greater k q high)
]

module _ (m : BTreeMap ℕ ℕ) (ordered : IsOrdered nat_cmp m) (end limit : ℕ) (holes : AreHoles (get nat_cmp m) end limit) (e : Extent) (more : 0 < e.len) (taken : IsTaken (room_of m end limit) e) (p : ℕ) (start : p ≡ unwrap_or (get nat_cmp m e.at) e.at) where
  all_used : IsWhole e.at × ((b : ℕ) → Covers e b → IsUsed (room_of m end limit) b)
  all_used = elim taken [ inl none ↦ absurd (omega (arith, none)) | inr t ↦ t ]

  used_bytes : (b : ℕ) → e.at ≤ b → b < e.at + rounded e.len → (b < end) × IsInNone (get nat_cmp m) b
  used_bytes b low high = (used_by_map m ordered end limit b).0 (all_used.1 b (low, high))

  some : e.at < e.at + rounded e.len
  some = omega arith

  before : (get nat_cmp m e.at ≡ Some p) ⊎ ((get nat_cmp m e.at ≡ None) × (p ≡ e.at))
  before = go (get nat_cmp m e.at) refl where
    go : (o : Option ℕ) → get nat_cmp m e.at ≡ o → (get nat_cmp m e.at ≡ Some p) ⊎ ((get nat_cmp m e.at ≡ None) × (p ≡ e.at))
    go None is = inr (is, start ∙ rw is refl)
    go (Some q) is = inl (is ∙ ap Some (sym (start ∙ rw is refl)))

  whole_after : IsWhole (e.at + rounded e.len)
  whole_after = let w = all_used.0 in omega (arith, w)

  whole_start : IsWhole p
  whole_start = elim before [ inl h ↦ (holes.each e.at p h).from | inr n ↦ subst IsWhole (sym n.1) all_used.0 ]

  -- what was in use reached the end
  module _ (n : BTreeMap ℕ ℕ) (still : IsOrdered nat_cmp n) (last : e.at + rounded e.len ≡ end) (updates : UpdatesBy nat_cmp (nat_cmp e.at) m n None) where
    others : (q : ℕ) → q ≢ e.at → get nat_cmp n q ≡ get nat_cmp m q
    others q other = updates.2 q (another_key e.at q other)

    pub end_given_holes : AreHoles (get nat_cmp n) p limit
    end_given_holes = lowered_holes (get nat_cmp m) end limit e.at (e.at + rounded e.len) p holes some used_bytes before (get nat_cmp n) last others updates.1 whole_start

    pub end_given : GivesBack (room_of m end limit) e (room_of n p limit)
    end_given = record {
      used = λ b. let was = used_by_map m ordered end limit b in let now = used_by_map n still p limit b in let by = lowered_used (get nat_cmp m) end limit e.at (e.at + rounded e.len) p holes some used_bytes before (get nat_cmp n) last others updates.1 b in (
        λ u. let v = by.0 (now.0 u) in (was.1 v.0, v.1),
        λ u. now.1 (by.1 (was.0 u.0, u.1)),
      );
      same_limit = refl;
      tidy = tidy_by_map n still p limit end_given_holes;
    }

  -- it did not
  module _ (k n : BTreeMap ℕ ℕ) (still : IsOrdered nat_cmp n) (inside : e.at + rounded e.len ≢ end) (r : ℕ) (free : IsEndOfFree (get nat_cmp m) (e.at + rounded e.len) r) (added : UpdatesBy nat_cmp (nat_cmp r) m k (Some p)) (removed : UpdatesBy nat_cmp (nat_cmp e.at) k n None) where
    past : e.at < r
    past = elim free [ inl h ↦ omega (arith, h.3) | inr h ↦ omega (arith, h.0) ]

    other_holes : (q : ℕ) → q ≢ e.at → q ≢ r → get nat_cmp n q ≡ get nat_cmp m q
    other_holes q left right = removed.2 q (another_key e.at q left) ∙ added.2 q (another_key r q right)

    joined : get nat_cmp n r ≡ Some p
    joined = removed.2 r (another_key e.at r (λ same. omega (arith, past))) ∙ added.1

    pub hole_given_holes : AreHoles (get nat_cmp n) end limit
    hole_given_holes = joined_holes (get nat_cmp m) end limit e.at (e.at + rounded e.len) p holes some used_bytes before (get nat_cmp n) r free inside other_holes removed.1 joined all_used.0 whole_after

    pub hole_given : GivesBack (room_of m end limit) e (room_of n end limit)
    hole_given = record {
      used = λ b. let was = used_by_map m ordered end limit b in let now = used_by_map n still end limit b in let by = joined_used (get nat_cmp m) end limit e.at (e.at + rounded e.len) p holes some used_bytes before (get nat_cmp n) r free inside other_holes removed.1 joined b in (
        λ u. let v = by.0 (now.0 u) in (was.1 v.0, v.1),
        λ u. now.1 (by.1 (was.0 u.0, u.1)),
      );
      same_limit = refl;
      tidy = tidy_by_map n still end limit hole_given_holes;
    }
