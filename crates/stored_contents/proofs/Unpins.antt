-- What stands in the area after a pin ends.
use Rattle.std.proofs.Common.{◌≡◌, ℕ, ◌⊎◌, inl, inr, ◌+◌, ◌-◌, ◌<◌, List, ◌++◌, length, get_or, All, Contains, refl, sym, ap, subst, ◌∙◌, arith, length-append}
use Rattle.std.specs.List.{AllPairs, remove}
use Rattle.std.proofs.lemmas.List.{get_or-append-add}
use Rattle.std.proofs.lemmas.List.Edits.{remove-append_right}
use Rattle.std.proofs.lemmas.List.Elements.{All-contains_itself, Contains-get_or}
use Rattle.std.proofs.lemmas.List.Quantifiers.{all_pairs_remove}
use Rattle.b2_base.specs.declared.extent.Extent.{Extent}
use Rattle.extent_space.specs.Room.{Apart, Covers, GivesBack, IsUsed}
use Rattle.blob_extents.specs.Uses.{Uses, IsInUse, TakesOut}
use Rattle.blob_extents.proofs.Places.{in_use_still}
use Rattle.stored_contents.specs.Changes.{Goes, Unpins}
use Rattle.stored_contents.specs.Room.{IsIn}
use Rattle.stored_contents.proofs.Lists.{all_left, apart_from_left, still_there}
use Rattle.stored_contents.proofs.Counts.{is_there}
use Rattle.stored_contents.proofs.Rooms.{apart_sym, not_both}

pub unpins : (e : Extent) (old new : Uses)
    → (Contains new.pinned e → (new.room ≡ old.room) × (new.released ≡ old.released))
    → ((Contains old.released e → ⊥) → (new.room ≡ old.room) × (new.released ≡ old.released))
    → ((Contains new.pinned e → ⊥) → Contains old.released e → GivesBack old.room e new.room × TakesOut e old.released new.released)
    → Unpins e old new
unpins e old new held kept back = by (is_there e new.pinned) (is_there e old.released)
  where
    by : Contains new.pinned e ⊎ (Contains new.pinned e → ⊥) → Contains old.released e ⊎ (Contains old.released e → ⊥) → Unpins e old new
    by (inl pinned) there = inl (held pinned)
    by (inr last) (inl there) =
        let out = (back last there).1 in
        inr (record { place = out.0; within = out.1; here = out.2; left = out.3; last = last; back = (back last there).0 })
    by (inr last) (inr absent) = inl (kept absent)

-- those that were owned or go back later, and those that still do
pub still_whole : (e : Extent) (old new : Uses) → Unpins e old new → All (Contains old.released) new.released
still_whole e old new (inl stays) = subst (All (Contains old.released)) (sym stays.1) (All-contains_itself old.released)
still_whole e old new (inr goes) = subst (All (Contains old.released)) (sym goes.left) (all_left (Contains old.released) old.released goes.place (All-contains_itself old.released))

-- the lists of both, where it went
module _ (owned : List Extent) (e : Extent) (old new : Uses) (goes : Goes e old new) where
  pub whole_left : owned ++ new.released ≡ remove (owned ++ old.released) (length owned + goes.place)
  whole_left =
      let back : length owned + goes.place - length owned ≡ goes.place = omega arith in
      ap (λ l. owned ++ l) (goes.left ∙ ap (remove old.released) (sym back))
      ∙ sym (remove-append_right owned old.released (length owned) (length owned + goes.place) refl (omega arith))

  pub whole_within : length owned + goes.place < length (owned ++ old.released)
  whole_within = omega (arith, goes.within, length-append owned old.released)

  pub whole_here : get_or (owned ++ old.released) (length owned + goes.place) e ≡ e
  whole_here = get_or-append-add owned old.released goes.place e ∙ goes.here

  pub others_apart : AllPairs Apart (owned ++ old.released) → All (Apart e) (owned ++ new.released)
  others_apart apart =
      subst (All (Apart e)) (sym whole_left)
      (apart_from_left Apart apart_sym (owned ++ old.released) (length owned + goes.place) e whole_within whole_here apart)

-- each in use is so still
pub in_use_after : (owned : List Extent) (e : Extent) (old new : Uses) → Unpins e old new
    → ((f : Extent) → Apart e f → IsInUse old f → IsInUse new f)
    → AllPairs Apart (owned ++ old.released) → All (IsInUse old) (owned ++ old.released) → All (IsInUse new) (owned ++ new.released)
in_use_after owned e old new (inl stays) others apart in_use =
    subst (λ l. All (IsInUse new) (owned ++ l)) (sym stays.1) (λ k d lt. in_use_still old new _ stays.0 (in_use k d lt))
in_use_after owned e old new (inr goes) others apart in_use =
    let left = subst (All (IsInUse old)) (sym (whole_left owned e old new goes)) (all_left (IsInUse old) (owned ++ old.released) (length owned + goes.place) in_use) in
    λ k d lt. others _ (others_apart owned e old new goes apart k d lt) (left k d lt)

pub apart_after : (owned : List Extent) (e : Extent) (old new : Uses) → Unpins e old new
    → AllPairs Apart (owned ++ old.released) → AllPairs Apart (owned ++ new.released)
apart_after owned e old new (inl stays) apart = subst (λ l. AllPairs Apart (owned ++ l)) (sym stays.1) apart
apart_after owned e old new (inr goes) apart =
    subst (AllPairs Apart) (sym (whole_left owned e old new goes))
    (all_pairs_remove Apart (owned ++ old.released) (length owned + goes.place) (whole_within owned e old new goes) apart)

-- what holds of all of them holds of those that are left
pub all_after : (P : Extent → Type 0) (owned : List Extent) (e : Extent) (old new : Uses) → Unpins e old new
    → All P (owned ++ old.released) → All P (owned ++ new.released)
all_after P owned e old new (inl stays) all = subst (λ l. All P (owned ++ l)) (sym stays.1) all
all_after P owned e old new (inr goes) all =
    subst (All P) (sym (whole_left owned e old new goes)) (all_left P (owned ++ old.released) (length owned + goes.place) all)

-- an extent that is apart from all of them is in use still
pub other_after : (owned : List Extent) (e f : Extent) (old new : Uses) → Unpins e old new
    → ((f : Extent) → Apart e f → IsInUse old f → IsInUse new f)
    → All (Apart f) (owned ++ old.released) → IsInUse old f → IsInUse new f
other_after owned e f old new (inl stays) others apart in_use = in_use_still old new f stays.0 in_use
other_after owned e f old new (inr goes) others apart in_use =
    others f (apart_sym f e (subst (Apart f) (whole_here owned e old new goes) (apart (length owned + goes.place) e (whole_within owned e old new goes)))) in_use

-- the extent of a pin that is left is one of them
pub pinned_after : (owned : List Extent) (e : Extent) (old new : Uses) → Unpins e old new → TakesOut e old.pinned new.pinned
    → All (Contains (owned ++ old.released)) old.pinned → All (Contains (owned ++ new.released)) new.pinned
pinned_after owned e old new unpins out pinned = by unpins
  where
    left : All (Contains (owned ++ old.released)) new.pinned
    left = subst (All (Contains (owned ++ old.released))) (sym out.3) (all_left (Contains (owned ++ old.released)) old.pinned out.0 pinned)

    by : Unpins e old new → All (Contains (owned ++ new.released)) new.pinned
    by (inl stays) = subst (λ l. All (Contains (owned ++ l)) new.pinned) (sym stays.1) left
    by (inr goes) = λ k d lt.
        subst (λ l. Contains l (get_or new.pinned k d)) (sym (whole_left owned e old new goes))
        (still_there (owned ++ old.released) (length owned + goes.place) e (get_or new.pinned k d) (whole_within owned e old new goes) (whole_here owned e old new goes)
        (λ is. goes.last (subst (Contains new.pinned) (sym is) (Contains-get_or new.pinned k d lt)))
        (left k d lt))

-- a byte in use was so before, and whose it was it still is
pub used_after : (owned : List Extent) (e : Extent) (old new : Uses) → Unpins e old new → (b : ℕ) → IsUsed new.room b
    → IsUsed old.room b × (IsIn (owned ++ old.released) b → IsIn (owned ++ new.released) b)
used_after owned e old new (inl stays) b used =
    (subst (λ r. IsUsed r b) stays.0 used, λ is. (is.0, subst (λ l. Contains (owned ++ l) is.0) (sym stays.1) is.1, is.2))
used_after owned e old new (inr goes) b used =
    let left = (goes.back.used b).0 used in (
      left.0,
      λ is. (
        is.0,
        subst (λ l. Contains l is.0) (sym (whole_left owned e old new goes))
            (still_there (owned ++ old.released) (length owned + goes.place) e is.0 (whole_within owned e old new goes) (whole_here owned e old new goes)
            (λ same. not_both e b (subst (λ x. Covers x b) (sym same) is.2) left.1) is.1),
        is.2,
      ),
    )
