-- No contents.
use Rattle.std.proofs.Common.{◌≡◌, ◌==◌, ℕ, List, [], ◌++◌, drop, replicate, flat_map, find, Option, None, IfSome, All, Contains, refl, sym, ap, ◌∙◌, subst, arith, length-take}
use Rattle.std.specs.List.{AllPairs}
use Rattle.std.specs.Map.{lookup}
use Rattle.std.specs.BTreeMap.{is_at}
use Rattle.std.specs.Ordering.{nat_cmp}
use Rattle.std.proofs.lemmas.List.{length-append, length-replicate}
use Rattle.disk_model.specs.declared.area.DiskImage.{DiskImage}
use Rattle.disk_model.specs.State.{DiskState}
use Rattle.extent_space.specs.Room.{Apart, IsRoomOf, IsUsed}
use Rattle.blob_extents.specs.Bytes.{IsSafe, read_at}
use Rattle.blob_extents.specs.Uses.{IsInUse}
use Rattle.stored_contents.specs.declared.contents.Contents.{Contents}
use Rattle.stored_contents.specs.declared.incoming.Incoming.{Incoming}
use Rattle.stored_contents.specs.Held.{IsHeld, IsComing, none_held, read_by}
use Rattle.stored_contents.specs.Room.{AreApart, IsRoom, IsStaged, extent_of, incoming_at, live, pins_of, times}

-- nothing is in use in the room of no extents
pub none_used : (limit : ℕ) (t : Contents) → IsRoomOf limit [] t.blobs.room → (b : ℕ) → IsUsed t.blobs.room b → ⊥
none_used limit t room b used = let one = (room.bytes b).0 used in omega (arith, one.2)

module _ (t : Contents) (pinned : t.blobs.pinned ≡ []) (released : t.blobs.released ≡ []) (incoming : t.incoming.entries ≡ []) (outgoing : t.outgoing.items ≡ []) where
  none_at : (c : ℕ) → incoming_at t c ≡ None
  none_at c = ap at incoming
    where
      at : List (ℕ × Incoming) → Option Incoming
      at es = lookup (is_at (nat_cmp c)) es

  pub empty_room : ((b : ℕ) → IsUsed t.blobs.room b → ⊥) → IsRoom t []
  empty_room none = record {
    in_use = subst (All (IsInUse t.blobs)) (sym released) (λ k d lt. absurd (omega (arith, lt)));
    apart = subst (AllPairs Apart) (sym released) (λ i j d lt within. absurd (omega (arith, within)));
    staged = λ c. subst (λ o. IfSome o (λ i. IsStaged t.blobs (live [] t) (extent_of i))) (sym (none_at c)) tt;
    staged_apart = λ a b not. subst (λ o. AreApart o (incoming_at t b)) (sym (none_at a)) tt;
    no_more = λ b used. absurd (none b used);
    pinned = subst (All (Contains (live [] t))) (sym pinned) (λ k d lt. absurd (omega (arith, lt)));
    pins = λ e. ap (times e) pinned ∙ ap (λ os. times e (flat_map pins_of os)) (sym outgoing);
  }

  pub empty_held : (d : DiskState) (i : DiskImage) → d.reads i → IsRoom t [] → IsHeld t d (none_held (read_at i))
  empty_held d i given room = record {
    room = room;
    image = i;
    given = given;
    sizes = λ e. omega (arith, length-take e.len (drop e.at i.blobs ++ replicate e.len 0), length-append (drop e.at i.blobs) (replicate e.len 0), length-replicate {A = ℕ} e.len 0);
    safe = subst (All (λ e. IsSafe d e (read_at i e))) (sym released) (λ k e lt. absurd (omega (arith, lt)));
    uploads = λ c. subst (λ o. IsComing d o None) (sym (none_at c)) refl;
    readers = λ c. ap (λ os. read_by (read_at i) (find (λ o. o.reader == c) os)) (sym outgoing);
  }
