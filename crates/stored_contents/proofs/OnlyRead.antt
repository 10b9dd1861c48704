-- A disk that is only read.
use Rattle.std.proofs.Common.{◌≡◌, ◌<◌, ℕ, List, length, get_or, map, All, sym, ap, subst, ◌∙◌}
use Rattle.std.proofs.lemmas.List.{get_or-map, length-map}
use Rattle.b2_base.specs.declared.extent.Extent.{Extent}
use Rattle.disk_model.specs.declared.area.DiskImage.{DiskImage}
use Rattle.disk_model.specs.State.{DiskState}
use Rattle.disk_model.proofs.Moments.{started, joins, weakens, now_has}
use Rattle.blob_extents.specs.Bytes.{IsSafe}
use Rattle.blob_extents.specs.declared.states.Pin.{Pin}
use Rattle.blob_extents.specs.States.{pin_extent}
use Rattle.stored_contents.specs.Reads.{IsRead}

pub not_read : (d : DiskState) → IsRead d d
not_read d = record { reads = λ m is. is; left = started d (λ c. d.may_leave c) (λ c is. is) }

pub read_again : (old mid new : DiskState) → IsRead old mid → IsRead mid new → IsRead old new
read_again old mid new first second = record {
  reads = λ m is. second.reads m (first.reads m is);
  left =
      joins old mid new (λ c. old.may_leave c) first.left
      (weakens mid new (λ c. mid.may_leave c) (λ c. old.may_leave c) second.left (λ c is. now_has old mid (λ c. old.may_leave c) first.left c is));
}

-- what may be left now might have been left before
pub left_before : (old new : DiskState) → IsRead old new → (c : DiskImage) → new.may_leave c → old.may_leave c
left_before old new read c is = now_has old new (λ c. old.may_leave c) read.left c is

pub safe_still : (old new : DiskState) (e : Extent) (m : List ℕ) → IsRead old new → IsSafe old e m → IsSafe new e m
safe_still old new e m read safe = record { long = safe.long; each = λ c is. safe.each c (left_before old new read c is) }

-- the content of a pin
pub safe_now : (old new : DiskState) (meaning : Extent → List ℕ) (pins : List Pin) (i : ℕ) (pin : Pin) → IsRead old new
    → i < length pins → pin ≡ get_or pins i pin → All (λ e. IsSafe old e (meaning e)) (map pin_extent pins)
    → IsSafe new (pin_extent pin) (meaning (pin_extent pin))
safe_now old new meaning pins i pin read within here safe =
    let e = pin_extent pin in
    let there : get_or (map pin_extent pins) i e ≡ e = get_or-map pin_extent pins i pin e within ∙ ap pin_extent (sym here) in
    safe_still old new e (meaning e) read (subst (λ x. IsSafe old x (meaning x)) there (safe i e (rw (length-map pins pin_extent) within)))
