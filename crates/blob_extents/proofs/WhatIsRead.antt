-- What an image reads at an extent.
use Rattle.std.proofs.Common.{◌≡◌, ◌≤◌, ℕ, List, ◌++◌, length, take, drop, replicate, refl, sym, ap, ◌∙◌, arith, length-take}
use Rattle.std.proofs.lemmas.List.{take-append-le, length-append, length-replicate}
use Rattle.b2_base.specs.declared.extent.Extent.{Extent}
use Rattle.disk_model.specs.declared.area.DiskImage.{DiskImage}
use Rattle.disk_model.specs.declared.area.Area.TheVariants.{Blobs}
use Rattle.disk_model.specs.State.{DiskState, Rests, OnlyIn}
use Rattle.blob_extents.specs.Bytes.{StandsAt, ReadsAt, IsSafe, read_at}

pub length-read_at : (i : DiskImage) (e : Extent) → length (read_at i e) ≡ e.len
length-read_at i e =
    let zeros : List ℕ = replicate e.len 0 in
    omega (arith, length-take e.len (drop e.at i.blobs ++ zeros), length-append (drop e.at i.blobs) zeros, length-replicate {A = ℕ} e.len 0)

-- bytes that fill an extent are what the image reads there
pub whole_content : (i : DiskImage) (e : Extent) (m : List ℕ) → length m ≡ e.len → StandsAt i e m → read_at i e ≡ m
whole_content i e m long stands =
    let x : List ℕ = drop e.at i.blobs in
    let within : e.len ≤ length x = omega (arith, long, ap length stands, length-take (length m) x) in
    take-append-le e.len x (replicate e.len 0) within ∙ ap (λ n. take n x) (sym long) ∙ stands

-- what is safe stays safe where no image comes in that reads otherwise in the area of contents
pub safe_kept : (old new : DiskState) (e : Extent) (m : List ℕ)
    → ((c : DiskImage) → new.may_leave c → (d : DiskImage) × old.may_leave d × (c.blobs ≡ d.blobs))
    → IsSafe old e m → IsSafe new e m
safe_kept old new e m from safe = record {
  long = safe.long;
  each = λ c left. let was = from c left in ap (λ l. take (length m) (drop e.at l)) was.2 ∙ safe.each was.0 was.1;
}

pub safe_rests : (old new : DiskState) (e : Extent) (m : List ℕ) → Rests old new → IsSafe old e m → IsSafe new e m
safe_rests old new e m rests safe = record { long = safe.long; each = λ c left. safe.each c (rests.crash c left) }

-- what a sync makes safe: each content that lies inside the area
pub safe_from_sync : (d : DiskState) (bytes : List ℕ) (e : Extent) (m : List ℕ)
    → OnlyIn Blobs bytes d → length m ≡ e.len → take (length m) (drop e.at bytes) ≡ m → IsSafe d e m
safe_from_sync d bytes e m only long stands = record {
  long = long;
  each = λ c left. ap (λ l. take (length m) (drop e.at l)) (only c left) ∙ stands;
}
