-- What was done to an area, newest first, and what it has and may have after it.
use Rattle.std.specs.Prelude.{◌≡◌, ◌+◌, ℕ, List, [], ◌∷◌, ◌++◌, length, replicate, take, map, reverse, count_by, zero, suc}
use Rattle.std.proofs.Common.{nat_le}
use Rattle.std.specs.List.{filter}
use Rattle.disk_model.specs.declared.area.Area.{Area}
use Rattle.disk_model.specs.declared.area.Area.TheVariants.{Log0, Log1, Blobs}
use Rattle.disk_model.specs.declared.area.DiskImage.{DiskImage}
use Rattle.disk_model.specs.declared.changes.Change.{Change}
use Rattle.disk_model.specs.declared.changes.Change.TheVariants.{Write, Cut, Sync}
use Rattle.disk_model.specs.declared.changes.Done.{Done}
use Rattle.disk_model.specs.Image.{bytes_of, same_area}
use Rattle.disk_model.specs.Steps.{written, resized, Torn, Resized}

-- what a read gives: every change is made whole
abbrev pub read_after : List Change → List ℕ
read_after [] = []
read_after (Write at piece ∷ earlier) = written 0 at piece (read_after earlier)
read_after (Cut len ∷ earlier) = resized 0 len (read_after earlier)
read_after (Sync ∷ earlier) = read_after earlier

-- what a crash may leave: a write and a cut may be cut short, and a sync leaves what a read gives
abbrev pub MayHold : List Change → List ℕ → Type 0
MayHold [] c = c ≡ []
MayHold (Write at piece ∷ earlier) c = (d : List ℕ) × MayHold earlier d × Torn at (length piece) d c
MayHold (Cut len ∷ earlier) c = (d : List ℕ) × MayHold earlier d × Resized len d c
MayHold (Sync ∷ earlier) c = c ≡ read_after earlier

-- every change since the last sync is dropped
abbrev pub synced_after : List Change → List ℕ
synced_after [] = []
synced_after (Write at piece ∷ earlier) = synced_after earlier
synced_after (Cut len ∷ earlier) = synced_after earlier
synced_after (Sync ∷ earlier) = read_after earlier

-- every range that was written since the last sync is filled with the byte 1
abbrev pub filled_after : List Change → List ℕ
filled_after [] = []
filled_after (Write at piece ∷ earlier) = written 1 at (replicate (length piece) 1) (filled_after earlier)
filled_after (Cut len ∷ earlier) = resized 1 len (filled_after earlier)
filled_after (Sync ∷ earlier) = read_after earlier

-- the changes of an area, newest first, of those that were done in the order of the list
abbrev pub changes_in : Area → List Done → List Change
changes_in a done = map (λ d. d.change) (filter (λ d. same_area d.area a) (reverse done))

-- one change more
abbrev pub one_more : ℕ → Area → Change → List Done → List Done
one_more call a change done = done ++ record { call = call; area = a; change = change } ∷ []

-- an image by its areas
abbrev pub image_by : (Area → List ℕ) → DiskImage
image_by f = record { log0 = f Log0; log1 = f Log1; blobs = f Blobs }

abbrev pub image_after : List Done → DiskImage
image_after done = image_by (λ a. read_after (changes_in a done))

abbrev pub synced_image : List Done → DiskImage
synced_image done = image_by (λ a. synced_after (changes_in a done))

abbrev pub filled_image : List Done → DiskImage
filled_image done = image_by (λ a. filled_after (changes_in a done))

-- a crash after these changes may leave this image
abbrev pub MayBe : List Done → DiskImage → Type 0
MayBe done c = (a : Area) → MayHold (changes_in a done) (bytes_of a c)

-- the changes that were done by the calls up to this one
abbrev pub done_by : ℕ → List Done → List Done
done_by call done = take (count_by (λ d. nat_le d.call call) done) done

-- three images of the disk just after a call: each unsynced change kept, dropped, and filled
abbrev pub three_images : List Done → List DiskImage
three_images done = image_after done ∷ synced_image done ∷ filled_image done ∷ []

-- those of so many calls after this one, in order
abbrev pub images_of : List Done → ℕ → ℕ → List DiskImage
images_of done call zero = []
images_of done call (suc more) = images_of done call more ++ three_images (done_by (call + suc more) done)
