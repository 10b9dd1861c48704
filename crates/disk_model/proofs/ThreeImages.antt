-- Each of the three outcomes is one that a crash may leave.
use Rattle.std.proofs.Common.{◌≡◌, ◌≤◌, ◌+◌, ◌-◌, ℕ, zero, suc, Bool, true, false, cond, nat_le, List, [], ◌∷◌, ◌++◌, All, length, replicate, refl, ap, subst, ◌∙◌, arith, length-take}
use Rattle.std.specs.Prelude.{count_by}
use Rattle.std.proofs.lemmas.Bool.{false≢true}
use Rattle.std.proofs.lemmas.Bool.Decides.{nat_tests}
use Rattle.std.proofs.lemmas.List.Sums.{count_by-le-length, sum_by-le-sum_by}
use Rattle.std.proofs.lemmas.List.Elements.{All-nil, All-append, All-from_recursion}
use Rattle.disk_model.specs.declared.area.DiskImage.{DiskImage}
use Rattle.std.proofs.lemmas.List.{length-replicate}
use Rattle.std.specs.List.{AllByRecursion}
use Rattle.disk_model.specs.declared.area.Area.TheVariants.{Log0, Log1, Blobs}
use Rattle.disk_model.specs.declared.changes.Change.{Change}
use Rattle.disk_model.specs.declared.changes.Change.TheVariants.{Write, Cut, Sync}
use Rattle.disk_model.specs.declared.changes.Done.{Done}
use Rattle.disk_model.specs.Steps.{written, Torn}
use Rattle.disk_model.specs.Whole.{torn_written, cut_resized}
use Rattle.disk_model.specs.Changes.{MayHold, MayBe, image_after, synced_after, filled_after, changes_in, synced_image, filled_image, three_images, images_of, done_by}
use Rattle.disk_model.specs.Past.{image_may_be, MightHaveBeen}
use Rattle.disk_model.proofs.Tears.{torn_not, cut_not}

synced_may_be : (changes : List Change) → MayHold changes (synced_after changes)
synced_may_be [] = refl
synced_may_be (Write at piece ∷ earlier) = (synced_after earlier, synced_may_be earlier, torn_not at (length piece) (synced_after earlier))
synced_may_be (Cut len ∷ earlier) = (synced_after earlier, synced_may_be earlier, cut_not len (synced_after earlier))
synced_may_be (Sync ∷ earlier) = refl

filled_may_be : (changes : List Change) → MayHold changes (filled_after changes)
filled_may_be [] = refl
filled_may_be (Write at piece ∷ earlier) =
    let old = filled_after earlier in
    let ones = replicate (length piece) 1 in
    (old, filled_may_be earlier, subst (λ n. Torn at n old (written 1 at ones old)) (length-replicate (length piece) 1) (torn_written 1 at ones old))
filled_may_be (Cut len ∷ earlier) = (filled_after earlier, filled_may_be earlier, cut_resized 1 len (filled_after earlier))
filled_may_be (Sync ∷ earlier) = refl

synced_image_may_be : (done : List Done) → MayBe done (synced_image done)
synced_image_may_be done Log0 = synced_may_be (changes_in Log0 done)
synced_image_may_be done Log1 = synced_may_be (changes_in Log1 done)
synced_image_may_be done Blobs = synced_may_be (changes_in Blobs done)

filled_image_may_be : (done : List Done) → MayBe done (filled_image done)
filled_image_may_be done Log0 = filled_may_be (changes_in Log0 done)
filled_image_may_be done Log1 = filled_may_be (changes_in Log1 done)
filled_image_may_be done Blobs = filled_may_be (changes_in Blobs done)

pub three_may_be : (done : List Done) → AllByRecursion (MayBe done) (three_images done)
three_may_be done = (image_may_be done, (synced_image_may_be done, (filled_image_may_be done, tt)))

-- the images of one call more
pub images_next : (done : List Done) (since call : ℕ) → since ≤ call → images_of done since (call + 1 - since) ≡ images_of done since (call - since) ++ three_images (done_by (call + 1) done)
images_next done since call le =
    let more : call + 1 - since ≡ suc (call - since) = omega arith in
    let number : since + suc (call - since) ≡ call + 1 = omega arith in
    ap (images_of done since) more ∙ ap (λ n. images_of done since (call - since) ++ three_images (done_by n done)) number

-- ---- what might have been left since a call

-- later calls did what earlier ones did
count_later : (since call : ℕ) (done : List Done) → since ≤ call → count_by (λ d. nat_le d.call since) done ≤ count_by (λ d. nat_le d.call call) done
count_later since call done le = sum_by-le-sum_by (λ (d : Done). cond (nat_le d.call since) 1 0) (λ (d : Done). cond (nat_le d.call call) 1 0) done (λ d. by_case (nat_le d.call since) (nat_le d.call call) (λ early. grind (arith, nat_tests)))
  where
    by_case : (a b : Bool) → (a ≡ true → b ≡ true) → cond a 1 0 ≤ cond b 1 0
    by_case false b so = omega arith
    by_case true true so = omega arith
    by_case true false so = absurd (false≢true (so refl))

three_left : (done : List Done) (since call : ℕ) → since ≤ call → All (MightHaveBeen done (length (done_by since done))) (three_images (done_by call done))
three_left done since call le =
    All-from_recursion (MightHaveBeen done (length (done_by since done))) (three_images (done_by call done))
    (at (image_after d) now.0, (at (synced_image d) now.1.0, (at (filled_image d) now.1.1.0, tt)))
  where
    k : ℕ
    k = count_by (λ d. nat_le d.call call) done

    d : List Done
    d = done_by call done

    now : AllByRecursion (MayBe (done_by call done)) (three_images (done_by call done))
    now = three_may_be (done_by call done)

    at : (c : DiskImage) → MayBe (done_by call done) c → MightHaveBeen done (length (done_by since done)) c
    at c may =
        let first : length (done_by since done) ≤ count_by (λ d. nat_le d.call since) done = omega (arith, length-take (count_by (λ d. nat_le d.call since) done) done) in
        (count_by (λ d. nat_le d.call call) done, omega (arith, first, count_later since call done le), count_by-le-length (λ (d : Done). nat_le d.call call) done, may)

pub all_left : (done : List Done) (since more : ℕ) → All (MightHaveBeen done (length (done_by since done))) (images_of done since more)
all_left done since zero = All-nil (MightHaveBeen done (length (done_by since done)))
all_left done since (suc more) =
    All-append (MightHaveBeen done (length (done_by since done))) (images_of done since more) (three_images (done_by (since + suc more) done))
    (all_left done since more) (three_left done since (since + suc more) (omega arith))
