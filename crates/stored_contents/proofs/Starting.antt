-- A reader starts where none of its number is.
use Rattle.std.proofs.Common.{◌≡◌, ◌==◌, ℕ, nat_eq, Bool, true, false, if◌then◌else◌, find, None, List, [], ◌∷◌, ◌++◌, flat_map, take, drop, All, Contains, refl, sym, ap, subst, ◌∙◌}
use Rattle.std.proofs.lemmas.Bool.{eq-eqb, ne_eqb}
use Rattle.std.proofs.lemmas.List.Elements.{All-contains_itself}
use Rattle.b2_base.specs.declared.extent.Extent.{Extent}
use Rattle.disk_model.specs.State.{DiskState}
use Rattle.stored_contents.specs.declared.contents.Contents.{Contents}
use Rattle.stored_contents.specs.declared.outgoing.Outgoing.{Outgoing}
use Rattle.stored_contents.specs.Held.{Holding, IsHeld, read_by, with_read}
use Rattle.stored_contents.specs.Reads.{outgoing_at}
use Rattle.stored_contents.specs.Room.{IsRoom, pins_of}
use Rattle.stored_contents.proofs.Lists.{found_more, found_still}
use Rattle.stored_contents.proofs.Reading.{held_read}

-- each reader gets the same
pub held_reads : (t : Contents) (d : DiskState) (h : Holding) (read : ℕ → List ℕ) → ((q : ℕ) → read q ≡ h.read q) → IsHeld t d h → IsHeld t d (record h { read = read })
held_reads t d h read same held = record {
  room = held.room;
  image = held.image;
  given = held.given;
  sizes = held.sizes;
  safe = held.safe;
  uploads = held.uploads;
  readers = λ q. same q ∙ held.readers q;
}

-- what is read under a number, which changes twice
pub read_twice : (read : ℕ → List ℕ) (c : ℕ) (first last : List ℕ) (q : ℕ) → with_read read c last q ≡ with_read (with_read read c first) c last q
read_twice read c first last q = by (nat_eq c q)
  where
    by : (b : Bool) → (if b then last else read q) ≡ (if b then last else (if b then first else read q))
    by true = refl
    by false = refl

pub held_started : (t new : Contents) (d : DiskState) (h : Holding) (c : ℕ) (o : Outgoing) (pieces : List Extent)
    → IsHeld t d (record h { read = with_read h.read c [] }) → outgoing_at t c ≡ None → IsRoom new h.owned
    → new.blobs.released ≡ t.blobs.released → new.incoming.entries ≡ t.incoming.entries → new.outgoing.items ≡ t.outgoing.items ++ o ∷ []
    → o.reader ≡ c → pins_of o ≡ pieces
    → IsHeld new d (record h { read = with_read h.read c (take o.len (drop o.at (flat_map h.meaning pieces))) })
held_started t new d h c o pieces held none room released incoming more reader pins =
    held_reads new d (record h { read = with_read (with_read h.read c []) c bytes }) (with_read h.read c bytes) (read_twice h.read c [] bytes)
    (held_read t new d (record h { read = with_read h.read c [] }) c bytes held room
    (subst (All (Contains t.blobs.released)) (sym released) (All-contains_itself t.blobs.released)) incoming others (sym here))
  where
    bytes : List ℕ
    bytes = take o.len (drop o.at (flat_map h.meaning pieces))

    others : (q : ℕ) → (c ≡ q → ⊥) → outgoing_at new q ≡ outgoing_at t q
    others q not =
        ap (find (λ r. r.reader == q)) more
        ∙ found_still (λ r. r.reader == q) t.outgoing.items o (ne_eqb o.reader q (λ same. not (sym reader ∙ same)))

    here : read_by h.meaning (outgoing_at new c) ≡ bytes
    here =
        ap (λ os. read_by h.meaning (find (λ r. r.reader == c) os)) more
        ∙ ap (read_by h.meaning) (found_more (λ r. r.reader == c) t.outgoing.items o none (eq-eqb o.reader c reader))
        ∙ ap (λ l. take o.len (drop o.at (flat_map h.meaning l))) pins
