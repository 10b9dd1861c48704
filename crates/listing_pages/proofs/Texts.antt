-- Where a text may be cut, and what its bytes are.
use Rattle.std.proofs.Common.{◌≡◌, ℕ, zero, suc, ◌+◌, ◌/◌, ◌%◌, ◌<◌, ◌≤◌, true, false, ltb, Some, List, [], ◌∷◌, ◌++◌, length, get_or, take, drop, subst, sym, ap, ◌∙◌, ⊎_elim, arith}
use Rattle.std.specs.List.{AllByRecursion}
use Rattle.std.specs.Str.{IsUtf8, IsCharBoundary}
use Rattle.std.proofs.Math.Utf8.{encode, encodes, scalar, scalars, scalar_cases}
use Rattle.std.proofs.lemmas.Bool.{and_parts, cases_Bool}
use Rattle.std.proofs.lemmas.Bool.Decides.{nat_tests}
use Rattle.std.proofs.lemmas.List.{get_or-drop, get_or-take, get_or_default, length-drop, length-take}
use Rattle.std.proofs.lemmas.Slice.Eq.{bytes_eq-Decides}
use Rattle.std.proofs.lemmas.Str.{IsCharBoundary-from_rest, IsCharBoundary-from_take, IsCharBoundary-start, IsUtf8-drop}
use Rattle.name_rules.specs.Folder.{folder_end}
use Rattle.name_rules.proofs.Folders.{ends_there}

-- ---- bytes

abbrev AreLow : List ℕ → Type 0
AreLow bs = AllByRecursion (λ b. b < 255) bs

low_next : (c : ℕ) → 128 + c % 64 < 255
low_next c = omega arith

low_encode : (c : ℕ) → scalar c ≡ true → AreLow (encode c)
unfolding encode
low_encode c is =
    let bound : c < 1114112 = ⊎_elim (λ (h : c < 55296). omega (arith, h)) (λ (h : (57344 ≤ c) × (c < 1114112)). h.1) (scalar_cases c is) in
    ⊎_elim
    (λ (one : ltb c 128 ≡ true). rw one (grind (arith, nat_tests), tt))
    (λ (more : ltb c 128 ≡ false). rw more (⊎_elim
    (λ (two : ltb c 2048 ≡ true). rw two (let b : c < 2048 = grind (arith, nat_tests) in (omega arith, (low_next c, tt))))
    (λ (more2 : ltb c 2048 ≡ false). rw more2 (⊎_elim
    (λ (three : ltb c 65536 ≡ true). rw three (let b : c < 65536 = grind (arith, nat_tests) in (omega arith, (low_next (c / 64), (low_next c, tt)))))
    (λ (more3 : ltb c 65536 ≡ false). rw more3 (omega arith, (low_next (c / 4096), (low_next (c / 64), (low_next c, tt)))))
    (cases_Bool (ltb c 65536))))
    (cases_Bool (ltb c 2048))))
    (cases_Bool (ltb c 128))

low_append : (ds bs : List ℕ) → AreLow ds → AreLow bs → AreLow (ds ++ bs)
low_append [] bs first second = second
low_append (a ∷ ds) bs first second = (first.0, low_append ds bs first.1 second)

low_encodes : (cs : List ℕ) → scalars cs ≡ true → AreLow (encodes cs)
low_encodes [] is = tt
low_encodes (c ∷ cs) is = let parts = and_parts (scalar c) (scalars cs) is in low_append (encode c) (encodes cs) (low_encode c parts.0) (low_encodes cs parts.1)

low_at : (bs : List ℕ) (i : ℕ) → AreLow bs → get_or bs i 0 < 255
low_at [] i all = omega arith
low_at (b ∷ bs) zero all = all.0
low_at (b ∷ bs) (suc i) all = low_at bs i all.1

pub low_byte : (bs : List ℕ) (i : ℕ) → IsUtf8 bs → get_or bs i 0 < 255
low_byte bs i text = low_at bs i (subst AreLow text.1.1 (low_encodes text.0 text.1.0))

-- the same in a copy of the text
pub low_in_copy : (items text : List ℕ) (i b : ℕ) → items ≡ text → IsUtf8 text → i < length items → b ≡ get_or items i b → b < 255
low_in_copy items text i b same is within read = rw read (rw (get_or_default items i b 0 within) (subst (λ l. get_or l i 0 < 255) (sym same) (low_byte text i is)))

-- ---- cuts

-- a text begins where one is found in another
begins_there : (name delimiter : List ℕ) (at : ℕ) → IsUtf8 delimiter → 0 < length delimiter → at < length name → take (length delimiter) (drop at name) ≡ delimiter → IsCharBoundary name at
begins_there name delimiter at text some within same =
    let first : get_or delimiter 0 0 ≡ get_or name at 0 =
    ap (λ l. get_or l 0 0) (sym same) ∙ get_or-take (length delimiter) (drop at name) 0 0 some ∙ get_or-drop at name 0 0 ∙ ap (λ i. get_or name i 0) (omega arith) in
    let start = (IsCharBoundary-start delimiter text).1 some in
    (omega arith, λ inside high. subst (λ b. 192 ≤ b) first (start (subst (λ b. 128 ≤ b) (sym first) high)))

-- the name may be cut after the first delimiter
pub folder_cut : (name delimiter : List ℕ) (start end : ℕ) → IsUtf8 name → IsUtf8 delimiter → 0 < length delimiter → folder_end delimiter start (drop start name) ≡ Some end → IsCharBoundary name end × (0 < end) × (end ≤ length name)
folder_cut name delimiter start end whole text some found =
    let is = (ends_there name delimiter start end some).0 found in
    let same = (bytes_eq-Decides (take (length delimiter) (drop is.at name)) delimiter).0 is.stands in
    let long : length delimiter ≤ length (drop is.at name) = omega (arith, ap length same, length-take (length delimiter) (drop is.at name)) in
    let within : is.at + length delimiter ≤ length name = omega (arith, long, some, length-drop is.at name) in
    let here = begins_there name delimiter is.at text some (omega arith) same in
    let rest = IsUtf8-drop name is.at whole here in
    let cut = IsCharBoundary-from_take (drop is.at name) (length delimiter) rest long (subst IsUtf8 (sym same) text) in
    let there = IsCharBoundary-from_rest name is.at (length delimiter) (omega arith) cut in
    (subst (IsCharBoundary name) (sym is.end_is) there, omega (arith, is.end_is), omega (arith, is.end_is))
