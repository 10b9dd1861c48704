-- Where a delimiter stands.
use Rattle.std.proofs.Common.{◌≡◌, ℕ, zero, suc, ◌+◌, ◌-◌, ◌<◌, ◌≤◌, ◌↔◌, ◌⊎◌, inl, inr, Bool, true, false, List, [], ◌∷◌, Option, None, Some, length, take, drop, sym, ap, ◌∙◌, subst, refl, arith}
use Rattle.std.proofs.lemmas.Bool.{cases_lt, false≢true}
use Rattle.std.proofs.lemmas.List.{take_all, length-drop, length-take, drop-drop}
use Rattle.std.proofs.lemmas.Slice.Eq.{bytes_eq-Decides}
use Rattle.name_rules.specs.Folder.{begins_with, folder_end, StandsAt, HasNone, IsFolderEnd, HasNoFolder}

-- the rest of a slice is all that follows the place
whole_rest : (name : List ℕ) (at : ℕ) → take (length name - at) (drop at name) ≡ drop at name
whole_rest name at = let rest = length-drop at name in take_all (length name - at) (drop at name) (omega (arith, rest))

-- a test of the rest as a slice is a test of the rest
pub at_rest : (delimiter name : List ℕ) (at : ℕ) (r : Bool) → r ≡ begins_with delimiter (take (length name - at) (drop at name)) → r ≡ begins_with delimiter (drop at name)
at_rest delimiter name at r is = is ∙ ap (begins_with delimiter) (whole_rest name at)

-- what begins the name is no longer than it
pub prefix_len : (delimiter name : List ℕ) (at : ℕ) → begins_with delimiter (drop at name) ≡ true → at < length name → at + length delimiter ≤ length name
prefix_len delimiter name at is within =
    let same = (bytes_eq-Decides (take (length delimiter) (drop at name)) delimiter).0 is in
    omega (arith, within, ap length same, length-take (length delimiter) (drop at name), length-drop at name)

found_in : (delimiter xs : List ℕ) (at : ℕ) → 0 < length xs → begins_with delimiter xs ≡ true → folder_end delimiter at xs ≡ Some (at + length delimiter)
found_in delimiter [] at some is = absurd (omega (arith, some))
found_in delimiter (b ∷ bs) at some is = rw is refl

next_in : (delimiter xs : List ℕ) (at : ℕ) → 0 < length xs → begins_with delimiter xs ≡ false → folder_end delimiter at xs ≡ folder_end delimiter (at + 1) (drop 1 xs)
next_in delimiter [] at some is = absurd (omega (arith, some))
next_in delimiter (b ∷ bs) at some is = rw is refl

none_in : (delimiter xs : List ℕ) (at : ℕ) → length xs ≡ 0 → folder_end delimiter at xs ≡ None
none_in delimiter [] at none = refl
none_in delimiter (b ∷ bs) at none = absurd (omega (arith, none))

-- the delimiter stands at the place
pub ends_here : (delimiter name : List ℕ) (at : ℕ) → at < length name → begins_with delimiter (drop at name) ≡ true
    → folder_end delimiter at (drop at name) ≡ Some (at + length delimiter)
ends_here delimiter name at within is = found_in delimiter (drop at name) at (omega (arith, within, length-drop at name)) is

-- it does not, so the next place counts
pub ends_later : (delimiter name : List ℕ) (at : ℕ) → at < length name → begins_with delimiter (drop at name) ≡ false
    → folder_end delimiter at (drop at name) ≡ folder_end delimiter (at + 1) (drop (at + 1) name)
ends_later delimiter name at within is =
    next_in delimiter (drop at name) at (omega (arith, within, length-drop at name)) is ∙ ap (folder_end delimiter (at + 1)) (drop-drop 1 at name)

-- no place is left
pub no_end : (delimiter name : List ℕ) (at : ℕ) → length name ≤ at → folder_end delimiter at (drop at name) ≡ None
no_end delimiter name at past = none_in delimiter (drop at name) at (omega (arith, past, length-drop at name))

-- a delimiter that isn't empty stands at no place past the name
none_past : (delimiter name : List ℕ) (j : ℕ) → 0 < length delimiter → length name ≤ j → StandsAt delimiter name j → ⊥
none_past delimiter name j some past is =
    let same = (bytes_eq-Decides (take (length delimiter) (drop j name)) delimiter).0 is in
    absurd (omega (arith, some, past, length-drop j name, length-take (length delimiter) (drop j name), ap length same))

-- what is found: the end of the first delimiter, or that there is none
abbrev Finds : List ℕ → List ℕ → ℕ → Option ℕ → Type 0
Finds name delimiter start None = HasNoFolder name delimiter start
Finds name delimiter start (Some end) = IsFolderEnd name delimiter start end

-- no delimiter here, and none later
none_at : (delimiter name : List ℕ) (start j : ℕ) → begins_with delimiter (drop start name) ≡ false → (start + 1 ≤ j → StandsAt delimiter name j → ⊥)
    → start ≤ j → (j < start + 1) ⊎ (start + 1 ≤ j) → StandsAt delimiter name j → ⊥
none_at delimiter name start j here later from (inl low) is =
    let same : j ≡ start = omega (arith, from, low) in
    false≢true (sym here ∙ ap (λ i. begins_with delimiter (drop i name)) (sym same) ∙ is)
none_at delimiter name start j here later from (inr high) is = later high is

finds_later : (name delimiter : List ℕ) (start : ℕ) (o : Option ℕ) → begins_with delimiter (drop start name) ≡ false → Finds name delimiter (start + 1) o → Finds name delimiter start o
finds_later name delimiter start None here later = λ j from is. none_at delimiter name start j here (later j) from (cases_lt j (start + 1)) is
finds_later name delimiter start (Some end) here later = record {
  at = later.at;
  end_is = later.end_is;
  from = omega (arith, later.from);
  stands = later.stands;
  none = λ j from low is. none_at delimiter name start j here (λ past. later.none j past low) from (cases_lt j (start + 1)) is;
}

finds_here : (name delimiter : List ℕ) (start : ℕ) → begins_with delimiter (drop start name) ≡ true → Finds name delimiter start (Some (start + length delimiter))
finds_here name delimiter start is = record {
  at = start;
  end_is = refl;
  from = omega arith;
  stands = is;
  none = λ j from low stands. absurd (omega (arith, from, low));
}

finds_step : (name delimiter : List ℕ) (start : ℕ) (test : Bool) → start < length name → begins_with delimiter (drop start name) ≡ test
    → Finds name delimiter (start + 1) (folder_end delimiter (start + 1) (drop (start + 1) name)) → Finds name delimiter start (folder_end delimiter start (drop start name))
finds_step name delimiter start true within is later =
    subst (Finds name delimiter start) (sym (ends_here delimiter name start within is)) (finds_here name delimiter start is)
finds_step name delimiter start false within is later =
    subst (Finds name delimiter start) (sym (ends_later delimiter name start within is)) (finds_later name delimiter start (folder_end delimiter (start + 1) (drop (start + 1) name)) is later)

finds_past : (name delimiter : List ℕ) (start : ℕ) → 0 < length delimiter → length name ≤ start → Finds name delimiter start (folder_end delimiter start (drop start name))
finds_past name delimiter start some past =
    subst (Finds name delimiter start) (sym (no_end delimiter name start past)) (λ j from is. none_past delimiter name j some (omega (arith, past, from)) is)

finds_by : (k : ℕ) (name delimiter : List ℕ) (start : ℕ) → 0 < length delimiter → length name ≤ start + k → (start < length name) ⊎ (length name ≤ start)
    → Finds name delimiter start (folder_end delimiter start (drop start name))
finds_by k name delimiter start some near (inr past) = finds_past name delimiter start some past
finds_by zero name delimiter start some near (inl within) = absurd (omega (arith, near, within))
finds_by (suc k) name delimiter start some near (inl within) =
    finds_step name delimiter start (begins_with delimiter (drop start name)) within refl
    (finds_by k name delimiter (start + 1) some (omega (arith, near)) (cases_lt (start + 1) (length name)))

finds : (name delimiter : List ℕ) (start : ℕ) → 0 < length delimiter → Finds name delimiter start (folder_end delimiter start (drop start name))
finds name delimiter start some = finds_by (length name) name delimiter start some (omega arith) (cases_lt start (length name))

not_before : (name delimiter : List ℕ) (start a b : ℕ) → start ≤ a → StandsAt delimiter name a → HasNone name delimiter start b → (a < b) ⊎ (b ≤ a) → b ≤ a
not_before name delimiter start a b from stands none (inl low) = absurd (none a from low stands)
not_before name delimiter start a b from stands none (inr high) = high

one_end : (name delimiter : List ℕ) (start a b : ℕ) → IsFolderEnd name delimiter start a → IsFolderEnd name delimiter start b → a ≡ b
one_end name delimiter start a b first second =
    let up = not_before name delimiter start first.at second.at first.from first.stands second.none (cases_lt first.at second.at) in
    let down = not_before name delimiter start second.at first.at second.from second.stands first.none (cases_lt second.at first.at) in
    omega (arith, up, down, first.end_is, second.end_is)

there : (name delimiter : List ℕ) (start end : ℕ) (o : Option ℕ) → Finds name delimiter start o → IsFolderEnd name delimiter start end → o ≡ Some end
there name delimiter start end None none is = absurd (none is.at is.from is.stands)
there name delimiter start end (Some e) found is = ap Some (one_end name delimiter start e end found is)

nowhere : (name delimiter : List ℕ) (start : ℕ) (o : Option ℕ) → Finds name delimiter start o → HasNoFolder name delimiter start → o ≡ None
nowhere name delimiter start None none is = refl
nowhere name delimiter start (Some e) found is = absurd (is found.at found.from found.stands)

pub ends_there : (name delimiter : List ℕ) (start end : ℕ) → 0 < length delimiter
    → (folder_end delimiter start (drop start name) ≡ Some end) ↔ IsFolderEnd name delimiter start end
ends_there name delimiter start end some =
    let found = finds name delimiter start some in
    (λ is. subst (Finds name delimiter start) is found, there name delimiter start end (folder_end delimiter start (drop start name)) found)

pub ends_nowhere : (name delimiter : List ℕ) (start : ℕ) → 0 < length delimiter
    → (folder_end delimiter start (drop start name) ≡ None) ↔ HasNoFolder name delimiter start
ends_nowhere name delimiter start some =
    let found = finds name delimiter start some in
    (λ is. subst (Finds name delimiter start) is found, nowhere name delimiter start (folder_end delimiter start (drop start name)) found)
