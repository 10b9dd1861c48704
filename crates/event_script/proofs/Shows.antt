-- What a sink took where it stopped on the way.
use Rattle.std.proofs.Common.{◌≡◌, ℕ, ◌+◌, ◌<◌, List, [], ◌∷◌, ◌++◌, length, take, drop, get_or, Option, Result, Ok, Err, OnErr, sym, ap, ◌∙◌, subst, arith, append-nil, inl, inr}
use Rattle.std.specs.List.{flat_map}
use Rattle.std.specs.Io.KnownBytes.{Appends}
use Rattle.std.proofs.KnownBytes.{Appends-trans}
use Rattle.std.proofs.Math.Seq.{take-append_seam, take-append-add}
use Rattle.std.proofs.lemmas.Bool.{cases_lt}
use Rattle.std.proofs.lemmas.List.{take_all, take_more, take-append-drop, take-append-le}
use Rattle.std.proofs.lemmas.List.Concat.{flat_map-append}
use Rattle.outside_traits.specs.Bytes.{AppendsFront}

pub any_err : {T E P : Type 0} (r : Result T E) → P → OnErr r P
any_err (Ok x) p = tt
any_err (Err e) p = p

-- a front of a text is one of a longer text
pub front_of_more : (a b : Option (List ℕ)) (xs ys : List ℕ) → AppendsFront a b xs → AppendsFront a b (xs ++ ys)
front_of_more a b xs ys (n, took) = elim (cases_lt n (length xs)) [
  | inl less ↦ (n, subst (Appends a b) (sym (take-append-le n xs ys (omega (arith, less)))) took)
  | inr more ↦ (length xs, subst (Appends a b) (take_all n xs (omega (arith, more)) ∙ sym (take-append_seam xs ys)) took)
]

-- a text, and a front of what stands behind it
pub front_behind : (a b c : Option (List ℕ)) (xs ys : List ℕ) → Appends a b xs → AppendsFront b c ys → AppendsFront a c (xs ++ ys)
front_behind a b c xs ys took (n, more) = (length xs + n, subst (Appends a c) (sym (take-append-add xs ys n)) (Appends-trans a b c xs (take n ys) took more))

-- the texts of the first items, and a front of that of the next
pub front_of_list : {X : Type 0} (f : X → List ℕ) (items : List X) (i : ℕ) (d : X) (a b c : Option (List ℕ)) → i < length items
    → Appends a b (flat_map f (take i items)) → AppendsFront b c (f (get_or items i d)) → AppendsFront a c (flat_map f items)
front_of_list f items i d a b c below took stopped =
    let item = get_or items i d in
    let rest = flat_map f (drop (i + 1) items) in
    let done : flat_map f (take (i + 1) items) ≡ flat_map f (take i items) ++ f item =
    ap (flat_map f) (take_more items i d below) ∙ flat_map-append f (take i items) (item ∷ []) ∙ ap (λ ys. flat_map f (take i items) ++ ys) (append-nil (f item)) in
    let whole : flat_map f items ≡ (flat_map f (take i items) ++ f item) ++ rest =
    ap (flat_map f) (sym (take-append-drop (i + 1) items)) ∙ flat_map-append f (take (i + 1) items) (drop (i + 1) items) ∙ ap (λ ys. ys ++ rest) done in
    subst (AppendsFront a c) (sym whole) (front_of_more a c (flat_map f (take i items) ++ f item) rest (front_behind a b c (flat_map f (take i items)) (f item) took stopped))
