-- Information is told as it is, since its keys ascend.
use Rattle.std.proofs.Common.{◌≡◌, ℕ, List, [], ◌∷◌, ◌++◌, Bool, true, false, map, fold, sym, ap, ◌∙◌, subst, refl, append_assoc, append-nil}
use Rattle.std.proofs.lemmas.Bool.{false≢true}
use Rattle.std.proofs.lemmas.Cmp.{nat_list_cmp_total}
use Rattle.std.specs.Cmp.Lexicographic.{slice_cmp}
use Rattle.std.specs.List.{AllByRecursion}
use Rattle.std.specs.List.Sorted.{IsStrictlySortedBy}
use Rattle.std.specs.Ordering.{nat_cmp, ordering_reverse}
use Rattle.std.specs.declared.cmp.Ordering.TheVariants.{Less, Greater}
use Rattle.serde_json.specs.Data.{Data, string, object, Members, no_members, member, put}
use Rattle.name_rules.specs.InfoPairs.{keys, IsAscending}
use Rattle.wire_forms.specs.Body.{info_json}
use Rattle.wire_laws.proofs.Plain.{text}

abbrev Pair : Type 0
Pair = List ℕ × List ℕ

-- the members are these pairs, in this order
members_in : List Pair → Members
members_in [] = no_members
members_in (p ∷ ps) = member p.0 (string p.1) (members_in ps)

below_middle : (first : Pair) (done : List Pair) (p : Pair) (more : List Pair) → AllByRecursion (λ y. slice_cmp nat_cmp first.0 y ≡ Less) (keys (done ++ p ∷ more)) → slice_cmp nat_cmp first.0 p.0 ≡ Less
below_middle first [] p more h = h.0
below_middle first (x ∷ done) p more h = below_middle first done p more h.1

-- a key above all others goes last
put_last : (done : List Pair) (p : Pair) (more : List Pair) → IsAscending (done ++ p ∷ more) → put p.0 (string p.1) (members_in done) ≡ members_in (done ++ p ∷ [])
unfolding members_in IsStrictlySortedBy
put_last [] p more h = refl
put_last (first ∷ done) p more h =
    let above : slice_cmp nat_cmp p.0 first.0 ≡ Greater = nat_list_cmp_total.antisymm p.0 first.0 ∙ ap ordering_reverse (below_middle first done p more h.0) in
    rw above (ap (member first.0 (string first.1)) (put_last done p more h.1))

abbrev with_pair : Members → List ℕ × Data → Members
with_pair members pair = put pair.0 pair.1 members

abbrev row : Pair → List ℕ × Data
row pair = (pair.0, string pair.1)

put_on : (done more : List Pair) → IsAscending (done ++ more) → fold with_pair (members_in done) (map row more) ≡ members_in (done ++ more)
put_on done [] h = ap members_in (sym (append-nil done))
put_on done (p ∷ more) h =
    let again : (done ++ p ∷ []) ++ more ≡ done ++ p ∷ more = append_assoc done (p ∷ []) more in
    ap (λ ms. fold with_pair ms (map row more)) (put_last done p more h) ∙ put_on (done ++ p ∷ []) more (subst IsAscending (sym again) h) ∙ ap members_in again

abbrev is_none : Members → Bool
is_none no_members = true
is_none (member k d ms) = false

abbrev key : Members → List ℕ
key no_members = []
key (member k d ms) = k

abbrev value : Members → List ℕ
value no_members = []
value (member k d ms) = text d

abbrev others : Members → Members
others no_members = no_members
others (member k d ms) = ms

same_pairs : (xs ys : List Pair) → members_in xs ≡ members_in ys → xs ≡ ys
unfolding members_in
same_pairs [] [] same = refl
same_pairs [] (y ∷ ys) same = absurd (false≢true (ap is_none (sym same)))
same_pairs (x ∷ xs) [] same = absurd (false≢true (ap is_none same))
same_pairs (x ∷ xs) (y ∷ ys) same =
    let name : x.0 ≡ y.0 = ap key same in
    let told : x.1 ≡ y.1 = ap value same in
    let rest : xs ≡ ys = same_pairs xs ys (ap others same) in
    λ i. (name i, told i) ∷ rest i

abbrev members : Data → Members
members (object ms) = ms
members other = no_members

told_as : (info : List Pair) → IsAscending info → members (info_json info) ≡ members_in info
unfolding members_in
told_as info h = put_on [] info h

pub same_info : (a b : List Pair) → IsAscending a → IsAscending b → info_json a ≡ info_json b → a ≡ b
same_info a b first second same = same_pairs a b (sym (told_as a first) ∙ ap members same ∙ told_as b second)
