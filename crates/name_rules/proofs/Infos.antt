-- Pairs by their lower-case keys.
use Rattle.std.proofs.Common.{◌≡◌, ◌≢◌, ℕ, ◌+◌, ◌<◌, ◌≤◌, ◌⊎◌, inl, inr, List, [], ◌∷◌, length, map, take, get_or, true, All, Less, Equal, Greater, refl, sym, ap, ◌∙◌, subst, arith}
use Rattle.std.proofs.lemmas.Bool.{cases_lt, agree_below_at}
use Rattle.std.proofs.lemmas.Bool.Decides.{nat_tests}
use Rattle.std.proofs.lemmas.List.{map_more, get_or-map, get_or-take, length-map, length-take}
use Rattle.std.proofs.lemmas.List.Elements.{All-map, All-head, All-tail, All-from_get_or}
use Rattle.std.proofs.lemmas.List.Sums.{sum_by-cons}
use Rattle.std.proofs.lemmas.List.Sorted.{IsPermutation-refl, IsPermutation-sym, IsPermutation-trans, IsPermutation-cons, IsPermutation-middle, IsPermutation-push_more, All-permutation, length_permutation, sum_by-IsPermutation}
use Rattle.std.proofs.lemmas.Map.Text.{is_eq-slice_cmp}
use Rattle.std.proofs.lemmas.Str.Ascii.{lowercase-lowercase}
use Rattle.std.proofs.Common.{Ordering}
use Rattle.std.specs.Ordering.{nat_cmp, is_eq}
use Rattle.std.specs.Cmp.Lexicographic.{slice_cmp, bytes_decides}
use Rattle.std.specs.Char.{to_ascii_lowercase}
use Rattle.std.specs.BTreeMap.{insert_entry}
use Rattle.std.specs.List.Sorted.{IsPermutation}
use Rattle.name_rules.specs.InfoPairs.{is_key_byte, IsKey, lower, lowered, size, key_at, HasKey, IsNew, AllBefore, AreInfo, IsArranged, IsKeptKey, AreKept}

same_order : (k l : List ℕ) → slice_cmp nat_cmp k l ≡ Equal → k ≡ l
same_order k l is = (bytes_decides k l).0 (sym (is_eq-slice_cmp k l) ∙ ap is_eq is)

put_beside : (k v : List ℕ) (e : List ℕ × List ℕ) (es : List (List ℕ × List ℕ)) (o : Ordering) → slice_cmp nat_cmp k e.0 ≡ o → e.0 ≢ k
    → IsPermutation ((k, v) ∷ es) (insert_entry (slice_cmp nat_cmp) es k v) → IsPermutation ((k, v) ∷ e ∷ es) (insert_entry (slice_cmp nat_cmp) (e ∷ es) k v)
put_beside k v e es Less is other rest = rw is (IsPermutation-refl ((k, v) ∷ e ∷ es))
put_beside k v e es Equal is other rest = absurd (other (sym (same_order k e.0 is)))
put_beside k v e es Greater is other rest = rw is (IsPermutation-trans ((k, v) ∷ e ∷ es) (e ∷ (k, v) ∷ es) (e ∷ insert_entry (slice_cmp nat_cmp) es k v)
    (IsPermutation-sym (e ∷ (k, v) ∷ es) ((k, v) ∷ e ∷ es) (IsPermutation-middle (e ∷ []) (k, v) es))
    (IsPermutation-cons e ((k, v) ∷ es) (insert_entry (slice_cmp nat_cmp) es k v) rest))

-- a pair whose key isn't there yet is put beside the others
put_fresh : (k v : List ℕ) (es : List (List ℕ × List ℕ)) → All (λ e. e.0 ≢ k) es → IsPermutation ((k, v) ∷ es) (insert_entry (slice_cmp nat_cmp) es k v)
put_fresh k v [] h = IsPermutation-refl ((k, v) ∷ [])
put_fresh k v (e ∷ es) h = put_beside k v e es (slice_cmp nat_cmp k e.0) refl (All-head (λ e. e.0 ≢ k) e es h) (put_fresh k v es (All-tail (λ e. e.0 ≢ k) e es h))

pub key_is : (pairs : List (List ℕ × List ℕ)) (i : ℕ) (d : List ℕ × List ℕ) → i < length pairs → key_at pairs i ≡ (get_or pairs i d).0
key_is pairs i d within = get_or-map (λ pair. pair.0) pairs i d [] within

-- no pair before this one has its key
fresh_before : (pairs : List (List ℕ × List ℕ)) (i : ℕ) → i < length pairs → AllBefore (IsNew pairs) (length pairs)
    → All (λ e. e.0 ≢ lower (key_at pairs i)) (map lowered (take i pairs))
fresh_before pairs i within apart = All-map (λ e. e.0 ≢ lower (key_at pairs i)) lowered (take i pairs)
    (All-from_get_or (λ pair. lower pair.0 ≢ lower (key_at pairs i)) (take i pairs) ([], [])
    (λ k below same.
    let short : k < i = omega (arith, below, length-take i pairs) in
    apart i within k short (ap lower (key_is pairs k ([], []) (omega (arith, short, within)) ∙ ap (λ p. p.0) (sym (get_or-take i pairs k ([], []) short))) ∙ same)))

ordered_more : (pairs es : List (List ℕ × List ℕ)) (i : ℕ) (d : List ℕ × List ℕ) → i < length pairs → AllBefore (IsNew pairs) (length pairs)
    → IsPermutation (map lowered (take i pairs)) es
    → IsPermutation (map lowered (take (i + 1) pairs)) (insert_entry (slice_cmp nat_cmp) es (lower (get_or pairs i d).0) (get_or pairs i d).1)
ordered_more pairs es i d within apart so_far =
    let key = key_is pairs i d within in
    let others = All-permutation (λ e. e.0 ≢ lower (key_at pairs i)) (map lowered (take i pairs)) es so_far (fresh_before pairs i within apart) in
    let fresh = subst (λ k. All (λ e. e.0 ≢ lower k) es) key others in
    subst (λ xs. IsPermutation xs (insert_entry (slice_cmp nat_cmp) es (lower (get_or pairs i d).0) (get_or pairs i d).1)) (sym (map_more lowered pairs i d within))
    (IsPermutation-push_more (map lowered (take i pairs)) es (insert_entry (slice_cmp nat_cmp) es (lower (get_or pairs i d).0) (get_or pairs i d).1) (lowered (get_or pairs i d))
    so_far (put_fresh (lower (get_or pairs i d).0) (get_or pairs i d).1 es fresh))

pub ordered_by : (pairs es : List (List ℕ × List ℕ)) (i : ℕ) (d pair : List ℕ × List ℕ) → i < length pairs → pair ≡ get_or pairs i d → AllBefore (IsNew pairs) (length pairs)
    → IsPermutation (map lowered (take i pairs)) es
    → IsPermutation (map lowered (take (i + 1) pairs)) (insert_entry (slice_cmp nat_cmp) es (lower pair.0) pair.1)
ordered_by pairs es i d pair within is apart so_far = rw is (ordered_more pairs es i d within apart so_far)

-- ---- what is kept

key_byte_lower : (b : ℕ) → (b < 128) ⊎ (128 ≤ b) → is_key_byte b ≡ true → is_key_byte (to_ascii_lowercase b) ≡ true
key_byte_lower b (inl small) is = agree_below_at (λ b. is_key_byte (to_ascii_lowercase b)) is_key_byte 128 b refl small ∙ is
key_byte_lower b (inr large) is = grind (arith, nat_tests, large, is)

lower_key : (key : List ℕ) → IsKey key → IsKey (lower key)
lower_key key is = record {
  least = omega (arith, is.least, length-map key to_ascii_lowercase);
  most = omega (arith, is.most, length-map key to_ascii_lowercase);
  each = λ i below.
      let within : i < length key = omega (arith, below, length-map key to_ascii_lowercase) in
      ap is_key_byte (get_or-map to_ascii_lowercase key i 0 0 within) ∙ key_byte_lower (get_or key i 0) (cases_lt (get_or key i 0) 128) (is.each i within);
}

lower_again : (key : List ℕ) → lower (lower key) ≡ lower key
lower_again [] = refl
lower_again (b ∷ bs) = rw (lowercase-lowercase b, lower_again bs) refl

kept_keys : (pairs : List (List ℕ × List ℕ)) → AllBefore (HasKey pairs) (length pairs) → All (λ pair. IsKeptKey pair.0) (map lowered pairs)
kept_keys pairs each = All-map (λ pair. IsKeptKey pair.0) lowered pairs
    (All-from_get_or (λ pair. IsKeptKey (lower pair.0)) pairs ([], [])
    (λ i within. (lower_key (get_or pairs i ([], [])).0 (subst IsKey (key_is pairs i ([], []) within) (each i within)), lower_again (get_or pairs i ([], [])).0)))

size_lowered : (pairs : List (List ℕ × List ℕ)) → size (map lowered pairs) ≡ size pairs
size_lowered [] = refl
size_lowered (p ∷ ps) = sum_by-cons (λ pair. length pair.0 + length pair.1) (lowered p) (map lowered ps) ∙ ap (λ n. length (lower p.0) + length p.1 + n) (size_lowered ps)
    ∙ ap (λ n. n + length p.1 + size ps) (length-map p.0 to_ascii_lowercase) ∙ sym (sum_by-cons (λ pair. length pair.0 + length pair.1) p ps)

pub are_kept : (pairs arranged : List (List ℕ × List ℕ)) → AreInfo pairs → IsArranged pairs arranged → AreKept arranged
are_kept pairs arranged info is = record {
  few = omega (arith, info.few, length_permutation (map lowered pairs) arranged is.same, length-map pairs lowered);
  keys = All-permutation (λ pair. IsKeptKey pair.0) (map lowered pairs) arranged is.same (kept_keys pairs info.keys);
  order = is.order;
  small = omega (arith, info.small, sum_by-IsPermutation (λ pair. length pair.0 + length pair.1) (map lowered pairs) arranged is.same, size_lowered pairs);
}
