-- What the listing order says of two spots.
use Rattle.std.proofs.Common.{◌≡◌, ℕ, ◌<◌, ◌≤◌, ◌⊎◌, true, false, subst, sym, ap, ◌∙◌, inl, inr, ⊎_elim, refl, arith, nat_cmp, is_eq, is_le, Less, Equal, Greater}
use Rattle.std.specs.Prelude.{bytes_eq, ◌==◌}
use Rattle.std.specs.declared.cmp.Ordering.{Ordering}
use Rattle.std.specs.Ordering.{ordering_reverse, ordering_then}
use Rattle.std.specs.Cmp.{alike_right, nat_cmp_total, tied_back, tied_itself}
use Rattle.std.specs.Cmp.Lexicographic.{nat_list_cmp_total, slice_cmp, texts_ties}
use Rattle.std.proofs.lemmas.Bool.{and_left, and_right, and_from, and_parts, cases_Bool, eqb-true, eqb-false, false≢true}
use Rattle.std.proofs.lemmas.Cmp.{ranked}
use Rattle.std.proofs.lemmas.Grind.{common_steps}
use Rattle.b2_base.specs.declared.numbers.TheConstants.{LAST_VERSION}
use Rattle.version_index.specs.declared.spot.Spot.{Spot}
use Rattle.version_index.specs.Order.{listing_total}
use Rattle.version_index.specs.Rows.{is_from, is_named, is_spot, listing_cmp}

then_less : (p q : Ordering) → ordering_then p q ≡ Less → (p ≡ Less) ⊎ ((p ≡ Equal) × (q ≡ Less))
then_less Less q is = inl refl
then_less Equal q is = inr (refl, is)
then_less Greater q is = cc

then_le : (p q : Ordering) → is_le (ordering_then p q) ≡ true → (p ≡ Less) ⊎ ((p ≡ Equal) × (is_le q ≡ true))
then_le Less q is = inl refl
then_le Equal q is = inr (refl, is)
then_le Greater q is = absurd (false≢true is)

pub equal_from : (o : Ordering) → is_eq o ≡ true → o ≡ Equal
equal_from Less is = absurd (false≢true is)
equal_from Equal is = refl
equal_from Greater is = absurd (false≢true is)

pub less_from : (m n : ℕ) → nat_cmp m n ≡ Less → m < n
less_from m n h = rw h at (ranked m n (nat_cmp m n) refl)

pub same_from : (m n : ℕ) → nat_cmp m n ≡ Equal → m ≡ n
same_from m n h = rw h at (ranked m n (nat_cmp m n) refl)

pub greater_from : (m n : ℕ) → nat_cmp m n ≡ Greater → n < m
greater_from m n h = rw h at (ranked m n (nat_cmp m n) refl)

-- what stands later lies in the same bucket or in a later one
pub later_bucket : (s t : Spot) → listing_cmp s t ≡ Less → s.bucket ≤ t.bucket
later_bucket s t is = elim (then_less (nat_cmp s.bucket t.bucket) _ is) [
  | inl low ↦ let l = less_from s.bucket t.bucket low in omega arith
  | inr e ↦ let l = same_from s.bucket t.bucket e.0 in omega arith
]

-- what stands at s or after it in another bucket lies in a later one
pub other_bucket : (s t : Spot) → is_le (listing_cmp s t) ≡ true → (t.bucket == s.bucket) ≡ false → s.bucket < t.bucket
other_bucket s t is other = elim (then_le (nat_cmp s.bucket t.bucket) _ is) [
  | inl low ↦ less_from s.bucket t.bucket low
  | inr e ↦ absurd (eqb-false t.bucket s.bucket other (sym (same_from s.bucket t.bucket e.0)))
]

-- a later spot is another
pub not_later : (s r t : Spot) → is_spot s r ≡ true → listing_cmp r t ≡ Less → is_spot s t ≡ false
not_later s r t same later = ap is_eq (listing_total.congr s r t (equal_from (listing_cmp s r) same) ∙ later)

pub up_to : (m n : ℕ) → m ≤ n → is_le (nat_cmp m n) ≡ true
up_to m n low = grind (arith, common_steps)

-- each row of a name stands at the name's last number or after it
pub named_from : (s t : Spot) → s.num ≡ LAST_VERSION → t.num ≤ LAST_VERSION → is_named s t ≡ true → is_from s t ≡ true
named_from s t last within named =
    let parts = and_parts (t.bucket == s.bucket) (bytes_eq t.name s.name) named in
    let bucket : nat_cmp s.bucket t.bucket ≡ Equal = subst (λ n. nat_cmp s.bucket n ≡ Equal) (sym (eqb-true t.bucket s.bucket parts.0)) (tied_itself nat_cmp_total s.bucket) in
    let name : slice_cmp nat_cmp s.name t.name ≡ Equal = tied_back nat_list_cmp_total t.name s.name (equal_from (slice_cmp nat_cmp t.name s.name) (sym (texts_ties t.name s.name) ∙ parts.1)) in
    and_from (t.bucket == s.bucket) (is_le (listing_cmp s t)) parts.0
    (ap (λ o. is_le (ordering_then o (ordering_then (slice_cmp nat_cmp s.name t.name) (nat_cmp t.num s.num)))) bucket
    ∙ ap (λ o. is_le (ordering_then o (nat_cmp t.num s.num))) name
    ∙ up_to t.num s.num (omega arith))

-- the bytes of the names in order, where the buckets are the same
name_after : (s r : Spot) → is_from s r ≡ true → is_named s r ≡ false → slice_cmp nat_cmp s.name r.name ≡ Less
name_after s r from other =
    let parts = and_parts (r.bucket == s.bucket) (is_le (listing_cmp s r)) from in
    let bucket = eqb-true r.bucket s.bucket parts.0 in
    elim (then_le (nat_cmp s.bucket r.bucket) (ordering_then (slice_cmp nat_cmp s.name r.name) (nat_cmp r.num s.num)) parts.1) [
      | inl low ↦ absurd (let l = less_from s.bucket r.bucket low in omega arith)
      | inr e ↦ elim (then_le (slice_cmp nat_cmp s.name r.name) (nat_cmp r.num s.num) e.1) [
        | inl low ↦ low
        | inr same ↦ absurd (false≢true (sym other ∙ and_from (r.bucket == s.bucket) (bytes_eq r.name s.name) parts.0 (texts_ties r.name s.name ∙ ap is_eq (tied_back nat_list_cmp_total s.name r.name same.0))))
      ]
    ]

-- after a spot of another name in the bucket, the name does not come again
pub past_name : (s r t : Spot) → is_from s r ≡ true → is_named s r ≡ false → listing_cmp r t ≡ Less → is_named s t ≡ false
past_name s r t from other later = ⊎_elim
    (λ (here : (t.bucket == s.bucket) ≡ true).
    let bucket = eqb-true t.bucket s.bucket here in
    let first = eqb-true r.bucket s.bucket (and_parts (r.bucket == s.bucket) (is_le (listing_cmp s r)) from).0 in
    let low = name_after s r from other in
    let past : slice_cmp nat_cmp s.name t.name ≡ Less = elim (then_less (nat_cmp r.bucket t.bucket) (ordering_then (slice_cmp nat_cmp r.name t.name) (nat_cmp t.num r.num)) later) [
      | inl l ↦ absurd (let m = less_from r.bucket t.bucket l in omega arith)
      | inr e ↦ elim (then_less (slice_cmp nat_cmp r.name t.name) (nat_cmp t.num r.num) e.1) [
        | inl l ↦ nat_list_cmp_total.trans s.name r.name t.name low l
        | inr same ↦ sym (alike_right nat_list_cmp_total r.name t.name s.name same.0) ∙ low
      ]
    ] in
    and_right (t.bucket == s.bucket) (bytes_eq t.name s.name) (texts_ties t.name s.name ∙ ap is_eq (nat_list_cmp_total.antisymm t.name s.name ∙ ap ordering_reverse past)))
    (λ (other_one : (t.bucket == s.bucket) ≡ false). and_left (t.bucket == s.bucket) (bytes_eq t.name s.name) other_one)
    (cases_Bool (t.bucket == s.bucket))
