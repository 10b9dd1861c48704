-- The bytes of a range, and how many bytes pieces have together.
use Rattle.std.proofs.Common.{◌≡◌, ℕ, ◌+◌, false, List, [], ◌∷◌, All, length, take, drop, flat_map, sum_by, refl, sym, ap, ◌∙◌, arith}
use Rattle.std.proofs.lemmas.Bool.Decides.{nat_tests}
use Rattle.std.proofs.lemmas.List.{length-take-le, length-drop}
use Rattle.std.proofs.lemmas.List.Concat.{length-flat_map}
use Rattle.std.proofs.lemmas.List.Sums.{sum_by-cons}
use Rattle.std.proofs.lemmas.List.Elements.{All-head, All-tail}
use Rattle.b2_types.specs.declared.answer.Span.{Span}
use Rattle.b2_types.specs.declared.call.ByteRange.{ByteRange}
use Rattle.b2_types.specs.declared.call.ByteRange.TheVariants as range
use Rattle.b2_model.specs.AskDownloads.{misses, span_of}
use Rattle.download_laws.specs.Sent.{LiesIn}

-- a range that has a byte lies in the content
pub in_content : (length : ℕ) (r : ByteRange) → misses length r ≡ false → LiesIn length (span_of length r)
in_content length (range.Between a b) hit = grind (arith, nat_tests, hit)
in_content length (range.From a) hit = grind (arith, nat_tests, hit)
in_content length (range.Last n) hit = grind (arith, nat_tests, hit)

module _ {C : Type 0} (size : C → ℕ) (bytes : C → List ℕ) where
  same_sum : (pieces : List C) → All (λ c. length (bytes c) ≡ size c) pieces → sum_by (λ c. length (bytes c)) pieces ≡ sum_by size pieces
  same_sum [] each = refl
  same_sum (c ∷ cs) each =
      let here : length (bytes c) ≡ size c = All-head (λ c. length (bytes c) ≡ size c) c cs each in
      sum_by-cons (λ d. length (bytes d)) c cs
      ∙ ap (λ n. n + sum_by (λ d. length (bytes d)) cs) here
      ∙ ap (λ n. size c + n) (same_sum cs (All-tail (λ c. length (bytes c) ≡ size c) c cs each))
      ∙ sym (sum_by-cons size c cs)

  pub all_bytes : (pieces : List C) → All (λ c. length (bytes c) ≡ size c) pieces → length (flat_map bytes pieces) ≡ sum_by size pieces
  all_bytes pieces each = length-flat_map bytes pieces ∙ same_sum pieces each

pub cut_length : (span : Span) (bytes : List ℕ) → LiesIn (length bytes) span → length (take span.len (drop span.at bytes)) ≡ span.len
cut_length span bytes lies =
    let left = length-drop span.at bytes in
    length-take-le span.len (drop span.at bytes) (omega (arith, left, lies))
