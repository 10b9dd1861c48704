-- A text is cut at its first colon one way, and a value of Basic credentials gives one pair.
use Rattle.std.proofs.Common.{◌≡◌, ◌≢◌, ℕ, suc, ◌<◌, List, [], ◌∷◌, ◌++◌, length, get_or, Option, Some, None, MatchOption, sym, ap, ◌∙◌, refl, subst, arith, Bor, codes, drop, Ok}
use Rattle.std.specs.Result.{result_unwrap_or}
use Rattle.b2_base.proofs.Cuts.{cut_once}
use Rattle.base64.proofs.EngineFacts.{decode_of-encode_of}
use Rattle.std.specs.Str.{IsUtf8}
use Rattle.std.specs.List.{All}
use Rattle.std.proofs.lemmas.List.Elements.{All-from_get_or}
use Rattle.base64.specs.Engines.{standard}
use Rattle.base64.specs.GeneralPurpose.{encode_of, decode_of, IsBytes}
use Rattle.wire_forms.specs.Basic.{IsBasic}
use Rattle.api_json.specs.Basic.{IsPair}

has_byte : (b : ℕ) (xs ys : List ℕ) → ((i : ℕ) → i < length (xs ++ b ∷ ys) → get_or (xs ++ b ∷ ys) i 0 ≢ b) → ⊥
has_byte b [] ys clean = clean 0 (omega arith) refl
has_byte b (x ∷ xs) ys clean = has_byte b xs ys (λ i within. clean (suc i) (omega arith))

pub pair_of : (bytes : List ℕ) (r : Option (Bor (List ℕ) × Bor (List ℕ)))
    → MatchOption r ((i : ℕ) → i < length bytes → get_or bytes i 0 ≢ 58) (λ x. (bytes ≡ x.0.now ++ 58 ∷ x.1.now) × ((i : ℕ) → i < length x.0.now → get_or x.0.now i 0 ≢ 58))
    → IsUtf8 bytes → MatchOption r ((id secret : List ℕ) → IsPair bytes id secret → ⊥) (λ p. IsPair bytes p.0.now p.1.now)
pair_of bytes None clean text = λ id secret pair. has_byte 58 id secret (λ i within. subst (λ xs. get_or xs i 0 ≢ 58) pair.joined (clean i (subst (λ xs. i < length xs) (sym pair.joined) within)))
pair_of bytes (Some p) parts text = record { joined = parts.0; text = text; first_colon = All-from_get_or (λ b. b ≢ 58) p.0.now 0 parts.1 }

pub pair_along : (text bytes : List ℕ) → text ≡ bytes → (r : Option (Bor (List ℕ) × Bor (List ℕ)))
    → MatchOption r ((i : ℕ) → i < length text → get_or text i 0 ≢ 58) (λ x. (text ≡ x.0.now ++ 58 ∷ x.1.now) × ((i : ℕ) → i < length x.0.now → get_or x.0.now i 0 ≢ 58))
    → IsUtf8 bytes → MatchOption r ((id secret : List ℕ) → IsPair bytes id secret → ⊥) (λ p. IsPair bytes p.0.now p.1.now)
pair_along text bytes same r parts utf8 =
    let at : List ℕ → Type 0 = λ xs. MatchOption r ((id secret : List ℕ) → IsPair xs id secret → ⊥) (λ p. IsPair xs p.0.now p.1.now) in
    subst at same (pair_of text r parts (subst IsUtf8 (sym same) utf8))

pub basic_of : (value encoded bytes id secret u s : List ℕ) → value ≡ codes "Basic " ++ encoded → encoded ≡ encode_of standard bytes → IsBytes bytes
    → IsPair bytes id secret → u ≡ id → s ≡ secret → IsBasic value u s
basic_of value encoded bytes id secret u s front written fit pair same_u same_s =
    let joined : bytes ≡ u ++ 58 ∷ s = pair.joined ∙ ap (λ x. x ++ 58 ∷ secret) (sym same_u) ∙ ap (λ y. u ++ 58 ∷ y) (sym same_s) in
    record {
      written = front ∙ ap (λ (e : List ℕ). codes "Basic " ++ e) (written ∙ ap (encode_of standard) joined);
      bytes = subst IsBytes joined fit;
      text = subst IsUtf8 joined pair.text;
      first_colon = subst (All (λ b. b ≢ 58)) (sym same_u) pair.first_colon;
    }

bytes_of : (value id secret : List ℕ) → IsBasic value id secret → decode_of standard (drop 6 value) ≡ Ok (id ++ 58 ∷ secret)
bytes_of value id secret basic = ap (λ v. decode_of standard (drop 6 v)) basic.written ∙ decode_of-encode_of standard (id ++ 58 ∷ secret) refl basic.bytes

pub one_pair : (value u s id secret : List ℕ) → IsBasic value u s → IsBasic value id secret → (u ≡ id) × (s ≡ secret)
one_pair value u s id secret first second =
    let same : u ++ 58 ∷ s ≡ id ++ 58 ∷ secret = ap (λ r. result_unwrap_or r []) (sym (bytes_of value u s first) ∙ bytes_of value id secret second) in
    cut_once 58 u id s secret first.first_colon second.first_colon same
