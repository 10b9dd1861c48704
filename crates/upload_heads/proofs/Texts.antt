-- Bytes pass as a text exactly where they are UTF-8.
use Rattle.std.proofs.Common.{◌≡◌, ℕ, ◌<◌, List, [], ◌∷◌, true, Some, None, inl, inr, subst, ap, refl, arith}
use Rattle.std.specs.Str.{IsUtf8, is_utf8}
use Rattle.std.proofs.lemmas.Str.{IsUtf8-from_is_utf8, is_utf8-from_IsUtf8}
use Rattle.std.specs.Prelude.{nat_le, All}
use Rattle.std.specs.List.{list_all}
use Rattle.std.proofs.lemmas.Bool.{cases_Bool, and_parts, leb-true}
use Rattle.std.proofs.lemmas.List.Elements.{All-nil, All-cons}
use Rattle.std.proofs.lemmas.Str.{IsUtf8-from_ascii}
use Rattle.std.proofs.lemmas.Str.Ascii.{IsAscii-from_all}
use Rattle.field_kinds.specs.Kinds.{if_passes, is_visible}

pub passes : (bytes text : List ℕ) → text ≡ bytes → IsUtf8 text → Some text ≡ if_passes is_utf8 bytes
passes bytes text same is =
    let test : is_utf8 bytes ≡ true = is_utf8-from_IsUtf8 bytes (subst IsUtf8 same is) in
    rw test (ap Some same)

pub passes_not : (bytes : List ℕ) → (IsUtf8 bytes → ⊥) → None ≡ if_passes is_utf8 bytes
passes_not bytes none = elim (cases_Bool (is_utf8 bytes)) [
  | inl is ↦ absurd (none (IsUtf8-from_is_utf8 bytes is))
  | inr other ↦ rw other refl
]

all_below : (bytes : List ℕ) → list_all is_visible bytes ≡ true → All (λ b. b < 128) bytes
all_below [] test = All-nil (λ b. b < 128)
all_below (b ∷ bs) test =
    let parts = and_parts (is_visible b) (list_all is_visible bs) test in
    let most = leb-true b 126 (and_parts (nat_le 32 b) (nat_le b 126) parts.0).1 in
    All-cons (λ b. b < 128) b bs (omega (arith, most)) (all_below bs parts.1)

pub visible_text : (bytes : List ℕ) → list_all is_visible bytes ≡ true → (IsUtf8 bytes → ⊥) → ⊥
visible_text bytes test none = none (IsUtf8-from_ascii bytes (IsAscii-from_all bytes (all_below bytes test)))
