-- The id of a key is cut in one way.
use Rattle.std.proofs.Common.{◌≡◌, ◌≢◌, ℕ, ◌<◌, ◌^◌, List, [], ◌∷◌, ◌++◌, length, drop, codes, refl, sym, ap, ◌∙◌, arith, append_assoc}
use Rattle.std.proofs.lemmas.List.{drop_at}
use Rattle.b2_base.specs.Digits.{eight_digits}
use Rattle.b2_base.proofs.DigitsLemmas.{same_eight}
use Rattle.app_keys.specs.Keys.{long_id}

-- what follows the account
after_account : (id rest tail account digits : List ℕ) → id ≡ codes "001" ++ rest → rest ≡ account ++ tail
    → id ≡ codes "001" ++ account ++ codes "00" ++ digits → tail ≡ codes "00" ++ digits
after_account id rest tail account digits front middle is =
    let same : account ++ tail ≡ account ++ (codes "00" ++ digits) = sym middle ∙ ap (drop 3) (sym front ∙ is) ∙ append_assoc account (codes "00") digits in
    sym (drop_at account tail (length account) refl) ∙ ap (drop (length account)) same ∙ drop_at account (codes "00" ++ digits) (length account) refl

pub no_zeros : (id rest tail account : List ℕ) → id ≡ codes "001" ++ rest → rest ≡ account ++ tail → ((xs : List ℕ) → tail ≢ codes "00" ++ xs)
    → (key : ℕ) → id ≢ long_id account key
no_zeros id rest tail account front middle none key is = none (eight_digits key) (after_account id rest tail account (eight_digits key) front middle is)

pub digits_of : (id rest tail account digits : List ℕ) (key : ℕ) → id ≡ codes "001" ++ rest → rest ≡ account ++ tail → tail ≡ codes "00" ++ digits
    → id ≡ long_id account key → digits ≡ eight_digits key
digits_of id rest tail account digits key front middle zeros is =
    ap (drop 2) (sym zeros ∙ after_account id rest tail account (eight_digits key) front middle is)

pub not_zero : (digits : List ℕ) (number key : ℕ) → number ≡ 0 → digits ≡ eight_digits number → 0 < key → key < 2 ^ 32 → digits ≢ eight_digits key
not_zero digits number key zero is some small same =
    let none : 0 ≡ key = same_eight 0 key (omega arith) small (sym (is ∙ ap eight_digits zero) ∙ same) in
    omega (arith, none, some)
