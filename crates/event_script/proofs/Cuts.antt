-- Bytes that a text doesn't have, and texts that are cut at a space.
use Rattle.std.proofs.Common.{◌≡◌, ◌≢◌, ℕ, ◌<◌, ◌^◌, List, [], ◌∷◌, ◌++◌, length, get_or, Bool, true, false, ◌&&◌, not, nat_eq, eq-eqb, drop, sym, ap, ◌∙◌, refl, arith, decimal, subst}
use Rattle.std.specs.List.{All, list_all}
use Rattle.std.specs.Int.{IsInRange}
use Rattle.std.specs.Str.Parse.{digits_value}
use Rattle.std.proofs.lemmas.List.{drop_at}
use Rattle.std.proofs.lemmas.List.Elements.{All-nil, All-cons, All-from_get_or, All-same, All-drop}
use Rattle.std.proofs.lemmas.Bool.{false≢true}
use Rattle.std.proofs.lemmas.Str.Parse.{IsNumeralModel, numerals_by_value, tells_by_index}
use Rattle.std.proofs.lemmas.Fmt.{digits_decimal, decimal_injective}
use Rattle.b2_base.specs.Bytes.{IsCutAt}
use Rattle.b2_base.proofs.Cuts.{cut_once, has_byte}

-- what holds of each byte holds of those behind a front
pub all_behind : (P : ℕ → Type 0) (xs ys zs : List ℕ) → zs ≡ xs ++ ys → All P zs → All P ys
all_behind P xs ys zs is each = All-same P ys (drop (length xs) zs) (sym (drop_at xs ys (length xs) refl) ∙ ap (drop (length xs)) (sym is)) (All-drop P (length xs) zs each)

and_true : (a b : Bool) → (a && b) ≡ true → (a ≡ true) × (b ≡ true)
and_true true b e = (refl, e)
and_true false b e = absurd (false≢true e)

-- a test of a literal
pub clean_by_test : (b : ℕ) (xs : List ℕ) → list_all (λ c. not (nat_eq c b)) xs ≡ true → All (λ c. c ≢ b) xs
clean_by_test b [] test = All-nil (λ c. c ≢ b)
clean_by_test b (x ∷ xs) test =
    let both = and_true (not (nat_eq x b)) (list_all (λ c. not (nat_eq c b)) xs) test in
    All-cons (λ c. c ≢ b) x xs (λ same. false≢true (sym (ap not (eq-eqb x b same)) ∙ both.0)) (clean_by_test b xs both.1)

digits_model : IsNumeralModel (λ ds. (i : ℕ) → i < length ds → IsInRange 48 57 (get_or ds i 0)) (digits_value 10)
digits_model = numerals_by_value _ tells_by_index

-- a number's text has only digits
pub clean_number : (b n : ℕ) → b < 48 → n < 2 ^ 64 → All (λ c. c ≢ b) (decimal n)
clean_number b n low small = All-from_get_or (λ c. c ≢ b) (decimal n) 0 (λ i within. let digit = digits_decimal digits_model n small i within in λ same. omega arith)

-- a text without a space begins with no connection and a space
pub no_space : (text : List ℕ) → All (λ c. c ≢ 32) text → (conn : ℕ) (rest : List ℕ) → conn < 2 ^ 32 → text ≢ decimal conn ++ 32 ∷ rest
no_space text clean conn rest small is = has_byte 32 (decimal conn) rest (subst (All (λ c. c ≢ 32)) is clean)

-- a text that is cut at its first space is cut behind its connection
pub conn_once : (text front behind : List ℕ) → IsCutAt 32 text front behind → (conn : ℕ) (rest : List ℕ) → conn < 2 ^ 32 → text ≡ decimal conn ++ 32 ∷ rest
    → (front ≡ decimal conn) × (behind ≡ rest)
conn_once text front behind cut conn rest small is = cut_once 32 front (decimal conn) behind rest cut.0 (clean_number 32 conn (omega arith) (omega (arith, small))) (sym cut.1 ∙ is)

pub no_conn : (text front behind : List ℕ) → IsCutAt 32 text front behind → ((n : ℕ) → n < 2 ^ 32 → front ≢ decimal n)
    → (conn : ℕ) (rest : List ℕ) → conn < 2 ^ 32 → text ≢ decimal conn ++ 32 ∷ rest
no_conn text front behind cut no_number conn rest small is = no_number conn small (conn_once text front behind cut conn rest small is).0

-- a connection and what stands behind it are told in one way
pub same_conn : (m n : ℕ) (xs ys : List ℕ) → m < 2 ^ 32 → n < 2 ^ 32 → decimal m ++ 32 ∷ xs ≡ decimal n ++ 32 ∷ ys → (m ≡ n) × (xs ≡ ys)
same_conn m n xs ys small_m small_n same =
    let first : m < 2 ^ 64 = omega (arith, small_m) in
    let second : n < 2 ^ 64 = omega (arith, small_n) in
    let cut = cut_once 32 (decimal m) (decimal n) xs ys (clean_number 32 m (omega arith) first) (clean_number 32 n (omega arith) second) same in
    (decimal_injective m n first second cut.0, cut.1)
