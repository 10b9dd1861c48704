-- Laws of the tokens and the uploads of sound states.
use Rattle.std.proofs.Common.{◌≡◌, ℕ, ◌+◌, ◌<◌, ◌==◌, ◌^◌, Bool, true, false, List, [], ◌∷◌, All, Some, find, bytes_eq, if◌then◌else◌, sym, ap, subst, ◌∙◌, arith}
use Rattle.std.specs.List.{AllPairs}
use Rattle.std.proofs.lemmas.Bool.{false≢true}
use Rattle.std.proofs.lemmas.Bool.Decides.{nat_tests}
use Rattle.std.proofs.lemmas.Option.{none-some}
use Rattle.b2_types.specs.declared.key.Grant.{Grant}
use Rattle.b2_types.specs.declared.key.Flight.{Flight}
use Rattle.b2_model.specs.State.{State, Pieces}
use Rattle.b2_model.specs.LiveGrant.{grant_at}
use Rattle.b2_model.specs.UploadSteps.{flight_of}
use Rattle.b2_model.specs.Stored.{numbers_of}
use Rattle.b2_model.specs.Run.{Step, Progress}
use Rattle.sound_states.specs.Sound.{IsBefore, IsFor, Names, IsToken, IsUnderWay, IsSound}
use Rattle.sound_states.proofs.Ascending.{all_from, pairs_head, pairs_tail}
use Rattle.sound_states.proofs.Tests.{equal_numbers}
use Rattle.sound_states.proofs.Tokens.{same_text}
use Rattle.sound_states.proofs.Found.{found_has, same_found}
use Rattle.given_once.specs.Tokens.{token_given}
use Rattle.sound_steps.proofs.TokenOrder.{lower_text}
use Rattle.given_once.proofs.Tokens.{IsNext, Next, given_next}

-- uploads of one token are one
one_on_token : (conn other : ℕ) (fs : List Flight) (f h : Flight) → AllPairs (λ f g. bytes_eq f.token g.token ≡ false) fs
    → find (λ f. f.conn == conn) fs ≡ Some f → find (λ f. f.conn == other) fs ≡ Some h → f.token ≡ h.token → f.conn ≡ h.conn
one_on_token conn other [] f h apart first second same = absurd (none-some f first)
one_on_token conn other (x ∷ xs) f h apart first second same =
    by (x.conn == conn) (x.conn == other) first second (one_on_token conn other xs f h (pairs_tail R x xs apart))
  where
    R : Flight → Flight → Type 0
    R f g = bytes_eq f.token g.token ≡ false

    -- the first has another token than each later one
    far : (n : ℕ) (g : Flight) → find (λ f. f.conn == n) xs ≡ Some g → bytes_eq x.token g.token ≡ false
    far n g is = (found_has (λ f. f.conn == n) (λ g. bytes_eq x.token g.token ≡ false) xs g (pairs_head R x xs apart) is).1

    never : (g : Flight) → bytes_eq x.token g.token ≡ false → x.token ≡ g.token → ⊥
    never g other is = false≢true (sym other ∙ ap (bytes_eq x.token) (sym is) ∙ same_text x.token)

    by : (a b : Bool) → (if a then Some x else find (λ f. f.conn == conn) xs) ≡ Some f → (if b then Some x else find (λ f. f.conn == other) xs) ≡ Some h
        → (find (λ f. f.conn == conn) xs ≡ Some f → find (λ f. f.conn == other) xs ≡ Some h → f.token ≡ h.token → f.conn ≡ h.conn) → f.conn ≡ h.conn
    by true true one two rest = ap (λ f. f.conn) (sym (same_found x f one) ∙ same_found x h two)
    by true false one two rest = absurd (never h (far other h two) (ap (λ f. f.token) (same_found x f one) ∙ same))
    by false true one two rest = absurd (never f (far conn f one) (ap (λ f. f.token) (same_found x h two) ∙ sym same))
    by false false one two rest = rest one two same

module _ {C : Type 0} where
  -- ---- the token that a step gives

  after_each : (M : State C) (g h : Grant) → M.serial < 2 ^ 64 → IsNext M g → IsToken (numbers_of M) M.serial h → IsBefore h.text g.text
  after_each M g h few next is =
      let given = is.given in
      let left = next.left in
      let small : M.serial + 1 < 2 ^ 64 = grind (arith, nat_tests, few, left) in
      let before = lower_text M.boot is.serial (M.serial + 1) is.first is.second next.first next.second (omega (arith, given.1)) small in
      rw (is.text, next.text) before

  pub stands_last : (K : Pieces C) (P : Progress C) (s : Step C) (g : Grant) → IsSound P.state → token_given K P s ≡ Some g → All (λ h. IsBefore h.text g.text) P.state.grants
  stands_last K P s g sound given =
      let next = subst (Next P.state) given (given_next K P s) in
      all_from (IsToken (numbers_of P.state) P.state.serial) (λ h. IsBefore h.text g.text) P.state.grants (λ h is. after_each P.state g h sound.tokens.last next is) sound.tokens.given

  -- ---- uploads under way

  pub has_token : (M : State C) (conn : ℕ) (f : Flight) → IsSound M → flight_of M conn ≡ Some f → (g : Grant) × (grant_at M f.token ≡ Some g) × IsFor f.upload g
  has_token M conn f sound is =
      let under_way = (found_has (λ f. f.conn == conn) (IsUnderWay M.grants) M.flights f sound.flights.under_way is).1 in
      (under_way.token, under_way.there, under_way.purpose)

  pub alone_on_token : (M : State C) (conn other : ℕ) (f h : Flight) → IsSound M → flight_of M conn ≡ Some f → flight_of M other ≡ Some h → f.token ≡ h.token → conn ≡ other
  alone_on_token M conn other f h sound first second same =
      let one = equal_numbers f.conn conn (found_has (λ f. f.conn == conn) (IsUnderWay M.grants) M.flights f sound.flights.under_way first).0 in
      let two = equal_numbers h.conn other (found_has (λ f. f.conn == other) (IsUnderWay M.grants) M.flights h sound.flights.under_way second).0 in
      sym one ∙ one_on_token conn other M.flights f h sound.flights.apart first second same ∙ two

  -- ---- new keys

  pub of_other_keys : (M : State C) → IsSound M → All (λ g. g.key ≡ M.next_key → ⊥) M.grants
  of_other_keys M sound =
      all_from (IsToken (numbers_of M) M.serial) (λ g. g.key ≡ M.next_key → ⊥) M.grants (λ g is same. let below = is.key in absurd (omega (arith, below, same))) sound.tokens.given

  pub named : (M : State C) (text : List ℕ) (g : Grant) → IsSound M → grant_at M text ≡ Some g → (g.key < M.next_key) × Names (numbers_of M) g.kind g
  named M text g sound is =
      let known = (found_has (λ g. bytes_eq g.text text) (IsToken (numbers_of M) M.serial) M.grants g sound.tokens.given is).1 in
      (known.key, known.names)
