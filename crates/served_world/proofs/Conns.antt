-- What was sent on the connections, and what is left of their replies.
use Rattle.std.proofs.Common.{◌≡◌, ℕ, ◌≤◌, ◌<◌, nat_eq, suc, zero, Bool, true, false, cond, List, [], ◌∷◌, ◌++◌, length, take, drop, Option, Some, None, MatchOption, refl, sym, ap, ◌∙◌, subst, append_assoc, append-nil, arith}
use Rattle.std.specs.Prelude.{⊤}
use Rattle.std.specs.Map.{update}
use Rattle.std.specs.List.{slice_get, AllByRecursion}
use Rattle.std.proofs.lemmas.Bool.{eqb-true, eqb-false, eq-eqb, ne_eqb}
use Rattle.std.proofs.lemmas.Grind.{flat_map-append}
use Rattle.std.proofs.lemmas.Option.{slice_get_within}
use Rattle.conn_talk.specs.declared.pending.Pending.{Pending}
use Rattle.served_world.specs.Replies.{text_of}
use Rattle.served_world.specs.World.{Conn, Ended, Answered}
use Rattle.served_world.specs.Served.{reply_on, replies_on, SendsFront}

-- ---- lists

pub got_before : (xs ys : List ℕ) (n x : ℕ) → slice_get xs n ≡ Some x → slice_get (xs ++ ys) n ≡ Some x
got_before [] ys n x is = absurd (cc is)
got_before (y ∷ xs) ys zero x is = is
got_before (y ∷ xs) ys (suc n) x is = got_before xs ys n x is

pub got_last : (xs : List ℕ) (x : ℕ) → slice_get (xs ++ x ∷ []) (length xs) ≡ Some x
got_last [] x = refl
got_last (y ∷ xs) x = got_last xs x

pub front_left : (n m : ℕ) (l : List ℕ) → take n (take m l) ++ drop (length (take n (take m l))) l ≡ l
front_left zero m l = refl
front_left (suc n) zero l = refl
front_left (suc n) (suc m) [] = refl
front_left (suc n) (suc m) (x ∷ l) = ap (λ r. x ∷ r) (front_left n m l)

-- ---- a function that is changed at one number

pub changed : (P : ℕ → Option Conn → Type 0) (f : ℕ → Option Conn) (c : ℕ) (x : Option Conn) → P c x → ((d : ℕ) → (c ≡ d → ⊥) → P d (f d)) → (d : ℕ) → P d (update nat_eq f c x d)
changed P f c x here others d = by (nat_eq c d) refl
  where
    by : (b : Bool) → nat_eq c d ≡ b → P d (cond b x (f d))
    by true same = subst (λ n. P n x) (eqb-true c d same) here
    by false apart = others d (eqb-false c d apart)

-- ---- replies of a connection

pub one_reply : (name : ℕ) (r : Answered) → r.name ≡ name → replies_on name (r ∷ []) ≡ text_of r.reply
one_reply name r same = ap (λ b. cond b (text_of r.reply) [] ++ []) (eq-eqb r.name name same) ∙ append-nil (text_of r.reply)

pub no_reply : (name : ℕ) (r : Answered) → (r.name ≡ name → ⊥) → replies_on name (r ∷ []) ≡ []
no_reply name r other = ap (λ b. cond b (text_of r.reply) [] ++ []) (ne_eqb r.name name other)

-- what is left of a reply
abbrev pub left_of : Option (Pending (List ℕ)) → List ℕ
left_of None = []
left_of (Some p) = drop p.sent p.text

abbrev pub no_body : Option (Pending (List ℕ)) → Type 0
no_body None = ⊤
no_body (Some p) = p.len ≡ 0

pub record IsOpen (opened : List ℕ) (answered : List Answered) (c : ℕ) (k : Conn) : Type 0 where
  pub named : slice_get opened k.name ≡ Some c
  pub sent : k.sent ++ left_of k.talk.reply ≡ replies_on k.name answered
  pub plain : no_body k.talk.reply

pub record AreConns (opened : List ℕ) (answered : List Answered) (conns : ℕ → Option Conn) (ended : List Ended) : Type 0 where
  pub each : (c : ℕ) → MatchOption (conns c) ⊤ (IsOpen opened answered c)
  pub before : AllByRecursion (λ (e : Ended). SendsFront answered e.conn) ended
  pub fresh : (n : ℕ) → length opened ≤ n → replies_on n answered ≡ []

-- one at this number
pub at_number : (opened : List ℕ) (answered : List Answered) (conns : ℕ → Option Conn) (ended : List Ended) (c : ℕ) (k : Conn) → AreConns opened answered conns ended → conns c ≡ Some k → IsOpen opened answered c k
at_number opened answered conns ended c k are is = subst (λ (x : Option Conn). MatchOption x ⊤ (IsOpen opened answered c)) is (are.each c)

fronts_more : (answered more : List Answered) (ended : List Ended) → AllByRecursion (λ (e : Ended). SendsFront answered e.conn) ended → AllByRecursion (λ (e : Ended). SendsFront (answered ++ more) e.conn) ended
fronts_more answered more [] all = all
fronts_more answered more (e ∷ ended) (first, all) =
    let name = e.conn.name in (
      (first.0 ++ replies_on name more, sym (append_assoc e.conn.sent first.0 (replies_on name more)) ∙ ap (λ l. l ++ replies_on name more) first.1 ∙ sym (flat_map-append (reply_on name) answered more)),
      fronts_more answered more ended all,
    )

-- a connection has more replies, and no other one has
pub replies_come : (opened : List ℕ) (answered more : List Answered) (conns : ℕ → Option Conn) (ended : List Ended) (c : ℕ) (k : Conn) → AreConns opened answered conns ended
    → IsOpen opened (answered ++ more) c k → ((name : ℕ) → (k.name ≡ name → ⊥) → replies_on name more ≡ []) → AreConns opened (answered ++ more) (update nat_eq conns c (Some k)) ended
replies_come opened answered more conns ended c k are here none = record {
  each = changed (λ d x. MatchOption x ⊤ (IsOpen opened (answered ++ more) d)) conns c (Some k) here (λ d apart. by_conn d apart (conns d) (are.each d));
  before = fronts_more answered more ended are.before;
  fresh = λ n late. nothing n (are.fresh n late) (none n (λ same. below n late (slice_get_within opened k.name c here.named) same));
}
  where
    below : (n : ℕ) → length opened ≤ n → k.name < length opened → k.name ≡ n → ⊥
    below n late within same = absurd (omega (arith, late, within, same))

    nothing : (n : ℕ) → replies_on n answered ≡ [] → replies_on n more ≡ [] → replies_on n (answered ++ more) ≡ []
    nothing n one two = flat_map-append (reply_on n) answered more ∙ ap (λ l. l ++ replies_on n more) one ∙ two

    by_conn : (d : ℕ) → (c ≡ d → ⊥) → (x : Option Conn) → MatchOption x ⊤ (IsOpen opened answered d) → MatchOption x ⊤ (IsOpen opened (answered ++ more) d)
    by_conn d apart None is = tt
    by_conn d apart (Some l) is =
        let other : k.name ≡ l.name → ⊥ = λ same. apart (cc (here.named, is.named, same)) in
        record {
          named = is.named;
          sent = is.sent ∙ sym (append-nil (replies_on l.name answered)) ∙ ap (λ r. replies_on l.name answered ++ r) (sym (none l.name other)) ∙ sym (flat_map-append (reply_on l.name) answered more);
          plain = is.plain;
        }

-- a connection goes on with the same replies
pub goes_on : (opened : List ℕ) (answered : List Answered) (conns : ℕ → Option Conn) (ended : List Ended) (c : ℕ) (k : Conn) → AreConns opened answered conns ended → IsOpen opened answered c k
    → AreConns opened answered (update nat_eq conns c (Some k)) ended
goes_on opened answered conns ended c k are here = record {
  each = changed (λ d x. MatchOption x ⊤ (IsOpen opened answered d)) conns c (Some k) here (λ d apart. are.each d);
  before = are.before;
  fresh = are.fresh;
}

all_push : (answered : List Answered) (ended : List Ended) (e : Ended) → AllByRecursion (λ (x : Ended). SendsFront answered x.conn) ended → SendsFront answered e.conn
    → AllByRecursion (λ (x : Ended). SendsFront answered x.conn) (ended ++ e ∷ [])
all_push answered [] e all is = (is, all)
all_push answered (x ∷ ended) e (first, all) is = (first, all_push answered ended e all is)

-- a connection ends
pub ends_here : (opened : List ℕ) (answered : List Answered) (conns : ℕ → Option Conn) (ended : List Ended) (c : ℕ) (k : Conn) → AreConns opened answered conns ended → IsOpen opened answered c k
    → AreConns opened answered (update nat_eq conns c None) (ended ++ record { number = c; conn = k } ∷ [])
ends_here opened answered conns ended c k are here = record {
  each = changed (λ d x. MatchOption x ⊤ (IsOpen opened answered d)) conns c None tt (λ d apart. are.each d);
  before = all_push answered ended (record { number = c; conn = k }) are.before (left_of k.talk.reply, here.sent);
  fresh = are.fresh;
}
