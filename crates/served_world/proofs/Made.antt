-- What a request makes of the machine, and the reply to it.
use Rattle.std.proofs.Common.{◌≡◌, ℕ, Bool, true, false, List, [], ◌∷◌, ◌++◌, Option, Some, None, option_map, MatchOption, fold, refl, sym, ap, ◌∙◌, subst, append_assoc, append-nil}
use Rattle.std.proofs.lemmas.List.Sums.{fold-append}
use Rattle.b2_types.specs.declared.answer.AnswerOf.{AnswerOf}
use Rattle.b2_model.specs.Body.{body_of}
use Rattle.b2_model.specs.Run.{Step, asks, begins, ends, Progress, answer_to, step, of_bytes}
use Rattle.http_edge.specs.declared.head.Head.{Head}
use Rattle.http_edge.specs.Length.{is_upload}
use Rattle.conn_talk.specs.Asked.{Asked, nothing, refused, begun, complete, IsAsked, is_begun}
use Rattle.conn_talk.proofs.Once.{open_upload}
use Rattle.served_world.specs.Replies.{Reads, Reply, told, Outcome, made, Begins, Ends, BeginsOnce, EndsUnrefused, IsCarriedOut, Makes}
use Rattle.served_world.specs.World.{Conn, Answered}
use Rattle.served_world.specs.Served.{Exchange, exchange_of, exchanges, HasHead, IsStepFor, IsReplyTo, AreReplies}

-- one step more
pub exchanges_more : (P : Progress (List ℕ)) (steps : List (Step (List ℕ))) (s : Step (List ℕ))
    → exchanges P (steps ++ s ∷ []) ≡ exchanges P steps ++ exchange_of s (answer_to of_bytes (fold (step of_bytes) P steps) s)
exchanges_more P [] s = append-nil (exchange_of s (answer_to of_bytes P s))
exchanges_more P (t ∷ steps) s =
    let first = exchange_of t (answer_to of_bytes P t) in
    let Q = step of_bytes P t in
    ap (λ l. first ++ l) (exchanges_more Q steps s) ∙ sym (append_assoc first (exchanges Q steps) (exchange_of s (answer_to of_bytes (fold (step of_bytes) Q steps) s)))

-- one reply more
pub replies_more : (R : Reads) (rs : List Answered) (all : List Exchange) (r : Answered) (mine : List Exchange) → AreReplies R rs all → IsReplyTo R r r.reply mine → AreReplies R (rs ++ r ∷ []) (all ++ mine)
replies_more R [] all r mine none is = (mine, [], ap (λ l. l ++ mine) none ∙ sym (append-nil mine), is, refl)
replies_more R (x ∷ rs) all r mine (own, more, split, first, later) is =
    (own, more ++ mine, ap (λ l. l ++ mine) split ∙ append_assoc own more mine, first, replies_more R rs more r mine later is)

-- the steps that a request made so far, where there is no reply yet none that is answered
abbrev pub IsMine : Reads → (Reply → Answered) → Option Reply → List Exchange → Type 0
IsMine R q None mine = mine ≡ []
IsMine R q (Some reply) mine = IsReplyTo R (q reply) reply mine

pub record Answers (R : Reads) (P : Progress (List ℕ)) (q : Reply → Answered) (first : List (Step (List ℕ))) (o : Outcome) : Type 0 where
  pub mine : List Exchange
  pub machine : o.machine ≡ fold (step of_bytes) P o.steps
  pub brings : exchanges P o.steps ≡ exchanges P first ++ mine
  pub is : IsMine R q o.reply mine

module _ (R : Reads) (P : Progress (List ℕ)) (q : Reply → Answered) (first : List (Step (List ℕ))) where
  by_answer : (stay : Bool) (s : Step (List ℕ)) → ((reply : Reply) → IsStepFor R (q reply) stay s) → (x : Option (AnswerOf (List ℕ))) → IsMine R q (option_map (λ a. told a stay) x) (exchange_of s x)
  by_answer stay s asked None = refl
  by_answer stay s asked (Some a) = (s, asked (told a stay), refl)

  pub one_step : (stay : Bool) (s : Step (List ℕ)) (o : Outcome) → Answers R P q first o → o.reply ≡ None → ((reply : Reply) → IsStepFor R (q reply) stay s) → Answers R P q first (made stay s o)
  one_step stay s o before none asked =
      let unanswered : before.mine ≡ [] = subst (λ (x : Option Reply). IsMine R q x before.mine) none before.is in
      record {
        mine = exchange_of s (answer_to of_bytes o.machine s);
        machine = ap (λ Q. step of_bytes Q s) before.machine ∙ sym (fold-append (step of_bytes) P o.steps (s ∷ []));
        brings = exchanges_more P o.steps s
            ∙ ap (λ Q. exchanges P o.steps ++ exchange_of s (answer_to of_bytes Q s)) (sym before.machine)
            ∙ ap (λ l. l ++ exchange_of s (answer_to of_bytes o.machine s)) (before.brings ∙ ap (λ l. exchanges P first ++ l) unanswered ∙ append-nil (exchanges P first));
        is = by_answer stay s asked (answer_to of_bytes o.machine s);
      }

-- ---- a request

-- the request of which these bytes came, with a reply
abbrev pub request_of : Conn → ℕ → List ℕ → Reply → Answered
request_of k c got reply = record { name = k.name; number = c; before = k.talk.before; got = got; reply = reply }

module _ (R : Reads) (P : Progress (List ℕ)) (first : List (Step (List ℕ))) (reading c : ℕ) (k : Conn) (got : List ℕ) where
  abbrev q : Reply → Answered
  q = request_of k c got

  begins_answered : (head : Head) (asked : Asked) (o p : Outcome) → IsAsked k.talk.before got asked → HasHead asked head → is_upload head.route.name ≡ true → Answers R P q first o → o.reply ≡ None
      → Begins R reading c head o p → Answers R P q first p
  begins_answered head asked o p came has upload before none (token, u, read, is) =
      subst (Answers R P q first) (sym is)
      (one_step R P q first false (begins reading c token u) o before none
      (λ reply. record { head = head; asked = asked; came = came; has_head = has; is_upload = upload; read = read; on = refl; closes = refl }))

  begins_once : (head : Head) (asked : Asked) (began : Bool) (o p : Outcome) → IsAsked k.talk.before got asked → HasHead asked head → is_upload head.route.name ≡ true → Answers R P q first o → o.reply ≡ None
      → BeginsOnce R reading c began head o p → Answers R P q first p
  begins_once head asked true o p came has upload before none is = subst (Answers R P q first) (sym is) before
  begins_once head asked false o p came has upload before none is = begins_answered head asked o p came has upload before none is

  ends_answered : (head : Head) (body rest : List ℕ) (m p : Outcome) → IsAsked k.talk.before got (complete head body rest) → is_upload head.route.name ≡ true → Answers R P q first m
      → EndsUnrefused R reading c head body m p → Answers R P q first p
  ends_answered head body rest m p came upload before is = by_reply m.reply refl is
    where
      by_reply : (x : Option Reply) → m.reply ≡ x → MatchOption x (Ends R reading c head body m p) (λ _. p ≡ m) → Answers R P q first p
      by_reply (Some r) there same = subst (Answers R P q first) (sym same) before
      by_reply None none (token, u, read, same) =
          subst (Answers R P q first) (sym same)
          (one_step R P q first head.request.stay (ends reading c (body_of u body)) m before none
          (λ reply. record { head = head; body = body; rest = rest; token = token; upload = u; whole = came; is_upload = upload; read = read; body_is = refl; on = refl; stays = refl }))

  carried_out : (head : Head) (body rest : List ℕ) (uploads began : Bool) (o p : Outcome) → is_upload head.route.name ≡ uploads → IsAsked k.talk.before got (complete head body rest)
      → Answers R P q first o → o.reply ≡ None → IsCarriedOut R reading c uploads began head body o p → Answers R P q first p
  carried_out head body rest true began o p upload came before none (m, once, later) =
      ends_answered head body rest m p came upload (begins_once head (complete head body rest) began o m came refl upload before none once) later
  carried_out head body rest false began o p call came before none (token, asked, read, is) =
      subst (Answers R P q first) (sym is)
      (one_step R P q first head.request.stay (asks reading token asked) o before none
      (λ reply. record { head = head; body = body; rest = rest; whole = came; no_upload = call; read = read; stays = refl }))

  -- what bytes make that ask for this
  pub makes_answered : (old new : Asked) (o p : Outcome) → IsAsked k.talk.before got new → Answers R P q first o → o.reply ≡ None → Makes R reading c old new o p → Answers R P q first p
  makes_answered old nothing o p came before none is = subst (Answers R P q first) (sym is) before
  makes_answered old (refused kind) o p came before none is =
      let unanswered : before.mine ≡ [] = subst (λ (x : Option Reply). IsMine R q x before.mine) none before.is in
      subst (Answers R P q first) (sym is) (record { mine = before.mine; machine = before.machine; brings = before.brings; is = (came, unanswered) })
  makes_answered old (begun head rest) o p came before none is =
      begins_once head (begun head rest) (is_begun old) o p came refl (open_upload k.talk.before got head rest came).upload before none is
  makes_answered old (complete head body rest) o p came before none is =
      carried_out head body rest (is_upload head.route.name) (is_begun old) o p refl came before none is
