-- Every run has the statement.
use Rattle.std.proofs.Common.{◌≡◌, ℕ, ◌+◌, ◌≤◌, nat_lt, Bool, true, false, cond, List, [], ◌∷◌, ◌++◌, length, take, drop, Option, Some, None, option_map, MatchOption, fold, refl, sym, ap, ◌∙◌, subst, append_assoc, append-nil, arith}
use Rattle.std.specs.Prelude.{⊤}
use Rattle.std.proofs.lemmas.Bool.{eqb-true}
use Rattle.std.proofs.lemmas.Grind.{flat_map-append}
use Rattle.std.proofs.lemmas.List.{length-append, drop-drop, drop_all}
use Rattle.std.proofs.lemmas.List.Sums.{fold-append}
use Rattle.outside_traits.specs.declared.link.Event.{Event}
use Rattle.outside_traits.specs.declared.link.Event.TheVariants as event
use Rattle.b2_model.specs.State.{State}
use Rattle.b2_model.specs.Run.{Step, loses, Progress, step, of_bytes}
use Rattle.conn_talk.specs.declared.pending.Pending.{Pending}
use Rattle.conn_talk.specs.Asked.{Asked, IsAsked}
use Rattle.conn_talk.specs.Talk.{next_talk, shown_as, size_of, with_sent, is_whole, is_uploading}
use Rattle.served_world.specs.Replies.{Reads, Reply, text_of, Outcome, Makes}
use Rattle.served_world.specs.World.{Turn, Conn, Answered, World, at_start, start, with_conn, closing, new_conn, opened, pending_of, answered_of, nothing_made, conn_read, conn_held, after_piece, IsPiece, closed, with_loss, gone, handed, with_send, conn_after, GoesOn, IsAfterSend, IsSent, IsReady, Happens, Run}
use Rattle.served_world.specs.Served.{Exchange, exchanges, AreReplies, reply_on, replies_on, SendsFront}
use Rattle.served_world.proofs.Made.{exchanges_more, replies_more, IsMine, Answers, request_of, makes_answered}
use Rattle.served_world.proofs.Conns.{got_before, got_last, front_left, changed, one_reply, no_reply, left_of, no_body, IsOpen, AreConns, at_number, replies_come, goes_on, ends_here}

pub record IsKept (R : Reads) (M : State (List ℕ)) (words : List ℕ) (machine : Progress (List ℕ)) (steps : List (Step (List ℕ))) (answered : List Answered) : Type 0 where
  pub machine_is : machine ≡ fold (step of_bytes) (at_start M words) steps
  pub replies : AreReplies R answered (exchanges (at_start M words) steps)

-- a request more, or none
kept_more : (R : Reads) (k : Conn) (c : ℕ) (got : List ℕ) (answered : List Answered) (all : List Exchange) (x : Option Reply) (mine : List Exchange) → IsMine R (request_of k c got) x mine → AreReplies R answered all
    → AreReplies R (answered ++ answered_of k c got x) (all ++ mine)
kept_more R k c got answered all None mine none old =
    subst (λ l. AreReplies R (answered ++ []) (all ++ l)) (sym none) (subst (λ a. AreReplies R a (all ++ [])) (sym (append-nil answered)) (subst (AreReplies R answered) (sym (append-nil all)) old))
kept_more R k c got answered all (Some r) mine is old = replies_more R answered all (request_of k c got r) mine old is

-- what is left of a new reply is all of it
left_came : (k : Conn) (c : ℕ) (got : List ℕ) (answered : List Answered) → k.sent ++ [] ≡ replies_on k.name answered → (x : Option Reply)
    → k.sent ++ left_of (option_map pending_of x) ≡ replies_on k.name (answered ++ answered_of k c got x)
left_came k c got answered old None = old ∙ ap (replies_on k.name) (sym (append-nil answered))
left_came k c got answered old (Some r) =
    let q = request_of k c got r in
    ap (λ l. l ++ text_of r) (sym (append-nil k.sent) ∙ old) ∙ ap (λ t. replies_on k.name answered ++ t) (sym (one_reply k.name q refl)) ∙ sym (flat_map-append (reply_on k.name) answered (q ∷ []))

plain_came : (x : Option Reply) → no_body (option_map pending_of x)
plain_came None = tt
plain_came (Some r) = refl

others_none : (k : Conn) (c : ℕ) (got : List ℕ) (x : Option Reply) (name : ℕ) → (k.name ≡ name → ⊥) → replies_on name (answered_of k c got x) ≡ []
others_none k c got None name other = refl
others_none k c got (Some r) name other = no_reply name (request_of k c got r) other

module _ (R : Reads) (M : State (List ℕ)) (words : List ℕ) where
  abbrev pub Stands : World → Type 0
  Stands w = IsKept R M words w.machine w.steps w.answered × AreConns w.opened w.answered w.conns w.ended

  abbrev IsAt : World → ℕ → Conn → Type 0
  IsAt w c k = IsOpen w.opened w.answered c k

  pub start_stands : Stands (start M words)
  start_stands = (record { machine_is = refl; replies = refl }, record { each = λ c. tt; before = tt; fresh = λ n late. refl })

  -- ---- Piece

  read_stands : (reading : ℕ) (w : World) (c : ℕ) (k : Conn) (bytes : List ℕ) (new : Asked) (o : Outcome) → Stands w → IsAt w c k → k.talk.reply ≡ None → IsAsked k.talk.before (k.talk.got ++ bytes) new
      → Makes R reading c k.talk.told new (nothing_made w) o → Stands (after_piece w c k bytes new o)
  read_stands reading w c k bytes new o (kept, conns) here none asked makes =
      let P = at_start M words in
      let got = k.talk.got ++ bytes in
      let first : Answers R P (request_of k c got) w.steps (nothing_made w) = record { mine = []; machine = kept.machine_is; brings = sym (append-nil (exchanges P w.steps)); is = refl } in
      let all = makes_answered R P w.steps reading c k got k.talk.told new (nothing_made w) o asked first refl makes in
      let more = answered_of k c got o.reply in
      let old : k.sent ++ [] ≡ replies_on k.name w.answered = subst (λ (x : Option (Pending (List ℕ))). k.sent ++ left_of x ≡ replies_on k.name w.answered) none here.sent in (
        record {
          machine_is = all.machine;
          replies = subst (AreReplies R (w.answered ++ more)) (sym all.brings) (kept_more R k c got w.answered (exchanges P w.steps) o.reply all.mine all.is kept.replies);
        },
        replies_come w.opened w.answered more w.conns w.ended c (conn_read k bytes new o) conns
            (record { named = here.named; sent = left_came k c got w.answered old o.reply; plain = plain_came o.reply })
            (others_none k c got o.reply),
      )

  pub piece_stands : (reading : ℕ) (w : World) (c : ℕ) (k : Conn) (bytes : List ℕ) (v : World) → Stands w → IsAt w c k → IsPiece R reading w c k bytes v → Stands v
  piece_stands reading w c k bytes v stands here is = by_reply k.talk.reply refl is
    where
      by_reply : (x : Option (Pending (List ℕ))) → k.talk.reply ≡ x
          → MatchOption x
          ((new : Asked) × (o : Outcome) × IsAsked k.talk.before (k.talk.got ++ bytes) new × Makes R reading c k.talk.told new (nothing_made w) o × (v ≡ after_piece w c k bytes new o))
          (λ _. v ≡ with_conn w c (Some (conn_held k bytes)))
          → Stands v
      by_reply None none (new, o, asked, makes, same) = subst Stands (sym same) (read_stands reading w c k bytes new o stands here none asked makes)
      by_reply (Some p) some same =
          subst Stands (sym same) (
            stands.0,
            goes_on w.opened w.answered w.conns w.ended c (conn_held k bytes) stands.1 (record { named = here.named; sent = here.sent; plain = here.plain }),
          )

  -- ---- Gone

  closed_stands : (w : World) (c : ℕ) (k : Conn) → Stands w → IsAt w c k → Stands (closed w c k)
  closed_stands w c k stands here = (stands.0, ends_here w.opened w.answered w.conns w.ended c k stands.1 here)

  loss_stands : (reading : ℕ) (w : World) (c : ℕ) (b : Bool) → Stands w → Stands (with_loss reading c b w)
  loss_stands reading w c false stands = stands
  loss_stands reading w c true (kept, conns) =
      let P = at_start M words in
      let s = loses reading c in (
        record {
          machine_is = ap (λ Q. step of_bytes Q s) kept.machine_is ∙ sym (fold-append (step of_bytes) P w.steps (s ∷ []));
          replies = subst (AreReplies R w.answered) (sym (exchanges_more P w.steps s ∙ append-nil (exchanges P w.steps))) kept.replies;
        },
        conns,
      )

  gone_stands : (reading : ℕ) (w : World) (c : ℕ) (k : Conn) → Stands w → IsAt w c k → Stands (gone reading w c k)
  gone_stands reading w c k stands here = loss_stands reading (closed w c k) c (is_uploading (Some k.talk)) (closed_stands w c k stands here)

  -- ---- Open

  open_stands : (w : World) (c : ℕ) (took : Option ℕ) → Stands w → Stands (opened w c took)
  open_stands w c took (kept, conns) = by (nat_lt w.count 32)
    where
      later : (d : ℕ) (x : Option Conn) → MatchOption x ⊤ (IsOpen w.opened w.answered d) → MatchOption x ⊤ (IsOpen (w.opened ++ c ∷ []) w.answered d)
      later d None is = tt
      later d (Some l) is = record { named = got_before w.opened (c ∷ []) l.name d is.named; sent = is.sent; plain = is.plain }

      longer : (n : ℕ) → length (w.opened ++ c ∷ []) ≤ n → length w.opened ≤ n
      longer n late = let size = length-append w.opened (c ∷ []) in omega (arith, size, late)

      by : (b : Bool)
          → Stands (cond b (record (with_conn w c (Some (new_conn (length w.opened)))) { opened = w.opened ++ c ∷ []; count = w.count + 1 }) (record w { sends = w.sends ++ closing c took }))
      by false = (kept, conns)
      by true = (
        kept,
        record {
          each = changed (λ d x. MatchOption x ⊤ (IsOpen (w.opened ++ c ∷ []) w.answered d)) w.conns c (Some (new_conn (length w.opened)))
              (record { named = got_last w.opened c; sent = sym (conns.fresh (length w.opened) (omega arith)); plain = tt })
              (λ d apart. later d (w.conns d) (conns.each d));
          before = conns.before;
          fresh = λ n late. conns.fresh n (longer n late);
        },
      )

  -- ---- Ready

  -- after a send the connection has so much more, and so much less is left
  after_send : (w : World) (c : ℕ) (k : Conn) (p : Pending (List ℕ)) (n : ℕ) → IsAt w c k → k.talk.reply ≡ Some p → IsAt w c (conn_after k (take n (handed p)) p)
  after_send w c k p n here some =
      let bytes = take n (handed p) in
      let old : k.sent ++ drop p.sent p.text ≡ replies_on k.name w.answered = subst (λ (x : Option (Pending (List ℕ))). k.sent ++ left_of x ≡ replies_on k.name w.answered) some here.sent in
      let left : bytes ++ drop (p.sent + length bytes) p.text ≡ drop p.sent p.text = ap (λ l. bytes ++ l) (sym (drop-drop (length bytes) p.sent p.text)) ∙ front_left n 65536 (drop p.sent p.text) in
      record {
        named = here.named;
        sent = append_assoc k.sent bytes (drop (p.sent + length bytes) p.text) ∙ ap (λ l. k.sent ++ l) left ∙ old;
        plain = subst no_body some here.plain;
      }

  -- a reply that was sent whole has nothing left
  next_open : (w : World) (c : ℕ) (k : Conn) (p : Pending (List ℕ)) → IsAt w c k → k.talk.reply ≡ Some p → is_whole p ≡ true → IsAt w c (record k { talk = next_talk k.talk })
  next_open w c k p here some whole =
      let size = eqb-true p.sent (size_of p) whole in
      let plain : p.len ≡ 0 = subst no_body some here.plain in
      let late : length p.text ≤ p.sent = omega (arith, size, plain) in
      let old : k.sent ++ drop p.sent p.text ≡ replies_on k.name w.answered = subst (λ (x : Option (Pending (List ℕ))). k.sent ++ left_of x ≡ replies_on k.name w.answered) some here.sent in
      record { named = here.named; sent = ap (λ l. k.sent ++ l) (sym (drop_all p.sent p.text late)) ∙ old; plain = tt }

  rest_stands : (reading : ℕ) (w : World) (c : ℕ) (k : Conn) (p q : Pending (List ℕ)) (v : World) → Stands w → IsAt w c k → k.talk.reply ≡ Some q → (whole : Bool) → is_whole q ≡ whole
      → IsAfterSend R reading w c k p whole v → Stands v
  rest_stands reading w c k p q v stands here some false whole is = subst Stands (sym is) (stands.0, goes_on w.opened w.answered w.conns w.ended c k stands.1 here)
  rest_stands reading w c k p q v stands here some true whole is = by_stay (shown_as k.talk.told p).stay is
    where
      by_stay : (stay : Bool) → GoesOn R reading w c k stay v → Stands v
      by_stay true next = piece_stands reading w c (record k { talk = next_talk k.talk }) [] v stands (next_open w c k q here some whole) next
      by_stay false same = subst Stands (sym same) (closed_stands w c k stands here)

  sent_stands : (reading : ℕ) (w : World) (c : ℕ) (k : Conn) (p : Pending (List ℕ)) (took : Option ℕ) (v : World) → Stands w → IsAt w c k → k.talk.reply ≡ Some p → IsSent R reading w c k p took v → Stands v
  sent_stands reading w c k p None v stands here some is = subst Stands (sym is) (gone_stands reading w c k stands here)
  sent_stands reading w c k p (Some n) v stands here some is =
      let bytes = take n (handed p) in
      let q = with_sent (length bytes) p in
      rest_stands reading (with_send w _) c (conn_after k bytes p) p q v stands (after_send w c k p n here some) refl (is_whole q) refl is

  -- ---- an event

  event_stands : (reading : ℕ) (took : Option ℕ) (w : World) (e : Event) (v : World) → Stands w → Happens R reading took w e v → Stands v
  event_stands reading took w event.Stop v stands is = subst Stands (sym is) stands
  event_stands reading took w (event.Open c) v stands is = by (w.conns c) is
    where
      by : (x : Option Conn) → MatchOption x (v ≡ opened w c took) (λ _. v ≡ w) → Stands v
      by None same = subst Stands (sym same) (open_stands w c took stands)
      by (Some k) same = subst Stands (sym same) stands
  event_stands reading took w (event.Piece c bytes) v stands is = by (w.conns c) refl is
    where
      by : (x : Option Conn) → w.conns c ≡ x → MatchOption x (v ≡ w) (λ k. IsPiece R reading w c k bytes v) → Stands v
      by None there same = subst Stands (sym same) stands
      by (Some k) there piece = piece_stands reading w c k bytes v stands (at_number w.opened w.answered w.conns w.ended c k stands.1 there) piece
  event_stands reading took w (event.Ready c) v stands is = by (w.conns c) refl is
    where
      by_reply : (k : Conn) → IsAt w c k → (x : Option (Pending (List ℕ))) → k.talk.reply ≡ x → MatchOption x (v ≡ w) (λ p. IsSent R reading w c k p took v) → Stands v
      by_reply k here None none same = subst Stands (sym same) stands
      by_reply k here (Some p) some sends = sent_stands reading w c k p took v stands here some sends

      by : (x : Option Conn) → w.conns c ≡ x → MatchOption x (v ≡ w) (λ k. IsReady R reading w c k took v) → Stands v
      by None there same = subst Stands (sym same) stands
      by (Some k) there ready = by_reply k (at_number w.opened w.answered w.conns w.ended c k stands.1 there) k.talk.reply refl ready
  event_stands reading took w (event.Gone c) v stands is = by (w.conns c) refl is
    where
      by : (x : Option Conn) → w.conns c ≡ x → MatchOption x (v ≡ w) (λ k. v ≡ gone reading w c k) → Stands v
      by None there same = subst Stands (sym same) stands
      by (Some k) there same = subst Stands (sym same) (gone_stands reading w c k stands (at_number w.opened w.answered w.conns w.ended c k stands.1 there))

  pub run_stands : (turns : List Turn) (w v : World) → Stands w → Run R w turns v → Stands v
  run_stands [] w v stands same = subst Stands (sym same) stands
  run_stands (t ∷ turns) w v stands (m, happens, rest) = run_stands turns m v (event_stands t.reading t.took w t.event m stands happens) rest

  pub each_front : (w : World) (c : ℕ) (x : Option Conn) → MatchOption x ⊤ (IsOpen w.opened w.answered c) → MatchOption x ⊤ (SendsFront w.answered)
  each_front w c None is = tt
  each_front w c (Some k) is = (left_of k.talk.reply, is.sent)
