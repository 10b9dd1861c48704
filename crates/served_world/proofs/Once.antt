-- The turns determine the run.
use Rattle.std.proofs.Common.{◌≡◌, ℕ, Bool, true, false, List, [], ◌∷◌, ◌++◌, length, take, Option, Some, None, MatchOption, sym, ap, ◌∙◌, subst}
use Rattle.outside_traits.specs.declared.link.Event.{Event}
use Rattle.outside_traits.specs.declared.link.Event.TheVariants as event
use Rattle.b2_types.specs.declared.upload.UploadCall.{UploadCall}
use Rattle.b2_model.specs.Body.{body_of}
use Rattle.b2_model.specs.Run.{asks, begins, ends}
use Rattle.http_edge.specs.declared.head.Head.{Head}
use Rattle.http_edge.specs.Length.{is_upload}
use Rattle.conn_talk.specs.declared.pending.Pending.{Pending}
use Rattle.conn_talk.specs.Asked.{Asked, nothing, refused, begun, complete, IsAsked, is_begun}
use Rattle.conn_talk.specs.Talk.{next_talk, shown_as, with_sent, is_whole}
use Rattle.conn_talk.proofs.Once.{one_asked}
use Rattle.served_world.specs.Replies.{Reads, Reply, Outcome, made, Begins, Ends, Asks, BeginsOnce, EndsUnrefused, IsCarriedOut, Makes}
use Rattle.served_world.specs.World.{Turn, Conn, World, with_conn, opened, nothing_made, conn_held, after_piece, IsPiece, gone, handed, conn_after, GoesOn, IsAfterSend, IsSent, IsReady, Happens, Run}
use Rattle.served_world.specs.Laws.{AreOne}

module _ (R : Reads) (one : AreOne R) where
  one_begin : (reading c : ℕ) (head : Head) (o p q : Outcome) → Begins R reading c head o p → Begins R reading c head o q → p ≡ q
  one_begin reading c head o p q (token, u, read, is) (other, x, also, too) =
      let same = one.upload head token other u x read also in is ∙ (λ i. made false (begins reading c (same.0 i) (same.1 i)) o) ∙ sym too

  one_end : (reading c : ℕ) (head : Head) (body : List ℕ) (o p q : Outcome) → Ends R reading c head body o p → Ends R reading c head body o q → p ≡ q
  one_end reading c head body o p q (token, u, read, is) (other, x, also, too) =
      let same = one.upload head token other u x read also in is ∙ ap (λ (y : UploadCall). made head.request.stay (ends reading c (body_of y body)) o) same.1 ∙ sym too

  one_ask : (reading c : ℕ) (head : Head) (body : List ℕ) (o p q : Outcome) → Asks R reading c head body o p → Asks R reading c head body o q → p ≡ q
  one_ask reading c head body o p q (token, call, read, is) (other, x, also, too) =
      let same = one.call head body token other call x read also in is ∙ (λ i. made head.request.stay (asks reading (same.0 i) (same.1 i)) o) ∙ sym too

  begin_once : (reading c : ℕ) (began : Bool) (head : Head) (o p q : Outcome) → BeginsOnce R reading c began head o p → BeginsOnce R reading c began head o q → p ≡ q
  begin_once reading c true head o p q is too = is ∙ sym too
  begin_once reading c false head o p q is too = one_begin reading c head o p q is too

  end_unrefused : (reading c : ℕ) (head : Head) (body : List ℕ) (m p q : Outcome) → EndsUnrefused R reading c head body m p → EndsUnrefused R reading c head body m q → p ≡ q
  end_unrefused reading c head body m p q is too = by m.reply is too
    where
      by : (x : Option Reply) → MatchOption x (Ends R reading c head body m p) (λ _. p ≡ m) → MatchOption x (Ends R reading c head body m q) (λ _. q ≡ m) → p ≡ q
      by None a b = one_end reading c head body m p q a b
      by (Some r) a b = a ∙ sym b

  carried_once : (reading c : ℕ) (uploads began : Bool) (head : Head) (body : List ℕ) (o p q : Outcome) → IsCarriedOut R reading c uploads began head body o p → IsCarriedOut R reading c uploads began head body o q → p ≡ q
  carried_once reading c true began head body o p q (m, once, later) (n, too, after) =
      let same = begin_once reading c began head o m n once too in
      end_unrefused reading c head body m p q later (subst (λ (x : Outcome). EndsUnrefused R reading c head body x q) (sym same) after)
  carried_once reading c false began head body o p q is too = one_ask reading c head body o p q is too

  made_once : (reading c : ℕ) (old new : Asked) (o p q : Outcome) → Makes R reading c old new o p → Makes R reading c old new o q → p ≡ q
  made_once reading c old nothing o p q is too = is ∙ sym too
  made_once reading c old (refused kind) o p q is too = is ∙ sym too
  made_once reading c old (begun head came) o p q is too = begin_once reading c (is_begun old) head o p q is too
  made_once reading c old (complete head body rest) o p q is too = carried_once reading c (is_upload head.route.name) (is_begun old) head body o p q is too

  abbrev Reading : ℕ → World → ℕ → Conn → List ℕ → World → Type 0
  Reading reading w c k bytes x =
      (new : Asked) × (o : Outcome) × IsAsked k.talk.before (k.talk.got ++ bytes) new × Makes R reading c k.talk.told new (nothing_made w) o × (x ≡ after_piece w c k bytes new o)

  abbrev Holding : World → ℕ → Conn → List ℕ → World → Type 0
  Holding w c k bytes x = x ≡ with_conn w c (Some (conn_held k bytes))

  one_piece : (reading : ℕ) (w : World) (c : ℕ) (k : Conn) (bytes : List ℕ) (u v : World) → IsPiece R reading w c k bytes u → IsPiece R reading w c k bytes v → u ≡ v
  one_piece reading w c k bytes u v is too = by k.talk.reply is too
    where
      by : (x : Option (Pending (List ℕ))) → MatchOption x (Reading reading w c k bytes u) (λ _. Holding w c k bytes u) → MatchOption x (Reading reading w c k bytes v) (λ _. Holding w c k bytes v) → u ≡ v
      by (Some p) a b = a ∙ sym b
      by None (new, o, asked, makes, a) (other, p, also, likewise, b) =
          let same : new ≡ other = one_asked k.talk.before (k.talk.got ++ bytes) new other asked also in
          let outcomes : o ≡ p = made_once reading c k.talk.told new (nothing_made w) o p makes (subst (λ (n : Asked). Makes R reading c k.talk.told n (nothing_made w) p) (sym same) likewise) in
          a ∙ (λ i. after_piece w c k bytes (same i) (outcomes i)) ∙ sym b

  after_once : (reading : ℕ) (w : World) (c : ℕ) (k : Conn) (p : Pending (List ℕ)) (whole : Bool) (u v : World) → IsAfterSend R reading w c k p whole u → IsAfterSend R reading w c k p whole v → u ≡ v
  after_once reading w c k p false u v is too = is ∙ sym too
  after_once reading w c k p true u v is too = by (shown_as k.talk.told p).stay is too
    where
      by : (stay : Bool) → GoesOn R reading w c k stay u → GoesOn R reading w c k stay v → u ≡ v
      by true a b = one_piece reading w c (record k { talk = next_talk k.talk }) [] u v a b
      by false a b = a ∙ sym b

  one_sent : (reading : ℕ) (w : World) (c : ℕ) (k : Conn) (p : Pending (List ℕ)) (took : Option ℕ) (u v : World) → IsSent R reading w c k p took u → IsSent R reading w c k p took v → u ≡ v
  one_sent reading w c k p None u v is too = is ∙ sym too
  one_sent reading w c k p (Some n) u v is too =
      let bytes = take n (handed p) in
      after_once reading _ c (conn_after k bytes p) p (is_whole (with_sent (length bytes) p)) u v is too

  one_event : (reading : ℕ) (took : Option ℕ) (w : World) (e : Event) (u v : World) → Happens R reading took w e u → Happens R reading took w e v → u ≡ v
  one_event reading took w event.Stop u v is too = is ∙ sym too
  one_event reading took w (event.Open c) u v is too = by (w.conns c) is too
    where
      by : (x : Option Conn) → MatchOption x (u ≡ opened w c took) (λ _. u ≡ w) → MatchOption x (v ≡ opened w c took) (λ _. v ≡ w) → u ≡ v
      by None a b = a ∙ sym b
      by (Some k) a b = a ∙ sym b
  one_event reading took w (event.Piece c bytes) u v is too = by (w.conns c) is too
    where
      by : (x : Option Conn) → MatchOption x (u ≡ w) (λ k. IsPiece R reading w c k bytes u) → MatchOption x (v ≡ w) (λ k. IsPiece R reading w c k bytes v) → u ≡ v
      by None a b = a ∙ sym b
      by (Some k) a b = one_piece reading w c k bytes u v a b
  one_event reading took w (event.Ready c) u v is too = by (w.conns c) is too
    where
      by_reply : (k : Conn) (x : Option (Pending (List ℕ))) → MatchOption x (u ≡ w) (λ p. IsSent R reading w c k p took u) → MatchOption x (v ≡ w) (λ p. IsSent R reading w c k p took v) → u ≡ v
      by_reply k None a b = a ∙ sym b
      by_reply k (Some p) a b = one_sent reading w c k p took u v a b

      by : (x : Option Conn) → MatchOption x (u ≡ w) (λ k. IsReady R reading w c k took u) → MatchOption x (v ≡ w) (λ k. IsReady R reading w c k took v) → u ≡ v
      by None a b = a ∙ sym b
      by (Some k) a b = by_reply k k.talk.reply a b
  one_event reading took w (event.Gone c) u v is too = by (w.conns c) is too
    where
      by : (x : Option Conn) → MatchOption x (u ≡ w) (λ k. u ≡ gone reading w c k) → MatchOption x (v ≡ w) (λ k. v ≡ gone reading w c k) → u ≡ v
      by None a b = a ∙ sym b
      by (Some k) a b = a ∙ sym b

  pub one_run : (turns : List Turn) (w u v : World) → Run R w turns u → Run R w turns v → u ≡ v
  one_run [] w u v a b = a ∙ sym b
  one_run (t ∷ turns) w u v (m, first, rest) (n, also, later) =
      let same = one_event t.reading t.took w t.event m n first also in one_run turns m u v rest (subst (λ (x : World). Run R x turns v) (sym same) later)
