-- From every world each event leads on.
use Rattle.std.proofs.Common.{◌≡◌, ℕ, Bool, true, false, List, [], ◌∷◌, ◌++◌, length, take, Option, Some, None, MatchOption, refl}
use Rattle.outside_traits.specs.declared.link.Event.{Event}
use Rattle.outside_traits.specs.declared.link.Event.TheVariants as event
use Rattle.b2_model.specs.Body.{body_of}
use Rattle.b2_model.specs.Run.{asks, begins, ends}
use Rattle.http_edge.specs.declared.head.Head.{Head}
use Rattle.http_edge.specs.Length.{is_upload}
use Rattle.http_edge.proofs.Receiving.{announced_has, whole_has}
use Rattle.conn_talk.specs.declared.pending.Pending.{Pending}
use Rattle.conn_talk.specs.Asked.{Asked, nothing, refused, begun, complete, IsAsked, is_begun}
use Rattle.conn_talk.specs.Talk.{next_talk, shown_as, with_sent, is_whole}
use Rattle.conn_talk.proofs.Once.{open_upload}
use Rattle.served_world.specs.Replies.{Reads, Reply, form, Outcome, made, Ends, BeginsOnce, EndsUnrefused, IsCarriedOut, Makes}
use Rattle.served_world.specs.World.{Turn, Conn, World, with_conn, opened, nothing_made, conn_held, after_piece, IsPiece, closed, gone, handed, is_last, conn_after, with_send, GoesOn, IsAfterSend, IsSent, IsReady, Happens, Run}
use Rattle.outside_traits.specs.Links.{front_sent}
use Rattle.served_runs.specs.Whole.{IsHeadRead, ReadsAll}
use Rattle.served_runs.proofs.Come.{is_asked}

-- the head of what bytes ask for is read
begun_read : (before : ℕ) (bytes : List ℕ) (head : Head) (came : List ℕ) → IsAsked before bytes (begun head came) → IsHeadRead head
begun_read before bytes head came (r, route, received, is, after) =
    let has = announced_has bytes r route received in (before, take has.0 bytes, r, route, has.2, is)

complete_read : (before : ℕ) (bytes : List ℕ) (head : Head) (body rest : List ℕ) → IsAsked before bytes (complete head body rest) → IsHeadRead head
complete_read before bytes head body rest (r, route, received, is, after) =
    let has = whole_has bytes body r route received in (before, take has.0 bytes, r, route, has.2, is)

module _ (R : Reads) (all : ReadsAll R) where
  begins_so : (reading c : ℕ) (began : Bool) (head : Head) (o : Outcome) → IsHeadRead head → is_upload head.route.name ≡ true → (p : Outcome) × BeginsOnce R reading c began head o p
  begins_so reading c true head o read upload = (o, refl)
  begins_so reading c false head o read upload =
      let is = all.upload head read upload in (made false (begins reading c is.0 is.1) o, (is.0, is.1, is.2, refl))

  ends_so : (reading c : ℕ) (head : Head) (body : List ℕ) (m : Outcome) → IsHeadRead head → is_upload head.route.name ≡ true → (p : Outcome) × EndsUnrefused R reading c head body m p
  ends_so reading c head body m read upload = by m.reply refl
    where
      by : (x : Option Reply) → m.reply ≡ x → (p : Outcome) × MatchOption x (Ends R reading c head body m p) (λ _. p ≡ m)
      by None same = let is = all.upload head read upload in (made head.request.stay (ends reading c (body_of is.1 body)) m, (is.0, is.1, is.2, refl))
      by (Some r) same = (m, refl)

  carried_out : (reading c : ℕ) (uploads began : Bool) (head : Head) (body : List ℕ) (o : Outcome) → IsHeadRead head → is_upload head.route.name ≡ uploads → (p : Outcome) × IsCarriedOut R reading c uploads began head body o p
  carried_out reading c true began head body o read upload =
      let first = begins_so reading c began head o read upload in
      let last = ends_so reading c head body first.0 read upload in (last.0, (first.0, first.1, last.1))
  carried_out reading c false began head body o read call =
      let is = all.call head body read call in (made head.request.stay (asks reading is.0 is.1) o, (is.0, is.1, is.2, refl))

  makes_so : (reading c before : ℕ) (bytes : List ℕ) (told new : Asked) (o : Outcome) → IsAsked before bytes new → (p : Outcome) × Makes R reading c told new o p
  makes_so reading c before bytes told nothing o asked = (o, refl)
  makes_so reading c before bytes told (refused kind) o asked = (record o { reply = Some (form kind) }, refl)
  makes_so reading c before bytes told (begun head came) o asked =
      begins_so reading c (is_begun told) head o (begun_read before bytes head came asked) (open_upload before bytes head came asked).upload
  makes_so reading c before bytes told (complete head body rest) o asked =
      carried_out reading c (is_upload head.route.name) (is_begun told) head body o (complete_read before bytes head body rest asked) refl

  -- ---- events

  abbrev Reading : ℕ → World → ℕ → Conn → List ℕ → World → Type 0
  Reading reading w c k bytes v =
      (new : Asked) × (o : Outcome) × IsAsked k.talk.before (k.talk.got ++ bytes) new × Makes R reading c k.talk.told new (nothing_made w) o × (v ≡ after_piece w c k bytes new o)

  on_piece : (reading : ℕ) (w : World) (c : ℕ) (k : Conn) (bytes : List ℕ) → (v : World) × IsPiece R reading w c k bytes v
  on_piece reading w c k bytes = by k.talk.reply
    where
      by : (x : Option (Pending (List ℕ))) → (v : World) × MatchOption x (Reading reading w c k bytes v) (λ _. v ≡ with_conn w c (Some (conn_held k bytes)))
      by (Some p) = (with_conn w c (Some (conn_held k bytes)), refl)
      by None =
          let new = is_asked k.talk.before (k.talk.got ++ bytes) in
          let does = makes_so reading c k.talk.before (k.talk.got ++ bytes) k.talk.told new.0 (nothing_made w) new.1 in
          (after_piece w c k bytes new.0 does.0, (new.0, does.0, new.1, does.1, refl))

  after_send : (reading : ℕ) (w : World) (c : ℕ) (k : Conn) (p : Pending (List ℕ)) (whole : Bool) → (v : World) × IsAfterSend R reading w c k p whole v
  after_send reading w c k p false = (with_conn w c (Some k), refl)
  after_send reading w c k p true = by (shown_as k.talk.told p).stay
    where
      by : (stay : Bool) → (v : World) × GoesOn R reading w c k stay v
      by true = on_piece reading w c (record k { talk = next_talk k.talk }) []
      by false = (closed w c k, refl)

  on_sent : (reading : ℕ) (w : World) (c : ℕ) (k : Conn) (p : Pending (List ℕ)) (took : Option ℕ) → (v : World) × IsSent R reading w c k p took v
  on_sent reading w c k p None = (gone reading w c k, refl)
  on_sent reading w c k p (Some n) =
      let bytes = take n (handed p) in
      after_send reading (with_send w (front_sent c (handed p) (is_last k.talk p) n)) c (conn_after k bytes p) p (is_whole (with_sent (length bytes) p))

  on_event : (reading : ℕ) (took : Option ℕ) (w : World) (e : Event) → (v : World) × Happens R reading took w e v
  on_event reading took w event.Stop = (w, refl)
  on_event reading took w (event.Open c) = by (w.conns c)
    where
      by : (x : Option Conn) → (v : World) × MatchOption x (v ≡ opened w c took) (λ _. v ≡ w)
      by None = (opened w c took, refl)
      by (Some k) = (w, refl)
  on_event reading took w (event.Piece c bytes) = by (w.conns c)
    where
      by : (x : Option Conn) → (v : World) × MatchOption x (v ≡ w) (λ k. IsPiece R reading w c k bytes v)
      by None = (w, refl)
      by (Some k) = on_piece reading w c k bytes
  on_event reading took w (event.Ready c) = by (w.conns c)
    where
      by_reply : (k : Conn) (x : Option (Pending (List ℕ))) → (v : World) × MatchOption x (v ≡ w) (λ p. IsSent R reading w c k p took v)
      by_reply k None = (w, refl)
      by_reply k (Some p) = on_sent reading w c k p took

      by : (x : Option Conn) → (v : World) × MatchOption x (v ≡ w) (λ k. IsReady R reading w c k took v)
      by None = (w, refl)
      by (Some k) = by_reply k k.talk.reply
  on_event reading took w (event.Gone c) = by (w.conns c)
    where
      by : (x : Option Conn) → (v : World) × MatchOption x (v ≡ w) (λ k. v ≡ gone reading w c k)
      by None = (w, refl)
      by (Some k) = (gone reading w c k, refl)

  pub has_run : (turns : List Turn) (w : World) → (v : World) × Run R w turns v
  has_run [] w = (w, refl)
  has_run (t ∷ turns) w =
      let next = on_event t.reading t.took w t.event in
      let last = has_run turns next.0 in (last.0, (next.0, next.1, last.1))
