-- What the link has of a number is what was sent on its connections.
use Rattle.std.proofs.Common.{◌≡◌, ℕ, ◌+◌, nat_eq, nat_lt, Bool, true, false, cond, List, [], ◌∷◌, ◌++◌, zero, suc, length, take, Option, Some, None, MatchOption, refl, sym, ap, ◌∙◌, subst, append_assoc, append-nil}
use Rattle.std.specs.Map.{update}
use Rattle.std.specs.List.{flat_map}
use Rattle.std.proofs.lemmas.Bool.{eqb-true}
use Rattle.std.proofs.lemmas.Grind.{flat_map-append}
use Rattle.outside_traits.specs.declared.link.Event.{Event}
use Rattle.outside_traits.specs.declared.link.Event.TheVariants as event
use Rattle.outside_traits.specs.Links.{front_sent}
use Rattle.b2_model.specs.State.{State}
use Rattle.conn_talk.specs.declared.pending.Pending.{Pending}
use Rattle.conn_talk.specs.Asked.{Asked, IsAsked}
use Rattle.conn_talk.specs.Talk.{next_talk, shown_as, with_sent, is_whole, is_uploading}
use Rattle.served_world.specs.Replies.{Reads, Outcome, Makes}
use Rattle.served_world.specs.World.{Turn, Conn, Ended, World, start, with_conn, closing, new_conn, opened, nothing_made, conn_read, conn_held, after_piece, IsPiece, closed, with_loss, gone, handed, is_last, with_send, conn_after, GoesOn, IsAfterSend, IsSent, IsReady, Happens, Run}
use Rattle.served_world.specs.Served.{bytes_on, ended_on, now_on, IsShown}

-- the same, where this was sent on the connection of this number
abbrev pub ShownWith : World → ℕ → List ℕ → Type 0
ShownWith w c sent = (d : ℕ) → flat_map (bytes_on d) w.sends ≡ flat_map (ended_on d) w.ended ++ cond (nat_eq c d) sent (now_on (w.conns d))

shown_with : (w : World) (c : ℕ) (sent : List ℕ) → IsShown w → now_on (w.conns c) ≡ sent → ShownWith w c sent
shown_with w c sent shown now d = by (nat_eq c d) refl
  where
    by : (b : Bool) → nat_eq c d ≡ b → flat_map (bytes_on d) w.sends ≡ flat_map (ended_on d) w.ended ++ cond b sent (now_on (w.conns d))
    by true same = shown d ∙ ap (λ l. flat_map (ended_on d) w.ended ++ l) (ap (λ n. now_on (w.conns n)) (sym (eqb-true c d same)) ∙ now)
    by false other = shown d

now_changed : (b : Bool) (k : Conn) (x : Option Conn) → cond b k.sent (now_on x) ≡ now_on (cond b (Some k) x)
now_changed true k x = refl
now_changed false k x = refl

set_shown : (w : World) (c : ℕ) (k : Conn) → ShownWith w c k.sent → IsShown (with_conn w c (Some k))
set_shown w c k shown d = shown d ∙ ap (λ l. flat_map (ended_on d) w.ended ++ l) (now_changed (nat_eq c d) k (w.conns d))

end_shown : (w : World) (c : ℕ) (k : Conn) → ShownWith w c k.sent → IsShown (closed w c k)
end_shown w c k shown d =
    shown d ∙ by (nat_eq c d) ∙ ap (λ l. l ++ now_on (update nat_eq w.conns c None d)) (sym (flat_map-append (ended_on d) w.ended (e ∷ [])))
  where
    e : Ended
    e = record { number = c; conn = k }

    all : List ℕ
    all = flat_map (ended_on d) w.ended

    by : (b : Bool) → all ++ cond b k.sent (now_on (w.conns d)) ≡ (all ++ (cond b k.sent [] ++ [])) ++ now_on (cond b None (w.conns d))
    by true = sym (append-nil (all ++ (k.sent ++ [])) ∙ ap (λ l. all ++ l) (append-nil k.sent))
    by false = ap (λ l. l ++ now_on (w.conns d)) (sym (append-nil all))

send_shown : (w : World) (c : ℕ) (sent bytes : List ℕ) (last : Bool) (n : ℕ) → ShownWith w c sent → ShownWith (with_send w (front_sent c bytes last n)) c (sent ++ take n bytes)
send_shown w c sent bytes last n shown d =
    flat_map-append (bytes_on d) w.sends (front_sent c bytes last n ∷ []) ∙ ap (λ l. l ++ flat_map (bytes_on d) (front_sent c bytes last n ∷ [])) (shown d) ∙ by (nat_eq c d)
  where
    all : List ℕ
    all = flat_map (ended_on d) w.ended

    by : (b : Bool) → (all ++ cond b sent (now_on (w.conns d))) ++ (cond b (take n bytes) [] ++ []) ≡ all ++ cond b (sent ++ take n bytes) (now_on (w.conns d))
    by true = ap (λ l. (all ++ sent) ++ l) (append-nil (take n bytes)) ∙ append_assoc all sent (take n bytes)
    by false = append-nil (all ++ now_on (w.conns d))

loss_shown : (reading : ℕ) (w : World) (c : ℕ) (b : Bool) → IsShown w → IsShown (with_loss reading c b w)
loss_shown reading w c true shown = shown
loss_shown reading w c false shown = shown

gone_shown : (reading : ℕ) (w : World) (c : ℕ) (k : Conn) → ShownWith w c k.sent → IsShown (gone reading w c k)
gone_shown reading w c k shown = loss_shown reading (closed w c k) c (is_uploading (Some k.talk)) (end_shown w c k shown)

nothing_taken : (n : ℕ) → take {A = ℕ} n [] ≡ []
nothing_taken zero = refl
nothing_taken (suc n) = refl

closing_bytes : (c d : ℕ) (took : Option ℕ) → flat_map (bytes_on d) (closing c took) ≡ []
closing_bytes c d None = refl
closing_bytes c d (Some n) = ap (λ l. cond (nat_eq c d) l [] ++ []) (nothing_taken n) ∙ by (nat_eq c d)
  where
    none : List ℕ
    none = []

    by : (b : Bool) → cond b none none ++ none ≡ none
    by true = refl
    by false = refl

open_shown : (w : World) (c : ℕ) (took : Option ℕ) → IsShown w → w.conns c ≡ None → IsShown (opened w c took)
open_shown w c took shown none = by (nat_lt w.count 32)
  where
    by : (b : Bool)
        → IsShown (cond b (record (with_conn w c (Some (new_conn (length w.opened)))) { opened = w.opened ++ c ∷ []; count = w.count + 1 }) (record w { sends = w.sends ++ closing c took }))
    by true = set_shown w c (new_conn (length w.opened)) (shown_with w c [] shown (ap now_on none))
    by false = λ d. flat_map-append (bytes_on d) w.sends (closing c took) ∙ ap (λ l. flat_map (bytes_on d) w.sends ++ l) (closing_bytes c d took) ∙ append-nil (flat_map (bytes_on d) w.sends) ∙ shown d

module _ (R : Reads) where
  piece_shown : (reading : ℕ) (w : World) (c : ℕ) (k : Conn) (bytes : List ℕ) (v : World) → ShownWith w c k.sent → IsPiece R reading w c k bytes v → IsShown v
  piece_shown reading w c k bytes v shown is = by k.talk.reply is
    where
      by : (x : Option (Pending (List ℕ)))
          → MatchOption x
          ((new : Asked) × (o : Outcome) × IsAsked k.talk.before (k.talk.got ++ bytes) new × Makes R reading c k.talk.told new (nothing_made w) o × (v ≡ after_piece w c k bytes new o))
          (λ _. v ≡ with_conn w c (Some (conn_held k bytes)))
          → IsShown v
      by None (new, o, asked, makes, same) = subst IsShown (sym same) (set_shown w c (conn_read k bytes new o) shown)
      by (Some p) same = subst IsShown (sym same) (set_shown w c (conn_held k bytes) shown)

  after_shown : (reading : ℕ) (w : World) (c : ℕ) (k : Conn) (p : Pending (List ℕ)) (whole : Bool) (v : World) → ShownWith w c k.sent → IsAfterSend R reading w c k p whole v → IsShown v
  after_shown reading w c k p false v shown is = subst IsShown (sym is) (set_shown w c k shown)
  after_shown reading w c k p true v shown is = by_stay (shown_as k.talk.told p).stay is
    where
      by_stay : (stay : Bool) → GoesOn R reading w c k stay v → IsShown v
      by_stay true next = piece_shown reading w c (record k { talk = next_talk k.talk }) [] v shown next
      by_stay false same = subst IsShown (sym same) (end_shown w c k shown)

  sent_shown : (reading : ℕ) (w : World) (c : ℕ) (k : Conn) (p : Pending (List ℕ)) (took : Option ℕ) (v : World) → ShownWith w c k.sent → IsSent R reading w c k p took v → IsShown v
  sent_shown reading w c k p None v shown is = subst IsShown (sym is) (gone_shown reading w c k shown)
  sent_shown reading w c k p (Some n) v shown is =
      let bytes = take n (handed p) in
      after_shown reading _ c (conn_after k bytes p) p (is_whole (with_sent (length bytes) p)) v (send_shown w c k.sent (handed p) (is_last k.talk p) n shown) is

  event_shown : (reading : ℕ) (took : Option ℕ) (w : World) (e : Event) (v : World) → IsShown w → Happens R reading took w e v → IsShown v
  event_shown reading took w event.Stop v shown is = subst IsShown (sym is) shown
  event_shown reading took w (event.Open c) v shown is = by (w.conns c) refl is
    where
      by : (x : Option Conn) → w.conns c ≡ x → MatchOption x (v ≡ opened w c took) (λ _. v ≡ w) → IsShown v
      by None none same = subst IsShown (sym same) (open_shown w c took shown none)
      by (Some k) there same = subst IsShown (sym same) shown
  event_shown reading took w (event.Piece c bytes) v shown is = by (w.conns c) refl is
    where
      by : (x : Option Conn) → w.conns c ≡ x → MatchOption x (v ≡ w) (λ k. IsPiece R reading w c k bytes v) → IsShown v
      by None there same = subst IsShown (sym same) shown
      by (Some k) there piece = piece_shown reading w c k bytes v (shown_with w c k.sent shown (ap now_on there)) piece
  event_shown reading took w (event.Ready c) v shown is = by (w.conns c) refl is
    where
      by_reply : (k : Conn) → ShownWith w c k.sent → (x : Option (Pending (List ℕ))) → MatchOption x (v ≡ w) (λ p. IsSent R reading w c k p took v) → IsShown v
      by_reply k here None same = subst IsShown (sym same) shown
      by_reply k here (Some p) sends = sent_shown reading w c k p took v here sends

      by : (x : Option Conn) → w.conns c ≡ x → MatchOption x (v ≡ w) (λ k. IsReady R reading w c k took v) → IsShown v
      by None there same = subst IsShown (sym same) shown
      by (Some k) there ready = by_reply k (shown_with w c k.sent shown (ap now_on there)) k.talk.reply ready
  event_shown reading took w (event.Gone c) v shown is = by (w.conns c) refl is
    where
      by : (x : Option Conn) → w.conns c ≡ x → MatchOption x (v ≡ w) (λ k. v ≡ gone reading w c k) → IsShown v
      by None there same = subst IsShown (sym same) shown
      by (Some k) there same = subst IsShown (sym same) (gone_shown reading w c k (shown_with w c k.sent shown (ap now_on there)))

  turns_shown : (turns : List Turn) (w v : World) → IsShown w → Run R w turns v → IsShown v
  turns_shown [] w v shown same = subst IsShown (sym same) shown
  turns_shown (t ∷ turns) w v shown (m, happens, rest) = turns_shown turns m v (event_shown t.reading t.took w t.event m shown happens) rest

  pub run_shown : (M : State (List ℕ)) (words : List ℕ) (turns : List Turn) (w : World) → Run R (start M words) turns w → IsShown w
  run_shown M words turns w ran = turns_shown turns (start M words) w (λ c. refl) ran
