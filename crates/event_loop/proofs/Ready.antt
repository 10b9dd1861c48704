-- A connection can take bytes: the next ones of its reply are handed to the link.
use Rattle.std.proofs.Common.{◌≡◌, ◌==◌, ℕ, ◌+◌, not, ◌&&◌, List, [], ◌∷◌, ◌++◌, length, take, Option, Some, option_map, unwrap_or, MatchOption, refl, sym, ap, ◌∙◌, subst}
use Rattle.outside_traits.specs.declared.link.SentPiece.{SentPiece}
use Rattle.outside_traits.specs.declared.link.Event.TheVariants as event
use Rattle.outside_traits.specs.Links.{front_sent}
use Rattle.b2_model.specs.State.{State}
use Rattle.conn_talk.specs.declared.pending.Pending.{Pending}
use Rattle.conn_talk.specs.Asked.{Asked}
use Rattle.conn_talk.specs.Talk.{Talk, shown_as, size_of, with_sent, is_whole}
use Rattle.conn_table.specs.declared.table.Conns.{Conns}
use Rattle.conn_table.specs.Table.{pending_at}
use Rattle.served_world.specs.Replies.{Reads}
use Rattle.served_world.specs.World.{Conn, World, handed, is_last, with_send, conn_after, IsAfterSend, IsSent, IsReady}
use Rattle.request_acts.specs.Answering.{At, Uploads, Contents}
use Rattle.request_acts.specs.Doing.{joined}
use Rattle.event_loop.specs.Serving.{HasBounds, IsTable, IsWorld, IsHanded, sent_of, handed_on, Serves}
use Rattle.event_loop.proofs.Tables.{has_pending, is_pending, world_reply}
use Rattle.event_loop.proofs.Sending.{SentOn}

-- the reply that is shown has the bounds of the one that was answered
pub bounds : (R : Reads) (ups : Uploads) (outs : Contents) (t : Conns (List ℕ)) (w : World) (c : ℕ) (q : Pending (List ℕ)) → IsTable R ups outs t w → pending_at t c ≡ Some q → HasBounds q
bounds R ups outs t w c q table some =
    let h = has_pending R ups outs t w c q table.each some in
    let p = is_pending t c h.replying.talk h.p h.replying.reply h.replying.is_talk in
    subst HasBounds (sym h.shown_is) (record { left = p.left; small = p.small })

take_all : (xs : List ℕ) → take (length xs) xs ≡ xs
take_all [] = refl
take_all (x ∷ xs) = ap (λ l. x ∷ l) (take_all xs)

-- the link was handed what the world hands it, and what comes after it
abbrev pub HandsOn : ℕ → Pending (List ℕ) → ℕ → List SentPiece → List SentPiece → At → At → Type 0
HandsOn c q n before after was mid =
    (M : State (List ℕ)) (words : List ℕ) (ups : Uploads) (outs : Contents) → was M words ups outs → q.len ≡ length (outs c) → mid M words ups outs × IsHanded c (joined (outs c) q) n before after

abbrev pub GoesOnAfter : Reads → ℕ → At → At → Conns (List ℕ) → Conns (List ℕ) → ℕ → ℕ → Type 0
GoesOnAfter R reading mid now t u c n =
    (w : World) (k : Conn) (p : Pending (List ℕ)) (bytes : List ℕ) → IsWorld R mid t w → w.conns c ≡ Some k → k.talk.reply ≡ Some p → n ≡ length bytes → SentOn R reading now u w c k p bytes

-- the send is the one of the world
pub ready_served : (R : Reads) (reading : ℕ) (was mid now : At) (t u : Conns (List ℕ)) (before after : List SentPiece) (c : ℕ) (q : Pending (List ℕ)) (n : ℕ) → pending_at t c ≡ Some q → HandsOn c q n before after was mid → GoesOnAfter R reading mid now t u c n
    → Serves R reading (event.Ready c) was t before now u after
ready_served R reading was mid now t u before after c q n some hands sent w at sends =
    let h = has_pending R at.uploads at.contents t w c q at.table.each some in
    let k = h.k in
    let content = at.contents c in
    let p = joined content h.p in
    let reply = world_reply t c content k h.p h.replying in
    let xs = handed p in
    let size : q.len ≡ length content = ap (λ (x : Pending (List ℕ)). x.len) h.shown_is ∙ h.replying.size in
    let (there, has) = hands w.machine.state w.machine.words at.uploads at.contents at.machine size in
    let count : n ≡ length xs = has.count ∙ ap (λ (x : Pending (List ℕ)). length (handed (joined content x))) h.shown_is in
    let s = front_sent c xs (is_last k.talk p) (length xs) in
    let told : h.replying.talk.told ≡ k.talk.told = ap (λ (a : Talk (List ℕ)). a.told) (sym h.replying.seen_is) in
    let piece : sent_of c (joined content q) (handed (joined content q)) ≡ s =
    ap (λ (x : Pending (List ℕ)). sent_of c (joined content x) (handed (joined content x))) h.shown_is ∙ ap (λ (d : Asked). front_sent c xs ((p.sent + length xs == size_of p) && not (shown_as d p).stay) (length xs)) told in
    let x = with_send w s in
    let again : IsWorld R mid t x = record { uploads = at.uploads; contents = at.contents; machine = there; table = record { each = at.table.each; count = at.table.count } } in
    let (v, does, after_at, kept) = sent x k p xs again h.found reply count in
    let whole : IsSent R reading w c k p (Some (length xs)) v = subst (λ (b : List ℕ). IsAfterSend R reading x c (conn_after k b p) p (is_whole (with_sent (length b) p)) v) (sym (take_all xs)) does in
    let P : Option (Pending (List ℕ)) → Type 0 = λ y. MatchOption y (v ≡ w) (λ r. IsSent R reading w c k r (Some (unwrap_or (option_map (λ (z : Pending (List ℕ)). length (handed z)) y) 0)) v) in
    let ready : IsReady R reading w c k (Some (unwrap_or (option_map (λ (z : Pending (List ℕ)). length (handed z)) k.talk.reply) 0)) v = subst P (sym reply) whole in
    let Q : Option Conn → Type 0 = λ y. MatchOption y (v ≡ w) (λ j. IsReady R reading w c j (Some (handed_on y)) v) in
    (v, subst Q (sym h.found) ready, after_at, has.grows ∙ ap (λ l. l ++ sent_of c (joined content q) (handed (joined content q)) ∷ []) sends ∙ ap (λ (r : SentPiece). w.sends ++ r ∷ []) piece ∙ sym kept)
