-- Bytes of a reply were sent: the connection goes on with what is left, with the next request, or is closed.
use Rattle.std.proofs.Common.{◌≡◌, ℕ, ◌+◌, ◌==◌, Bool, true, false, not, cond, List, [], length, Option, Some, None, option_map, unwrap_or, MatchOption, refl, sym, ap, ◌∙◌, subst, arith}
use Rattle.std.proofs.lemmas.Bool.{false≢true}
use Rattle.std.proofs.lemmas.List.{length-append}
use Rattle.b2_model.specs.State.{State}
use Rattle.conn_talk.specs.declared.pending.Pending.{Pending}
use Rattle.conn_talk.specs.Talk.{Talk, next_talk, shown_as, size_of, with_sent, is_whole, given_back, talk_after}
use Rattle.conn_table.specs.declared.table.Conns.{Conns}
use Rattle.conn_table.specs.Table.{count_of, IsTalk, KeepsOthers}
use Rattle.served_world.specs.Replies.{Reads}
use Rattle.served_world.specs.World.{Conn, World, with_conn, closed, conn_after, IsPiece, GoesOn, IsAfterSend}
use Rattle.request_acts.specs.Answering.{At, Upload, Uploads, Contents, with_content}
use Rattle.request_acts.specs.Doing.{joined, Awaits}
use Rattle.request_acts.proofs.Numbers.{content_others, content_here}
use Rattle.event_loop.specs.Serving.{seen, IsKept, IsConnOf, IsTable, IsWorld}
use Rattle.event_loop.proofs.Tables.{KeepsRest, table_alone, each_set, IsReplying, replying}

-- ---- the reply of the table, and that of the world

-- a reply is as long with its content behind its text
pub joined_size : (content : List ℕ) (p : Pending (List ℕ)) → p.len ≡ length content → size_of (joined content p) ≡ size_of p
joined_size content p size = let all = length-append p.text content in omega (arith, all, size)

whole_as : (content : List ℕ) (p : Pending (List ℕ)) (n : ℕ) → p.len ≡ length content → is_whole (with_sent n (joined content p)) ≡ is_whole (with_sent n p)
whole_as content p n size = ap (λ m. p.sent + n == m) (joined_size content p size)

-- ---- the world before, and its connection in the table after

pub record IsSending (R : Reads) (ups : Uploads) (outs : Contents) (t u : Conns (List ℕ)) (w : World) (c : ℕ) (k : Conn) (p : Pending (List ℕ)) (n : ℕ) : Type 0 where
  pub table : IsTable R ups outs t w
  pub found : w.conns c ≡ Some k
  pub replying : IsReplying t c (outs c) k p
  pub talk : IsTalk u c (talk_after replying.talk (with_sent n p))
  pub others : KeepsOthers c t u

-- what the table makes of so many bytes that were sent
abbrev pub SendsOn : Conns (List ℕ) → Conns (List ℕ) → ℕ → ℕ → Type 0
SendsOn t u c n = (a : Talk (List ℕ)) (p : Pending (List ℕ)) → IsTalk t c (Some a) → a.reply ≡ Some p → IsTalk u c (talk_after a (with_sent n p))

-- and what it gives back
abbrev pub GivesOn : Conns (List ℕ) → ℕ → ℕ → Option (Pending (List ℕ)) → Type 0
GivesOn t c n r = (a : Talk (List ℕ)) (p : Pending (List ℕ)) → IsTalk t c (Some a) → a.reply ≡ Some p → r ≡ given_back a (with_sent n p)

-- the reply of the table behind that of the world, and what becomes of it
pub record IsSentOf (R : Reads) (ups : Uploads) (outs : Contents) (t u : Conns (List ℕ)) (w : World) (c : ℕ) (k : Conn) (q : Pending (List ℕ)) (n : ℕ) (back : Option (Pending (List ℕ))) : Type 0 where
  pub p : Pending (List ℕ)
  pub same : q ≡ joined (outs c) p
  pub s : IsSending R ups outs t u w c k p n
  pub given : back ≡ given_back s.replying.talk (with_sent n p)

pub sent_on : (R : Reads) (ups : Uploads) (outs : Contents) (t u : Conns (List ℕ)) (w : World) (c : ℕ) (k : Conn) (q : Pending (List ℕ)) (m n : ℕ) (back : Option (Pending (List ℕ))) → IsTable R ups outs t w → w.conns c ≡ Some k → k.talk.reply ≡ Some q → m ≡ n → KeepsOthers c t u → SendsOn t u c m
    → GivesOn t c m back → IsSentOf R ups outs t u w c k q n back
sent_on R ups outs t u w c k q m n back table found reply size others sends gives =
    let (p, same, r) = replying R t c (ups c) (outs c) (w.conns c) k q found reply (table.each c) in
    record {
      p = p;
      same = same;
      s = record { table = table; found = found; replying = r; talk = subst (λ i. IsTalk u c (talk_after r.talk (with_sent i p))) size (sends r.talk p r.is_talk r.reply); others = others };
      given = subst (λ i. back ≡ given_back r.talk (with_sent i p)) size (gives r.talk p r.is_talk r.reply);
    }

-- no upload is under way on a connection whose reply is sent
idle_none : (R : Reads) (up : Option Upload) (a : Talk (List ℕ)) (k : Conn) (content : List ℕ) (p : Pending (List ℕ)) (t : Conns (List ℕ)) (c : ℕ) → IsKept R t c up content k → k.talk ≡ seen content a → a.reply ≡ Some p → up ≡ None
idle_none R up a k content p t c kept same some =
    by kept.talk.reply kept.idle (ap (λ (b : Talk (List ℕ)). b.reply) (sym kept.seen_is ∙ same) ∙ ap (λ x. option_map (joined content) x) some)
  where
    by : (x : Option (Pending (List ℕ))) → MatchOption x (Awaits R kept.talk.before kept.talk.got up kept.talk.told) (λ q. up ≡ None) → option_map (joined content) x ≡ Some (joined content p) → up ≡ None
    by None idle reply = absurd (cc reply)
    by (Some q) idle reply = idle

pub none_under : (R : Reads) (ups : Uploads) (outs : Contents) (t : Conns (List ℕ)) (w : World) (c : ℕ) (k : Conn) (p : Pending (List ℕ)) → w.conns c ≡ Some k → IsReplying t c (outs c) k p → IsTable R ups outs t w → ups c ≡ None
none_under R ups outs t w c k p found r table = idle_none R (ups c) r.talk k (outs c) p t c (subst (IsConnOf R t c (ups c) (outs c)) found (table.each c)) r.seen_is r.reply

none_whole : (a : Talk (List ℕ)) (p : Pending (List ℕ)) (b : Bool) → None ≡ cond b (Some (shown_as a.told p)) None → b ≡ false
none_whole a p true none = absurd (cc none)
none_whole a p false none = refl

not_whole : (a : Talk (List ℕ)) (p : Pending (List ℕ)) → None ≡ given_back a p → is_whole p ≡ false
not_whole a p none = none_whole a p (is_whole p) none

some_whole : (a : Talk (List ℕ)) (p r : Pending (List ℕ)) (b : Bool) → Some r ≡ cond b (Some (shown_as a.told p)) None → (b ≡ true) × (r ≡ shown_as a.told p)
some_whole a p r true some = (refl, ap (λ o. unwrap_or o r) some)
some_whole a p r false some = absurd (cc some)

whole_given : (a : Talk (List ℕ)) (p r : Pending (List ℕ)) → Some r ≡ given_back a p → (is_whole p ≡ true) × (r ≡ shown_as a.told p)
whole_given a p r some = some_whole a p r (is_whole p) some

stay_not : (b : Bool) → not b ≡ true → b ≡ false
stay_not true is = absurd (false≢true is)
stay_not false is = refl

not_stay : (b : Bool) → not b ≡ false → b ≡ true
not_stay true is = refl
not_stay false is = absurd (false≢true (sym is))

-- the talk after a reply that was sent whole, by whether it stays
after_whole : (u : Conns (List ℕ)) (c : ℕ) (a : Talk (List ℕ)) (q : Pending (List ℕ)) (stay : Bool) → is_whole q ≡ true → (shown_as a.told q).stay ≡ stay → IsTalk u c (talk_after a q) → IsTalk u c (cond stay (Some (next_talk a)) None)
after_whole u c a q stay whole stays talk =
    subst (λ b. IsTalk u c (cond b (Some (next_talk a)) None)) stays (subst (λ b. IsTalk u c (cond b (cond (shown_as a.told q).stay (Some (next_talk a)) None) (Some (record a { reply = Some q })))) whole talk)

-- whether the world's reply stays is whether the table's does
stays_as : (content : List ℕ) (a : Talk (List ℕ)) (k : Conn) (p : Pending (List ℕ)) (n : ℕ) → k.talk ≡ seen content a → (shown_as k.talk.told (joined content p)).stay ≡ (shown_as a.told (with_sent n p)).stay
stays_as content a k p n same = ap (λ (b : Talk (List ℕ)). (shown_as b.told p).stay) same

-- what is to be shown of a send on a connection whose reply is this
abbrev pub SentOn : Reads → ℕ → At → Conns (List ℕ) → World → ℕ → Conn → Pending (List ℕ) → List ℕ → Type 0
SentOn R reading now u w c k q bytes = (v : World) × IsAfterSend R reading w c (conn_after k bytes q) q (is_whole (with_sent (length bytes) q)) v × IsWorld R now u v × (v.sends ≡ w.sends)

-- more is to be sent
pub part_sent : (R : Reads) (reading : ℕ) (now : At) (ups : Uploads) (outs : Contents) (t u : Conns (List ℕ)) (w : World) (c : ℕ) (k : Conn) (p : Pending (List ℕ)) (bytes : List ℕ) (s : IsSending R ups outs t u w c k p (length bytes)) → now w.machine.state w.machine.words ups outs
    → None ≡ given_back s.replying.talk (with_sent (length bytes) p) → count_of u + 0 ≡ count_of t → SentOn R reading now u w c k (joined (outs c) p) bytes
part_sent R reading now ups outs t u w c k p bytes s at none count =
    let a = s.replying.talk in
    let q = with_sent (length bytes) p in
    let l = conn_after k bytes (joined (outs c) p) in
    let v = with_conn w c (Some l) in
    let part = not_whole a q none in
    let less : is_whole (with_sent (length bytes) (joined (outs c) p)) ≡ false = whole_as (outs c) p (length bytes) s.replying.size ∙ part in
    let here : IsKept R u c (ups c) (outs c) l = record {
      talk = record a { reply = Some q };
      is_talk = subst (λ b. IsTalk u c (cond b (cond (shown_as a.told q).stay (Some (next_talk a)) None) (Some (record a { reply = Some q })))) part s.talk;
      seen_is = ap (λ (b : Talk (List ℕ)). record b { reply = Some (joined (outs c) q) }) s.replying.seen_is;
      idle = none_under R ups outs t w c k p s.found s.replying s.table;
      content_is = s.replying.size;
    } in
    let counts = s.table.count in
    (v, subst (λ b. IsAfterSend R reading w c l (joined (outs c) p) b v) (sym less) refl, record { uploads = ups; contents = outs; machine = at; table = record { each = each_set R t u w.conns ups ups outs outs c (Some l) s.table.each (table_alone c t u ups outs s.others) here; count = omega (arith, count, counts) } }, refl)

-- its content is read no longer
abbrev pub Finishes : ℕ → At → At → Type 0
Finishes c was now = (M : State (List ℕ)) (words : List ℕ) (ups : Uploads) (outs : Contents) → was M words ups outs → now M words ups (with_content outs c [])

finished_rest : (c : ℕ) (t u : Conns (List ℕ)) (ups : Uploads) (outs : Contents) → KeepsOthers c t u → KeepsRest c t u ups ups outs (with_content outs c [])
finished_rest c t u ups outs others = record { table = others; uploads = λ d apart. refl; contents = content_others outs c [] }

-- the connection is closed
pub closed_after : (R : Reads) (reading : ℕ) (was now : At) (ups : Uploads) (outs : Contents) (t u : Conns (List ℕ)) (w : World) (c : ℕ) (k : Conn) (p r : Pending (List ℕ)) (bytes : List ℕ) (s : IsSending R ups outs t u w c k p (length bytes)) → was w.machine.state w.machine.words ups outs
    → Finishes c was now → Some r ≡ given_back s.replying.talk (with_sent (length bytes) p) → not r.stay ≡ true → count_of u + cond (not r.stay) 1 0 ≡ count_of t → SentOn R reading now u w c k (joined (outs c) p) bytes
closed_after R reading was now ups outs t u w c k p r bytes s at finished some leaves count =
    let a = s.replying.talk in
    let n = length bytes in
    let q = with_sent n p in
    let l = conn_after k bytes (joined (outs c) p) in
    let v = closed w c l in
    let (whole, same) = whole_given a q r some in
    let ends : (shown_as a.told q).stay ≡ false = ap (λ (x : Pending (List ℕ)). x.stay) (sym same) ∙ stay_not r.stay leaves in
    let talk : IsTalk u c None = after_whole u c a q false whole ends s.talk in
    let one = subst (λ b. count_of u + cond b 1 0 ≡ count_of t) leaves count in
    let counts = s.table.count in
    let more = with_content outs c [] in
    let all : is_whole (with_sent n (joined (outs c) p)) ≡ true = whole_as (outs c) p n s.replying.size ∙ whole in
    let gone : (shown_as k.talk.told (joined (outs c) p)).stay ≡ false = stays_as (outs c) a k p n s.replying.seen_is ∙ ends in
    let here : IsConnOf R u c (ups c) (more c) None = (talk, none_under R ups outs t w c k p s.found s.replying s.table, content_here outs c []) in (
      v,
      subst (λ b. IsAfterSend R reading w c l (joined (outs c) p) b v) (sym all) (subst (λ b. GoesOn R reading w c l b v) (sym gone) refl),
      record { uploads = ups; contents = more; machine = finished w.machine.state w.machine.words ups outs at; table = record { each = each_set R t u w.conns ups ups outs more c None s.table.each (finished_rest c t u ups outs s.others) here; count = omega (arith, one, counts) } },
      refl,
    )

-- the connection as its next request
abbrev pub as_next : Conn → List ℕ → Pending (List ℕ) → Conn
as_next k bytes p = record (conn_after k bytes p) { talk = next_talk k.talk }

-- the next request is read
pub record IsNext (u : Conns (List ℕ)) (c : ℕ) (a : Talk (List ℕ)) (q : Pending (List ℕ)) : Type 0 where
  pub whole : is_whole q ≡ true
  pub stays : (shown_as a.told q).stay ≡ true
  pub talk : IsTalk u c (Some (next_talk a))

pub is_next : (u : Conns (List ℕ)) (c : ℕ) (a : Talk (List ℕ)) (q r : Pending (List ℕ)) → IsTalk u c (talk_after a q) → Some r ≡ given_back a q → not r.stay ≡ false → IsNext u c a q
is_next u c a q r talk some stays =
    let (whole, same) = whole_given a q r some in
    let goes : (shown_as a.told q).stay ≡ true = ap (λ (x : Pending (List ℕ)). x.stay) (sym same) ∙ not_stay r.stay stays in record { whole = whole; stays = goes; talk = after_whole u c a q true whole goes talk }

pub next_world : (R : Reads) (was now : At) (ups : Uploads) (outs : Contents) (t u : Conns (List ℕ)) (w : World) (c : ℕ) (k : Conn) (p : Pending (List ℕ)) (bytes : List ℕ) (s : IsSending R ups outs t u w c k p (length bytes)) → IsNext u c s.replying.talk (with_sent (length bytes) p)
    → was w.machine.state w.machine.words ups outs → Finishes c was now → count_of u ≡ count_of t → IsWorld R now u (with_conn w c (Some (as_next k bytes (joined (outs c) p))))
next_world R was now ups outs t u w c k p bytes s n at finished count =
    let a = s.replying.talk in
    let more = with_content outs c [] in
    let l = as_next k bytes (joined (outs c) p) in
    let nothing = content_here outs c [] in
    let here : IsKept R u c (ups c) (more c) l = record {
      talk = next_talk a;
      is_talk = n.talk;
      seen_is = ap next_talk s.replying.seen_is;
      idle = none_under R ups outs t w c k p s.found s.replying s.table;
      content_is = nothing;
    } in
    record { uploads = ups; contents = more; machine = finished w.machine.state w.machine.words ups outs at; table = record { each = each_set R t u w.conns ups ups outs more c (Some l) s.table.each (finished_rest c t u ups outs s.others) here; count = count ∙ s.table.count } }

pub goes_on : (R : Reads) (reading : ℕ) (outs : Contents) (t u : Conns (List ℕ)) (w v : World) (c : ℕ) (k : Conn) (p : Pending (List ℕ)) (bytes : List ℕ) (r : IsReplying t c (outs c) k p) → IsNext u c r.talk (with_sent (length bytes) p)
    → IsPiece R reading w c (as_next k bytes (joined (outs c) p)) [] v → IsAfterSend R reading w c (conn_after k bytes (joined (outs c) p)) (joined (outs c) p) (is_whole (with_sent (length bytes) (joined (outs c) p))) v
goes_on R reading outs t u w v c k p bytes r n is =
    let q = joined (outs c) p in
    let l = conn_after k bytes q in
    let all : is_whole (with_sent (length bytes) q) ≡ true = whole_as (outs c) p (length bytes) r.size ∙ n.whole in
    let goes : (shown_as k.talk.told q).stay ≡ true = stays_as (outs c) r.talk k p (length bytes) r.seen_is ∙ n.stays in
    subst (λ b. IsAfterSend R reading w c l q b v) (sym all) (subst (λ b. GoesOn R reading w c l b v) (sym goes) is)

pub plus_none : {n m : ℕ} → n + 0 ≡ m → n ≡ m
plus_none is = omega (arith, is)
