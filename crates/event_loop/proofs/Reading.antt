-- Bytes come on a connection: what the world makes of them.
use Rattle.std.proofs.Common.{◌≡◌, ℕ, nat_eq, Bool, List, [], ◌++◌, Option, Some, None, option_map, MatchOption, refl, sym, ap, ◌∙◌, subst, ◌<◌, length, arith}
use Rattle.std.specs.Map.{update}
use Rattle.std.specs.List.{AllByRecursion}
use Rattle.conn_talk.specs.declared.act.Act.{Act}
use Rattle.conn_talk.specs.declared.pending.Pending.{Pending}
use Rattle.conn_talk.specs.Asked.{Asked, IsAsked, stay_of, with_more}
use Rattle.conn_talk.specs.Acts.{acts_after}
use Rattle.conn_talk.specs.Talk.{Talk, TakesPiece, asks_stay}
use Rattle.conn_table.specs.declared.table.Conns.{Conns}
use Rattle.conn_table.specs.Table.{count_of, IsTalk, KeepsOthers}
use Rattle.served_world.specs.Replies.{Reads, Reply}
use Rattle.served_world.specs.World.{Conn, World, with_conn, pending_of, conn_read, conn_held, after_piece, IsPiece}
use Rattle.request_acts.specs.Answering.{At, Upload, Uploads, Contents, IsServedAct}
use Rattle.request_acts.specs.Doing.{DoesAll, HasDone, joined, HasContent, Awaits}
use Rattle.request_acts.proofs.Heads.{acts_served}
use Rattle.request_acts.proofs.Made.{first_doing, all_made}
use Rattle.event_loop.specs.Serving.{seen, IsIdle, IsKept, IsConnOf, IsTable, IsWorld}
use Rattle.event_loop.proofs.Tables.{KeepsRest, table_alone, each_again}

-- a talk, and a connection, by their parts
abbrev pub talk : ℕ → List ℕ → Asked → Option (Pending (List ℕ)) → Talk (List ℕ)
talk before got told reply = record { before = before; got = got; told = told; reply = reply }

abbrev pub conn : ℕ → Talk (List ℕ) → List ℕ → List ℕ → Conn
conn name a came sent = record { name = name; talk = a; came = came; sent = sent }

-- ---- what a piece brings

-- its acts are of requests that are served
pub takes_served : (a : Talk (List ℕ)) (bytes : List ℕ) (acts : List Act) (b : Talk (List ℕ)) → TakesPiece a bytes acts b → AllByRecursion IsServedAct acts
takes_served a bytes acts b takes = by a.reply takes
  where
    by : (x : Option (Pending (List ℕ)))
        → MatchOption x ((new : Asked) × IsAsked a.before (a.got ++ bytes) new × (acts ≡ acts_after a.told new) × (b ≡ record a { got = a.got ++ bytes; told = new })) (λ _. (acts ≡ []) × (b ≡ record a { told = with_more a.told bytes })) → AllByRecursion IsServedAct acts
    by None (new, asked, same, is) = subst (AllByRecursion IsServedAct) (sym same) (acts_served a.before (a.got ++ bytes) a.told new asked)
    by (Some p) (none, is) = subst (AllByRecursion IsServedAct) (sym none) (record {})

-- its request has no reply, where it brings some
pub unanswered_by : (a : Talk (List ℕ)) (bytes : List ℕ) (acts : List Act) (b : Talk (List ℕ)) → TakesPiece a bytes acts b → 0 < length acts → b.reply ≡ None
unanswered_by a bytes acts b takes some = by a.reply refl takes
  where
    by : (x : Option (Pending (List ℕ))) → a.reply ≡ x
        → MatchOption x ((new : Asked) × IsAsked a.before (a.got ++ bytes) new × (acts ≡ acts_after a.told new) × (b ≡ record a { got = a.got ++ bytes; told = new })) (λ _. (acts ≡ []) × (b ≡ record a { told = with_more a.told bytes })) → b.reply ≡ None
    by None at (new, asked, same, is) = ap (λ (t : Talk (List ℕ)). t.reply) is ∙ at
    by (Some p) at (none, is) = let size = ap length none in absurd (omega (arith, size, some))

-- ---- what the world makes of it

-- the world whose one connection became this one
pub record IsSet (R : Reads) (ups : Uploads) (outs : Contents) (t u : Conns (List ℕ)) (w : World) (c : ℕ) (k : Conn) : Type 0 where
  pub old : IsTable R ups outs t (with_conn w c (Some k))
  pub others : KeepsOthers c t u
  pub count : count_of u ≡ count_of t

set_table : (R : Reads) (ups vps : Uploads) (outs more : Contents) (t u : Conns (List ℕ)) (w v : World) (c : ℕ) (k l : Conn) → IsSet R ups outs t u w c k → KeepsRest c t u ups vps outs more → IsKept R u c (vps c) (more c) l → v.conns ≡ update nat_eq w.conns c (Some l) → v.count ≡ w.count
    → IsTable R vps more u v
set_table R ups vps outs more t u w v c k l is rest here conns count = record {
  each = λ d. subst (λ f. IsConnOf R u d (vps d) (more d) (f d)) (sym conns) (each_again R t u w.conns ups vps outs more c (Some l) (Some k) is.old.each rest here d);
  count = is.count ∙ is.old.count ∙ sym count;
}

-- what bytes make of a world
abbrev pub Reads_on : Reads → ℕ → World → ℕ → Conn → List ℕ → At → Conns (List ℕ) → Type 0
Reads_on R reading w c k bytes now u = (v : World) × IsPiece R reading w c k bytes v × IsWorld R now u v × (v.sends ≡ w.sends)

-- the reply that came to a talk, or none
abbrev HasReply : Conns (List ℕ) → ℕ → Talk (List ℕ) → Option (Pending (List ℕ)) → Type 0
HasReply u c b next = MatchOption next (IsTalk u c (Some b)) (λ p. IsTalk u c (Some (record b { reply = Some p })))

idle_as : (R : Reads) (before : ℕ) (got : List ℕ) (up : Option Upload) (new : Asked) (content : List ℕ) (next : Option (Pending (List ℕ))) (told : Option Reply) → MatchOption told (Awaits R before got up new) (λ _. up ≡ None)
    → option_map (joined content) next ≡ option_map pending_of told → IsIdle R up (talk before got new next)
idle_as R before got up new content None None idle same = idle
idle_as R before got up new content None (Some r) idle same = absurd (cc same)
idle_as R before got up new content (Some p) None idle same = absurd (cc same)
idle_as R before got up new content (Some p) (Some r) idle same = idle

-- ---- by what is pending

module _ (R : Reads) (reading : ℕ) (ups : Uploads) (outs : Contents) (t u : Conns (List ℕ)) (w : World) (c name before : ℕ) (got : List ℕ) (told : Asked) (came sent bytes : List ℕ) (acts : List Act) (b : Talk (List ℕ)) (k : Conn) where
  -- the connection, whose talk the table keeps with this reply
  abbrev reading_on : At → Option (Pending (List ℕ)) → Type 0
  reading_on now reply = Reads_on R reading w c (conn name (seen (outs c) (talk before got told reply)) came sent) bytes now u

  -- the bytes stand behind a reply that is pending
  held_read : (now : At) (q : Pending (List ℕ)) → IsSet R ups outs t u w c k → IsIdle R (ups c) (talk before got told (Some q)) → q.len ≡ length (outs c) → TakesPiece (talk before got told (Some q)) bytes acts b → IsTalk u c (Some b) → now w.machine.state w.machine.words ups outs
      → reading_on now (Some q)
  held_read now q set idle size (none, is) here at =
      let l = conn_held (conn name (seen (outs c) (talk before got told (Some q))) came sent) bytes in
      let kept : IsKept R u c (ups c) (outs c) l = record { talk = talk before got (with_more told bytes) (Some q); is_talk = subst (λ x. IsTalk u c (Some x)) is here; seen_is = refl; idle = idle; content_is = size } in
      (with_conn w c (Some l), refl, record { uploads = ups; contents = outs; machine = at; table = set_table R ups ups outs outs t u w (with_conn w c (Some l)) c k l set (table_alone c t u ups outs set.others) kept refl refl }, refl)

  -- they are of a request that has no reply: what its acts made is what the bytes make
  asked_read : (was now : At) (stay : Bool) (next : Option (Pending (List ℕ))) → IsSet R ups outs t u w c k → IsIdle R (ups c) (talk before got told None) → outs c ≡ [] → TakesPiece (talk before got told None) bytes acts b → stay ≡ asks_stay (Some b) → HasReply u c b next
      → was w.machine.state w.machine.words ups outs → HasDone R reading c stay was acts now next → reading_on now None
  asked_read was now stay next set idle nothing (new, asked, acts_are, is) stays here at done =
      let d = first_doing w.machine w.steps ups outs in
      let (e, does, there, so) = done d at (record { reply = refl; content = nothing }) in
      let stay_is : stay_of new ≡ stay = ap (λ (x : Talk (List ℕ)). stay_of x.told) (sym is) ∙ sym stays in
      let m = all_made R reading c before (got ++ bytes) stay w.machine w.steps ups outs got bytes told new e refl idle asked stay_is (subst (λ xs. DoesAll R reading c stay xs d e) acts_are does) in
      let j = conn name (talk before got told None) came sent in
      let l = conn_read j bytes new e.outcome in
      let v = after_piece w c j bytes new e.outcome in
      let kept : IsKept R u c (e.uploads c) (e.contents c) l = record {
        talk = talk before (got ++ bytes) new next;
        is_talk = answered_as new is next here;
        seen_is = ap (talk before (got ++ bytes) new) (sym so.reply_is);
        idle = idle_as R before (got ++ bytes) (e.uploads c) new (e.contents c) next e.outcome.reply m.idle so.reply_is;
        content_is = so.content_is;
      } in
      let rest : KeepsRest c t u ups e.uploads outs e.contents = record { table = set.others; uploads = m.kept; contents = m.read } in
      (v, (new, e.outcome, asked, m.makes, refl), record { uploads = e.uploads; contents = e.contents; machine = there; table = set_table R ups e.uploads outs e.contents t u w v c k l set rest kept refl refl }, refl)
    where
      answered_as : (new : Asked) → b ≡ talk before (got ++ bytes) new None → (x : Option (Pending (List ℕ))) → HasReply u c b x → IsTalk u c (Some (talk before (got ++ bytes) new x))
      answered_as new is None at = subst (λ y. IsTalk u c (Some y)) is at
      answered_as new is (Some p) at = subst (λ (y : Talk (List ℕ)). IsTalk u c (Some (record y { reply = Some p }))) is at

  -- no act came
  quiet_read : (now : At) (reply : Option (Pending (List ℕ))) → IsSet R ups outs t u w c k → IsIdle R (ups c) (talk before got told reply) → HasContent (outs c) reply → TakesPiece (talk before got told reply) bytes acts b → acts ≡ [] → IsTalk u c (Some b)
      → now w.machine.state w.machine.words ups outs → reading_on now reply
  quiet_read now None set idle nothing takes none here at =
      let done : HasDone R reading c (asks_stay (Some b)) now [] now None = λ d there first. (d, refl, there, record { content_is = first.content; reply_is = ap (option_map pending_of) (sym first.reply) }) in
      asked_read now now (asks_stay (Some b)) None set idle nothing takes refl here at (subst (λ xs. HasDone R reading c (asks_stay (Some b)) now xs now None) (sym none) done)
  quiet_read now (Some q) set idle size takes none here at = held_read now q set idle size takes here at

  -- some came
  loud_read : (was now : At) (stay : Bool) (reply next : Option (Pending (List ℕ))) → IsSet R ups outs t u w c k → IsIdle R (ups c) (talk before got told reply) → HasContent (outs c) reply → TakesPiece (talk before got told reply) bytes acts b → 0 < length acts → stay ≡ asks_stay (Some b)
      → HasReply u c b next → was w.machine.state w.machine.words ups outs → HasDone R reading c stay was acts now next → reading_on now reply
  loud_read was now stay None next set idle nothing takes some stays here at done = asked_read was now stay next set idle nothing takes stays here at done
  loud_read was now stay (Some q) next set idle size (none, is) some stays here at done = let few = ap length none in absurd (omega (arith, few, some))

-- what a connection of a world makes of bytes, by the talk that is kept
as_kept : (R : Reads) (reading : ℕ) (w : World) (c : ℕ) (k : Conn) (content : List ℕ) (a : Talk (List ℕ)) (bytes : List ℕ) (now : At) (u : Conns (List ℕ)) → k.talk ≡ seen content a
    → Reads_on R reading w c (conn k.name (seen content (talk a.before a.got a.told a.reply)) k.came k.sent) bytes now u → Reads_on R reading w c k bytes now u
as_kept R reading w c k content a bytes now u is does = subst (λ x. Reads_on R reading w c (conn k.name x k.came k.sent) bytes now u) (sym is) does

-- no act came
pub quietly : (R : Reads) (reading : ℕ) (now : At) (ups : Uploads) (outs : Contents) (t u : Conns (List ℕ)) (w : World) (c : ℕ) (k : Conn) (bytes : List ℕ) (acts : List Act) (b : Talk (List ℕ)) (kept : IsKept R t c (ups c) (outs c) k) → IsSet R ups outs t u w c k
    → TakesPiece kept.talk bytes acts b → acts ≡ [] → IsTalk u c (Some b) → now w.machine.state w.machine.words ups outs → Reads_on R reading w c k bytes now u
quietly R reading now ups outs t u w c k bytes acts b kept set takes none here at =
    let a = kept.talk in
    as_kept R reading w c k (outs c) a bytes now u kept.seen_is
    (quiet_read R reading ups outs t u w c k.name a.before a.got a.told k.came k.sent bytes acts b k now a.reply set kept.idle kept.content_is takes none here at)

-- acts came and were carried out
pub piece_read : (R : Reads) (reading : ℕ) (was now : At) (stay : Bool) (ups : Uploads) (outs : Contents) (t u : Conns (List ℕ)) (w : World) (c : ℕ) (k : Conn) (bytes : List ℕ) (acts : List Act) (b : Talk (List ℕ)) (next : Option (Pending (List ℕ))) (kept : IsKept R t c (ups c) (outs c) k)
    → IsSet R ups outs t u w c k → TakesPiece kept.talk bytes acts b → 0 < length acts → stay ≡ asks_stay (Some b) → MatchOption next (IsTalk u c (Some b)) (λ p. IsTalk u c (Some (record b { reply = Some p }))) → was w.machine.state w.machine.words ups outs
    → HasDone R reading c stay was acts now next → Reads_on R reading w c k bytes now u
piece_read R reading was now stay ups outs t u w c k bytes acts b next kept set takes some stays here at done =
    let a = kept.talk in
    as_kept R reading w c k (outs c) a bytes now u kept.seen_is
    (loud_read R reading ups outs t u w c k.name a.before a.got a.told k.came k.sent bytes acts b k was now stay a.reply next set kept.idle kept.content_is takes some stays here at done)
