-- Connections that open or are lost.
use Rattle.std.proofs.Common.{◌≡◌, ◌≤◌, ◌<◌, ◌⊎◌, ℕ, ◌+◌, nat_eq, Bool, true, false, ◌&&◌, cond, List, [], ◌∷◌, ◌++◌, length, Option, Some, None, option_map, MatchOption, inl, inr, refl, sym, ap, ◌∙◌, subst, arith}
use Rattle.std.specs.Map.{lookup, update}
use Rattle.std.specs.BTreeMap.{is_at}
use Rattle.std.specs.Ordering.{nat_cmp}
use Rattle.std.specs.Option.{is_some, is_none}
use Rattle.std.proofs.lemmas.Bool.{lt-ltb, le-ltb, eqb-true, eqb-false, cases_lt}
use Rattle.outside_traits.specs.declared.link.SentPiece.{SentPiece}
use Rattle.outside_traits.specs.declared.link.Event.TheVariants as event
use Rattle.outside_traits.specs.Links.{front_sent}
use Rattle.b2_model.specs.Run.{Progress, loses}
use Rattle.conn_talk.specs.declared.pending.Pending.{Pending}
use Rattle.conn_talk.specs.Asked.{Asked, nothing, refused, begun, complete, is_begun}
use Rattle.conn_talk.specs.Talk.{Talk, first_talk, is_uploading}
use Rattle.conn_talk.proofs.Once.{open_upload}
use Rattle.conn_table.specs.declared.table.Conns.{Conns}
use Rattle.conn_table.specs.declared.conn.Conn.{Conn as Kept}
use Rattle.conn_table.specs.Table.{conn_at, count_of, IsIn, IsTalk, KeepsOthers}
use Rattle.served_world.specs.Replies.{Reads}
use Rattle.served_world.specs.World.{Conn, World, with_conn, closing, new_conn, opened, closed, with_loss, gone}
use Rattle.request_acts.specs.Answering.{At, Upload, Uploads, Contents, with_content, IsAfter}
use Rattle.request_acts.specs.Doing.{joined, Awaits}
use Rattle.request_acts.proofs.Numbers.{updated_others, updated_here, content_others, content_here}
use Rattle.event_loop.specs.Serving.{IsKept, IsConnOf, IsTable, IsWorld, HasOpened, Serves, Steps, Takes, Loses}
use Rattle.event_loop.proofs.Tables.{KeepsRest, table_alone, rest_kept, each_set, kept_conn}
use Rattle.event_loop.proofs.Sending.{Finishes}

-- ---- Open

-- what an Open makes of a world with these uploads and contents
abbrev OpensTo : Reads → Uploads → Contents → Conns (List ℕ) → List SentPiece → World → ℕ → Option Conn → Type 0
OpensTo R ups outs u after w c x = (v : World) × MatchOption x (v ≡ opened w c (Some 0)) (λ _. v ≡ w) × IsTable R ups outs u v × (after ≡ v.sends) × (v.machine ≡ w.machine)

-- it opens
opens : (R : Reads) (ups : Uploads) (outs : Contents) (t u : Conns (List ℕ)) (after : List SentPiece) (w : World) (c : ℕ) → w.conns c ≡ None → ups c ≡ None → outs c ≡ [] → count_of t < 32 → HasOpened c t u → IsTable R ups outs t w → after ≡ w.sends → OpensTo R ups outs u after w c None
opens R ups outs t u after w c none idle quiet room h table sends =
    let k = new_conn (length w.opened) in
    let v = record (with_conn w c (Some k)) { opened = w.opened ++ c ∷ []; count = w.count + 1 } in
    let counts = table.count in
    let more = h.count in
    let free : w.count < 32 = omega (arith, room, counts) in
    let is : v ≡ opened w c (Some 0) = ap (λ b. cond b v (record w { sends = w.sends ++ closing c (Some 0) })) (sym (lt-ltb w.count 32 free)) in
    let kept : IsKept R u c (ups c) (outs c) k = record { talk = first_talk; is_talk = h.talk; seen_is = refl; idle = idle; content_is = quiet } in
    (v, is, record { each = each_set R t u w.conns ups ups outs outs c (Some k) table.each (table_alone c t u ups outs h.others) kept; count = omega (arith, more, counts) }, sends, refl)

-- the same entries are the same connections
same_at : (t u : Conns (List ℕ)) → u.conns.entries ≡ t.conns.entries → (d : ℕ) → conn_at u d ≡ conn_at t d
same_at t u same d = ap (lookup (is_at (nat_cmp d))) same

-- as many are open as may be
refused_open : (R : Reads) (ups : Uploads) (outs : Contents) (t u : Conns (List ℕ)) (after : List SentPiece) (w : World) (c : ℕ) → 32 ≤ count_of t → u.conns.entries ≡ t.conns.entries → IsTable R ups outs t w → after ≡ w.sends ++ front_sent c [] true 0 ∷ [] → OpensTo R ups outs u after w c None
refused_open R ups outs t u after w c full same table sends =
    let v = record w { sends = w.sends ++ closing c (Some 0) } in
    let counts = table.count in
    let all : 32 ≤ w.count = omega (arith, full, counts) in
    let k = new_conn (length w.opened) in
    let is : v ≡ opened w c (Some 0) = ap (λ b. cond b (record (with_conn w c (Some k)) { opened = w.opened ++ c ∷ []; count = w.count + 1 }) v) (sym (le-ltb w.count 32 all)) in
    (v, is, record { each = λ d. kept_conn R (w.conns d) t u d (ups d) (outs d) (same_at t u same d) (table.each d); count = ap length same ∙ table.count }, sends, refl)

pub open_served : (R : Reads) (reading : ℕ) (now : At) (t u : Conns (List ℕ)) (before after : List SentPiece) (c : ℕ) → (is_some (conn_at t c) ≡ true → (u ≡ t) × (after ≡ before))
    → (conn_at t c ≡ None → count_of t < 32 → HasOpened c t u × (after ≡ before)) → (conn_at t c ≡ None → 32 ≤ count_of t → (u.conns.entries ≡ t.conns.entries) × (after ≡ before ++ front_sent c [] true 0 ∷ []))
    → Serves R reading (event.Open c) now t before now u after
open_served R reading now t u before after c stays opening full w at sends =
    let (v, is, table, shown, machine) = by (w.conns c) (conn_at t c) refl refl (at.table.each c) in
    (v, is, record { uploads = at.uploads; contents = at.contents; machine = subst (λ m. now m.state m.words at.uploads at.contents) (sym machine) at.machine; table = table }, shown)
  where
    by : (x : Option Conn) (j : Option (Kept (List ℕ))) → w.conns c ≡ x → conn_at t c ≡ j → IsConnOf R t c (at.uploads c) (at.contents c) x → OpensTo R at.uploads at.contents u after w c x
    by None None is has here = by_room (cases_lt (count_of t) 32)
      where
        by_room : (count_of t < 32) ⊎ (32 ≤ count_of t) → OpensTo R at.uploads at.contents u after w c None
        by_room (inl room) = let (h, same) = opening has room in opens R at.uploads at.contents t u after w c is here.1 here.2 room h at.table (same ∙ sends)
        by_room (inr all) = let (same, grows) = full has all in refused_open R at.uploads at.contents t u after w c all same at.table (grows ∙ ap (λ l. l ++ front_sent c [] true 0 ∷ []) sends)
    by None (Some j) is has here = absurd (subst (λ i. IsIn None i) has here.0)
    by (Some k) None is has here = absurd (subst (λ i. IsIn (Some here.talk) i) has here.is_talk)
    by (Some k) (Some j) is has here = let (same, kept) = stays (ap is_some has) in (w, refl, subst (λ x. IsTable R at.uploads at.contents x w) (sym same) at.table, kept ∙ sends, refl)

-- ---- Gone

-- whether an upload is under way
uploading_is : (R : Reads) (before : ℕ) (got : List ℕ) (told : Asked) (x : Option (Pending (List ℕ))) (up : Option Upload) → MatchOption x (Awaits R before got up told) (λ _. up ≡ None) → is_some up ≡ (is_begun told && is_none x)
uploading_is R before got nothing None up idle = ap is_some idle
uploading_is R before got (refused kind) None up idle = absurd idle
uploading_is R before got (begun head came) None None (asked, under) = absurd under
uploading_is R before got (begun head came) None (Some u) (asked, under) = ap (λ b. b && true) (sym (open_upload before got head came asked).upload)
uploading_is R before got (complete head body rest) None up idle = absurd idle
uploading_is R before got told (Some p) up idle = ap is_some idle ∙ sym (and_false (is_begun told))
  where
    and_false : (b : Bool) → (b && false) ≡ false
    and_false true = refl
    and_false false = refl

-- what is left in the table, the uploads and the contents
record IsClosed (R : Reads) (ups vps : Uploads) (outs more : Contents) (t u : Conns (List ℕ)) (c : ℕ) : Type 0 where
  none : conn_at u c ≡ None
  rest : KeepsRest c t u ups vps outs more
  count : count_of u + cond (is_some (conn_at t c)) 1 0 ≡ count_of t
  idle : vps c ≡ None
  nothing : more c ≡ []

closed_talk : (u : Conns (List ℕ)) (c : ℕ) → conn_at u c ≡ None → IsTalk u c None
closed_talk u c none = subst (λ j. IsIn None j) (sym none) (record {})

closed_table : (R : Reads) (ups vps : Uploads) (outs more : Contents) (t u : Conns (List ℕ)) (w : World) (c : ℕ) (k : Conn) → w.conns c ≡ Some k → IsClosed R ups vps outs more t u c → IsTable R ups outs t w → IsTable R vps more u (closed w c k)
closed_table R ups vps outs more t u w c k is h table = by (conn_at t c) refl
  where
    by : (j : Option (Kept (List ℕ))) → conn_at t c ≡ j → IsTable R vps more u (closed w c k)
    by None has = let kept = subst (IsConnOf R t c (ups c) (outs c)) is (table.each c) in absurd (subst (λ i. IsIn (Some kept.talk) i) has kept.is_talk)
    by (Some j) has =
        let size = subst (λ i. count_of u + cond (is_some i) 1 0 ≡ count_of t) has h.count in
        let counts = table.count in
        record { each = each_set R t u w.conns ups vps outs more c None table.each h.rest (closed_talk u c h.none, h.idle, h.nothing); count = omega (arith, size, counts) }

untouched : (R : Reads) (ups vps : Uploads) (outs more : Contents) (t u : Conns (List ℕ)) (w : World) (c : ℕ) → w.conns c ≡ None → IsClosed R ups vps outs more t u c → IsTable R ups outs t w → IsTable R vps more u w
untouched R ups vps outs more t u w c is h table = by (conn_at t c) refl
  where
    each_kept : (d : ℕ) → IsConnOf R u d (vps d) (more d) (w.conns d)
    each_kept d = by_number (nat_eq c d) refl
      where
        by_number : (b : Bool) → nat_eq c d ≡ b → IsConnOf R u d (vps d) (more d) (w.conns d)
        by_number true same = subst (λ e. IsConnOf R u e (vps e) (more e) (w.conns e)) (eqb-true c d same) (subst (IsConnOf R u c (vps c) (more c)) (sym is) (closed_talk u c h.none, h.idle, h.nothing))
        by_number false apart = rest_kept R t u ups vps outs more c d (w.conns d) h.rest (eqb-false c d apart) (table.each d)

    by : (j : Option (Kept (List ℕ))) → conn_at t c ≡ j → IsTable R vps more u w
    by None has =
        let size = subst (λ i. count_of u + cond (is_some i) 1 0 ≡ count_of t) has h.count in
        let counts = table.count in
        record { each = each_kept; count = omega (arith, size, counts) }
    by (Some j) has = absurd (subst (λ i. IsIn None i) has (subst (IsConnOf R t c (ups c) (outs c)) is (table.each c)).0)

-- whether an upload is under way on a connection of the world
loud_is : (R : Reads) (t : Conns (List ℕ)) (c : ℕ) (up : Option Upload) (content : List ℕ) (k : Conn) (kept : IsKept R t c up content k) → is_uploading (Some k.talk) ≡ is_uploading (Some kept.talk)
loud_is R t c up content k kept = ap (λ (a : Talk (List ℕ)). is_uploading (Some a)) kept.seen_is ∙ ap (λ b. is_begun kept.talk.told && b) (same_none kept.talk.reply)
  where
    same_none : (x : Option (Pending (List ℕ))) → is_none (option_map (joined content) x) ≡ is_none x
    same_none None = refl
    same_none (Some p) = refl

-- what the loss makes of the world, where this stands at the number
abbrev GoneTo : Reads → ℕ → At → Conns (List ℕ) → World → ℕ → Option Conn → Type 0
GoneTo R reading now u w c x = (v : World) × MatchOption x (v ≡ w) (λ k. v ≡ gone reading w c k) × IsWorld R now u v × (v.sends ≡ w.sends)

-- its content is read no longer, and its upload is this
finished_rest : (c : ℕ) (t u : Conns (List ℕ)) (ups : Uploads) (outs : Contents) → KeepsOthers c t u → KeepsRest c t u ups ups outs (with_content outs c [])
finished_rest c t u ups outs others = record { table = others; uploads = λ d apart. refl; contents = content_others outs c [] }

-- no upload was under way
pub closes_quietly : (R : Reads) (reading : ℕ) (was now : At) (t u : Conns (List ℕ)) (c : ℕ) (is_under : Bool) → ((a : Option (Talk (List ℕ))) → IsTalk t c a → is_under ≡ is_uploading a) → is_under ≡ false → conn_at u c ≡ None → KeepsOthers c t u
    → count_of u + cond (is_some (conn_at t c)) 1 0 ≡ count_of t → Finishes c was now → Steps R was t (Loses reading c) now u
closes_quietly R reading was now t u c is_under told idle none others count finished w at = by (w.conns c) refl (at.table.each c)
  where
    more : Contents
    more = with_content at.contents c []

    closed_so : at.uploads c ≡ None → IsClosed R at.uploads at.uploads at.contents more t u c
    closed_so up = record { none = none; rest = finished_rest c t u at.uploads at.contents others; count = count; idle = up; nothing = content_here at.contents c [] }

    there : now w.machine.state w.machine.words at.uploads more
    there = finished w.machine.state w.machine.words at.uploads at.contents at.machine

    none_some : (x : Option Upload) → is_some x ≡ false → x ≡ None
    none_some None same = refl
    none_some (Some y) same = absurd (cc same)

    by : (x : Option Conn) → w.conns c ≡ x → IsConnOf R t c (at.uploads c) (at.contents c) x → GoneTo R reading now u w c x
    by None is here = (w, refl, record { uploads = at.uploads; contents = more; machine = there; table = untouched R at.uploads at.uploads at.contents more t u w c is (closed_so here.1) at.table }, refl)
    by (Some k) is here =
        let a = here.talk in
        let quiet : is_uploading (Some a) ≡ false = sym (told (Some a) here.is_talk) ∙ idle in
        let up_none : at.uploads c ≡ None = none_some (at.uploads c) (uploading_is R a.before a.got a.told a.reply (at.uploads c) here.idle ∙ quiet) in
        let lost : is_uploading (Some k.talk) ≡ false = loud_is R t c (at.uploads c) (at.contents c) k here ∙ quiet in
        (closed w c k, ap (λ b. with_loss reading c b (closed w c k)) (sym lost), record { uploads = at.uploads; contents = more; machine = there; table = closed_table R at.uploads at.uploads at.contents more t u w c k is (closed_so up_none) at.table }, refl)

-- one was, and is lost
pub closes_with_loss : (R : Reads) (reading : ℕ) (was mid now : At) (t u : Conns (List ℕ)) (c : ℕ) (is_under : Bool) → ((a : Option (Talk (List ℕ))) → IsTalk t c a → is_under ≡ is_uploading a) → is_under ≡ true → conn_at u c ≡ None → KeepsOthers c t u
    → count_of u + cond (is_some (conn_at t c)) 1 0 ≡ count_of t → Finishes c was mid
    → ((P : Progress (List ℕ)) (ups : Uploads) (outs : Contents) → mid P.state P.words ups outs → MatchOption (ups c) (now P.state P.words ups outs) (λ _. IsAfter now P (loses reading c) (update nat_eq ups c None) outs))
    → Steps R was t (Loses reading c) now u
closes_with_loss R reading was mid now t u c is_under told under none others count finished lost w at = by (w.conns c) refl (at.table.each c)
  where
    more : Contents
    more = with_content at.contents c []

    vps : Uploads
    vps = update nat_eq at.uploads c None

    there : mid w.machine.state w.machine.words at.uploads more
    there = finished w.machine.state w.machine.words at.uploads at.contents at.machine

    some_lost : (x : Option Upload) → is_some x ≡ true → MatchOption x (now w.machine.state w.machine.words at.uploads more) (λ _. IsAfter now w.machine (loses reading c) vps more) → IsAfter now w.machine (loses reading c) vps more
    some_lost None same stays = absurd (cc same)
    some_lost (Some y) same after = after

    by : (x : Option Conn) → w.conns c ≡ x → IsConnOf R t c (at.uploads c) (at.contents c) x → GoneTo R reading now u w c x
    by None is here = absurd (cc (sym under ∙ told None here.0))
    by (Some k) is here =
        let a = here.talk in
        let loud : is_uploading (Some a) ≡ true = sym (told (Some a) here.is_talk) ∙ under in
        let rest : KeepsRest c t u at.uploads vps at.contents more = record { table = others; uploads = updated_others at.uploads c None; contents = content_others at.contents c [] } in
        let h : IsClosed R at.uploads vps at.contents more t u c = record { none = none; rest = rest; count = count; idle = updated_here at.uploads c None; nothing = content_here at.contents c [] } in
        let after = some_lost (at.uploads c) (uploading_is R a.before a.got a.told a.reply (at.uploads c) here.idle ∙ loud) (lost w.machine at.uploads more there) in
        let table = closed_table R at.uploads vps at.contents more t u w c k is h at.table in
        let goes : is_uploading (Some k.talk) ≡ true = loud_is R t c (at.uploads c) (at.contents c) k here ∙ loud in
        (with_loss reading c true (closed w c k), ap (λ b. with_loss reading c b (closed w c k)) (sym goes), record { uploads = vps; contents = more; machine = after; table = record { each = table.each; count = table.count } }, refl)

-- ---- events of which nothing is sent

pub piece_served : (R : Reads) (reading : ℕ) (was now : At) (t u : Conns (List ℕ)) (sent : List SentPiece) (c : ℕ) (came bytes : List ℕ) → came ≡ bytes → Steps R was t (Takes R reading c came) now u → Serves R reading (event.Piece c bytes) was t sent now u sent
piece_served R reading was now t u sent c came bytes same steps w at sends =
    let (v, does, after, kept) = steps w at in (v, subst (λ xs. Takes R reading c xs w v) same does, after, sends ∙ sym kept)

pub gone_served : (R : Reads) (reading : ℕ) (was now : At) (t u : Conns (List ℕ)) (sent : List SentPiece) (c : ℕ) → Steps R was t (Loses reading c) now u → Serves R reading (event.Gone c) was t sent now u sent
gone_served R reading was now t u sent c steps w at sends = let (v, does, after, kept) = steps w at in (v, does, after, sends ∙ sym kept)
