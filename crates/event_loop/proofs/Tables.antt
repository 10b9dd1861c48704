-- A table whose one connection changes, beside the connections of a world.
use Rattle.std.proofs.Common.{◌≡◌, rules, ℕ, nat_eq, true, cond, List, length, Option, Some, None, option_map, option_and_then, unwrap_or, MatchOption, refl, sym, ap, ◌∙◌, subst}
use Rattle.std.specs.Map.{update}
use Rattle.std.specs.Option.{IsSome, is_some}
use Rattle.std.proofs.lemmas.Bool.{false≢true, ne_eqb}
use Rattle.conn_talk.specs.declared.pending.Pending.{Pending}
use Rattle.conn_talk.specs.Talk.{Talk, IsPending, shown_as}
use Rattle.conn_table.specs.declared.conn.Conn.{Conn as Kept}
use Rattle.conn_table.specs.declared.table.Conns.{Conns}
use Rattle.conn_table.specs.Table.{conn_at, pending_at, IsIn, IsTalk, IsAnswered, IsUnanswered, KeepsOthers}
use Rattle.served_world.specs.Replies.{Reads}
use Rattle.served_world.specs.World.{Conn, World}
use Rattle.served_world.proofs.Conns.{changed}
use Rattle.request_acts.specs.Answering.{Upload, Uploads, Contents}
use Rattle.request_acts.specs.Doing.{joined, HasContent}
use Rattle.request_acts.proofs.Numbers.{Keeps, updated_here}
use Rattle.event_loop.specs.Serving.{seen, IsKept, IsConnOf}

-- what stays in the table stays what it is
pub kept_conn : (R : Reads) (x : Option Conn) (t u : Conns (List ℕ)) (d : ℕ) (up : Option Upload) (content : List ℕ) → conn_at u d ≡ conn_at t d → IsConnOf R t d up content x → IsConnOf R u d up content x
kept_conn R None t u d up content same is = (subst (λ (k : Option (Kept (List ℕ))). IsIn None k) (sym same) is.0, is.1, is.2)
kept_conn R (Some k) t u d up content same is = record {
  talk = is.talk;
  is_talk = subst (λ (j : Option (Kept (List ℕ))). IsIn (Some is.talk) j) (sym same) is.is_talk;
  seen_is = is.seen_is;
  idle = is.idle;
  content_is = is.content_is;
}

-- all other connections stay in the table, with their uploads and contents
pub record KeepsRest (c : ℕ) (t u : Conns (List ℕ)) (ups vps : Uploads) (outs more : Contents) : Type 0 where
  pub table : KeepsOthers c t u
  pub uploads : Keeps c ups vps
  pub contents : Keeps c outs more

-- nothing but the table changes
pub table_alone : (c : ℕ) (t u : Conns (List ℕ)) (ups : Uploads) (outs : Contents) → KeepsOthers c t u → KeepsRest c t u ups ups outs outs
table_alone c t u ups outs others = record { table = others; uploads = λ d apart. refl; contents = λ d apart. refl }

pub rest_kept : (R : Reads) (t u : Conns (List ℕ)) (ups vps : Uploads) (outs more : Contents) (c d : ℕ) (x : Option Conn) → KeepsRest c t u ups vps outs more → (c ≡ d → ⊥) → IsConnOf R t d (ups d) (outs d) x → IsConnOf R u d (vps d) (more d) x
rest_kept R t u ups vps outs more c d x rest apart is =
    subst (λ up. IsConnOf R u d up (more d) x) (sym (rest.uploads d apart)) (subst (λ xs. IsConnOf R u d (ups d) xs x) (sym (rest.contents d apart)) (kept_conn R x t u d (ups d) (outs d) (rest.table d (λ e. apart (sym e))) is))

-- one connection changes in the table and in the world
pub each_set : (R : Reads) (t u : Conns (List ℕ)) (f : ℕ → Option Conn) (ups vps : Uploads) (outs more : Contents) (c : ℕ) (x : Option Conn) → ((d : ℕ) → IsConnOf R t d (ups d) (outs d) (f d)) → KeepsRest c t u ups vps outs more → IsConnOf R u c (vps c) (more c) x
    → (d : ℕ) → IsConnOf R u d (vps d) (more d) (update nat_eq f c x d)
each_set R t u f ups vps outs more c x each rest here = changed (λ d y. IsConnOf R u d (vps d) (more d) y) f c x here (λ d apart. rest_kept R t u ups vps outs more c d (f d) rest apart (each d))

-- the same, where it changed in the world already
pub each_again : (R : Reads) (t u : Conns (List ℕ)) (f : ℕ → Option Conn) (ups vps : Uploads) (outs more : Contents) (c : ℕ) (x y : Option Conn) → ((d : ℕ) → IsConnOf R t d (ups d) (outs d) (update nat_eq f c y d)) → KeepsRest c t u ups vps outs more
    → IsConnOf R u c (vps c) (more c) x → (d : ℕ) → IsConnOf R u d (vps d) (more d) (update nat_eq f c x d)
each_again R t u f ups vps outs more c x y each rest here = changed (λ d z. IsConnOf R u d (vps d) (more d) z) f c x here
    (λ d apart. rest_kept R t u ups vps outs more c d (f d) rest apart (subst (λ b. IsConnOf R t d (ups d) (outs d) (cond b y (f d))) (ne_eqb c d apart) (each d)))

-- what stands at the number that changed
pub set_here : (R : Reads) (t : Conns (List ℕ)) (ups : Uploads) (outs : Contents) (f : ℕ → Option Conn) (c : ℕ) (x : Option Conn) → ((d : ℕ) → IsConnOf R t d (ups d) (outs d) (update nat_eq f c x d)) → IsConnOf R t c (ups c) (outs c) x
set_here R t ups outs f c x each = subst (IsConnOf R t c (ups c) (outs c)) (updated_here f c x) (each c)

-- a connection that has what it has is set to it
pub set_same : (R : Reads) (t : Conns (List ℕ)) (ups : Uploads) (outs : Contents) (f : ℕ → Option Conn) (c : ℕ) (x : Option Conn) → f c ≡ x → ((d : ℕ) → IsConnOf R t d (ups d) (outs d) (f d)) → (d : ℕ) → IsConnOf R t d (ups d) (outs d) (update nat_eq f c x d)
set_same R t ups outs f c x is each = changed (λ d y. IsConnOf R t d (ups d) (outs d) y) f c x (subst (IsConnOf R t c (ups c) (outs c)) is (each c)) (λ d apart. each d)

-- ---- the reply that is pending

no_pending : (a : Talk (List ℕ)) (k : Option (Kept (List ℕ))) → a.reply ≡ None → IsIn (Some a) k → option_and_then (λ (j : Kept (List ℕ)). j.reply) k ≡ None
no_pending a None none is = refl
no_pending a (Some k) none is = (subst (λ x. MatchOption x (IsUnanswered a k) (λ p. IsAnswered a p k)) none is).reply_is

pub unanswered : (t : Conns (List ℕ)) (c : ℕ) (a : Talk (List ℕ)) → a.reply ≡ None → IsTalk t c (Some a) → pending_at t c ≡ None
unanswered t c a none is = no_pending a (conn_at t c) none is

some_reply : (a : Talk (List ℕ)) (p : Pending (List ℕ)) (k : Option (Kept (List ℕ))) → a.reply ≡ Some p → IsIn (Some a) k → IsPending p
some_reply a p None some is = absurd is
some_reply a p (Some k) some is = (subst (λ x. MatchOption x (IsUnanswered a k) (λ q. IsAnswered a q k)) some is).pending

pub is_pending : (t : Conns (List ℕ)) (c : ℕ) (a : Talk (List ℕ)) (p : Pending (List ℕ)) → a.reply ≡ Some p → IsTalk t c (Some a) → IsPending p
is_pending t c a p some is = some_reply a p (conn_at t c) some is

some_in : (a : Talk (List ℕ)) (k : Option (Kept (List ℕ))) → IsIn (Some a) k → IsSome k
some_in a None is = absurd is
some_in a (Some k) is = search rules

-- a connection that is some talk is found
pub is_open : (t : Conns (List ℕ)) (c : ℕ) (a : Talk (List ℕ)) → IsTalk t c (Some a) → IsSome (conn_at t c)
is_open t c a is = some_in a (conn_at t c) is

-- ---- what is pending

-- a talk of the table whose reply is pending, with the content that is read for it
pub record IsReplying (t : Conns (List ℕ)) (c : ℕ) (content : List ℕ) (k : Conn) (p : Pending (List ℕ)) : Type 0 where
  pub talk : Talk (List ℕ)
  pub is_talk : IsTalk t c (Some talk)
  pub reply : talk.reply ≡ Some p
  pub seen_is : k.talk ≡ seen content talk
  pub size : p.len ≡ length content

-- a connection of the world whose reply is pending
pub record HasPending (t : Conns (List ℕ)) (w : World) (c : ℕ) (content : List ℕ) (q : Pending (List ℕ)) : Type 0 where
  pub k : Conn
  pub p : Pending (List ℕ)
  pub found : w.conns c ≡ Some k
  pub replying : IsReplying t c content k p
  pub shown_is : q ≡ shown_as replying.talk.told p

-- the reply as it stands in the world
pub world_reply : (t : Conns (List ℕ)) (c : ℕ) (content : List ℕ) (k : Conn) (p : Pending (List ℕ)) → IsReplying t c content k p → k.talk.reply ≡ Some (joined content p)
world_reply t c content k p r = ap (λ (a : Talk (List ℕ)). a.reply) r.seen_is ∙ ap (option_map (joined content)) r.reply

some_same : {X : Type 0} (a b : X) → Some a ≡ Some b → a ≡ b
some_same a b same = ap (λ o. unwrap_or o a) same

reply_in : (a : Talk (List ℕ)) (x : Option (Pending (List ℕ))) (j : Kept (List ℕ)) (q : Pending (List ℕ)) → a.reply ≡ x → MatchOption x (IsUnanswered a j) (λ p. IsAnswered a p j) → j.reply ≡ Some q
    → (p : Pending (List ℕ)) × (a.reply ≡ Some p) × (q ≡ shown_as a.told p)
reply_in a None j q is idle some = absurd (cc (sym idle.reply_is ∙ some))
reply_in a (Some p) j q is answered some = (p, is, some_same q (shown_as a.told p) (sym some ∙ answered.reply_is))

pending_in : (R : Reads) (t : Conns (List ℕ)) (up : Option Upload) (content : List ℕ) (w : World) (c : ℕ) (q : Pending (List ℕ)) (x : Option Conn) (j : Option (Kept (List ℕ))) → w.conns c ≡ x → conn_at t c ≡ j → IsConnOf R t c up content x
    → option_and_then (λ (i : Kept (List ℕ)). i.reply) j ≡ Some q → HasPending t w c content q
pending_in R t up content w c q x None found at is some = absurd (cc some)
pending_in R t up content w c q None (Some j) found at is some = absurd (subst (λ i. IsIn None i) at is.0)
pending_in R t up content w c q (Some k) (Some j) found at is some =
    let a = is.talk in
    let (p, reply, same) = reply_in a a.reply j q refl (subst (λ i. IsIn (Some a) i) at is.is_talk) some in
    let r : IsReplying t c content k p = record { talk = a; is_talk = is.is_talk; reply = reply; seen_is = is.seen_is; size = subst (HasContent content) reply is.content_is } in record { k = k; p = p; found = found; replying = r; shown_is = same }

pub has_pending : (R : Reads) (ups : Uploads) (outs : Contents) (t : Conns (List ℕ)) (w : World) (c : ℕ) (q : Pending (List ℕ)) → ((d : ℕ) → IsConnOf R t d (ups d) (outs d) (w.conns d)) → pending_at t c ≡ Some q → HasPending t w c (outs c) q
has_pending R ups outs t w c q each some = pending_in R t (ups c) (outs c) w c q (w.conns c) (conn_at t c) refl refl (each c) some

some_kept : (content : List ℕ) (x : Option (Pending (List ℕ))) (q : Pending (List ℕ)) → option_map (joined content) x ≡ Some q → (p : Pending (List ℕ)) × (x ≡ Some p) × (q ≡ joined content p)
some_kept content None q same = absurd (cc same)
some_kept content (Some p) q same = (p, refl, some_same q (joined content p) (sym same))

-- the talk of the table behind a reply of the world
pub replying : (R : Reads) (t : Conns (List ℕ)) (c : ℕ) (up : Option Upload) (content : List ℕ) (x : Option Conn) (k : Conn) (q : Pending (List ℕ)) → x ≡ Some k → k.talk.reply ≡ Some q → IsConnOf R t c up content x
    → (p : Pending (List ℕ)) × (q ≡ joined content p) × IsReplying t c content k p
replying R t c up content x k q found some is =
    let h = subst (IsConnOf R t c up content) found is in
    let a = h.talk in
    let (p, reply, same) = some_kept content a.reply q (ap (λ (b : Talk (List ℕ)). b.reply) (sym h.seen_is) ∙ some) in
    (p, same, record { talk = a; is_talk = h.is_talk; reply = reply; seen_is = h.seen_is; size = subst (HasContent content) reply h.content_is })

-- what is known of a connection that is open
abbrev pub Opened : Reads → Conns (List ℕ) → ℕ → Option Upload → List ℕ → Option Conn → Type 0
Opened R t c up content x = (k : Conn) × (x ≡ Some k) × IsKept R t c up content k

some_at : (R : Reads) (t : Conns (List ℕ)) (c : ℕ) (up : Option Upload) (content : List ℕ) (x : Option Conn) (j : Option (Kept (List ℕ))) → conn_at t c ≡ j → true ≡ is_some j → IsConnOf R t c up content x → Opened R t c up content x
some_at R t c up content None None at found is = absurd (false≢true (sym found))
some_at R t c up content None (Some j) at found is = absurd (subst (λ i. IsIn None i) at is.0)
some_at R t c up content (Some k) j at found is = (k, refl, is)

pub open_some : (R : Reads) (t : Conns (List ℕ)) (c : ℕ) (up : Option Upload) (content : List ℕ) (x : Option Conn) → true ≡ is_some (conn_at t c) → IsConnOf R t c up content x → Opened R t c up content x
open_some R t c up content x found is = some_at R t c up content x (conn_at t c) refl found is
