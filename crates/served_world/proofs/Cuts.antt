-- The requests of a connection stand one after the other in the bytes that came on it.
use Rattle.std.proofs.Common.{◌≡◌, ℕ, ◌+◌, ◌≤◌, ◌<◌, ◌==◌, nat_lt, Bool, true, false, cond, List, [], ◌∷◌, ◌++◌, length, take, Option, Some, None, MatchOption, refl, sym, ap, ◌∙◌, subst, append_assoc, append-nil, arith}
use Rattle.std.specs.Prelude.{⊤}
use Rattle.std.specs.List.{slice_get, AllByRecursion}
use Rattle.std.proofs.lemmas.Bool.{false≢true, eq-eqb, ne_eqb}
use Rattle.std.proofs.lemmas.List.{length-append}
use Rattle.std.proofs.lemmas.List.Elements.{filter-append}
use Rattle.std.proofs.lemmas.Option.{slice_get_within}
use Rattle.outside_traits.specs.declared.link.Event.{Event}
use Rattle.outside_traits.specs.declared.link.Event.TheVariants as event
use Rattle.outside_traits.specs.Links.{front_sent}
use Rattle.b2_model.specs.State.{State}
use Rattle.http_edge.specs.declared.head.Head.{Head}
use Rattle.conn_talk.specs.declared.pending.Pending.{Pending}
use Rattle.conn_talk.specs.Asked.{Asked, nothing, refused, begun, complete, IsAsked, rest_of, goes_on, with_more}
use Rattle.conn_talk.specs.Talk.{next_talk, shown_as, with_sent, is_whole, is_uploading}
use Rattle.conn_talk.proofs.Stays.{both_true}
use Rattle.served_world.specs.Replies.{Reads, Reply, Outcome, Makes}
use Rattle.served_world.specs.World.{Turn, Conn, Ended, Answered, World, start, with_conn, closing, new_conn, opened, answered_of, nothing_made, conn_read, conn_held, after_piece, IsPiece, closed, with_loss, gone, handed, is_last, with_send, conn_after, GoesOn, IsAfterSend, IsSent, IsReady, Happens, Run}
use Rattle.served_world.specs.Served.{requests_of, AreCut, AsksInOrder}
use Rattle.served_world.proofs.Made.{request_of}
use Rattle.served_world.proofs.Conns.{got_before, got_last, changed}

-- ---- whole requests, one after the other

-- so many stand before what is left of the bytes
abbrev pub AreWhole : ℕ → List ℕ → List Answered → ℕ → List ℕ → Type 0
AreWhole before bytes [] n left = (n ≡ before) × (left ≡ bytes)
AreWhole before bytes (r ∷ rs) n left =
    (r.before ≡ before) × (head : Head) × (body : List ℕ) × (after : List ℕ) × (more : List ℕ) × IsAsked before r.got (complete head body after) × (r.got ++ more ≡ bytes) × AreWhole (before + 1) (after ++ more) rs n left

whole_more : (before : ℕ) (bytes extra : List ℕ) (rs : List Answered) (n : ℕ) (left : List ℕ) → AreWhole before bytes rs n left → AreWhole before (bytes ++ extra) rs n (left ++ extra)
whole_more before bytes extra [] n left (count, is) = (count, ap (λ l. l ++ extra) is)
whole_more before bytes extra (r ∷ rs) n left (own, head, body, after, more, asked, front, later) = (
  own,
  head,
  body,
  after,
  more ++ extra,
  asked,
  sym (append_assoc r.got more extra) ∙ ap (λ l. l ++ extra) front,
  subst (λ l. AreWhole (before + 1) l rs n (left ++ extra)) (append_assoc after more extra) (whole_more (before + 1) (after ++ more) extra rs n left later),
)

whole_push : (before : ℕ) (bytes : List ℕ) (rs : List Answered) (n : ℕ) (left : List ℕ) (r : Answered) (head : Head) (body after more : List ℕ) → AreWhole before bytes rs n left → r.before ≡ n → IsAsked n r.got (complete head body after) → r.got ++ more ≡ left
    → AreWhole before bytes (rs ++ r ∷ []) (n + 1) (after ++ more)
whole_push before bytes [] n left r head body after more (count, is) own asked front =
    (own ∙ count, head, body, after, more, subst (λ m. IsAsked m r.got (complete head body after)) count asked, front ∙ is, (ap (λ m. m + 1) count, refl))
whole_push before bytes (x ∷ rs) n left r head body after more (first, h, b, a, m, of, begins, later) own asked front =
    (first, h, b, a, m, of, begins, whole_push (before + 1) (a ++ m) rs n left r head body after more later own asked front)

cut_of_whole : (before : ℕ) (bytes : List ℕ) (rs : List Answered) (n : ℕ) (left : List ℕ) → AreWhole before bytes rs n left → AreCut before bytes rs
cut_of_whole before bytes [] n left is = tt
cut_of_whole before bytes (r ∷ rs) n left (own, head, body, after, more, asked, front, later) = (own, complete head body after, more, asked, front, cut_of_whole (before + 1) (after ++ more) rs n left later)

cut_of_last : (before : ℕ) (bytes : List ℕ) (rs : List Answered) (n : ℕ) (left : List ℕ) (r : Answered) (asked : Asked) (more : List ℕ) → AreWhole before bytes rs n left → r.before ≡ n → IsAsked n r.got asked → r.got ++ more ≡ left
    → AreCut before bytes (rs ++ r ∷ [])
cut_of_last before bytes [] n left r asked more (count, is) own of front = (own ∙ count, asked, more, subst (λ m. IsAsked m r.got asked) count of, front ∙ is, tt)
cut_of_last before bytes (x ∷ rs) n left r asked more (first, h, b, a, m, whole, begins, later) own of front =
    (first, complete h b a, m, whole, begins, cut_of_last (before + 1) (a ++ m) rs n left r asked more later own of front)

-- ---- the last one, whose reply is pending

pub record HasLast (came : List ℕ) (reqs : List Answered) (before : ℕ) (told : Asked) : Type 0 where
  pub done : List Answered
  pub last : Answered
  pub split : reqs ≡ done ++ last ∷ []
  pub left : List ℕ
  pub whole : AreWhole 0 came done before left
  pub own : last.before ≡ before
  pub asked : Asked
  pub more : List ℕ
  pub is : IsAsked before last.got asked
  pub front : last.got ++ more ≡ left
  pub told_is : told ≡ with_more asked more

with_none : (a : Asked) → a ≡ with_more a []
with_none nothing = refl
with_none (refused kind) = refl
with_none (begun head came) = refl
with_none (complete head body rest) = ap (complete head body) (sym (append-nil rest))

with_both : (a : Asked) (more extra : List ℕ) → with_more (with_more a more) extra ≡ with_more a (more ++ extra)
with_both nothing more extra = refl
with_both (refused kind) more extra = refl
with_both (begun head came) more extra = refl
with_both (complete head body rest) more extra = ap (complete head body) (append_assoc rest more extra)

last_more : (came extra : List ℕ) (reqs : List Answered) (before : ℕ) (told : Asked) → HasLast came reqs before told → HasLast (came ++ extra) reqs before (with_more told extra)
last_more came extra reqs before told l = record {
  done = l.done;
  last = l.last;
  split = l.split;
  left = l.left ++ extra;
  whole = whole_more 0 came extra l.done before l.left l.whole;
  own = l.own;
  asked = l.asked;
  more = l.more ++ extra;
  is = l.is;
  front = sym (append_assoc l.last.got l.more extra) ∙ ap (λ m. m ++ extra) l.front;
  told_is = ap (λ a. with_more a extra) l.told_is ∙ with_both l.asked l.more extra;
}

-- where it goes on it was whole, and the next one begins behind it
next_whole : (came : List ℕ) (reqs : List Answered) (before : ℕ) (told : Asked) → HasLast came reqs before told → goes_on told ≡ true → AreWhole 0 came reqs (before + 1) (rest_of told)
next_whole came reqs before told l goes = by l.asked l.is l.told_is
  where
    by : (a : Asked) → IsAsked before l.last.got a → told ≡ with_more a l.more → AreWhole 0 came reqs (before + 1) (rest_of told)
    by nothing is told_is = absurd (false≢true (ap goes_on (sym told_is) ∙ goes))
    by (refused kind) is told_is = absurd (false≢true (ap goes_on (sym told_is) ∙ goes))
    by (begun head first) is told_is = absurd (false≢true (ap goes_on (sym told_is) ∙ goes))
    by (complete head body after) is told_is =
        subst (λ rs. AreWhole 0 came rs (before + 1) (rest_of told)) (sym l.split)
        (subst (AreWhole 0 came (l.done ++ l.last ∷ []) (before + 1)) (ap rest_of (sym told_is)) (whole_push 0 came l.done before l.left l.last head body after l.more l.whole l.own is l.front))

abbrev pub Standing : List Answered → ℕ → List ℕ → Asked → List ℕ → Option (Pending (List ℕ)) → Type 0
Standing reqs before got told came None = AreWhole 0 came reqs before got
Standing reqs before got told came (Some p) = HasLast came reqs before told

standing_cut : (reqs : List Answered) (before : ℕ) (got : List ℕ) (told : Asked) (came : List ℕ) (x : Option (Pending (List ℕ))) → Standing reqs before got told came x → AreCut 0 came reqs
standing_cut reqs before got told came None whole = cut_of_whole 0 came reqs before got whole
standing_cut reqs before got told came (Some p) l = subst (AreCut 0 came) (sym l.split) (cut_of_last 0 came l.done before l.left l.last l.asked l.more l.whole l.own l.is l.front)

abbrev pub StandsAt : List Answered → Conn → Type 0
StandsAt reqs k = Standing reqs k.talk.before k.talk.got k.talk.told k.came k.talk.reply

-- ---- requests of a name

one_request : (name : ℕ) (r : Answered) → r.name ≡ name → requests_of name (r ∷ []) ≡ r ∷ []
one_request name r same = ap (λ b. cond b (r ∷ []) []) (eq-eqb r.name name same)

no_request : (name : ℕ) (r : Answered) → (r.name ≡ name → ⊥) → requests_of name (r ∷ []) ≡ []
no_request name r other = ap (λ b. cond b (r ∷ []) []) (ne_eqb r.name name other)

others_none : (k : Conn) (c : ℕ) (got : List ℕ) (x : Option Reply) (name : ℕ) → (k.name ≡ name → ⊥) → requests_of name (answered_of k c got x) ≡ []
others_none k c got None name other = refl
others_none k c got (Some r) name other = no_request name (request_of k c got r) other

same_requests : (name : ℕ) (answered more : List Answered) → requests_of name more ≡ [] → requests_of name (answered ++ more) ≡ requests_of name answered
same_requests name answered more none =
    filter-append (λ (r : Answered). r.name == name) answered more ∙ ap (λ l. requests_of name answered ++ l) none ∙ append-nil (requests_of name answered)

read_standing : (k : Conn) (c : ℕ) (bytes : List ℕ) (new : Asked) (answered : List Answered) (o : Outcome) → AreWhole 0 k.came (requests_of k.name answered) k.talk.before k.talk.got → IsAsked k.talk.before (k.talk.got ++ bytes) new
    → StandsAt (requests_of k.name (answered ++ answered_of k c (k.talk.got ++ bytes) o.reply)) (conn_read k bytes new o)
read_standing k c bytes new answered o whole asked = by o.reply
  where
    reqs : List Answered
    reqs = requests_of k.name answered

    longer : AreWhole 0 (k.came ++ bytes) reqs k.talk.before (k.talk.got ++ bytes)
    longer = whole_more 0 k.came bytes reqs k.talk.before k.talk.got whole

    by : (x : Option Reply) → StandsAt (requests_of k.name (answered ++ answered_of k c (k.talk.got ++ bytes) x)) (conn_read k bytes new (record { machine = o.machine; steps = o.steps; reply = x }))
    by None = subst (λ rs. AreWhole 0 (k.came ++ bytes) rs k.talk.before (k.talk.got ++ bytes)) (sym (same_requests k.name answered [] refl)) longer
    by (Some r) =
        let q = request_of k c (k.talk.got ++ bytes) r in
        record {
          done = reqs;
          last = q;
          split = filter-append (λ (x : Answered). x.name == k.name) answered (q ∷ []) ∙ ap (λ l. reqs ++ l) (one_request k.name q refl);
          left = k.talk.got ++ bytes;
          whole = longer;
          own = refl;
          asked = new;
          more = [];
          is = asked;
          front = append-nil (k.talk.got ++ bytes);
          told_is = with_none new;
        }

-- ---- the world

-- no connection that ended has the name
abbrev pub IsAlone : List Ended → ℕ → Type 0
IsAlone ended name = AllByRecursion (λ (e : Ended). e.conn.name ≡ name → ⊥) ended

pub record IsCut (opened : List ℕ) (answered : List Answered) (ended : List Ended) (c : ℕ) (k : Conn) : Type 0 where
  pub named : slice_get opened k.name ≡ Some c
  pub alone : IsAlone ended k.name
  pub standing : StandsAt (requests_of k.name answered) k

abbrev pub WasCut : List ℕ → List Answered → Ended → Type 0
WasCut opened answered e = (e.conn.name < length opened) × AsksInOrder answered e.conn

pub record AreAllCut (opened : List ℕ) (answered : List Answered) (conns : ℕ → Option Conn) (ended : List Ended) : Type 0 where
  pub each : (c : ℕ) → MatchOption (conns c) ⊤ (IsCut opened answered ended c)
  pub before : AllByRecursion (WasCut opened answered) ended
  pub fresh : (n : ℕ) → length opened ≤ n → requests_of n answered ≡ []

abbrev pub AllCut : World → Type 0
AllCut w = AreAllCut w.opened w.answered w.conns w.ended

abbrev CutAt : World → ℕ → Conn → Type 0
CutAt w c k = IsCut w.opened w.answered w.ended c k

cut_at : (w : World) (c : ℕ) (k : Conn) → AllCut w → w.conns c ≡ Some k → CutAt w c k
cut_at w c k all is = subst (λ (x : Option Conn). MatchOption x ⊤ (IsCut w.opened w.answered w.ended c)) is (all.each c)

set_cut : (w : World) (c : ℕ) (k : Conn) → AllCut w → CutAt w c k → AllCut (with_conn w c (Some k))
set_cut w c k all here = record {
  each = changed (λ d x. MatchOption x ⊤ (IsCut w.opened w.answered w.ended d)) w.conns c (Some k) here (λ d apart. all.each d);
  before = all.before;
  fresh = all.fresh;
}

read_cut : (w : World) (c : ℕ) (k : Conn) (bytes : List ℕ) (new : Asked) (o : Outcome) → AllCut w → CutAt w c k → k.talk.reply ≡ None → IsAsked k.talk.before (k.talk.got ++ bytes) new → AllCut (after_piece w c k bytes new o)
read_cut w c k bytes new o all here none asked = record {
  each = changed (λ d x. MatchOption x ⊤ (IsCut w.opened (w.answered ++ more) w.ended d)) w.conns c (Some (conn_read k bytes new o))
      (record { named = here.named; alone = here.alone; standing = read_standing k c bytes new w.answered o whole asked })
      (λ d apart. by_conn d apart (w.conns d) (all.each d));
  before = by_ended w.ended here.alone all.before;
  fresh = λ n late. same n (λ is. below n late (slice_get_within w.opened k.name c here.named) is) ∙ all.fresh n late;
}
  where
    more : List Answered
    more = answered_of k c (k.talk.got ++ bytes) o.reply

    whole : AreWhole 0 k.came (requests_of k.name w.answered) k.talk.before k.talk.got
    whole = subst (Standing (requests_of k.name w.answered) k.talk.before k.talk.got k.talk.told k.came) none here.standing

    below : (n : ℕ) → length w.opened ≤ n → k.name < length w.opened → k.name ≡ n → ⊥
    below n late within is = absurd (omega (arith, late, within, is))

    same : (name : ℕ) → (k.name ≡ name → ⊥) → requests_of name (w.answered ++ more) ≡ requests_of name w.answered
    same name other = same_requests name w.answered more (others_none k c (k.talk.got ++ bytes) o.reply name other)

    by_conn : (d : ℕ) → (c ≡ d → ⊥) → (x : Option Conn) → MatchOption x ⊤ (IsCut w.opened w.answered w.ended d) → MatchOption x ⊤ (IsCut w.opened (w.answered ++ more) w.ended d)
    by_conn d apart None is = tt
    by_conn d apart (Some l) is = record {
      named = is.named;
      alone = is.alone;
      standing = subst (λ rs. StandsAt rs l) (sym (same l.name (λ eq. apart (cc (here.named, is.named, eq))))) is.standing;
    }

    by_ended : (ended : List Ended) → IsAlone ended k.name → AllByRecursion (WasCut w.opened w.answered) ended → AllByRecursion (WasCut w.opened (w.answered ++ more)) ended
    by_ended [] alone was = was
    by_ended (e ∷ ended) (other, alone) (first, was) =
        ((first.0, subst (AreCut 0 e.conn.came) (sym (same e.conn.name (λ eq. other (sym eq)))) first.1), by_ended ended alone was)

all_push : (P : Ended → Type 0) (ended : List Ended) (e : Ended) → AllByRecursion P ended → P e → AllByRecursion P (ended ++ e ∷ [])
all_push P [] e all is = (is, all)
all_push P (x ∷ ended) e (first, all) is = (first, all_push P ended e all is)

close_cut : (w : World) (c : ℕ) (k : Conn) → AllCut w → CutAt w c k → AllCut (closed w c k)
close_cut w c k all here = record {
  each = changed (λ d x. MatchOption x ⊤ (IsCut w.opened w.answered (w.ended ++ e ∷ []) d)) w.conns c None tt (λ d apart. by_conn d apart (w.conns d) (all.each d));
  before = all_push (WasCut w.opened w.answered) w.ended e all.before
      (slice_get_within w.opened k.name c here.named, standing_cut (requests_of k.name w.answered) k.talk.before k.talk.got k.talk.told k.came k.talk.reply here.standing);
  fresh = all.fresh;
}
  where
    e : Ended
    e = record { number = c; conn = k }

    by_conn : (d : ℕ) → (c ≡ d → ⊥) → (x : Option Conn) → MatchOption x ⊤ (IsCut w.opened w.answered w.ended d) → MatchOption x ⊤ (IsCut w.opened w.answered (w.ended ++ e ∷ []) d)
    by_conn d apart None is = tt
    by_conn d apart (Some l) is = record {
      named = is.named;
      alone = all_push (λ (x : Ended). x.conn.name ≡ l.name → ⊥) w.ended e is.alone (λ eq. apart (cc (here.named, is.named, eq)));
      standing = is.standing;
    }

loss_cut : (reading : ℕ) (w : World) (c : ℕ) (b : Bool) → AllCut w → AllCut (with_loss reading c b w)
loss_cut reading w c true all = all
loss_cut reading w c false all = all

gone_cut : (reading : ℕ) (w : World) (c : ℕ) (k : Conn) → AllCut w → CutAt w c k → AllCut (gone reading w c k)
gone_cut reading w c k all here = loss_cut reading (closed w c k) c (is_uploading (Some k.talk)) (close_cut w c k all here)

open_cut : (w : World) (c : ℕ) (took : Option ℕ) → AllCut w → AllCut (opened w c took)
open_cut w c took all = by (nat_lt w.count 32)
  where
    longer : (n : ℕ) → length (w.opened ++ c ∷ []) ≤ n → length w.opened ≤ n
    longer n late = let size = length-append w.opened (c ∷ []) in omega (arith, size, late)

    further : (n : ℕ) → n < length w.opened → n < length (w.opened ++ c ∷ [])
    further n within = let size = length-append w.opened (c ∷ []) in omega (arith, size, within)

    later : (d : ℕ) (x : Option Conn) → MatchOption x ⊤ (IsCut w.opened w.answered w.ended d) → MatchOption x ⊤ (IsCut (w.opened ++ c ∷ []) w.answered w.ended d)
    later d None is = tt
    later d (Some l) is = record { named = got_before w.opened (c ∷ []) l.name d is.named; alone = is.alone; standing = is.standing }

    unused : (ended : List Ended) → AllByRecursion (WasCut w.opened w.answered) ended → IsAlone ended (length w.opened)
    unused [] was = tt
    unused (e ∷ ended) (first, was) = ((λ is. let within = first.0 in absurd (omega (arith, within, is))), unused ended was)

    ended_later : (ended : List Ended) → AllByRecursion (WasCut w.opened w.answered) ended → AllByRecursion (WasCut (w.opened ++ c ∷ []) w.answered) ended
    ended_later [] was = was
    ended_later (e ∷ ended) (first, was) = ((further e.conn.name first.0, first.1), ended_later ended was)

    by : (b : Bool)
        → AllCut (cond b (record (with_conn w c (Some (new_conn (length w.opened)))) { opened = w.opened ++ c ∷ []; count = w.count + 1 }) (record w { sends = w.sends ++ closing c took }))
    by false = record { each = all.each; before = all.before; fresh = all.fresh }
    by true = record {
      each = changed (λ d x. MatchOption x ⊤ (IsCut (w.opened ++ c ∷ []) w.answered w.ended d)) w.conns c (Some (new_conn (length w.opened)))
          (record {
            named = got_last w.opened c;
            alone = unused w.ended all.before;
            standing = subst (λ rs. AreWhole 0 [] rs 0 []) (sym (all.fresh (length w.opened) (omega arith))) (refl, refl);
          })
          (λ d apart. later d (w.conns d) (all.each d));
      before = ended_later w.ended all.before;
      fresh = λ n late. all.fresh n (longer n late);
    }

module _ (R : Reads) where
  piece_cut : (reading : ℕ) (w : World) (c : ℕ) (k : Conn) (bytes : List ℕ) (v : World) → AllCut w → CutAt w c k → IsPiece R reading w c k bytes v → AllCut v
  piece_cut reading w c k bytes v all here is = by k.talk.reply refl is
    where
      held : (p : Pending (List ℕ)) → k.talk.reply ≡ Some p → CutAt w c (conn_held k bytes)
      held p some =
          let reqs = requests_of k.name w.answered in
          let old : HasLast k.came reqs k.talk.before k.talk.told = subst (Standing reqs k.talk.before k.talk.got k.talk.told k.came) some here.standing in
          record {
            named = here.named;
            alone = here.alone;
            standing = subst (Standing reqs k.talk.before k.talk.got (with_more k.talk.told bytes) (k.came ++ bytes)) (sym some) (last_more k.came bytes reqs k.talk.before k.talk.told old);
          }

      by : (x : Option (Pending (List ℕ))) → k.talk.reply ≡ x
          → MatchOption x
          ((new : Asked) × (o : Outcome) × IsAsked k.talk.before (k.talk.got ++ bytes) new × Makes R reading c k.talk.told new (nothing_made w) o × (v ≡ after_piece w c k bytes new o))
          (λ _. v ≡ with_conn w c (Some (conn_held k bytes)))
          → AllCut v
      by None none (new, o, asked, makes, same) = subst AllCut (sym same) (read_cut w c k bytes new o all here none asked)
      by (Some p) some same = subst AllCut (sym same) (set_cut w c (conn_held k bytes) all (held p some))

  after_cut : (reading : ℕ) (w : World) (c : ℕ) (k : Conn) (p q : Pending (List ℕ)) (whole : Bool) (v : World) → AllCut w → CutAt w c k → k.talk.reply ≡ Some q → IsAfterSend R reading w c k p whole v → AllCut v
  after_cut reading w c k p q false v all here some is = subst AllCut (sym is) (set_cut w c k all here)
  after_cut reading w c k p q true v all here some is = by_stay (shown_as k.talk.told p).stay refl is
    where
      next : (shown_as k.talk.told p).stay ≡ true → CutAt w c (record k { talk = next_talk k.talk })
      next stays =
          let reqs = requests_of k.name w.answered in
          let old : HasLast k.came reqs k.talk.before k.talk.told = subst (Standing reqs k.talk.before k.talk.got k.talk.told k.came) some here.standing in
          record { named = here.named; alone = here.alone; standing = next_whole k.came reqs k.talk.before k.talk.told old (both_true p.stay (goes_on k.talk.told) (sym stays)).1 }

      by_stay : (stay : Bool) → (shown_as k.talk.told p).stay ≡ stay → GoesOn R reading w c k stay v → AllCut v
      by_stay true stays goes = piece_cut reading w c (record k { talk = next_talk k.talk }) [] v all (next stays) goes
      by_stay false leaves same = subst AllCut (sym same) (close_cut w c k all here)

  sent_cut : (reading : ℕ) (w : World) (c : ℕ) (k : Conn) (p : Pending (List ℕ)) (took : Option ℕ) (v : World) → AllCut w → CutAt w c k → k.talk.reply ≡ Some p → IsSent R reading w c k p took v → AllCut v
  sent_cut reading w c k p None v all here some is = subst AllCut (sym is) (gone_cut reading w c k all here)
  sent_cut reading w c k p (Some n) v all here some is =
      let bytes = take n (handed p) in
      let q = with_sent (length bytes) p in
      let old : HasLast k.came (requests_of k.name w.answered) k.talk.before k.talk.told = subst (Standing (requests_of k.name w.answered) k.talk.before k.talk.got k.talk.told k.came) some here.standing in
      after_cut reading (with_send w (front_sent c (handed p) (is_last k.talk p) n)) c (conn_after k bytes p) p q (is_whole q) v
      (record { each = all.each; before = all.before; fresh = all.fresh })
      (record { named = here.named; alone = here.alone; standing = old }) refl is

  event_cut : (reading : ℕ) (took : Option ℕ) (w : World) (e : Event) (v : World) → AllCut w → Happens R reading took w e v → AllCut v
  event_cut reading took w event.Stop v all is = subst AllCut (sym is) all
  event_cut reading took w (event.Open c) v all is = by (w.conns c) is
    where
      by : (x : Option Conn) → MatchOption x (v ≡ opened w c took) (λ _. v ≡ w) → AllCut v
      by None same = subst AllCut (sym same) (open_cut w c took all)
      by (Some k) same = subst AllCut (sym same) all
  event_cut reading took w (event.Piece c bytes) v all is = by (w.conns c) refl is
    where
      by : (x : Option Conn) → w.conns c ≡ x → MatchOption x (v ≡ w) (λ k. IsPiece R reading w c k bytes v) → AllCut v
      by None there same = subst AllCut (sym same) all
      by (Some k) there piece = piece_cut reading w c k bytes v all (cut_at w c k all there) piece
  event_cut reading took w (event.Ready c) v all is = by (w.conns c) refl is
    where
      by_reply : (k : Conn) → CutAt w c k → (x : Option (Pending (List ℕ))) → k.talk.reply ≡ x → MatchOption x (v ≡ w) (λ p. IsSent R reading w c k p took v) → AllCut v
      by_reply k here None none same = subst AllCut (sym same) all
      by_reply k here (Some p) some sends = sent_cut reading w c k p took v all here some sends

      by : (x : Option Conn) → w.conns c ≡ x → MatchOption x (v ≡ w) (λ k. IsReady R reading w c k took v) → AllCut v
      by None there same = subst AllCut (sym same) all
      by (Some k) there ready = by_reply k (cut_at w c k all there) k.talk.reply refl ready
  event_cut reading took w (event.Gone c) v all is = by (w.conns c) refl is
    where
      by : (x : Option Conn) → w.conns c ≡ x → MatchOption x (v ≡ w) (λ k. v ≡ gone reading w c k) → AllCut v
      by None there same = subst AllCut (sym same) all
      by (Some k) there same = subst AllCut (sym same) (gone_cut reading w c k all (cut_at w c k all there))

  turns_cut : (turns : List Turn) (w v : World) → AllCut w → Run R w turns v → AllCut v
  turns_cut [] w v all same = subst AllCut (sym same) all
  turns_cut (t ∷ turns) w v all (m, happens, rest) = turns_cut turns m v (event_cut t.reading t.took w t.event m all happens) rest

  pub run_cut : (M : State (List ℕ)) (words : List ℕ) (turns : List Turn) (w : World) → Run R (start M words) turns w → AllCut w
  run_cut M words turns w ran = turns_cut turns (start M words) w (record { each = λ c. tt; before = tt; fresh = λ n late. refl }) ran

pub asks_in_order : (w : World) (c : ℕ) (x : Option Conn) → MatchOption x ⊤ (IsCut w.opened w.answered w.ended c) → MatchOption x ⊤ (AsksInOrder w.answered)
asks_in_order w c None is = tt
asks_in_order w c (Some k) is = standing_cut (requests_of k.name w.answered) k.talk.before k.talk.got k.talk.told k.came k.talk.reply is.standing

pub asked_in_order : (opened : List ℕ) (answered : List Answered) (ended : List Ended) → AllByRecursion (WasCut opened answered) ended → AllByRecursion (λ (e : Ended). AsksInOrder answered e.conn) ended
asked_in_order opened answered [] was = was
asked_in_order opened answered (e ∷ ended) (first, was) = (first.1, asked_in_order opened answered ended was)
