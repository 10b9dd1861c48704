-- Every whole request has its reply.
use Rattle.std.proofs.Common.{◌≡◌, ◌⊎◌, inl, inr, ℕ, nat_lt, Bool, true, false, ◌&&◌, cond, List, [], ◌∷◌, ◌++◌, ◌+◌, length, take, Option, Some, None, option_map, MatchOption, refl, sym, ap, ◌∙◌, subst}
use Rattle.std.specs.Prelude.{⊤}
use Rattle.std.specs.Option.{is_some, is_none}
use Rattle.std.proofs.lemmas.Bool.{false≢true, and_left, and_right}
use Rattle.outside_traits.specs.declared.link.Event.{Event}
use Rattle.outside_traits.specs.declared.link.Event.TheVariants as event
use Rattle.b2_types.specs.declared.key.Flight.{Flight}
use Rattle.b2_types.specs.declared.answer.AnswerOf.{AnswerOf}
use Rattle.b2_model.specs.Body.{body_of}
use Rattle.b2_model.specs.State.{State}
use Rattle.b2_model.specs.Run.{Step, Progress, asks, begins, ends, loses, answer_to, step, of_bytes}
use Rattle.http_edge.specs.declared.head.Head.{Head}
use Rattle.http_edge.specs.Length.{is_upload}
use Rattle.conn_talk.specs.declared.pending.Pending.{Pending}
use Rattle.conn_talk.specs.Asked.{Asked, nothing, refused, begun, complete, IsAsked, is_begun}
use Rattle.conn_talk.specs.Talk.{Talk, next_talk, shown_as, with_sent, is_whole, is_uploading}
use Rattle.conn_talk.proofs.Once.{open_upload, Follows, follows}
use Rattle.served_world.specs.Replies.{Reads, Reply, told, Outcome, made, Begins, Ends, BeginsOnce, EndsUnrefused, IsCarriedOut, Makes}
use Rattle.served_world.specs.World.{Turn, Conn, World, start, with_conn, closing, new_conn, opened, pending_of, nothing_made, conn_read, conn_held, after_piece, IsPiece, closed, with_loss, gone, handed, conn_after, GoesOn, IsAfterSend, IsSent, IsReady, Happens, Run}
use Rattle.served_world.specs.Laws.{IsComing, IsUnfinished}
use Rattle.served_world.proofs.Conns.{changed}
use Rattle.flight_laws.proofs.Flights.{under_way, flights_of, asked_flights}
use Rattle.flight_laws.proofs.Laws.{begun_or_answered, begun_keeps, ended_answered, ended_here, ended_keeps, lost_here, lost_keeps}

-- ---- small things

not_begun : (b : Bool) → (b ≡ true → false ≡ true) → b ≡ false
not_begun true never = absurd (false≢true (never refl))
not_begun false never = refl

and_true : (b : Bool) → (b && true) ≡ b
and_true true = refl
and_true false = refl

told_none : (stay : Bool) (x : Option (AnswerOf (List ℕ))) → is_none x ≡ is_none (option_map (λ a. told a stay) x)
told_none stay None = refl
told_none stay (Some a) = refl

told_some : (stay : Bool) (x : Option (AnswerOf (List ℕ))) → is_some x ≡ true → is_none (option_map (λ a. told a stay) x) ≡ false
told_some stay None some = absurd (false≢true some)
told_some stay (Some a) some = refl

pending_none : (x : Option Reply) → is_none x ≡ is_none (option_map pending_of x)
pending_none None = refl
pending_none (Some r) = refl

abbrev IsReplied : Option Reply → Type 0
IsReplied x = MatchOption x ⊥ (λ _. ⊤)

replied_by : (x : Option Reply) → is_none x ≡ false → (new : Asked) → MatchOption x (IsComing new) (λ _. ⊤)
replied_by None none new = absurd (false≢true (sym none))
replied_by (Some r) none new = tt

coming_by : (x : Option Reply) (new : Asked) → IsComing new → MatchOption x (IsComing new) (λ _. ⊤)
coming_by None new coming = coming
coming_by (Some r) new coming = tt

-- ---- what a request makes

pub record Fits (old : List Flight) (c : ℕ) (new : Asked) (o : Outcome) : Type 0 where
  pub here : under_way (flights_of o.machine) c ≡ (is_begun new && is_none o.reply)
  pub others : (d : ℕ) → (c ≡ d → ⊥) → under_way (flights_of o.machine) d ≡ under_way old d
  pub replied : MatchOption o.reply (IsComing new) (λ _. ⊤)

-- after the begin: the upload is under way, or refused
record HasBegun (old : List Flight) (c : ℕ) (m : Outcome) : Type 0 where
  here : under_way (flights_of m.machine) c ≡ is_none m.reply
  others : (d : ℕ) → (c ≡ d → ⊥) → under_way (flights_of m.machine) d ≡ under_way old d

module _ (R : Reads) (reading c : ℕ) where
  begin_fits : (head : Head) (o p : Outcome) → under_way (flights_of o.machine) c ≡ false → Begins R reading c head o p → HasBegun (flights_of o.machine) c p
  begin_fits head o p free (token, u, read, is) =
      subst (HasBegun (flights_of o.machine) c) (sym is) (
      record {
        here = begun_or_answered of_bytes o.machine reading c token u free ∙ told_none false (answer_to of_bytes o.machine (begins reading c token u));
        others = λ d apart. ap is_some (begun_keeps of_bytes o.machine reading c token u d apart);
      }
      )

  once_fits : (head : Head) (started : Bool) (o p : Outcome) → under_way (flights_of o.machine) c ≡ started → o.reply ≡ None → BeginsOnce R reading c started head o p → HasBegun (flights_of o.machine) c p
  once_fits head true o p busy none is = subst (HasBegun (flights_of o.machine) c) (sym is) (record { here = busy ∙ ap is_none (sym none); others = λ d apart. refl })
  once_fits head false o p free none is = begin_fits head o p free is

  end_fits : (old : List Flight) (head : Head) (body rest : List ℕ) (m p : Outcome) → HasBegun old c m → EndsUnrefused R reading c head body m p → Fits old c (complete head body rest) p
  end_fits old head body rest m p b is = by m.reply refl is
    where
      uploads : Bool
      uploads = is_upload head.route.name

      by : (x : Option Reply) → m.reply ≡ x → MatchOption x (Ends R reading c head body m p) (λ _. p ≡ m) → Fits old c (complete head body rest) p
      by (Some r) there same =
          subst (Fits old c (complete head body rest)) (sym same) (
          record {
            here = b.here ∙ ap is_none there ∙ sym (and_right uploads (is_none m.reply) (ap is_none there));
            others = b.others;
            replied = subst (λ (y : Option Reply). MatchOption y ⊥ (λ _. ⊤)) (sym there) tt;
          }
          )
      by None none (token, u, read, same) =
          let s = ends reading c (body_of u body) in
          let q = made head.request.stay s m in
          let gone = told_some head.request.stay (answer_to of_bytes m.machine s) (ended_answered of_bytes m.machine reading c (body_of u body) (b.here ∙ ap is_none none)) in
          subst (Fits old c (complete head body rest)) (sym same) (
          record {
            here = ap is_some (ended_here of_bytes m.machine reading c (body_of u body)) ∙ sym (and_right uploads (is_none q.reply) gone);
            others = λ d apart. ap is_some (ended_keeps of_bytes m.machine reading c (body_of u body) d apart) ∙ b.others d apart;
            replied = replied_by q.reply gone (complete head body rest);
          }
          )

  carried_fits : (head : Head) (body rest : List ℕ) (uploads started : Bool) (o p : Outcome) → is_upload head.route.name ≡ uploads → under_way (flights_of o.machine) c ≡ started → o.reply ≡ None
      → (started ≡ true → uploads ≡ true) → IsCarriedOut R reading c uploads started head body o p → Fits (flights_of o.machine) c (complete head body rest) p
  carried_fits head body rest true started o p upload busy none later (m, once, last) = end_fits (flights_of o.machine) head body rest m p (once_fits head started o m busy none once) last
  carried_fits head body rest false started o p call busy none later (token, asked, read, same) =
      let s = asks reading token asked in
      let q = made head.request.stay s o in
      let flights = asked_flights of_bytes o.machine reading token asked in
      subst (Fits (flights_of o.machine) c (complete head body rest)) (sym same) (
      record {
        here = ap (λ fs. under_way fs c) flights ∙ busy ∙ not_begun started later ∙ sym (and_left (is_upload head.route.name) (is_none q.reply) call);
        others = λ d apart. ap (λ fs. under_way fs d) flights;
        replied = tt;
      }
      )

  makes_fits : (before : ℕ) (got : List ℕ) (old new : Asked) (o p : Outcome) → IsAsked before got new → under_way (flights_of o.machine) c ≡ is_begun old → o.reply ≡ None → (is_begun old ≡ true → is_begun new ≡ true)
      → Makes R reading c old new o p → Fits (flights_of o.machine) c new p
  makes_fits before got old nothing o p asked busy none later same =
      subst (Fits (flights_of o.machine) c nothing) (sym same) (record { here = busy ∙ not_begun (is_begun old) later; others = λ d apart. refl; replied = coming_by o.reply nothing tt })
  makes_fits before got old (refused kind) o p asked busy none later same =
      subst (Fits (flights_of o.machine) c (refused kind)) (sym same) (record { here = busy ∙ not_begun (is_begun old) later; others = λ d apart. refl; replied = tt })
  makes_fits before got old (begun head came) o p asked busy none later is =
      let b = once_fits head (is_begun old) o p busy none is in
      let upload = (open_upload before got head came asked).upload in
      record { here = b.here ∙ ap (λ t. t && is_none p.reply) (sym upload); others = b.others; replied = coming_by p.reply (begun head came) tt }
  makes_fits before got old (complete head body rest) o p asked busy none later is =
      carried_fits head body rest (is_upload head.route.name) (is_begun old) o p refl busy none later is

-- ---- connections

-- a request without a reply: nothing came of it, or it was told what its bytes ask for
abbrev pub IsWaiting : Talk (List ℕ) → Type 0
IsWaiting a = ((a.told ≡ nothing) × (a.got ≡ [])) ⊎ (IsAsked a.before a.got a.told × IsComing a.told)

-- an upload that began stays one
begun_stays : (before : ℕ) (got more : List ℕ) (old new : Asked) → IsAsked before got old → IsComing old → IsAsked before (got ++ more) new → is_begun old ≡ true → is_begun new ≡ true
begun_stays before got more nothing new asked coming also started = absurd (false≢true started)
begun_stays before got more (refused kind) new asked coming also started = absurd coming
begun_stays before got more (complete head body rest) new asked coming also started = absurd coming
begun_stays before got more (begun head came) new asked coming also started = by (follows before got more (begun head came) new asked also)
  where
    by : Follows (begun head came) new → is_begun new ≡ true
    by (upload, inl (later, is)) = ap is_begun is ∙ upload
    by (upload, inr (body, rest, front, is)) = ap is_begun is ∙ upload

-- what came of it is still to be read, or it was told what its bytes ask for
abbrev IsToBeRead : Talk (List ℕ) → Type 0
IsToBeRead a = (a.told ≡ nothing) ⊎ (IsAsked a.before a.got a.told × IsComing a.told)

to_be_read : (a : Talk (List ℕ)) → IsWaiting a → IsToBeRead a
to_be_read a (inl (none, empty)) = inl none
to_be_read a (inr is) = inr is

waiting_stays : (a : Talk (List ℕ)) (more : List ℕ) (new : Asked) → IsToBeRead a → IsAsked a.before (a.got ++ more) new → is_begun a.told ≡ true → is_begun new ≡ true
waiting_stays a more new (inl none) also started = absurd (false≢true (ap is_begun (sym none) ∙ started))
waiting_stays a more new (inr (asked, coming)) also started = begun_stays a.before a.got more a.told new asked coming also started

abbrev pub uploads_at : Option Conn → Bool
uploads_at x = is_uploading (option_map (λ (k : Conn). k.talk) x)

abbrev pub IsTalking : Option Conn → Type 0
IsTalking x = MatchOption x ⊤ (λ k. MatchOption k.talk.reply (IsWaiting k.talk) (λ _. ⊤))

-- an upload is under way in the machine exactly where one is on the connection
abbrev pub IsFit : List Flight → ℕ → Option Conn → Type 0
IsFit flights d x = (under_way flights d ≡ uploads_at x) × IsTalking x

abbrev pub AllFit : World → Type 0
AllFit w = (d : ℕ) → IsFit (flights_of w.machine) d (w.conns d)

abbrev OthersFit : World → ℕ → Type 0
OthersFit w c = (d : ℕ) → (c ≡ d → ⊥) → IsFit (flights_of w.machine) d (w.conns d)

set_fit : (w : World) (c : ℕ) (x : Option Conn) → OthersFit w c → IsFit (flights_of w.machine) c x → AllFit (with_conn w c x)
set_fit w c x others here = changed (IsFit (flights_of w.machine)) w.conns c x here others

talking_now : (k : Conn) (bytes : List ℕ) (new : Asked) (machine : Progress (List ℕ)) (steps : List (Step (List ℕ))) (x : Option Reply) → IsAsked k.talk.before (k.talk.got ++ bytes) new → MatchOption x (IsComing new) (λ _. ⊤)
    → IsTalking (Some (conn_read k bytes new (record { machine = machine; steps = steps; reply = x })))
talking_now k bytes new machine steps None asked coming = inr (asked, coming)
talking_now k bytes new machine steps (Some r) asked coming = tt

-- one with a reply has no upload under way
idle : (flights : List Flight) (c : ℕ) (k : Conn) (p : Pending (List ℕ)) → k.talk.reply ≡ Some p → under_way flights c ≡ uploads_at (Some k) → under_way flights c ≡ false
idle flights c k p some fit = fit ∙ and_right (is_begun k.talk.told) (is_none k.talk.reply) (ap is_none some)

with_reply : (flights : List Flight) (c : ℕ) (k : Conn) (p : Pending (List ℕ)) → k.talk.reply ≡ Some p → under_way flights c ≡ false → IsFit flights c (Some k)
with_reply flights c k p some free =
    (free ∙ sym (and_right (is_begun k.talk.told) (is_none k.talk.reply) (ap is_none some)), subst (λ (y : Option (Pending (List ℕ))). MatchOption y (IsWaiting k.talk) (λ _. ⊤)) (sym some) tt)

module _ (R : Reads) where
  piece_fit : (reading : ℕ) (w : World) (c : ℕ) (k : Conn) (bytes : List ℕ) (v : World) → OthersFit w c → under_way (flights_of w.machine) c ≡ uploads_at (Some k)
      → (k.talk.reply ≡ None → IsToBeRead k.talk) → IsPiece R reading w c k bytes v → AllFit v
  piece_fit reading w c k bytes v others here waits is = by k.talk.reply refl is
    where
      read : (new : Asked) (o : Outcome) → k.talk.reply ≡ None → IsAsked k.talk.before (k.talk.got ++ bytes) new → Makes R reading c k.talk.told new (nothing_made w) o → AllFit (after_piece w c k bytes new o)
      read new o none asked makes =
          let busy : under_way (flights_of w.machine) c ≡ is_begun k.talk.told = here ∙ ap (λ y. is_begun k.talk.told && is_none y) none ∙ and_true (is_begun k.talk.told) in
          let fits = makes_fits R reading c k.talk.before (k.talk.got ++ bytes) k.talk.told new (nothing_made w) o asked busy refl (waiting_stays k.talk bytes new (waits none) asked) makes in
          changed (IsFit (flights_of o.machine)) w.conns c (Some (conn_read k bytes new o))
          (fits.here ∙ ap (λ t. is_begun new && t) (pending_none o.reply), talking_now k bytes new o.machine o.steps o.reply asked fits.replied)
          (λ d apart. (fits.others d apart ∙ (others d apart).0, (others d apart).1))

      by : (x : Option (Pending (List ℕ))) → k.talk.reply ≡ x
          → MatchOption x
          ((new : Asked) × (o : Outcome) × IsAsked k.talk.before (k.talk.got ++ bytes) new × Makes R reading c k.talk.told new (nothing_made w) o × (v ≡ after_piece w c k bytes new o))
          (λ _. v ≡ with_conn w c (Some (conn_held k bytes)))
          → AllFit v
      by None none (new, o, asked, makes, same) = subst AllFit (sym same) (read new o none asked makes)
      by (Some p) some same =
          let j : Conn = conn_held k bytes in
          subst AllFit (sym same) (set_fit w c (Some j) others (with_reply (flights_of w.machine) c j p some (idle (flights_of w.machine) c k p some here)))

  -- ---- Gone

  loss_fit : (reading : ℕ) (w : World) (c : ℕ) (k : Conn) (b : Bool) → OthersFit w c → under_way (flights_of w.machine) c ≡ b → AllFit (with_loss reading c b (closed w c k))
  loss_fit reading w c k false others free = set_fit w c None others (free, tt)
  loss_fit reading w c k true others busy =
      changed (IsFit (flights_of (step of_bytes w.machine (loses reading c)))) w.conns c None (ap is_some (lost_here of_bytes w.machine reading c), tt)
      (λ d apart. (ap is_some (lost_keeps of_bytes w.machine reading c d apart) ∙ (others d apart).0, (others d apart).1))

  gone_fit : (reading : ℕ) (w : World) (c : ℕ) (k : Conn) → OthersFit w c → under_way (flights_of w.machine) c ≡ uploads_at (Some k) → AllFit (gone reading w c k)
  gone_fit reading w c k others here = loss_fit reading w c k (is_uploading (Some k.talk)) others here

  -- ---- Open

  open_fit : (w : World) (c : ℕ) (took : Option ℕ) → AllFit w → w.conns c ≡ None → AllFit (opened w c took)
  open_fit w c took all none = by (nat_lt w.count 32)
    where
      free : under_way (flights_of w.machine) c ≡ false
      free = (all c).0 ∙ ap uploads_at none

      by : (b : Bool)
          → AllFit (cond b (record (with_conn w c (Some (new_conn (length w.opened)))) { opened = w.opened ++ c ∷ []; count = w.count + 1 }) (record w { sends = w.sends ++ closing c took }))
      by true = set_fit w c (Some (new_conn (length w.opened))) (λ d apart. all d) (free, inl (refl, refl))
      by false = all

  -- ---- Ready

  after_fit : (reading : ℕ) (w : World) (c : ℕ) (k : Conn) (p q : Pending (List ℕ)) (whole : Bool) (v : World) → OthersFit w c → k.talk.reply ≡ Some q → under_way (flights_of w.machine) c ≡ false
      → IsAfterSend R reading w c k p whole v → AllFit v
  after_fit reading w c k p q false v others some free is = subst AllFit (sym is) (set_fit w c (Some k) others (with_reply (flights_of w.machine) c k q some free))
  after_fit reading w c k p q true v others some free is = by_stay (shown_as k.talk.told p).stay is
    where
      by_stay : (stay : Bool) → GoesOn R reading w c k stay v → AllFit v
      by_stay true next = piece_fit reading w c (record k { talk = next_talk k.talk }) [] v others free (λ none. inl refl) next
      by_stay false same = subst AllFit (sym same) (set_fit w c None others (free, tt))

  sent_fit : (reading : ℕ) (w : World) (c : ℕ) (k : Conn) (p : Pending (List ℕ)) (took : Option ℕ) (v : World) → OthersFit w c → under_way (flights_of w.machine) c ≡ uploads_at (Some k) → k.talk.reply ≡ Some p
      → IsSent R reading w c k p took v → AllFit v
  sent_fit reading w c k p None v others here some is = subst AllFit (sym is) (gone_fit reading w c k others here)
  sent_fit reading w c k p (Some n) v others here some is =
      let bytes = take n (handed p) in
      let q = with_sent (length bytes) p in
      after_fit reading _ c (conn_after k bytes p) p q (is_whole q) v others refl (idle (flights_of w.machine) c k p some here) is

  -- ---- an event

  waits_at : (w : World) (c : ℕ) (k : Conn) → AllFit w → w.conns c ≡ Some k → k.talk.reply ≡ None → IsWaiting k.talk
  waits_at w c k all there none =
      subst (λ (y : Option (Pending (List ℕ))). MatchOption y (IsWaiting k.talk) (λ _. ⊤)) none (subst IsTalking there (all c).1)

  event_fit : (reading : ℕ) (took : Option ℕ) (w : World) (e : Event) (v : World) → AllFit w → Happens R reading took w e v → AllFit v
  event_fit reading took w event.Stop v all is = subst AllFit (sym is) all
  event_fit reading took w (event.Open c) v all is = by (w.conns c) refl is
    where
      by : (x : Option Conn) → w.conns c ≡ x → MatchOption x (v ≡ opened w c took) (λ _. v ≡ w) → AllFit v
      by None none same = subst AllFit (sym same) (open_fit w c took all none)
      by (Some k) there same = subst AllFit (sym same) all
  event_fit reading took w (event.Piece c bytes) v all is = by (w.conns c) refl is
    where
      by : (x : Option Conn) → w.conns c ≡ x → MatchOption x (v ≡ w) (λ k. IsPiece R reading w c k bytes v) → AllFit v
      by None there same = subst AllFit (sym same) all
      by (Some k) there piece =
          piece_fit reading w c k bytes v (λ d apart. all d) ((all c).0 ∙ ap uploads_at there) (λ none. to_be_read k.talk (waits_at w c k all there none)) piece
  event_fit reading took w (event.Ready c) v all is = by (w.conns c) refl is
    where
      by_reply : (k : Conn) → w.conns c ≡ Some k → (x : Option (Pending (List ℕ))) → k.talk.reply ≡ x → MatchOption x (v ≡ w) (λ p. IsSent R reading w c k p took v) → AllFit v
      by_reply k there None none same = subst AllFit (sym same) all
      by_reply k there (Some p) some sends = sent_fit reading w c k p took v (λ d apart. all d) ((all c).0 ∙ ap uploads_at there) some sends

      by : (x : Option Conn) → w.conns c ≡ x → MatchOption x (v ≡ w) (λ k. IsReady R reading w c k took v) → AllFit v
      by None there same = subst AllFit (sym same) all
      by (Some k) there ready = by_reply k there k.talk.reply refl ready
  event_fit reading took w (event.Gone c) v all is = by (w.conns c) refl is
    where
      by : (x : Option Conn) → w.conns c ≡ x → MatchOption x (v ≡ w) (λ k. v ≡ gone reading w c k) → AllFit v
      by None there same = subst AllFit (sym same) all
      by (Some k) there same = subst AllFit (sym same) (gone_fit reading w c k (λ d apart. all d) ((all c).0 ∙ ap uploads_at there))

  turns_fit : (turns : List Turn) (w v : World) → AllFit w → Run R w turns v → AllFit v
  turns_fit [] w v all same = subst AllFit (sym same) all
  turns_fit (t ∷ turns) w v all (m, happens, rest) = turns_fit turns m v (event_fit t.reading t.took w t.event m all happens) rest

  pub run_fit : (M : State (List ℕ)) (words : List ℕ) (turns : List Turn) (w : World) → M.flights ≡ [] → Run R (start M words) turns w → AllFit w
  run_fit M words turns w none ran = turns_fit turns (start M words) w (λ d. (ap (λ fs. under_way fs d) none, tt)) ran

  unfinished : (a : Talk (List ℕ)) → IsWaiting a → IsUnfinished a
  unfinished a (inl (none, empty)) = inl empty
  unfinished a (inr (asked, coming)) = inr (a.told, asked, coming)

  pub whole_has_reply : (M : State (List ℕ)) (words : List ℕ) (turns : List Turn) (w : World) (c : ℕ) (k : Conn) → M.flights ≡ [] → Run R (start M words) turns w → w.conns c ≡ Some k → k.talk.reply ≡ None → IsUnfinished k.talk
  whole_has_reply M words turns w c k none ran there unanswered = unfinished k.talk (waits_at w c k (run_fit M words turns w none ran) there unanswered)
