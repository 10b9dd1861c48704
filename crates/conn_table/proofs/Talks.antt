-- A connection goes on with its talk.
use Rattle.std.proofs.Common.{◌≡◌, ℕ, ◌+◌, ◌^◌, ◌<◌, ◌≤◌, Bool, true, false, cond, ◌&&◌, List, [], ◌++◌, Option, Some, None, MatchOption, refl, sym, ap, ◌∙◌, subst, arith}
use Rattle.std.specs.Prelude.{⊤}
use Rattle.std.proofs.lemmas.Bool.{false≢true, eqb-false}
use Rattle.http_edge.specs.declared.head.Head.{Head}
use Rattle.conn_talk.specs.declared.act.Act.{Act}
use Rattle.conn_table.specs.declared.conn.Conn.{Conn}
use Rattle.conn_table.specs.declared.incoming.Stage.{Stage}
use Rattle.conn_table.specs.declared.incoming.Stage.TheVariants as stage
use Rattle.conn_talk.specs.declared.pending.Pending.{Pending}
use Rattle.conn_talk.specs.Asked.{Asked, nothing, goes_on, with_more, rest_of}
use Rattle.conn_table.specs.Incoming.{IsHeld, IsAt, IsReading, IsWaiting, SameFlags, IsSought, Gives, holds_bytes}
use Rattle.conn_talk.specs.Talk.{Talk, IsPending, TakesPiece, shown_as, size_of, is_whole, with_sent, given_back, next_talk, talk_after}
use Rattle.conn_table.specs.Table.{IsConn, IsIn, IsUnanswered, IsAnswered}
use Rattle.conn_table.proofs.Held.{held_says}
use Rattle.conn_talk.proofs.Stays.{both_true, still_goes}
use Rattle.conn_table.proofs.Steps.{flags_stay, flags_more}

and_and : (s g h : Bool) → (h ≡ true → g ≡ true) → (s && g) && h ≡ s && h
and_and false g h follows = refl
and_and true true h follows = refl
and_and true false true follows = absurd (false≢true (follows refl))
and_and true false false follows = refl

-- a connection with no reply whose head is sought has none among the bytes that it saw
seen_none : (before : ℕ) (bytes : List ℕ) (told : Asked) (at : Stage) (slot : Option Head) (kept : List ℕ) → IsAt before bytes told at slot kept → IsSought at kept
seen_none before bytes told (stage.Seeking seen) slot kept is =
    let seeking = is.1 in
    let P : List ℕ → Type 0 = IsSought (stage.Seeking seen) in subst P (sym seeking.kept_is) (seeking.within, seeking.none)
seen_none before bytes told stage.Gathering slot kept is = tt
seen_none before bytes told (stage.Uploading left) slot kept is = tt
seen_none before bytes told (stage.Complete says) slot kept is = tt
seen_none before bytes told stage.Closed slot kept is = tt

module _ {B : Type 0} where
  abbrev talk : ℕ → List ℕ → Asked → Option (Pending B) → Talk B
  talk before got told reply = record { before = before; got = got; told = told; reply = reply }

  -- it has no reply
  pub unanswered : (a : Talk B) (k : Conn B) → IsConn a k → k.reply ≡ None → (a.reply ≡ None) × IsUnanswered a k
  unanswered a k is none = by_reply a.before a.got a.told a.reply is
    where
      by_reply : (before : ℕ) (got : List ℕ) (told : Asked) (o : Option (Pending B)) → IsConn (talk before got told o) k → (o ≡ None) × IsUnanswered (talk before got told o) k
      by_reply before got told None conn = (refl, conn)
      by_reply before got told (Some p) conn = absurd (cc (conn.reply_is, none))

  pub sought : (a : Talk B) (k : Conn B) → IsConn a k → k.reply ≡ None → IsSought k.incoming.stage k.incoming.bytes.items
  sought a k is none =
      let reading = (unanswered a k is none).1.incoming in seen_none a.before a.got a.told k.incoming.stage k.incoming.head k.incoming.bytes.items reading.at

  -- bytes are read on
  pub piece_read : (a : Talk B) (k j : Conn B) (bytes : List ℕ) (acts : List Act) → IsConn a k → k.reply ≡ None → j.reply ≡ None → Gives a.before (a.got ++ bytes) a.told [] acts j.incoming
      → (b : Talk B) × TakesPiece a bytes acts b × IsConn b j
  piece_read a k j bytes acts is none still gives = by_reply a.before a.got a.told a.reply is gives
    where
      by_reply : (before : ℕ) (got : List ℕ) (told : Asked) (o : Option (Pending B)) → IsConn (talk before got told o) k → Gives before (got ++ bytes) told [] acts j.incoming
          → (b : Talk B) × TakesPiece (talk before got told o) bytes acts b × IsConn b j
      by_reply before got told None conn given =
          (talk before (got ++ bytes) given.new None, (given.new, given.asked, given.acts_are, refl), record { incoming = given.reading; reply_is = still })
      by_reply before got told (Some p) conn given = absurd (cc (conn.reply_is, none))

  -- or they stand after the request
  pub piece_held : (a : Talk B) (k j : Conn B) (bytes : List ℕ) (q : Pending B) → IsConn a k → k.reply ≡ Some q → SameFlags k.incoming j.incoming
      → ((told : Asked) → IsHeld told k.incoming.stage k.incoming.bytes.items → IsHeld (with_more told bytes) j.incoming.stage j.incoming.bytes.items)
      → j.reply ≡ Some (record q { stay = q.stay && holds_bytes j.incoming.stage }) → (b : Talk B) × TakesPiece a bytes [] b × IsConn b j
  piece_held a k j bytes q is some same hold later = by_reply a.before a.got a.told a.reply is
    where
      by_reply : (before : ℕ) (got : List ℕ) (told : Asked) (o : Option (Pending B)) → IsConn (talk before got told o) k → (b : Talk B) × TakesPiece (talk before got told o) bytes [] b × IsConn b j
      by_reply before got told None conn = absurd (cc (conn.reply_is, some))
      by_reply before got told (Some p) conn =
          let held = hold told conn.incoming.held in
          let old : q ≡ shown_as told p = cc (conn.reply_is, some) in
          let says : holds_bytes j.incoming.stage ≡ goes_on (with_more told bytes) = held_says (with_more told bytes) j.incoming.stage j.incoming.bytes.items held in
          let shown : j.reply ≡ Some (shown_as (with_more told bytes) p) =
          later ∙ ap (λ (x : Pending B). Some (record x { stay = x.stay && holds_bytes j.incoming.stage })) old
          ∙ ap (λ (t : Bool). Some (record p { stay = (p.stay && goes_on told) && t })) says
          ∙ ap (λ (t : Bool). Some (record p { stay = t })) (and_and p.stay (goes_on told) (goes_on (with_more told bytes)) (still_goes told bytes)) in
          let flags = flags_more before told bytes j.incoming (flags_stay before told k.incoming j.incoming conn.incoming.flags same) in (
            talk before got (with_more told bytes) (Some p),
            (refl, refl),
            record {
              incoming = record { flags = flags; held = held; few = λ goes. conn.incoming.few (still_goes told bytes goes); no_head = same.head_is ∙ conn.incoming.no_head };
              reply_is = shown;
              pending = conn.pending;
            },
          )

  -- the same acts by another name
  pub piece_by : (a : Talk B) (j : Conn B) (bytes : List ℕ) (acts : List Act) → acts ≡ [] → (b : Talk B) × TakesPiece a bytes [] b × IsConn b j → (b : Talk B) × TakesPiece a bytes acts b × IsConn b j
  piece_by a j bytes acts none is = subst (λ (l : List Act). (b : Talk B) × TakesPiece a bytes l b × IsConn b j) (sym none) is

  -- its request is answered
  pub answered : (a : Talk B) (k j : Conn B) (p : Pending B) → IsWaiting a.before a.told j.incoming → IsPending p → j.reply ≡ Some (record p { stay = p.stay && holds_bytes j.incoming.stage }) → IsConn (record a { reply = Some p }) j
  answered a k j p waiting pending reply =
      let says = held_says a.told j.incoming.stage j.incoming.bytes.items waiting.held in
      record {
        incoming = waiting;
        reply_is = reply ∙ ap (λ (t : Bool). Some (record p { stay = p.stay && t })) says;
        pending = pending;
      }

  -- the connection in the table
  pub sought_in : (a : Talk B) (o : Option (Conn B)) (k : Conn B) → o ≡ Some k → IsIn (Some a) o → k.reply ≡ None → IsSought k.incoming.stage k.incoming.bytes.items
  sought_in a o k some is none =
      let P : Option (Conn B) → Type 0 = IsIn (Some a) in sought a k (subst P some is) none

  -- the reply that a talk has
  pub has_reply : (a : Talk B) (p : Pending B) (k : Conn B) → IsConn a k → a.reply ≡ Some p → IsAnswered a p k
  has_reply a p k is some = subst (λ (o : Option (Pending B)). MatchOption o (IsUnanswered a k) (λ q. IsAnswered a q k)) some is

  -- what is handed back when more of a reply is sent
  pub sent_reply : (a : Talk B) (p : Pending B) (k : Conn B) (n : ℕ) (r : Option (Pending B)) → IsConn a k → a.reply ≡ Some p
      → ((q : Pending B) → k.reply ≡ Some q → size_of q < 2 ^ 64 → r ≡ cond (is_whole (with_sent n q)) (Some (with_sent n q)) None) → r ≡ given_back a (with_sent n p)
  sent_reply a p k n r is some whole =
      let answered = has_reply a p k is some in whole (shown_as a.told p) answered.reply_is answered.pending.small

  -- what is left after more of it is sent, and what is handed back
  abbrev left_of : Bool → Pending B → Option (Pending B)
  left_of whole p = cond whole None (Some p)

  abbrev back_of : Bool → Pending B → Option (Pending B)
  back_of whole p = cond whole (Some p) None

  -- the talk after it
  abbrev after_of : Bool → Talk B → Pending B → Option (Talk B)
  after_of whole a p = cond whole (cond (shown_as a.told p).stay (Some (next_talk a)) None) (Some (record a { reply = Some p }))

  -- what is told of it
  abbrev IsHandedBack : Conn B → ℕ → Option (Pending B) → Type 0
  IsHandedBack k n r = (q : Pending B) → k.reply ≡ Some q → size_of q < 2 ^ 64 → r ≡ back_of (is_whole (with_sent n q)) (with_sent n q)

  abbrev IsLeft : Conn B → ℕ → Option (Pending B) → Type 0
  IsLeft k n r = (q : Pending B) → k.reply ≡ Some q → size_of q < 2 ^ 64 → r ≡ left_of (is_whole (with_sent n q)) (with_sent n q)

  -- the reply goes on
  pub sent_part : (a : Talk B) (p : Pending B) (k j : Conn B) (n : ℕ) → IsConn a k → a.reply ≡ Some p → MatchOption k.reply ⊥ (λ q. q.sent + n ≤ size_of q) → j.incoming ≡ k.incoming → IsHandedBack k n None → IsLeft k n j.reply
      → MatchOption (talk_after a (with_sent n p)) ⊤ (λ b. IsConn b j)
  sent_part a p k j n is some fits same back left = by_test (is_whole (with_sent n p)) refl (back (shown_as a.told p) answered.reply_is answered.pending.small) (left (shown_as a.told p) answered.reply_is answered.pending.small)
    where
      answered : IsAnswered a p k
      answered = has_reply a p k is some

      within : p.sent + n ≤ size_of p
      within = subst (λ (o : Option (Pending B)). MatchOption o ⊥ (λ q. q.sent + n ≤ size_of q)) answered.reply_is fits

      by_test : (t : Bool) → is_whole (with_sent n p) ≡ t → None ≡ back_of t (with_sent n (shown_as a.told p)) → j.reply ≡ left_of t (with_sent n (shown_as a.told p)) → MatchOption (after_of t a (with_sent n p)) ⊤ (λ b. IsConn b j)
      by_test true test handed here = absurd (cc handed)
      by_test false test handed here =
          let differs = eqb-false (p.sent + n) (size_of p) test in
          let short : p.sent + n < size_of p = omega (arith, within, differs) in
          record {
            incoming = subst (IsWaiting a.before a.told) (sym same) answered.incoming;
            reply_is = here;
            pending = record { left = short; small = answered.pending.small };
          }

  -- and it ends
  pub sent_whole : (a : Talk B) (p r : Pending B) (k m j : Conn B) (n : ℕ) → IsConn a k → a.reply ≡ Some p → m.incoming ≡ k.incoming → IsHandedBack k n (Some r) → IsLeft k n m.reply → j.reply ≡ m.reply
      → (r.stay ≡ true → (before : ℕ) (told : Asked) → IsWaiting before told m.incoming → goes_on told ≡ true → IsReading (before + 1) (rest_of told) nothing j.incoming) → MatchOption (talk_after a (with_sent n p)) ⊤ (λ b. IsConn b j)
  sent_whole a p r k m j n is some same back left still next =
      by_test (is_whole (with_sent n p)) (back (shown_as a.told p) answered.reply_is answered.pending.small) (left (shown_as a.told p) answered.reply_is answered.pending.small)
    where
      answered : IsAnswered a p k
      answered = has_reply a p k is some

      waiting : IsWaiting a.before a.told m.incoming
      waiting = subst (IsWaiting a.before a.told) (sym same) answered.incoming

      by_stay : (t : Bool) → p.stay && goes_on a.told ≡ t → r ≡ with_sent n (shown_as a.told p) → j.reply ≡ None → MatchOption (cond t (Some (next_talk a)) None) ⊤ (λ b. IsConn b j)
      by_stay true stays here none =
          let both = both_true p.stay (goes_on a.told) (sym stays) in
          record { incoming = next (ap (λ (q : Pending B). q.stay) here ∙ stays) a.before a.told waiting both.1; reply_is = none }
      by_stay false stays here none = tt

      by_test : (t : Bool) → Some r ≡ back_of t (with_sent n (shown_as a.told p)) → m.reply ≡ left_of t (with_sent n (shown_as a.told p)) → MatchOption (after_of t a (with_sent n p)) ⊤ (λ b. IsConn b j)
      by_test true here none = by_stay (p.stay && goes_on a.told) refl (cc here) (still ∙ none)
      by_test false here none = absurd (cc here)
