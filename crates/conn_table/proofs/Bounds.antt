-- How much a connection keeps.
use Rattle.std.proofs.Common.{◌≡◌, ℕ, ◌+◌, ◌≤◌, nat_le, not, Bool, true, false, cond, ◌&&◌, ◌||◌, List, [], length, take, Option, Some, None, option_and_then, MatchOption, Result, Ok, Err, IfOk, OnOk, codes, sym, ap, ◌∙◌, arith}
use Rattle.std.specs.Option.{IsSome, is_some}
use Rattle.std.proofs.lemmas.Bool.{false≢true, or_parts, not-false, leb-true}
use Rattle.std.proofs.lemmas.List.{length-take}
use Rattle.wire_forms.specs.declared.request.Request.{Request}
use Rattle.call_paths.specs.declared.routes.Route.{Route}
use Rattle.http_edge.specs.declared.head.Head.{Head}
use Rattle.http_edge.specs.Headers.{headers_of, is_given}
use Rattle.http_edge.specs.Length.{lengths, are_lengths, told_length, has_digest_last, is_upload, least_body, most_body}
use Rattle.http_edge.specs.Request.{IsRequest}
use Rattle.conn_talk.specs.declared.act.Act.{Act}
use Rattle.conn_talk.specs.declared.pending.Pending.{Pending}
use Rattle.conn_talk.specs.Asked.{Asked, complete, IsRead, head_of, rest_of, goes_on}
use Rattle.conn_talk.specs.Talk.{Talk, TakesPiece}
use Rattle.conn_talk.proofs.Stays.{both_true}
use Rattle.conn_table.specs.declared.conn.Conn.{Conn}
use Rattle.conn_table.specs.declared.incoming.Stage.{Stage}
use Rattle.conn_table.specs.declared.incoming.Stage.TheVariants as stage
use Rattle.conn_table.specs.Incoming.{IsSeeking, IsGathering, IsHeld, IsAt}
use Rattle.conn_table.specs.Heads.{head_bytes, head_size}
use Rattle.conn_table.specs.Table.{IsConn, IsIn, held_of}
use Rattle.conn_table.proofs.Heads.{head_within}

-- what an Ok tells, and what follows from it
pub kept_then : {T E Q : Type 0} {P : T → Type 0} (r : Result T E) → IfOk r P → ((x : T) → P x → Q) → OnOk r Q
kept_then (Ok x) is so = so x is
kept_then (Err e) is so = tt

last_false : (a b c d e : Bool) → (a || b || c || d || e) ≡ false → e ≡ false
last_false a b c d e is = (or_parts (a || b || c || d) e is).1

-- a call has a short body
call_fits : (front : List ℕ) (r : Request) (route : Route) → is_upload route.name ≡ false → IsRequest front r route → r.length ≤ 1048576
call_fits front r route call (h, head, (routed, fits), is) =
    let hs = headers_of h in
    let told = told_length (lengths hs) in
    let most = most_body route.name hs in
    let last : not (nat_le told most) ≡ false =
    last_false (is_given (codes "transfer-encoding") hs) (not (are_lengths (lengths hs))) (is_upload route.name && not (is_given (codes "content-length") hs)) (not (nat_le (least_body route.name hs) told)) (not (nat_le told most)) fits in
    let json : most ≡ 1048576 = ap (λ t. cond t (cond (has_digest_last hs) 5000000040 5000000000) 1048576) call in
    let below : told ≤ most = leb-true told most (not-false (nat_le told most) last) in
    let size : r.length ≡ told = ap (λ (x : Request). x.length) is in
    omega (arith, below, json, size)

call_short : (before : ℕ) (bytes : List ℕ) (head : Head) (kept : List ℕ) → IsRead before bytes head kept → is_upload head.route.name ≡ false → head.request.length ≤ 1048576
call_short before bytes head kept read call =
    let size : head.request.length ≡ read.asked.length = ap (λ (h : Head). h.request.length) read.head_is in
    let name : is_upload head.route.name ≡ is_upload read.route.name = ap (λ (h : Head). is_upload h.route.name) read.head_is in
    let short = call_fits (take read.end bytes) read.asked read.route (sym name ∙ call) read.request in
    omega (arith, size, short)

-- ---- after a request

none_few : (kept : List ℕ) → kept ≡ [] → length kept ≤ 65536
none_few kept is = let size = ap length is in omega (arith, size)

held_few : (told : Asked) (at : Stage) (kept : List ℕ) → IsHeld told at kept → length kept ≤ 65536
held_few (complete head body rest) (stage.Complete true) kept is =
    let both = both_true head.request.stay (nat_le (length rest) 65536) is.0 in
    let few = leb-true (length rest) 65536 both.1 in
    let same = ap length is.1 in omega (arith, few, same)
held_few (complete head body rest) (stage.Complete false) kept is = none_few kept is.1
held_few (complete head body rest) at kept is = absurd is
held_few told (stage.Complete says) kept is = absurd is
held_few told at kept is = none_few kept is

-- the bytes that are held are those of the next request
pub next_reads : (told : Asked) (at : Stage) (kept : List ℕ) → IsHeld told at kept → goes_on told ≡ true → IsSeeking 0 (rest_of told) kept
next_reads (complete head body rest) (stage.Complete true) kept is goes =
    let both = both_true head.request.stay (nat_le (length rest) 65536) is.0 in
    record { kept_is = is.1; within = omega arith; none = λ some. absurd (omega (arith, some)); few = leb-true (length rest) 65536 both.1 }
next_reads (complete head body rest) (stage.Complete false) kept is goes = absurd (false≢true (is.0 ∙ goes))
next_reads (complete head body rest) at kept is goes = absurd is
next_reads told at kept is goes = absurd (false≢true goes)

-- ---- of a request

-- how much is kept: bytes as they came, and the parts of a head
no_more : (most : ℕ) (slot : Option Head) (kept : List ℕ) → length kept ≤ most → slot ≡ None → length kept + head_size slot ≤ most
no_more most slot kept few none = let size : head_size slot ≡ 0 = ap head_size none in omega (arith, few, size)

-- the head and the body of a call
gathered_few : (before : ℕ) (bytes : List ℕ) (h : Head) (kept : List ℕ) → IsGathering before bytes h kept → length kept + length (head_bytes h) ≤ 1064960
gathered_few before bytes h kept is =
    let read = is.read in
    let most = call_short before bytes h kept read is.call in
    let short = is.short in
    let parts = head_within before (take read.end bytes) read.asked read.route read.request in
    let same : length (head_bytes h) ≡ length (head_bytes (head_of before read.asked read.route)) = ap (λ x. length (head_bytes x)) read.head_is in
    let front = length-take read.end bytes in
    let end = read.cut.1 in omega (arith, most, short, parts, same, front, end)

at_few : (before : ℕ) (bytes : List ℕ) (told : Asked) (at : Stage) (slot : Option Head) (kept : List ℕ) → IsAt before bytes told at slot kept → length kept + head_size slot ≤ 1064960
at_few before bytes told (stage.Seeking seen) slot kept is =
    let seeking = is.1 in
    let few = seeking.few in
    let same = ap length seeking.kept_is in no_more 1064960 slot kept (omega (arith, few, same)) is.2
at_few before bytes told stage.Gathering slot kept is = gathered slot is.1
  where
    gathered : (o : Option Head) → MatchOption o ⊥ (λ h. IsGathering before bytes h kept) → length kept + head_size o ≤ 1064960
    gathered None none = absurd none
    gathered (Some h) gathering = gathered_few before bytes h kept gathering
at_few before bytes told (stage.Uploading left) slot kept is = let few = none_few kept is.0.kept_is in no_more 1064960 slot kept (omega (arith, few)) is.1
at_few before bytes told (stage.Complete says) slot kept is = let few = held_few told (stage.Complete says) kept is.1 in no_more 1064960 slot kept (omega (arith, few)) is.2
at_few before bytes told stage.Closed slot kept is = let few = none_few kept is.2 in no_more 1064960 slot kept (omega (arith, few)) is.3

-- ---- the connection in the table

module _ {B : Type 0} where
  abbrev talk : ℕ → List ℕ → Asked → Option (Pending B) → Talk B
  talk before got told reply = record { before = before; got = got; told = told; reply = reply }

  waiting_few : (before : ℕ) (got : List ℕ) (told : Asked) (p : Pending B) (k : Conn B) → IsConn (talk before got told (Some p)) k → length k.incoming.bytes.items + head_size k.incoming.head ≤ 65536
  waiting_few before got told p k is =
      no_more 65536 k.incoming.head k.incoming.bytes.items (held_few told k.incoming.stage k.incoming.bytes.items is.incoming.held) is.incoming.no_head

  conn_few : (before : ℕ) (got : List ℕ) (told : Asked) (o : Option (Pending B)) (k : Conn B) → IsConn (talk before got told o) k → length k.incoming.bytes.items + head_size k.incoming.head ≤ 1064960
  conn_few before got told None k is = at_few before got told k.incoming.stage k.incoming.head k.incoming.bytes.items is.incoming.at
  conn_few before got told (Some p) k is = let few = waiting_few before got told p k is in omega (arith, few)

  conn_behind : (before : ℕ) (got : List ℕ) (told : Asked) (o : Option (Pending B)) (k : Conn B) → IsConn (talk before got told o) k → IsSome o → length k.incoming.bytes.items + head_size k.incoming.head ≤ 65536
  conn_behind before got told None k is some = absurd (false≢true some)
  conn_behind before got told (Some p) k is some = waiting_few before got told p k is

  pub kept_few : (a : Talk B) (o : Option (Conn B)) → IsIn (Some a) o → held_of o ≤ 1064960
  kept_few a None is = absurd is
  kept_few a (Some k) is = conn_few a.before a.got a.told a.reply k is

  pub kept_behind : (a : Talk B) (o : Option (Conn B)) → IsIn (Some a) o → IsSome a.reply → held_of o ≤ 65536
  kept_behind a None is some = absurd is
  kept_behind a (Some k) is some = conn_behind a.before a.got a.told a.reply k is some

  -- a reply that is pending stays pending when bytes come
  pub still_pending : (a b : Talk B) (o : Option (Conn B)) (bytes : List ℕ) (acts : List Act) → IsIn (Some a) o → IsSome (option_and_then (λ (k : Conn B). k.reply) o) → TakesPiece a bytes acts b → IsSome b.reply
  still_pending a b None bytes acts is some takes = absurd is
  still_pending a b (Some k) bytes acts is some takes = by_reply a.before a.got a.told a.reply is takes
    where
      by_reply : (before : ℕ) (got : List ℕ) (told : Asked) (o : Option (Pending B)) → IsConn (talk before got told o) k → TakesPiece (talk before got told o) bytes acts b → IsSome b.reply
      by_reply before got told None conn does = absurd (false≢true (sym (ap is_some conn.reply_is) ∙ some))
      by_reply before got told (Some p) conn does = ap (λ (t : Talk B). is_some t.reply) does.1
