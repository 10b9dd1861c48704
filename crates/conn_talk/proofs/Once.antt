-- The bytes of a request ask for one thing, and go on to ask for it when more come.
use Rattle.std.proofs.Common.{◌≡◌, ℕ, ◌<◌, ◌≤◌, ◌⊎◌, inl, inr, nat_le, Bool, true, false, cond, List, ◌++◌, length, take, drop, refl, sym, ap, ◌∙◌, subst, arith}
use Rattle.std.proofs.lemmas.Bool.{cases_lt, leb-false}
use Rattle.std.proofs.lemmas.List.{append_cancel_left, take-take, take_at}
use Rattle.wire_forms.specs.declared.request.Request.{Request}
use Rattle.call_paths.specs.declared.routes.Route.{Route}
use Rattle.http_edge.specs.declared.cut.Cut.TheVariants.{Head as HeadCut, NotYet, TooLong}
use Rattle.http_edge.specs.declared.head.Head.{Head}
use Rattle.http_edge.specs.Cut.{IsCut}
use Rattle.http_edge.specs.Length.{is_upload}
use Rattle.http_edge.specs.Request.{IsRequest}
use Rattle.http_edge.specs.Received.{Received, unfinished, malformed, announced, whole, IsReceived}
use Rattle.http_edge.proofs.Fronts.{one_cut}
use Rattle.http_edge.proofs.Once.{one_received}
use Rattle.conn_talk.specs.Asked.{Asked, nothing, refused, begun, complete, head_of, IsAfterHead, IsAsked}
use Rattle.conn_talk.specs.Asked.{IsRead}
use Rattle.conn_talk.proofs.Came.{read_more, asks_begun, asks_complete, refused_more, complete_more}

-- which case it is
abbrev Alike : Received → Received → Type 0
Alike unfinished unfinished = Unit {0}
Alike (malformed kind) (malformed other) = kind ≡ other
Alike (announced r a) (announced q b) = (r ≡ q) × (a ≡ b)
Alike (whole r a body) (whole q b other) = (r ≡ q) × (a ≡ b) × (body ≡ other)
Alike other more = ⊥

alike_self : (a : Received) → Alike a a
alike_self unfinished = tt
alike_self (malformed kind) = refl
alike_self (announced r route) = (refl, refl)
alike_self (whole r route body) = (refl, refl, refl)

alike : (bytes : List ℕ) (a b : Received) → IsReceived bytes a → IsReceived bytes b → Alike a b
alike bytes a b one two = subst (Alike a) (one_received bytes a b one two) (alike_self a)

same_rest : (bytes rest other : List ℕ) → IsAfterHead bytes rest → IsAfterHead bytes other → rest ≡ other
same_rest bytes rest other (end, cut, is) (stop, too, also) =
    let same : end ≡ stop = cc (one_cut bytes (HeadCut end) (HeadCut stop) cut too) in is ∙ ap (λ n. drop n bytes) same ∙ sym also

same_head : (before : ℕ) (r q : Request) (a b : Route) (head other : Head) → r ≡ q → a ≡ b → head ≡ head_of before r a → other ≡ head_of before q b → head ≡ other
same_head before r q a b head other one two is also = is ∙ (λ i. head_of before (one i) (two i)) ∙ sym also

pub one_asked : (before : ℕ) (bytes : List ℕ) (a b : Asked) → IsAsked before bytes a → IsAsked before bytes b → a ≡ b
one_asked before bytes nothing nothing x y = refl
one_asked before bytes nothing (refused kind) x y = absurd (alike bytes unfinished (malformed kind) x y)
one_asked before bytes nothing (begun head came) x (r, route, y, is, after) = absurd (alike bytes unfinished (announced r route) x y)
one_asked before bytes nothing (complete head body rest) x (r, route, y, is, after) = absurd (alike bytes unfinished (whole r route body) x y)
one_asked before bytes (refused kind) nothing x y = absurd (alike bytes (malformed kind) unfinished x y)
one_asked before bytes (refused kind) (refused other) x y = ap refused (alike bytes (malformed kind) (malformed other) x y)
one_asked before bytes (refused kind) (begun head came) x (r, route, y, is, after) = absurd (alike bytes (malformed kind) (announced r route) x y)
one_asked before bytes (refused kind) (complete head body rest) x (r, route, y, is, after) = absurd (alike bytes (malformed kind) (whole r route body) x y)
one_asked before bytes (begun head came) nothing (r, route, x, is, after) y = absurd (alike bytes (announced r route) unfinished x y)
one_asked before bytes (begun head came) (refused kind) (r, route, x, is, after) y = absurd (alike bytes (announced r route) (malformed kind) x y)
one_asked before bytes (begun head came) (begun other more) (r, route, x, is, after) (q, way, y, also, behind) =
    let both = alike bytes (announced r route) (announced q way) x y in
    let heads = same_head before r q route way head other both.0 both.1 is also in
    let rests = same_rest bytes came more after behind in λ i. begun (heads i) (rests i)
one_asked before bytes (begun head came) (complete other body rest) (r, route, x, is, after) (q, way, y, also, behind) = absurd (alike bytes (announced r route) (whole q way body) x y)
one_asked before bytes (complete head body rest) nothing (r, route, x, is, after) y = absurd (alike bytes (whole r route body) unfinished x y)
one_asked before bytes (complete head body rest) (refused kind) (r, route, x, is, after) y = absurd (alike bytes (whole r route body) (malformed kind) x y)
one_asked before bytes (complete head body rest) (begun other came) (r, route, x, is, after) (q, way, y, also, behind) = absurd (alike bytes (whole r route body) (announced q way) x y)
one_asked before bytes (complete head body rest) (complete other more last) (r, route, x, is, after) (q, way, y, also, behind) =
    let both = alike bytes (whole r route body) (whole q way more) x y in
    let heads = same_head before r q route way head other both.0 both.1 is also in
    let rests = same_rest bytes (body ++ rest) (more ++ last) after behind in
    let ends : rest ≡ last = append_cancel_left body rest last (rests ∙ ap (λ l. l ++ last) (sym both.2)) in
    λ i. complete (heads i) (both.2 i) (ends i)

-- ---- an upload that began

-- what an announced request says of its head
record Announces (bytes : List ℕ) (r : Request) (route : Route) : Type 0 where
  end : ℕ
  cut : IsCut bytes (HeadCut end)
  request : IsRequest (take end bytes) r route
  short : length (drop end bytes) < r.length
  upload : is_upload route.name ≡ true

abbrev by_room : Request → Route → List ℕ → Bool → Bool → Received
by_room r route rest fits uploads = cond fits (whole r route (take r.length rest)) (cond uploads (announced r route) unfinished)

record IsPart (r q : Request) (a b : Route) (rest : List ℕ) (fits uploads : Bool) : Type 0 where
  requests : q ≡ r
  routes : b ≡ a
  short : fits ≡ false
  upload : uploads ≡ true

named_part : (r q : Request) (a b : Route) (rest : List ℕ) (fits uploads : Bool) → Alike (announced r a) (by_room q b rest fits uploads) → IsPart r q a b rest fits uploads
named_part r q a b rest true uploads is = absurd is
named_part r q a b rest false false is = absurd is
named_part r q a b rest false true is = record { requests = sym is.0; routes = sym is.1; short = refl; upload = refl }

announces : (bytes : List ℕ) (r : Request) (route : Route) → IsReceived bytes (announced r route) → Announces bytes r route
announces bytes r route (NotYet, cut, same) = absurd (subst (Alike (announced r route)) same (alike_self (announced r route)))
announces bytes r route (TooLong, cut, same) = absurd (subst (Alike (announced r route)) same (alike_self (announced r route)))
announces bytes r route (HeadCut end, cut, inl (kind, fault, same)) = absurd (subst (Alike (announced r route)) same (alike_self (announced r route)))
announces bytes r route (HeadCut end, cut, inr (q, b, is, same)) =
    let rest = drop end bytes in
    let part = named_part r q route b rest (nat_le q.length (length rest)) (is_upload b.name) (subst (Alike (announced r route)) same (alike_self (announced r route))) in
    let P : Request → Type 0 = λ x. IsRequest (take end bytes) x b in
    let Q : Route → Type 0 = λ x. IsRequest (take end bytes) r x in
    let low = leb-false q.length (length rest) part.short in
    let sizes = ap (λ (x : Request). x.length) part.requests in
    record {
      end = end;
      cut = cut;
      request = subst Q part.routes (subst P part.requests is);
      short = omega (arith, low, sizes);
      upload = ap (λ (x : Route). is_upload x.name) (sym part.routes) ∙ part.upload;
    }

-- the upload is read, and its body isn't whole
pub record IsOpenUpload (before : ℕ) (bytes : List ℕ) (head : Head) (came : List ℕ) : Type 0 where
  pub read : IsRead before bytes head came
  pub short : length came < head.request.length
  pub upload : is_upload head.route.name ≡ true

pub open_upload : (before : ℕ) (bytes : List ℕ) (head : Head) (came : List ℕ) → IsAsked before bytes (begun head came) → IsOpenUpload before bytes head came
open_upload before bytes head came (r, route, received, is, after) =
    let a = announces bytes r route received in
    let here : came ≡ drop a.end bytes = same_rest bytes came (drop a.end bytes) after (a.end, a.cut, refl) in
    let sizes = ap length here in
    let needs = ap (λ (h : Head). h.request.length) is in
    let low = a.short in
    record {
      read = record { end = a.end; asked = r; route = route; cut = a.cut; request = a.request; head_is = is; rest_is = here };
      short = omega (arith, sizes, needs, low);
      upload = ap (λ (h : Head). is_upload h.route.name) is ∙ a.upload;
    }

-- ---- what comes next

-- what bytes ask for that come after some that asked for this
abbrev pub Follows : Asked → Asked → Type 0
Follows nothing new = Unit {0}
Follows (refused kind) new = new ≡ refused kind
Follows (begun head came) new =
    (is_upload head.route.name ≡ true)
    × (((more : List ℕ) × (new ≡ begun head (came ++ more))) ⊎ ((body : List ℕ) × (rest : List ℕ) × (take (length came) body ≡ came) × (new ≡ complete head body rest)))
Follows (complete head body rest) new = (later : List ℕ) × (new ≡ complete head body later)

grown : (before : ℕ) (bytes more : List ℕ) (head : Head) (came : List ℕ) (new : Asked) → IsOpenUpload before bytes head came → IsAsked before (bytes ++ more) new
    → (length (came ++ more) < head.request.length) ⊎ (head.request.length ≤ length (came ++ more)) → Follows (begun head came) new
grown before bytes more head came new up is (inl short) =
    let read = read_more before bytes more head came up.read in
    (up.upload, inl (more, one_asked before (bytes ++ more) new (begun head (came ++ more)) is (asks_begun before (bytes ++ more) head (came ++ more) read up.upload short)))
grown before bytes more head came new up is (inr fits) =
    let read = read_more before bytes more head came up.read in
    let need = head.request.length in
    let low : length came ≤ need = omega (arith, up.short) in
    let front : take (length came) (take need (came ++ more)) ≡ came = take-take (length came) need (came ++ more) low ∙ take_at came more (length came) refl in (
      up.upload,
      inr (take need (came ++ more), drop need (came ++ more), front, one_asked before (bytes ++ more) new (complete head (take need (came ++ more)) (drop need (came ++ more))) is (asks_complete before (bytes ++ more) head (came ++ more) read fits)),
    )

pub follows : (before : ℕ) (bytes more : List ℕ) (told new : Asked) → IsAsked before bytes told → IsAsked before (bytes ++ more) new → Follows told new
follows before bytes more nothing new x y = tt
follows before bytes more (refused kind) new x y = one_asked before (bytes ++ more) new (refused kind) y (refused_more before bytes more kind x)
follows before bytes more (begun head came) new x y =
    grown before bytes more head came new (open_upload before bytes head came x) y (cases_lt (length (came ++ more)) head.request.length)
follows before bytes more (complete head body rest) new x y =
    (rest ++ more, one_asked before (bytes ++ more) new (complete head body (rest ++ more)) y (complete_more before bytes more head body rest x))
