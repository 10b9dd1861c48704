-- What the bytes of a connection come to, and what becomes of it when more bytes come.
use Rattle.std.proofs.Common.{◌≡◌, ℕ, ◌<◌, ◌≤◌, nat_le, Bool, true, false, cond, List, ◌++◌, length, take, drop, inl, inr, refl, sym, ap, ◌∙◌, subst, arith}
use Rattle.std.proofs.lemmas.Bool.{le-leb, lt-leb, leb-true}
use Rattle.std.proofs.lemmas.List.{length-append, take-append-le, drop-append-le}
use Rattle.rule_table.specs.declared.fault.FaultKind.{FaultKind}
use Rattle.rule_table.specs.declared.fault.FaultKind.TheVariants.{LongHead}
use Rattle.wire_forms.specs.declared.request.Request.{Request}
use Rattle.call_paths.specs.declared.routes.Route.{Route}
use Rattle.http_edge.specs.declared.cut.Cut.TheVariants.{Head, NotYet, TooLong}
use Rattle.http_edge.specs.Cut.{IsCut}
use Rattle.http_edge.specs.Length.{is_upload}
use Rattle.http_edge.specs.Request.{IsRequest, IsHeadFault}
use Rattle.http_edge.specs.Received.{Received, unfinished, malformed, announced, whole, without_body, with_body, IsReceived, HasRequest}
use Rattle.http_edge.proofs.Fronts.{end_within, head_further, long_further}

-- ---- from what the head is read as

pub came : (bytes : List ℕ) (end : ℕ) (r : Request) (route : Route) → IsCut bytes (Head end) → IsRequest (take end bytes) r route → IsReceived bytes (with_body r route (drop end bytes))
came bytes end r route cut is = (Head end, cut, inr (r, route, is, refl))

pub came_whole : (bytes : List ℕ) (end : ℕ) (r : Request) (route : Route) → IsCut bytes (Head end) → IsRequest (take end bytes) r route → r.length ≤ length (drop end bytes)
    → IsReceived bytes (whole r route (take r.length (drop end bytes)))
came_whole bytes end r route cut is fits =
    subst (IsReceived bytes) (ap (λ t. cond t (whole r route (take r.length (drop end bytes))) (without_body r route)) (le-leb r.length (length (drop end bytes)) fits)) (came bytes end r route cut is)

-- its body has not come whole
pub came_part : (bytes : List ℕ) (end : ℕ) (r : Request) (route : Route) → IsCut bytes (Head end) → IsRequest (take end bytes) r route → length (drop end bytes) < r.length
    → IsReceived bytes (without_body r route)
came_part bytes end r route cut is short =
    subst (IsReceived bytes) (ap (λ t. cond t (whole r route (take r.length (drop end bytes))) (without_body r route)) (lt-leb r.length (length (drop end bytes)) short)) (came bytes end r route cut is)

-- the head is none
pub came_bad : (bytes : List ℕ) (end : ℕ) (kind : FaultKind) → IsCut bytes (Head end) → IsHeadFault (take end bytes) kind → IsReceived bytes (malformed kind)
came_bad bytes end kind cut fault = (Head end, cut, inl (kind, fault, refl))

-- ---- what it tells of the head

-- which case a request with these bytes after it is
abbrev Named : Received → Received → Type 0
Named (announced r a) (announced q b) = (r ≡ q) × (a ≡ b)
Named (whole r a body) (whole q b other) = (r ≡ q) × (a ≡ b) × (body ≡ other)
Named unfinished unfinished = Unit {0}
Named (malformed kind) (malformed other) = kind ≡ other
Named other more = ⊥

same_named : (a : Received) → Named a a
same_named unfinished = record {}
same_named (malformed kind) = refl
same_named (announced r route) = (refl, refl)
same_named (whole r route body) = (refl, refl, refl)

named : (a b : Received) → a ≡ b → Named a b
named a b same = subst (Named a) same (same_named a)

abbrev by_room : Request → Route → List ℕ → Bool → Received
by_room r route rest t = cond t (whole r route (take r.length rest)) (without_body r route)

-- a request that is whole, or whose body isn't
abbrev waiting : Request → Route → Bool → Received
waiting r route t = cond t (announced r route) unfinished

record IsWhole (r q : Request) (a b : Route) (body rest : List ℕ) : Type 0 where
  request : r ≡ q
  route : a ≡ b
  body_is : body ≡ take q.length rest
  fits : nat_le q.length (length rest) ≡ true

no_waiting : (r q : Request) (a b : Route) (body : List ℕ) (t : Bool) → whole r a body ≡ waiting q b t → ⊥
no_waiting r q a b body true same = named (whole r a body) (announced q b) same
no_waiting r q a b body false same = named (whole r a body) unfinished same

whole_by : (r q : Request) (a b : Route) (body rest : List ℕ) (t : Bool) → nat_le q.length (length rest) ≡ t → whole r a body ≡ by_room q b rest t → IsWhole r q a b body rest
whole_by r q a b body rest true fits same =
    let parts = named (whole r a body) (whole q b (take q.length rest)) same in
    record { request = parts.0; route = parts.1; body_is = parts.2; fits = fits }
whole_by r q a b body rest false fits same = absurd (no_waiting r q a b body (is_upload b.name) same)

whole_from : (r q : Request) (a b : Route) (body rest : List ℕ) → whole r a body ≡ with_body q b rest → IsWhole r q a b body rest
whole_from r q a b body rest same = whole_by r q a b body rest (nat_le q.length (length rest)) refl same

announced_by : (r q : Request) (a b : Route) (rest : List ℕ) (t u : Bool) → announced r a ≡ cond t (whole q b (take q.length rest)) (waiting q b u) → (r ≡ q) × (a ≡ b)
announced_by r q a b rest true u same = absurd (named (announced r a) (whole q b (take q.length rest)) same)
announced_by r q a b rest false true same = named (announced r a) (announced q b) same
announced_by r q a b rest false false same = absurd (named (announced r a) unfinished same)

not_malformed : (kind : FaultKind) (q : Request) (b : Route) (rest : List ℕ) (t u : Bool) → malformed kind ≡ cond t (whole q b (take q.length rest)) (waiting q b u) → ⊥
not_malformed kind q b rest true u same = named (malformed kind) (whole q b (take q.length rest)) same
not_malformed kind q b rest false true same = named (malformed kind) (announced q b) same
not_malformed kind q b rest false false same = named (malformed kind) unfinished same

-- ---- the head stays

head_of : (bytes more : List ℕ) (end : ℕ) → end ≤ length bytes → take end (bytes ++ more) ≡ take end bytes
head_of bytes more end within = take-append-le end bytes more within

request_further : (bytes more : List ℕ) (end : ℕ) (r : Request) (a : Route) → end ≤ length bytes → IsRequest (take end bytes) r a → IsRequest (take end (bytes ++ more)) r a
request_further bytes more end r a within is =
    let P : List ℕ → Type 0 = λ front. IsRequest front r a in subst P (sym (head_of bytes more end within)) is

pub head_stays : (bytes more : List ℕ) (r : Request) (a : Route) → HasRequest bytes r a → HasRequest (bytes ++ more) r a
head_stays bytes more r a (end, cut, is) = (end, head_further bytes more end cut, request_further bytes more end r a (end_within bytes end cut.0) is)

-- what the request of a head is, by other names
as_request : (bytes : List ℕ) (r q : Request) (a b : Route) → r ≡ q → a ≡ b → IsRequest bytes q b → IsRequest bytes r a
as_request bytes r q a b one two is =
    let P : Request → Type 0 = λ x. IsRequest bytes x b in
    let Q : Route → Type 0 = λ x. IsRequest bytes r x in subst Q (sym two) (subst P (sym one) is)

pub announced_has : (bytes : List ℕ) (r : Request) (a : Route) → IsReceived bytes (announced r a) → HasRequest bytes r a
announced_has bytes r a (NotYet, cut, same) = absurd (named (announced r a) unfinished same)
announced_has bytes r a (TooLong, cut, same) = absurd (named (announced r a) (malformed LongHead) same)
announced_has bytes r a (Head end, cut, inl (kind, fault, same)) = absurd (named (announced r a) (malformed kind) same)
announced_has bytes r a (Head end, cut, inr (q, b, is, same)) =
    let rest = drop end bytes in
    let both = announced_by r q a b rest (nat_le q.length (length rest)) (is_upload b.name) same in (end, cut, as_request (take end bytes) r q a b both.0 both.1 is)

pub whole_has : (bytes body : List ℕ) (r : Request) (a : Route) → IsReceived bytes (whole r a body) → HasRequest bytes r a
whole_has bytes body r a (NotYet, cut, same) = absurd (named (whole r a body) unfinished same)
whole_has bytes body r a (TooLong, cut, same) = absurd (named (whole r a body) (malformed LongHead) same)
whole_has bytes body r a (Head end, cut, inl (kind, fault, same)) = absurd (named (whole r a body) (malformed kind) same)
whole_has bytes body r a (Head end, cut, inr (q, b, is, same)) =
    let w = whole_from r q a b body (drop end bytes) same in (end, cut, as_request (take end bytes) r q a b w.request w.route is)

-- a whole request with more bytes after it
whole_more : (q : Request) (b : Route) (rest more : List ℕ) → nat_le q.length (length rest) ≡ true → with_body q b (rest ++ more) ≡ whole q b (take q.length rest)
whole_more q b rest more fits =
    let low = leb-true q.length (length rest) fits in
    let size = length-append rest more in
    ap (by_room q b (rest ++ more)) (le-leb q.length (length (rest ++ more)) (omega (arith, low, size))) ∙ ap (whole q b) (take-append-le q.length rest more low)

pub whole_stays : (bytes more body : List ℕ) (r : Request) (a : Route) → IsReceived bytes (whole r a body) → IsReceived (bytes ++ more) (whole r a body)
whole_stays bytes more body r a (NotYet, cut, same) = absurd (named (whole r a body) unfinished same)
whole_stays bytes more body r a (TooLong, cut, same) = absurd (named (whole r a body) (malformed LongHead) same)
whole_stays bytes more body r a (Head end, cut, inl (kind, fault, same)) = absurd (named (whole r a body) (malformed kind) same)
whole_stays bytes more body r a (Head end, cut, inr (q, b, is, same)) =
    let rest = drop end bytes in
    let within = end_within bytes end cut.0 in
    let w = whole_from r q a b body rest same in
    let further : with_body q b rest ≡ with_body q b (drop end (bytes ++ more)) =
    ap (by_room q b rest) w.fits ∙ sym (whole_more q b rest more w.fits) ∙ ap (with_body q b) (sym (drop-append-le end bytes more within)) in
    (Head end, head_further bytes more end cut, inr (q, b, request_further bytes more end q b within is, same ∙ further))

pub malformed_stays : (bytes more : List ℕ) (kind : FaultKind) → IsReceived bytes (malformed kind) → IsReceived (bytes ++ more) (malformed kind)
malformed_stays bytes more kind (NotYet, cut, same) = absurd (named (malformed kind) unfinished same)
malformed_stays bytes more kind (TooLong, cut, same) = (TooLong, long_further bytes more cut, same)
malformed_stays bytes more kind (Head end, cut, inl (other, fault, same)) =
    let within = end_within bytes end cut.0 in
    let P : List ℕ → Type 0 = λ front. IsHeadFault front other in
    (Head end, head_further bytes more end cut, inl (other, subst P (sym (head_of bytes more end within)) fault, same))
malformed_stays bytes more kind (Head end, cut, inr (q, b, is, same)) =
    let rest = drop end bytes in absurd (not_malformed kind q b rest (nat_le q.length (length rest)) (is_upload b.name) same)
