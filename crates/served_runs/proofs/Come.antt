-- Whatever bytes come, they come to something.
use Rattle.std.proofs.Common.{◌≡◌, ℕ, ◌<◌, ◌≤◌, ◌⊎◌, inl, inr, true, false, List, length, take, drop, refl}
use Rattle.std.proofs.lemmas.Bool.{cases_lt, cases_Bool}
use Rattle.httparse.specs.Grammar.{RequestHead}
use Rattle.rule_table.specs.declared.fault.FaultKind.{FaultKind}
use Rattle.rule_table.specs.declared.fault.FaultKind.TheVariants.{BadHead, BadLength, LongHead}
use Rattle.wire_forms.specs.declared.request.Request.{Request}
use Rattle.call_paths.specs.declared.routes.Route.{Route}
use Rattle.call_paths.specs.Path.{IsRouted}
use Rattle.http_edge.specs.declared.cut.Cut.{Cut}
use Rattle.http_edge.specs.declared.cut.Cut.TheVariants.{Head as HeadCut, NotYet, TooLong}
use Rattle.http_edge.specs.declared.head.Head.{Head}
use Rattle.http_edge.specs.Cut.{IsCut}
use Rattle.http_edge.specs.Headers.{IsHead, HasHead, path_of, headers_of}
use Rattle.http_edge.specs.Length.{is_upload, is_bad_length}
use Rattle.http_edge.specs.Request.{request_of, IsRequest, IsHeadFault}
use Rattle.http_edge.specs.Received.{Received, unfinished, malformed, with_body, IsReceived}
use Rattle.http_edge.proofs.Once.{lost}
use Rattle.conn_talk.specs.Asked.{Asked, nothing, refused, begun, complete, head_of, IsRead, IsAsked}
use Rattle.conn_talk.proofs.Came.{asks_nothing, asks_begun, asks_complete}
use Rattle.served_runs.proofs.Decided.{Decided}
use Rattle.served_runs.proofs.Grammar.{has_head}
use Rattle.served_runs.proofs.Ends.{is_cut}
use Rattle.served_runs.proofs.Routes.{IsSettled, is_settled}

-- the bytes of a head are a request, or there is a reason why not
abbrev IsJudged : List ℕ → Type 0
IsJudged bytes = ((r : Request) × (route : Route) × IsRequest bytes r route) ⊎ ((kind : FaultKind) × IsHeadFault bytes kind)

is_judged : (bytes : List ℕ) → IsJudged bytes
is_judged bytes = by (has_head bytes)
  where
    by_length : (h : RequestHead) (route : Route) → IsHead bytes h → IsRouted h.method (path_of h) route → (is_bad_length route.name (headers_of h) ≡ true) ⊎ (is_bad_length route.name (headers_of h) ≡ false) → IsJudged bytes
    by_length h route is routed (inl bad) = inr (BadLength, (h, is, (route, routed, bad)))
    by_length h route is routed (inr fits) = inl (request_of h, route, (h, is, (routed, fits), refl))

    by_route : (h : RequestHead) → IsHead bytes h → IsSettled h.method (path_of h) → IsJudged bytes
    by_route h is (inl (route, routed)) = by_length h route is routed (cases_Bool (is_bad_length route.name (headers_of h)))
    by_route h is (inr (kind, fault)) = inr (kind, lost bytes kind (h, is, fault))

    by : Decided (HasHead bytes) → IsJudged bytes
    by (inl (h, is)) = by_route h is (is_settled h.method (path_of h))
    by (inr none) = inr (BadHead, none)

pub is_received : (bytes : List ℕ) → (received : Received) × IsReceived bytes received
is_received bytes = by (is_cut bytes)
  where
    by_head : (end : ℕ) → IsCut bytes (HeadCut end) → IsJudged (take end bytes) → (received : Received) × IsReceived bytes received
    by_head end cut (inl (r, route, is)) = (with_body r route (drop end bytes), (HeadCut end, cut, inr (r, route, is, refl)))
    by_head end cut (inr (kind, fault)) = (malformed kind, (HeadCut end, cut, inl (kind, fault, refl)))

    by : ((cut : Cut) × IsCut bytes cut) → (received : Received) × IsReceived bytes received
    by (NotYet, cut) = (unfinished, (NotYet, cut, refl))
    by (TooLong, cut) = (malformed LongHead, (TooLong, cut, refl))
    by (HeadCut end, cut) = by_head end cut (is_judged (take end bytes))

pub is_asked : (before : ℕ) (bytes : List ℕ) → (asked : Asked) × IsAsked before bytes asked
is_asked before bytes = by (is_cut bytes)
  where
    by_call : (head : Head) (rest : List ℕ) → IsRead before bytes head rest → length rest < head.request.length → (is_upload head.route.name ≡ true) ⊎ (is_upload head.route.name ≡ false) → (asked : Asked) × IsAsked before bytes asked
    by_call head rest read short (inl upload) = (begun head rest, asks_begun before bytes head rest read upload short)
    by_call head rest read short (inr call) = (nothing, asks_nothing before bytes head rest read call short)

    by_body : (head : Head) (rest : List ℕ) → IsRead before bytes head rest → (length rest < head.request.length) ⊎ (head.request.length ≤ length rest) → (asked : Asked) × IsAsked before bytes asked
    by_body head rest read (inl short) = by_call head rest read short (cases_Bool (is_upload head.route.name))
    by_body head rest read (inr fits) = (complete head (take head.request.length rest) (drop head.request.length rest), asks_complete before bytes head rest read fits)

    by_head : (end : ℕ) → IsCut bytes (HeadCut end) → IsJudged (take end bytes) → (asked : Asked) × IsAsked before bytes asked
    by_head end cut (inl (r, route, is)) =
        let head = head_of before r route in
        let rest = drop end bytes in
        by_body head rest (record { end = end; asked = r; route = route; cut = cut; request = is; head_is = refl; rest_is = refl }) (cases_lt (length rest) head.request.length)
    by_head end cut (inr (kind, fault)) = (refused kind, (HeadCut end, cut, inl (kind, fault, refl)))

    by : ((cut : Cut) × IsCut bytes cut) → (asked : Asked) × IsAsked before bytes asked
    by (NotYet, cut) = (nothing, (NotYet, cut, refl))
    by (TooLong, cut) = (refused LongHead, (TooLong, cut, refl))
    by (HeadCut end, cut) = by_head end cut (is_judged (take end bytes))
